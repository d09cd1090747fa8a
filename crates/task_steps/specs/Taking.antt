-- What Take needs, as the code tests it.
use Rattle.std.specs.Prelude.{◌≡◌, ℕ, ◌+◌, ◌≤◌, ◌<◌, [], length, true, false}
use Rattle.std.specs.List.{All}
use Rattle.plain_data.specs.Record.{at}
use Rattle.columns.specs.Table.{Table}
use Rattle.plan_model.specs.Windows.{IsTime}
use Rattle.plan_model.specs.declared.limits.TheConstants.{MOST_RECORDS}
use Rattle.input_state.specs.Inputs.{is_free, shut_at}
use Rattle.dataflow_model.specs.Role.{is_source, takes_rows}
use Rattle.task_steps.specs.TaskData.{TaskData}

pub record IsReady (t : TaskData) (i : ℕ) : Type 0 where
  pub taker : is_source t.setup.role ≡ false
  pub idle : t.state.pending ≡ []
  pub input : i < t.setup.inputs
  pub free : is_free (shut_at t.state.inputs.shut i) ≡ true

pub record AreAdmitted (t : TaskData) (batch : Table) : Type 0 where
  pub taker : takes_rows t.setup.role ≡ true
  pub width : batch.width ≡ t.setup.columns
  pub times : All (λ r. IsTime (at t.setup.time r)) batch.rows
  pub few : t.state.taken + length batch.rows ≤ MOST_RECORDS
