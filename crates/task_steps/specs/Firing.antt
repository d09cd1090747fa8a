-- What fires, as the code has it.
use Rattle.std.specs.Prelude.{◌≡◌, ℕ, ℤ, List, [], ◌++◌, not, Option, Some, None, option_and_then, if◌then◌else◌}
use Rattle.std.specs.FinMap.{get, retain_keys}
use Rattle.plan_model.specs.declared.spec.WindowSpec.{WindowSpec}
use Rattle.plan_model.specs.declared.spec.Pane.{Pane}
use Rattle.plan_model.specs.declared.spec.Row.{Row}
use Rattle.plan_model.specs.Rows.{kept_row, is_due, AreRowsOf}
use Rattle.window_state.specs.State.{StateData}
use Rattle.dataflow_model.specs.declared.message.Message.{Message}
use Rattle.dataflow_model.specs.State.{Windows}
use Rattle.dataflow_model.specs.Routes.{fired, announce}

-- the row of each place that fires, if the conditions keep it
abbrev pub kept_due : WindowSpec → Windows → ℤ → Pane → Option Row
kept_due w windows t q = if is_due w t q.start then option_and_then (kept_row w q) (get windows q) else None

abbrev pub FiresBy : Option ℤ → StateData → List Row → StateData → Type 0
FiresBy None old rows new = (rows ≡ []) × (new ≡ old)
FiresBy (Some t) old rows new = AreRowsOf (kept_due old.window old.windows t) rows × (new ≡ record old { windows = retain_keys old.windows (λ q. not (is_due old.window t q.start)) })

pub record FiresHere (low : Option ℤ) (old new : StateData) (outputs : ℕ) (pending : List (ℕ × Message)) : Type 0 where
  pub rows : List Row
  pub fires : FiresBy low old rows new
  pub is : pending ≡ fired rows ++ announce outputs low
