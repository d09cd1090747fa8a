-- What an input comes to at a cut, whatever the layout. A cut has a count of entries for each partition.
use Rattle.std.specs.Prelude.{◌≡◌, ℕ, suc, ◌<◌, ◌≤◌, ℤ, ◌≤ℤ◌, ◌<ℤ◌, List, filter, Option, None, option_and_then, if◌then◌else◌}
use Rattle.std.specs.Int.{int_max}
use Rattle.std.specs.List.{All}
use Rattle.plain_data.specs.Record.{Record, at}
use Rattle.plain_data.specs.Times.{lowest, highest}
use Rattle.plan_model.specs.declared.spec.Pane.{Pane}
use Rattle.plan_model.specs.declared.spec.Row.{Row}
use Rattle.plan_model.specs.PlanData.{PlanData}
use Rattle.plan_model.specs.Aggregates.{Aggregated}
use Rattle.plan_model.specs.Rows.{aggregate_at, kept_row, is_due}
use Rattle.dataflow_model.specs.Message.{records_of}
use Rattle.dataflow_model.specs.AbstractLayout.{AbstractInput}
use Rattle.dataflow_model.specs.Cuts.{joined}

-- an input's partitions are orderly: an entry moves its partition's watermark up to what it brings, and no record of it
-- is at or below the watermark before it
pub record IsOrderlyInput (p : PlanData) (i : AbstractInput) : Type 0 where
  pub moves : (q n : ℕ) → q < i.partitions → n < i.size q → i.watermark q (suc n) ≡ int_max (i.watermark q n) (i.brings q n)
  pub bounded : (q n : ℕ) → q < i.partitions → n ≤ i.size q → lowest ≤ℤ i.watermark q n
  pub late : (q n : ℕ) → q < i.partitions → n < i.size q → All (λ r. i.watermark q n <ℤ at p.window.time r) (records_of (i.entry q n))

-- w is the watermark of a cut: the least of all partitions' there, and the greatest i64 without partitions
pub record IsWatermarkAt (i : AbstractInput) (cut : ℕ → ℕ) (w : ℤ) : Type 0 where
  pub bound : w ≤ℤ highest
  pub below : (q : ℕ) → q < i.partitions → w ≤ℤ i.watermark q (cut q)
  pub greatest : (v : ℤ) → v ≤ℤ highest → ((q : ℕ) → q < i.partitions → v ≤ℤ i.watermark q (cut q)) → v ≤ℤ w

-- the records that all filters keep, of the first entries of each partition, as many as the cut says
abbrev pub records_up_to : AbstractInput → (ℕ → ℕ) → List Record
records_up_to i cut = joined i.partitions (λ q. joined (cut q) (λ n. filter i.pass (records_of (i.entry q n))))

-- what the records up to a cut come to in a pane
abbrev pub aggregate_up_to : PlanData → AbstractInput → (ℕ → ℕ) → Pane → Option Aggregated
aggregate_up_to p i cut q = aggregate_at p.window (records_up_to i cut) q

-- the snapshot of a cut whose watermark is w: what its records come to, in the panes that are not due by w
abbrev pub snapshot_at : PlanData → AbstractInput → (ℕ → ℕ) → ℤ → Pane → Option Aggregated
snapshot_at p i cut w q = if is_due p.window w q.start then None else aggregate_up_to p i cut q

-- the plan's row of a pane on the whole input, if the pane is due by a watermark
abbrev pub due_row : PlanData → AbstractInput → ℤ → Pane → Option Row
due_row p i w q = if is_due p.window w q.start then option_and_then (kept_row p.window q) (aggregate_up_to p i i.size q) else None
