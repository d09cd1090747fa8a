-- What a layout's input comes to at a cut. A cut has a count of entries for each source task and each of its
-- partitions.
use Rattle.std.specs.Prelude.{◌≡◌, ℕ, zero, suc, ◌<◌, ℤ, ◌≤ℤ◌, ◌<ℤ◌, List, [], ◌++◌, filter, slice_index, Option, None, option_and_then, if◌then◌else◌, ◌≤◌}
use Rattle.std.specs.Int.{int_max}
use Rattle.std.specs.List.{All}
use Rattle.plain_data.specs.Record.{Record, at}
use Rattle.plain_data.specs.Times.{lowest, highest}
use Rattle.plan_model.specs.declared.spec.Pane.{Pane}
use Rattle.plan_model.specs.declared.spec.Row.{Row}
use Rattle.plan_model.specs.PlanData.{PlanData}
use Rattle.plan_model.specs.Aggregates.{Aggregated}
use Rattle.plan_model.specs.Rows.{aggregate_at, kept_row, is_due}
use Rattle.dataflow_model.specs.declared.role.Role.TheVariants.{Source}
use Rattle.dataflow_model.specs.Message.{records_of}
use Rattle.dataflow_model.specs.Role.{is_source}
use Rattle.dataflow_model.specs.AbstractTask.{AbstractTask}
use Rattle.dataflow_model.specs.AbstractLayout.{AbstractLayout}
use Rattle.dataflow_model.specs.State.{State}

-- a source's partitions are orderly: an entry moves its partition's watermark up to what it brings, and no record of it
-- is at or below the watermark before it
pub record IsOrderlySource (p : PlanData) (k : AbstractTask) : Type 0 where
  pub moves : (q n : ℕ) → q < k.inputs → n < k.size q → k.watermark q (suc n) ≡ int_max (k.watermark q n) (k.brings q n)
  pub bounded : (q n : ℕ) → q < k.inputs → n ≤ k.size q → lowest ≤ℤ k.watermark q n
  pub late : (q n : ℕ) → q < k.inputs → n < k.size q → All (λ r. k.watermark q n <ℤ at p.window.time r) (records_of (k.entry q n))

-- all sources of a layout are orderly
abbrev pub AreOrderlySources : PlanData → AbstractLayout → Type 0
AreOrderlySources p l = (t : ℕ) → t < l.before → (l.task t).role ≡ Source → IsOrderlySource p (l.task t)

-- the cut that tasks have come to: how many entries of each partition they have read
abbrev pub cut_of : (ℕ → State) → ℕ → ℕ → ℕ
cut_of states t q = slice_index (states t).offsets q

-- the cut that a leg goes to, where no stop is asked for
abbrev pub leg_cut : AbstractLayout → ℕ → ℕ → ℕ
leg_cut l t q = (l.task t).limit (l.task t).saves q

-- the cut of its savepoint m, counted from 0
abbrev pub save_cut : AbstractLayout → ℕ → ℕ → ℕ → ℕ
save_cut l m t q = (l.task t).limit m q

-- w is the watermark of a cut: the least of all partitions' there, and the greatest i64 without partitions
pub record IsMergedWatermark (l : AbstractLayout) (cut : ℕ → ℕ → ℕ) (w : ℤ) : Type 0 where
  pub bound : w ≤ℤ highest
  pub below : (t q : ℕ) → t < l.before → (l.task t).role ≡ Source → q < (l.task t).inputs → w ≤ℤ (l.task t).watermark q (cut t q)
  pub greatest : (v : ℤ) → v ≤ℤ highest → ((t q : ℕ) → t < l.before → (l.task t).role ≡ Source → q < (l.task t).inputs → v ≤ℤ (l.task t).watermark q (cut t q)) → v ≤ℤ w

-- f 0, f 1, .., f (n - 1), joined
abbrev pub joined : ℕ → (ℕ → List Record) → List Record
joined zero f = []
joined (suc n) f = joined n f ++ f n

-- the records that all filters keep, of the first entries of each partition, as many as the cut says
abbrev pub records_until : AbstractLayout → (ℕ → ℕ → ℕ) → List Record
records_until l cut = joined l.before (λ t. if is_source (l.task t).role
    then joined (l.task t).inputs (λ q. joined (cut t q) (λ n. filter l.pass (records_of ((l.task t).entry q n))))
    else [])

-- what the records until a cut come to in a pane
abbrev pub aggregate_until : PlanData → AbstractLayout → (ℕ → ℕ → ℕ) → Pane → Option Aggregated
aggregate_until p l cut q = aggregate_at p.window (records_until l cut) q

-- the snapshot of a cut whose watermark is w: what its records come to, in the panes that are not due by w
abbrev pub snapshot_until : PlanData → AbstractLayout → (ℕ → ℕ → ℕ) → ℤ → Pane → Option Aggregated
snapshot_until p l cut w q = if is_due p.window w q.start then None else aggregate_until p l cut q

-- the row of a pane that is not due by one watermark, and due by a later one, where this stands in it
abbrev pub row_between : PlanData → ℤ → ℤ → Pane → Option Aggregated → Option Row
row_between p v w q a = if is_due p.window v q.start then None else if is_due p.window w q.start then option_and_then (kept_row p.window q) a else None
