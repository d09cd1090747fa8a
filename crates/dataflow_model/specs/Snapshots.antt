-- Where tasks have what a snapshot is made of.
use Rattle.std.specs.Prelude.{◌≡◌, ℕ, ◌<◌, ◌≤◌, ℤ, ◌==◌, List, slice_index_or, Option, None, if◌then◌else◌}
use Rattle.std.specs.FinMap.{get}
use Rattle.plan_model.specs.declared.spec.Pane.{Pane}
use Rattle.plan_model.specs.Aggregates.{Aggregated}
use Rattle.dataflow_model.specs.declared.role.Role.TheVariants.{Source}
use Rattle.dataflow_model.specs.AbstractLayout.{AbstractLayout}
use Rattle.dataflow_model.specs.State.{Windows}

-- what tasks have of their partitions' watermarks is what these are at a cut
abbrev pub HaveWatermarks : AbstractLayout → (ℕ → List ℤ) → (ℕ → ℕ → ℕ) → Type 0
HaveWatermarks l marks cut = (t q : ℕ) (d : ℤ) → t < l.before → (l.task t).role ≡ Source → q < (l.task t).inputs → slice_index_or (marks t) q d ≡ (l.task t).watermark q (cut t q)

-- what stands in a pane is at the window task that owns its key, and at no other
abbrev pub AtOwners : AbstractLayout → (ℕ → Windows) → (Pane → Option Aggregated) → Type 0
AtOwners l windows content = (u : ℕ) → l.before ≤ u → u < l.sink → (q : Pane) → get (windows u) q ≡ (if l.owner q.key == u then content q else None)
