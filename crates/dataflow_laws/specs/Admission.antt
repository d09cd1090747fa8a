-- What stands on a ring is admitted by its receiver.
use Rattle.std.specs.Prelude.{◌≡◌, ℕ, ◌<◌, ◌≤◌, List, [], ◌∷◌, ◌++◌, true}
use Rattle.std.specs.List.{All}
use Rattle.plain_data.specs.Record.{at}
use Rattle.plan_model.specs.PlanData.{PlanData}
use Rattle.plan_model.specs.Windows.{IsTime}
use Rattle.plan_model.specs.declared.limits.TheConstants.{MOST_RECORDS}
use Rattle.dataflow_model.specs.declared.message.Message.{Message}
use Rattle.dataflow_model.specs.declared.message.Message.TheVariants.{Rows, Fired, Watermark, Barrier, End}
use Rattle.dataflow_model.specs.declared.role.Role.TheVariants.{Source}
use Rattle.dataflow_model.specs.AbstractLayout.{AbstractLayout, IsLayout}
use Rattle.dataflow_model.specs.State.{State}
use Rattle.dataflow_model.specs.Steps.{CanTake, Admits}
use Rattle.dataflow_laws.specs.World.{World, IsEnd}
use Rattle.dataflow_model.specs.Start.{IsLegStart}
use Rattle.dataflow_laws.specs.Count.{record_count}

-- rows of the plan's width with times in range; watermarks need nothing
abbrev pub FitsPlan : PlanData → Message → Type 0
FitsPlan p (Rows t) = (t.width ≡ p.columns) × All (λ r. IsTime (at p.window.time r)) t.rows
FitsPlan p (Fired rows) = Unit {0}
FitsPlan p (Watermark t) = Unit {0}
FitsPlan p (Barrier n) = Unit {0}
FitsPlan p End = Unit {0}

-- all entries of the sources are such, and have at most 2^40 records together
pub record IsAdmittedInput (p : PlanData) (l : AbstractLayout) : Type 0 where
  pub entries : (t q n : ℕ) → t < l.before → (l.task t).role ≡ Source → q < (l.task t).inputs → n < (l.task t).size q → FitsPlan p ((l.task t).entry q n)
  pub few : record_count l ≤ MOST_RECORDS

-- at every moment, where a task can take from a ring, it admits the oldest message there
abbrev pub RingsAreAdmitted : Type 0
RingsAreAdmitted = (p : PlanData) (l : AbstractLayout) (start : ℕ → State) (w : World) → IsLayout l → IsLegStart p l start → IsAdmittedInput p l → IsEnd p l start w
    → (s t : ℕ) (rest : List Message) (m : Message) → l.ring s t ≡ true → w.rings s t ≡ rest ++ m ∷ [] → CanTake (l.task t) (w.tasks t) (l.in_at s t) → Admits p (l.task t) (w.tasks t) m
