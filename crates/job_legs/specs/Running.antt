-- Legs that run one after the other.
use Rattle.std.specs.Prelude.{◌≡◌, ◌⊎◌, ℕ, ◌+◌, List, [], ◌∷◌}
use Rattle.plan_model.specs.PlanData.{PlanData}
use Rattle.stream_model.specs.declared.entry.Marked.{Marked}
use Rattle.stream_model.specs.InputData.{InputData}
use Rattle.stream_model.specs.Watermarks.{empty_cut}
use Rattle.dataflow_laws.specs.Compiled.{cut_to}
use Rattle.legs.specs.declared.cut.Cut.{Cut}
use Rattle.legs.specs.declared.fault.LegFault.{LegFault}
use Rattle.legs.specs.declared.fault.LegFault.TheVariants.{StopRange, SaveRange, Memory}
use Rattle.legs.specs.declared.leg.LegSpec.{LegSpec}
use Rattle.legs.specs.declared.stop.Stop.{Stop}
use Rattle.legs.specs.declared.stop.Stop.TheVariants.{Never}
use Rattle.legs.specs.Stops.{counts_of, until_of}
use Rattle.redistribute.specs.Stopping.{CanSaveAt, CanStop}
use Rattle.job_legs.specs.Reached.{IsAfter, savepoints_to}
use Rattle.job_legs.specs.declared.running.Reached.{Reached}

-- where the last of legs stops
abbrev pub last_stop : List LegSpec → Stop
last_stop [] = Never
last_stop (leg ∷ []) = leg.stop
last_stop (leg ∷ next ∷ legs) = last_stop (next ∷ legs)

-- where the first of legs takes savepoints on its way
abbrev pub saves_in : List LegSpec → List Cut
saves_in [] = []
saves_in (leg ∷ legs) = leg.saves

-- how many savepoints a leg takes, and legs together
abbrev pub savepoints_of : LegSpec → ℕ
savepoints_of leg = savepoints_to (counts_of leg.saves) leg.stop

abbrev pub savepoints_in : List LegSpec → ℕ
savepoints_in [] = 0
savepoints_in (leg ∷ legs) = savepoints_of leg + savepoints_in legs

-- a leg that begins at a cut can stop as it is to, and take its savepoints on the way there
abbrev pub CanRunFrom : List (List (List Marked)) → List (List ℕ) → List (List (List ℕ)) → Stop → Type 0
CanRunFrom sources begin saves stop = CanStop sources begin stop × CanSaveAt sources begin saves (until_of stop)

-- why it cannot: it cannot stop so, or else it cannot take its savepoints so
abbrev pub Forbids : List (List (List Marked)) → List (List ℕ) → List (List (List ℕ)) → Stop → LegFault → Type 0
Forbids sources begin saves stop StopRange = ¬ CanStop sources begin stop
Forbids sources begin saves stop SaveRange = CanStop sources begin stop × ¬ CanSaveAt sources begin saves (until_of stop)
Forbids sources begin saves stop other = ⊥

-- each leg can run so, from where the one before stopped
abbrev pub CanRunLegs : InputData → List (List ℕ) → List LegSpec → Type 0
CanRunLegs i begin [] = Unit {0}
CanRunLegs i begin (leg ∷ legs) = CanRunFrom i.sources begin (counts_of leg.saves) leg.stop × CanRunLegs i (cut_to i (until_of leg.stop)) legs

-- why they cannot: the first leg that cannot run, cannot run so
abbrev pub ForbidsLegs : InputData → List (List ℕ) → List LegSpec → LegFault → Type 0
ForbidsLegs i begin [] fault = ⊥
ForbidsLegs i begin (leg ∷ legs) fault =
    Forbids i.sources begin (counts_of leg.saves) leg.stop fault ⊎ (CanRunFrom i.sources begin (counts_of leg.saves) leg.stop × ForbidsLegs i (cut_to i (until_of leg.stop)) legs fault)

-- a leg ran from a cut, after so many savepoints: it could, and has come to where it was to stop
pub record HasRun (p : PlanData) (i : InputData) (cut : List (List ℕ)) (number : ℕ) (leg : LegSpec) (r : Reached) : Type 0 where
  pub can : CanRunFrom i.sources cut (counts_of leg.saves) leg.stop
  pub after : IsAfter p i leg.stop (number + savepoints_of leg) r

-- why it did not: it cannot, or memory ran out, or what the way in which it is run may answer besides
abbrev pub IsStepRefusal : (LegFault → Type 0) → InputData → List (List ℕ) → List (List (List ℕ)) → Stop → LegFault → Type 0
IsStepRefusal other i cut saves stop fault = Forbids i.sources cut saves stop fault ⊎ (fault ≡ Memory) ⊎ other fault

-- all of them ran, each from where the one before stopped
pub record HaveRun (p : PlanData) (i : InputData) (legs : List LegSpec) (r : Reached) : Type 0 where
  pub can : CanRunLegs i (empty_cut i.sources) legs
  pub after : IsAfter p i (last_stop legs) (savepoints_in legs) r

-- why they did not: the first that cannot run so, cannot, or memory ran out, or what the way in which they are run may
-- answer besides
abbrev pub IsRunRefusal : (LegFault → Type 0) → InputData → List LegSpec → LegFault → Type 0
IsRunRefusal other i legs fault = ForbidsLegs i (empty_cut i.sources) legs fault ⊎ (fault ≡ Memory) ⊎ other fault
