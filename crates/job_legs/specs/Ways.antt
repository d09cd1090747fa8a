-- Ways in which legs are run, each by a function that is called for one leg after the other, and told its choices.
use Rattle.std.specs.Prelude.{◌⊎◌, ℕ, List, Result, OnOk, IfOk, IfErr}
use Rattle.std.specs.Borrow.{Bor}
use Rattle.layout_rules.specs.Scale.{IsScale, ScaleData}
use Rattle.dataflow_model.specs.Leg.{Until}
use Rattle.legs.specs.declared.choice.Choice.{Choice}
use Rattle.legs.specs.declared.cut.Cut.{Cut}
use Rattle.legs.specs.declared.fault.LegFault.{LegFault}
use Rattle.legs.specs.declared.stop.Stop.{Stop}
use Rattle.legs.specs.Stops.{counts_of, until_of}
use Rattle.plan_model.specs.PlanData.{PlanData}
use Rattle.stream_model.specs.declared.entry.Marked.{Marked}
use Rattle.stream_model.specs.InputData.{InputData, BelongsTo}
use Rattle.redistribute.specs.Begins.{IsStartIn}
use Rattle.redistribute.specs.StartData.{StartData, offsets_of}
use Rattle.redistribute.specs.Stopping.{CanSaveAt, CanStop, IsRefusal}
use Rattle.core_steps.specs.declared.finish.Finish.{Finish}
use Rattle.core_steps.specs.Ending.{IsEndOf}

-- a plan, an input, a start and a scale belong together
abbrev pub CanRunLeg : PlanData → InputData → StartData → ScaleData → Type 0
CanRunLeg p i start scale = BelongsTo p i × IsScale p scale × IsStartIn p i start

-- why a way to run legs has no answer of one: what no leg could be run for, or what this way may answer besides
abbrev pub IsWayRefusal : (LegFault → Type 0) → List (List (List Marked)) → List (List ℕ) → List (List (List ℕ)) → Stop → LegFault → Type 0
IsWayRefusal other sources begin saves stop fault = IsRefusal sources begin saves (until_of stop) fault ⊎ other fault

-- what a leg answers that is run so: its end, or what it had sealed when it was given up, where it can stop and take
-- its savepoints so; else why it has none
pub record AnswersLeg (other : LegFault → Type 0) (p : PlanData) (i : InputData) (start : StartData) (saves : List (List (List ℕ))) (stop : Stop) (result : Result Finish LegFault) : Type 0 where
  pub stops : OnOk result (CanStop i.sources (offsets_of start) stop)
  pub saves_so : OnOk result (CanSaveAt i.sources (offsets_of start) saves (until_of stop))
  pub ends : IfOk result (λ finish. IsEndOf p i start saves (until_of stop) finish)
  pub refused : IfErr result (IsWayRefusal other i.sources (offsets_of start) saves stop)

-- a function takes any leg
abbrev pub TakesLegs : {F : Type 0} → (F → Bor (List Choice) → Bor PlanData → Bor InputData → Bor StartData → Bor ScaleData → Bor (List Cut) → Stop → Type 0) → Type 0
TakesLegs {F} pre =
    (state : F) (choices : Bor (List Choice)) (p : Bor PlanData) (i : Bor InputData) (start : Bor StartData) (scale : Bor ScaleData) (saves : Bor (List Cut)) (stop : Stop) → CanRunLeg p.now i.now start.now scale.now
    → pre state choices p i start scale saves stop

-- and gives what such a leg answers
abbrev pub GivesLegs : {F : Type 0} → (LegFault → Type 0) → (F → Bor (List Choice) → Bor PlanData → Bor InputData → Bor StartData → Bor ScaleData → Bor (List Cut) → Stop → Result Finish LegFault → F → Type 0) → Type 0
GivesLegs {F} other step =
    (state : F) (choices : Bor (List Choice)) (p : Bor PlanData) (i : Bor InputData) (start : Bor StartData) (scale : Bor ScaleData) (saves : Bor (List Cut)) (stop : Stop) (result : Result Finish LegFault) (next : F) → CanRunLeg p.now i.now start.now scale.now
    → step state choices p i start scale saves stop result next → AnswersLeg other p.now i.now start.now (counts_of saves.now) stop result

-- and goes by the choices that it is told
abbrev pub GoesByChoices : {F : Type 0} → (PlanData → ScaleData → InputData → StartData → List (List (List ℕ)) → Until → List Choice → Finish → Type 0) → (F → Bor (List Choice) → Bor PlanData → Bor InputData → Bor StartData → Bor ScaleData → Bor (List Cut) → Stop → Result Finish LegFault → F → Type 0) → Type 0
GoesByChoices {F} by step =
    (state : F) (choices : Bor (List Choice)) (p : Bor PlanData) (i : Bor InputData) (start : Bor StartData) (scale : Bor ScaleData) (saves : Bor (List Cut)) (stop : Stop) (result : Result Finish LegFault) (next : F) → CanRunLeg p.now i.now start.now scale.now
    → step state choices p i start scale saves stop result next → IfOk result (by p.now scale.now i.now start.now (counts_of saves.now) (until_of stop) choices.now)
