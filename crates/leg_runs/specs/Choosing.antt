-- Which steps choices make.
use Rattle.std.specs.Prelude.{◌≡◌, ℕ, ◌<◌, ◌%◌, List, [], ◌∷◌, ◌++◌, length, map, take, flat_map, slice_get, slice_index, ◌⊎◌, Option, Some, Err}
use Rattle.std.specs.List.{range_with_len}
use Rattle.dataflow_laws.specs.declared.step.Step.{Step}
use Rattle.dataflow_laws.specs.declared.step.Step.TheVariants.{Open, Read, Save, Stop, Close, Take, Put}
use Rattle.dataflow_laws.specs.StepTask.{task_of}
use Rattle.dataflow_laws.specs.World as flow
use Rattle.layout_rules.specs.Stages.{task_count, inputs_of, partitions_of}
use Rattle.dataflow_model.specs.Leg.{Until}
use Rattle.legs.specs.declared.choice.Choice.{Choice}
use Rattle.plan_model.specs.PlanData.{PlanData}
use Rattle.stream_model.specs.InputData.{InputData}
use Rattle.layout_rules.specs.Scale.{ScaleData}
use Rattle.plan_compiler.specs.LayoutData.{LayoutData, layout_of}
use Rattle.redistribute.specs.StartData.{StartData}
use Rattle.task_steps.specs.declared.fault.StepFault.TheVariants.{Memory}
use Rattle.core_steps.specs.World.{WorldData, world_in}
use Rattle.core_steps.specs.Answers.{LeadsTo, CanMake, StepAnswers}
use Rattle.core_steps.specs.Beginning.{IsNewWorld}
use Rattle.core_steps.specs.Finishing.{IsFinishIn}
use Rattle.core_steps.specs.Sealing.{IsSealed}
use Rattle.core_steps.specs.declared.finish.Finish.{Finish}
use Rattle.core_steps.specs.declared.finish.Finish.TheVariants.{Ended, Stopped, Abandoned}

-- the steps that a task may be asked for, by their kinds, then by partition or input
abbrev pub steps_of : LayoutData → ℕ → List Step
steps_of l t = Open t ∷ (map (Read t) (partitions_of l.partitions l.stages t) ++ (Save t ∷ Stop t ∷ Close t ∷ (map (Take t) (range_with_len 0 (length (inputs_of l.stages t))) ++ Put t ∷ [])))

-- those of all tasks
abbrev pub all_steps : LayoutData → List Step
all_steps l = flat_map (steps_of l) (range_with_len 0 (task_count l.stages))

-- the elements of a list that have a property, in their order
pub data Selects {X : Type 0} (P : X → Type 0) : List X → List X → Type 0 where
  none : Selects P [] []
  takes : {x : X} {xs ys : List X} → P x → Selects P xs ys → Selects P (x ∷ xs) (x ∷ ys)
  leaves : {x : X} {xs ys : List X} → (P x → ⊥) → Selects P xs ys → Selects P (x ∷ xs) ys

-- there are so many of them
abbrev pub HasCount : {X : Type 0} → (X → Type 0) → List X → ℕ → Type 0
HasCount {X} P xs n = (ys : List X) × Selects P xs ys × (length ys ≡ n)

-- of those, x is the one at the place that is left over where n is divided by how many there are
abbrev pub IsChosen : {X : Type 0} → (X → Type 0) → List X → ℕ → X → Type 0
IsChosen {X} P xs n x = (ys : List X) × Selects P xs ys × (slice_get ys (n % length ys) ≡ Some x)

-- so many steps each task could make
pub record AreCounts (w : WorldData) (l : LayoutData) (counts : List ℕ) : Type 0 where
  pub all : length counts ≡ task_count l.stages
  pub each : (t : ℕ) → t < task_count l.stages → HasCount (CanMake w) (steps_of l t) (slice_index counts t)

-- the step that a choice picks was made, of all that could be
pub record MakesChoice (choice : Choice) (old new : WorldData) : Type 0 where
  pub given : new.given ≡ old.given
  pub step : Step
  pub chosen : IsChosen (CanMake old) (all_steps old.given.layout) choice.number step
  pub leads : LeadsTo old step (world_in new)

-- so it was for each of the choices, one after the other
pub data MakesEach : List Choice → WorldData → WorldData → Type 0 where
  start : {w : WorldData} → MakesEach [] w w
  more : {choices : List Choice} {choice : Choice} {old next new : WorldData} → MakesEach choices old next → MakesChoice choice next new → MakesEach (choices ++ choice ∷ []) old new

-- for all of them, or for those that come before no step can be made any more
pub record Follows (choices : List Choice) (old new : WorldData) : Type 0 where
  pub made : ℕ
  pub each : MakesEach (take made choices) old new
  pub rest : made < length choices → Selects (CanMake new) (all_steps new.given.layout) []

-- so it was for those before one, and memory was refused for the step that this one picks
pub record FailsAtStep (choices : List Choice) (old new : WorldData) : Type 0 where
  pub made : ℕ
  pub before : WorldData
  pub each : MakesEach (take made choices) old before
  pub choice : Choice
  pub next : slice_get choices made ≡ Some choice
  pub step : Step
  pub chosen : IsChosen (CanMake before) (all_steps before.given.layout) choice.number step
  pub refused : StepAnswers step before new (Err Memory)

-- memory was refused before any step was made, and nothing has changed, or it was refused for one of their steps
abbrev pub FailsBy : List Choice → WorldData → WorldData → Type 0
FailsBy choices old new = (new ≡ old) ⊎ FailsAtStep choices old new

-- some steps were made, one after the other
pub data MakesSteps : WorldData → WorldData → Type 0 where
  stay : {w : WorldData} → MakesSteps w w
  one : {old next new : WorldData} → MakesSteps old next → (made : Step) → LeadsTo next made (world_in new) → new.given ≡ next.given → MakesSteps old new

-- choices were followed, and then some more steps made
pub record MakesThen (choices : List Choice) (old new : WorldData) : Type 0 where
  pub next : WorldData
  pub follows : Follows choices old next
  pub steps : MakesSteps next new

-- some steps were made, one after the other, and memory was refused for the next
pub record FailsBehind (old new : WorldData) : Type 0 where
  pub before : WorldData
  pub steps : MakesSteps old before
  pub step : Step
  pub refused : StepAnswers step before new (Err Memory)

-- memory was refused for the step that a choice picks, or for one that comes when all of them were followed
abbrev pub GivesUp : List Choice → WorldData → WorldData → Type 0
GivesUp choices old new = FailsAtStep choices old new ⊎ ((next : WorldData) × Follows choices old next × FailsBehind next new)

-- from this world a leg has ended so by choices: they were followed, and more steps were made, to a world in which it
-- has ended so; or it was given up for want of memory, with what it has sealed by then
abbrev pub EndsBy : List Choice → WorldData → Finish → Type 0
EndsBy choices old (Ended rows sealed) = (new : WorldData) × MakesThen choices old new × IsFinishIn new (Ended rows sealed)
EndsBy choices old (Stopped rows savepoint) = (new : WorldData) × MakesThen choices old new × IsFinishIn new (Stopped rows savepoint)
EndsBy choices old (Abandoned sealed) = (new : WorldData) × GivesUp choices old new × IsSealed new.given (world_in new).tasks (Some sealed)

-- so has a leg, from the world in which it opens on the layout of its plan at a scale
pub record IsLegBy (p : PlanData) (c : ScaleData) (i : InputData) (s : StartData) (saves : List (List (List ℕ))) (until : Until) (choices : List Choice) (finish : Finish) : Type 0 where
  pub world : WorldData
  pub opens : IsNewWorld (record { plan = p; input = i; start = s; layout = layout_of p c; saves = saves; until = until }) world
  pub ends : EndsBy choices world finish

-- task u and its rings are the same in both worlds
pub record IsSameFor (u : ℕ) (w v : flow.World) : Type 0 where
  pub task : v.tasks u ≡ w.tasks u
  pub out : (x : ℕ) → v.rings u x ≡ w.rings u x
  pub into : (x : ℕ) → v.rings x u ≡ w.rings x u

-- the step can change no task and no ring but those of the task that makes it, and of this one
abbrev pub LeavesOthers : WorldData → Step → Option ℕ → Type 0
LeavesOthers w step other = (next : flow.World) → LeadsTo w step next → (u : ℕ) → (u ≡ task_of step → ⊥) → (other ≡ Some u → ⊥) → IsSameFor u (world_in w) next

-- the steps of a task and of another one, if one is told, were counted anew, and those of no other
pub record IsRecounted (w : WorldData) (l : LayoutData) (task : ℕ) (other : Option ℕ) (old new : List ℕ) : Type 0 where
  pub all : length new ≡ length old
  pub anew : (t : ℕ) → t < length old → t < task_count l.stages → (t ≡ task) ⊎ (other ≡ Some t) → HasCount (CanMake w) (steps_of l t) (slice_index new t)
  pub kept : (t : ℕ) → (t ≡ task → ⊥) → (other ≡ Some t → ⊥) → slice_index new t ≡ slice_index old t
