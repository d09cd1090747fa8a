-- What a step of a world answers.
use Rattle.std.specs.Prelude.{◌≡◌, ℕ, Bool, true, false, length, Result, Ok, Err, if◌then◌else◌}
use Rattle.std.specs.List.{list_any}
use Rattle.dataflow_model.specs.declared.message.Message.{Message}
use Rattle.dataflow_model.specs.declared.message.Message.TheVariants.{Rows, Fired, Watermark, Barrier, End}
use Rattle.dataflow_laws.specs.World as flow
use Rattle.dataflow_laws.specs.declared.step.Step.{Step}
use Rattle.dataflow_laws.specs.declared.step.Step.TheVariants.{Open, Read, Save, Stop, Close, Take, Put}
use Rattle.dataflow_laws.specs.StepTask.{task_of}
use Rattle.dataflow_laws.specs.StepMoves.{Makes}
use Rattle.task_steps.specs.declared.fault.StepFault.{StepFault}
use Rattle.task_steps.specs.declared.fault.StepFault.TheVariants.{NotEnabled, Memory, Failed}
use Rattle.core_steps.specs.Given.{layout_in}
use Rattle.core_steps.specs.World.{WorldData, world_in, IsLeft}

-- the move that a step asks for leads from the world to next
abbrev pub LeadsTo : WorldData → Step → flow.World → Type 0
LeadsTo w step next = Makes w.given.plan (layout_in w.given) w.given.layout.capacity (world_in w) step next

-- there is such a move
abbrev pub CanMake : WorldData → Step → Type 0
CanMake w step = (next : flow.World) × LeadsTo w step next

abbrev pub is_take : Step → Bool
is_take (Open t) = false
is_take (Read t q) = false
is_take (Save t) = false
is_take (Stop t) = false
is_take (Close t) = false
is_take (Take t i) = true
is_take (Put t) = false

abbrev pub has_records : Message → Bool
has_records (Rows t) = true
has_records (Fired rows) = false
has_records (Watermark t) = false
has_records (Barrier n) = false
has_records End = false

-- what a step for which memory was refused leaves of the world v: all of it, but where the step takes a message that
-- message, which is gone from the ring that it stood in, and where it has records the windows of the task that takes it
pub record IsLeftAfter (step : Step) (v : flow.World) (w : WorldData) : Type 0 where
  pub left : IsLeft v w
  pub task : left.task ≡ task_of step
  pub lost : length left.lost ≡ (if is_take step then 1 else 0)
  pub sender : (t i : ℕ) → step ≡ Take t i → left.sender ≡ (layout_in w.given).from t i
  pub spoiled : list_any has_records left.lost ≡ false → left.windows ≡ (v.tasks (task_of step)).windows

-- just that move is made; or there is none, and nothing has changed; or memory was refused for it, and the world has
-- failed
abbrev pub StepAnswers : Step → WorldData → WorldData → Result (Unit {0}) StepFault → Type 0
StepAnswers step old new (Ok x) = (old.has_failed ≡ false) × (new.has_failed ≡ false) × (new.given ≡ old.given) × LeadsTo old step (world_in new)
StepAnswers step old new (Err NotEnabled) = (old.has_failed ≡ false) × (new ≡ old) × ((next : flow.World) → LeadsTo old step next → ⊥)
StepAnswers step old new (Err Memory) = (old.has_failed ≡ false) × (new.has_failed ≡ true) × (new.given ≡ old.given) × CanMake old step × IsLeftAfter step (world_in old) new
StepAnswers step old new (Err Failed) = (old.has_failed ≡ true) × (new ≡ old)

abbrev pub is_memory : Result (Unit {0}) StepFault → Bool
is_memory (Ok x) = false
is_memory (Err NotEnabled) = false
is_memory (Err Memory) = true
is_memory (Err Failed) = false
