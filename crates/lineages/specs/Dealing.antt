-- A start that is dealt out to the tasks of a layout and put together again.
use Rattle.std.specs.Prelude.{◌≡◌, ℕ, List}
use Rattle.std.specs.FinMap.{get}
use Rattle.plan_model.specs.PlanData.{PlanData, IsPlan}
use Rattle.plan_model.specs.declared.spec.Pane.{Pane}
use Rattle.stream_model.specs.InputData.{InputData, BelongsTo}
use Rattle.layout_rules.specs.Layouts.{partition_counts}
use Rattle.plan_compiler.specs.LayoutData.{LayoutData, IsLayoutOf}
use Rattle.plan_compiler.specs.Tables.{each_task}
use Rattle.savepoint_codec.specs.declared.savepoint.Contents.{Contents}
use Rattle.savepoint_index.specs.Layout.{Spells}
use Rattle.redistribute.specs.StartData.{StartData}
use Rattle.redistribute.specs.Begins.{IsStartIn}
use Rattle.redistribute.specs.Parts.{whole_task_start, windows_of}
use Rattle.redistribute.specs.declared.task_start.TaskStart.{TaskStart}
use Rattle.gather.specs.Parts.{sources_in, windows_in}
use Rattle.gather.specs.Saved.{savepoint_of}
use Rattle.lineages.specs.Lineage.{ComesFrom}

-- parts are what `spread` deals a start out into, for the tasks of a layout
abbrev pub AreDealt : PlanData → LayoutData → StartData → List TaskStart → Type 0
AreDealt p l s parts = parts ≡ each_task l.stages (whole_task_start p.max (partition_counts p) s l.stages)

-- contents are the savepoint of this number that `gather` makes of parts that the tasks of a layout leave
abbrev pub AreGathered : PlanData → LayoutData → List TaskStart → ℕ → Contents → Type 0
AreGathered p l parts number saved = saved ≡ savepoint_of p (sources_in p l.stages parts) (windows_in parts) number

-- parts say together what a start says: of each partition of each source how far it was read, with its watermark there,
-- and of each pane what stands there, so that the savepoint of them is that of the start
pub record SayStart (p : PlanData) (l : LayoutData) (s : StartData) (parts : List TaskStart) : Type 0 where
  pub sources : sources_in p l.stages parts ≡ s.sources
  pub windows : (q : Pane) → get (windows_in parts) q ≡ get (windows_of s) q
  pub savepoint : (number : ℕ) (saved : Contents) → AreGathered p l parts number saved → saved ≡ savepoint_of p s.sources (windows_of s) number

-- of what `spread` gives of a start, at a layout of any scale, `gather` gives the start's
abbrev pub DealtAreGathered : Type 0
DealtAreGathered = (p : PlanData) (l : LayoutData) (i : InputData) (s : StartData) (parts : List TaskStart) → IsPlan p → IsLayoutOf p l → BelongsTo p i → IsStartIn p i s → AreDealt p l s parts → SayStart p l s parts

-- so a savepoint that is accepted, whoever made it, dealt out and put together again under its own number, is the one
-- that its bytes spell
abbrev pub SavepointsAreGatheredAgain : Type 0
SavepointsAreGatheredAgain = (p : PlanData) (l : LayoutData) (i : InputData) (bytes : List ℕ) (s : StartData) (parts : List TaskStart) (saved : Contents) → IsPlan p → IsLayoutOf p l → BelongsTo p i → IsStartIn p i s
    → ComesFrom p i bytes s → AreDealt p l s parts → AreGathered p l parts s.number saved → Spells bytes saved
