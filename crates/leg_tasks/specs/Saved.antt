-- What a leg saves that comes to a cut.
use Rattle.std.specs.Prelude.{◌≡◌, ℕ, List}
use Rattle.std.specs.FinMap.{get}
use Rattle.plan_model.specs.declared.spec.Pane.{Pane}
use Rattle.plan_model.specs.PlanData.{PlanData, IsPlan}
use Rattle.stream_model.specs.InputData.{InputData, BelongsTo}
use Rattle.stream_model.specs.Watermarks.{IsCut}
use Rattle.stream_model.specs.PlanRows.{snapshot}
use Rattle.dataflow_model.specs.State.{Windows, State}
use Rattle.dataflow_model.specs.Leg.{Until}
use Rattle.plan_compiler.specs.LayoutData.{LayoutData, IsLayoutOf}
use Rattle.input_flow.specs.InputEntries.{input_of, counts_at}
use Rattle.dataflow_laws.specs.Legs.{HaveMarks}
use Rattle.dataflow_laws.specs.Inputs.{HaveCut}
use Rattle.dataflow_laws.specs.Compiled.{layout_to}
use Rattle.savepoint_codec.specs.declared.savepoint.Contents.{Contents}
use Rattle.redistribute.specs.Snapshots.{saved_sources}
use Rattle.gather.specs.Saved.{savepoint_of}
use Rattle.leg_tasks.specs.Leaving.{savepoint_left}

-- the savepoint of this number at a cut of the input: how far its partitions were read, with their watermarks there,
-- and in the windows the snapshot of the cut
pub record IsSavedAt (p : PlanData) (i : InputData) (cut : List (List ℕ)) (number : ℕ) (s : Contents) : Type 0 where
  pub windows : Windows
  pub snapshot : (q : Pane) → get windows q ≡ snapshot p i.sources cut q
  pub is : s ≡ savepoint_of p (saved_sources i.sources cut) windows number

-- tasks of a plan's layout that have come to a cut, with its snapshot in their windows and the watermarks there, leave
-- its savepoint
abbrev pub TasksSaveTheCut : Type 0
TasksSaveTheCut = (p : PlanData) (l : LayoutData) (i : InputData) (n : ℕ) (saves : List (List (List ℕ))) (until : Until) (cut : List (List ℕ)) (states : ℕ → State) (number : ℕ) → IsPlan p → IsLayoutOf p l → BelongsTo p i → IsCut i.sources cut
    → let a = layout_to p i n saves until l.stages in HaveCut p i a states cut → HaveMarks (input_of p i) a states (counts_at p cut) → IsSavedAt p i cut number (savepoint_left p l.stages states number)

-- a cut of an input has one savepoint of a number: it says nothing of the tasks, the scale and the order of steps that
-- came to it
abbrev pub SavedAtIsOne : Type 0
SavedAtIsOne = (p : PlanData) (i : InputData) (cut : List (List ℕ)) (number : ℕ) (s other : Contents) → IsSavedAt p i cut number s → IsSavedAt p i cut number other → s ≡ other
