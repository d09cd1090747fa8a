-- How the rows of legs add up.
use Rattle.std.specs.Prelude.{◌≡◌, ℕ, List, ◌++◌, None, option_to_list}
use Rattle.plan_model.specs.declared.spec.Pane.{Pane}
use Rattle.plan_model.specs.declared.spec.Row.{Row}
use Rattle.plan_model.specs.PlanData.{PlanData}
use Rattle.plan_model.specs.Rows.{AreRowsOf}
use Rattle.stream_model.specs.InputData.{InputData, IsInput}
use Rattle.stream_model.specs.Watermarks.{IsOrderly, IsCut, IsBefore, empty_cut}
use Rattle.stream_model.specs.PlanRows.{due_rows}
use Rattle.dataflow_laws.specs.Inputs.{due_between}

-- no row is due before any entry is read
abbrev pub NothingDueAtFirst : Type 0
NothingDueAtFirst = (p : PlanData) (i : InputData) (q : Pane) → IsOrderly p.window.time i.sources → due_rows p i.sources (empty_cut i.sources) q ≡ None

-- of each pane, the row that is due at a cut, or else the one that becomes due from there to a later one, is the one
-- that is due at the later one
abbrev pub EachRowAddsUp : Type 0
EachRowAddsUp = (p : PlanData) (i : InputData) (b c : List (List ℕ)) (q : Pane) → IsInput i → IsBefore b c → IsCut i.sources c
    → option_to_list (due_rows p i.sources b q) ++ option_to_list (due_between p i.sources b c q) ≡ option_to_list (due_rows p i.sources c q)

-- the rows that are due at a cut, and those that become due from there to a later one, are together those that are due
-- at the later one
abbrev pub RowsAddUp : Type 0
RowsAddUp = (p : PlanData) (i : InputData) (b c : List (List ℕ)) (before between : List Row) → IsInput i → IsBefore b c → IsCut i.sources c
    → AreRowsOf (due_rows p i.sources b) before → AreRowsOf (due_between p i.sources b c) between → AreRowsOf (due_rows p i.sources c) (before ++ between)
