-- Legs that ran, and what they gave.
use Rattle.std.proofs.Common.{◌≡◌, ◌∙◌, List, ap, refl}
use Rattle.std.specs.Option.{option_to_list}
use Rattle.plan_model.specs.declared.spec.Pane.{Pane}
use Rattle.plan_model.specs.PlanData.{PlanData, IsPlan}
use Rattle.plan_model.specs.Rows.{AreRowsOf}
use Rattle.plan_model.specs.declared.spec.Row.{Row}
use Rattle.stream_model.specs.InputData.{InputData, IsInput, BelongsTo}
use Rattle.stream_model.specs.Laws.{EndIsDue}
use Rattle.stream_model.specs.PlanRows.{due_rows}
use Rattle.dataflow_laws.specs.Compiled.{cut_to}
use Rattle.legs.specs.declared.stop.Stop.{Stop}
use Rattle.legs.specs.declared.stop.Stop.TheVariants.{Never, At}
use Rattle.legs.specs.Stops.{until_of}
use Rattle.job_legs.specs.Ending.{rows_to}

-- what is due where a leg comes to that never stops is the plan's row
pub row_to : EndIsDue → (p : PlanData) (i : InputData) (stop : Stop) (q : Pane) → IsPlan p → IsInput i → BelongsTo p i → due_rows p i.sources (cut_to i (until_of stop)) q ≡ rows_to p i stop q
row_to end p i Never q plan input belongs = end p i q plan input belongs
row_to end p i (At cut) q plan input belongs = refl

pub come_to : EndIsDue → (p : PlanData) (i : InputData) (stop : Stop) (rows : List Row) → IsPlan p → IsInput i → BelongsTo p i → AreRowsOf (due_rows p i.sources (cut_to i (until_of stop))) rows → AreRowsOf (rows_to p i stop) rows
come_to end p i stop rows plan input belongs due q = due q ∙ ap option_to_list (row_to end p i stop q plan input belongs)
