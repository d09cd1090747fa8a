-- What the legs of a job give together.
use Rattle.std.specs.Prelude.{◌≡◌, ℕ, true, false, List, length, Option, option_map}
use Rattle.std.specs.List.Sorted.{IsSortedByKey}
use Rattle.plan_model.specs.declared.spec.Pane.{Pane}
use Rattle.plan_model.specs.declared.spec.Row.{Row}
use Rattle.plan_model.specs.PlanData.{PlanData}
use Rattle.plan_model.specs.Rows.{AreRowsOf, pane_of, pane_cmp}
use Rattle.stream_model.specs.InputData.{InputData}
use Rattle.stream_model.specs.Watermarks.{empty_cut}
use Rattle.stream_model.specs.PlanRows.{plan_rows, due_rows}
use Rattle.legs.specs.declared.fault.LegFault.{LegFault}
use Rattle.legs.specs.declared.fault.LegFault.TheVariants.{StopRange, SaveRange, Legs, Choices, Memory, Threads}
use Rattle.legs.specs.declared.leg.LegSpec.{LegSpec}
use Rattle.legs.specs.declared.stop.Stop.{Stop}
use Rattle.legs.specs.declared.stop.Stop.TheVariants.{Never, At}
use Rattle.legs.specs.Requirements.{are_legs}
use Rattle.savepoint_codec.specs.declared.savepoint.Contents.{Contents}
use Rattle.savepoint_index.specs.Layout.{savepoint_bytes}
use Rattle.job_legs.specs.Reached.{IsLeftBy}
use Rattle.job_legs.specs.Running.{CanRunLegs, ForbidsLegs, last_stop, savepoints_in}

-- the rows that a job has delivered that has come to where it was to stop: all of the plan's, or those that are due at
-- the cut
abbrev pub rows_to : PlanData → InputData → Stop → Pane → Option Row
rows_to p i Never = plan_rows p i.sources
rows_to p i (At cut) = due_rows p i.sources cut.counts

-- legs of a job ran: their rows are those of where the last came to, each once, in the order of start and key, and the
-- last left its savepoint, numbered by all that they took, if it stopped
pub record IsJobEnd (p : PlanData) (i : InputData) (legs : List LegSpec) (found : List Row) (saved : Option (List ℕ)) : Type 0 where
  pub list : are_legs legs ≡ true
  pub can : CanRunLegs i (empty_cut i.sources) legs
  pub rows : AreRowsOf (rows_to p i (last_stop legs)) found
  pub ordered : IsSortedByKey pane_of pane_cmp found
  pub left : Option Contents
  pub is_left : IsLeftBy p i (savepoints_in legs) (last_stop legs) left
  pub bytes : saved ≡ option_map savepoint_bytes left

-- why legs of a job, with so many lists of choices, have no answer: they are no list of legs, or there is not one list
-- for each, or the first of them that cannot run so cannot stop as it is to, or not take its savepoints on the way, or
-- memory ran out
abbrev pub IsLegsRefusal : InputData → List LegSpec → ℕ → LegFault → Type 0
IsLegsRefusal i legs lists Legs = are_legs legs ≡ false
IsLegsRefusal i legs lists Choices = (are_legs legs ≡ true) × ¬ (lists ≡ length legs)
IsLegsRefusal i legs lists StopRange = (are_legs legs ≡ true) × (lists ≡ length legs) × ForbidsLegs i (empty_cut i.sources) legs StopRange
IsLegsRefusal i legs lists SaveRange = (are_legs legs ≡ true) × (lists ≡ length legs) × ForbidsLegs i (empty_cut i.sources) legs SaveRange
IsLegsRefusal i legs lists Memory = (are_legs legs ≡ true) × (lists ≡ length legs)
IsLegsRefusal i legs lists other = ⊥

-- and why legs of a job that run on threads have none: the same without choices, or a thread was refused to one of them
abbrev pub IsThreadsRefusal : InputData → List LegSpec → LegFault → Type 0
IsThreadsRefusal i legs Threads = are_legs legs ≡ true
IsThreadsRefusal i legs other = IsLegsRefusal i legs (length legs) other
