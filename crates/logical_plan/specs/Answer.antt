-- What reading a plan answers of the bytes.
use Rattle.std.specs.Prelude.{ℕ, Bool, true, false, List, map, unsigned_abs, Result, Err}
use Rattle.std.specs.Option.{option_map_or}
use Rattle.serde_json.specs.Data.{Data}
use Rattle.json_parts.specs.Parts.{json_of}
use Rattle.answers.specs.Answer.{value_or_fault}
pub use Rattle.answers.specs.Answer.{Fails, Gives}
use Rattle.json_parts.specs.declared.error.PartError.{PartError}
use Rattle.json_parts.specs.declared.error.PartError.TheVariants as part
use Rattle.logical_plan.specs.declared.text.SourceText.{SourceText}
use Rattle.logical_plan.specs.declared.text.FilterText.{FilterText}
use Rattle.logical_plan.specs.declared.text.AggregateText.{AggregateText}
use Rattle.logical_plan.specs.declared.text.AggregateText.TheVariants as text
use Rattle.logical_plan.specs.declared.text.HavingText.{HavingText}
use Rattle.logical_plan.specs.declared.text.WindowText.{WindowText}
use Rattle.logical_plan.specs.declared.text.PlanText.{PlanText}
use Rattle.plan_model.specs.declared.spec.SourceSpec.{SourceSpec}
use Rattle.plan_model.specs.declared.spec.FilterSpec.{FilterSpec}
use Rattle.plan_model.specs.declared.spec.Aggregate.{Aggregate}
use Rattle.plan_model.specs.declared.spec.Aggregate.TheVariants.{Count, Sum, Least, Greatest}
use Rattle.plan_model.specs.declared.spec.Having.{Having}
use Rattle.plan_model.specs.declared.spec.WindowSpec.{WindowSpec}
use Rattle.plan_model.specs.PlanData.{PlanData, plan_data_of}
use Rattle.logical_plan.specs.PlanText.{plan_text}
use Rattle.logical_plan.specs.Requirements.{requirements}
use Rattle.logical_plan.specs.declared.fault.PlanFault.{PlanFault}
use Rattle.logical_plan.specs.declared.fault.PlanFault.TheVariants.{NotJson, Member, Memory}

abbrev pub source_data : SourceText → SourceSpec
source_data s = record { uid = s.uid; partitions = unsigned_abs s.partitions; bound = s.bound }

abbrev pub filter_data : FilterText → FilterSpec
filter_data f = record { uid = f.uid; column = unsigned_abs f.column; cmp = f.cmp; value = f.value }

abbrev pub aggregate_data : AggregateText → Aggregate
aggregate_data text.Count = Count
aggregate_data (text.Sum column) = Sum (unsigned_abs column)
aggregate_data (text.Least column) = Least (unsigned_abs column)
aggregate_data (text.Greatest column) = Greatest (unsigned_abs column)

abbrev pub having_data : HavingText → Having
having_data h = record { aggregate = unsigned_abs h.aggregate; cmp = h.cmp; value = h.value }

-- the window over the columns of time and key
abbrev pub window_data : ℕ → ℕ → WindowText → WindowSpec
window_data time key w = record {
  uid = w.uid;
  time = time;
  key = key;
  size = w.size;
  slide = w.slide;
  offset = w.offset;
  aggregates = map aggregate_data w.aggregates;
  having = map having_data w.having;
}

-- the plan of a text that meets every requirement, in which no count or place is negative
abbrev pub plan_data : PlanText → PlanData
plan_data t = plan_data_of (unsigned_abs t.columns) (unsigned_abs t.max) (map source_data t.sources) (map filter_data t.filters) (window_data (unsigned_abs t.time) (unsigned_abs t.key) t.window)

abbrev pub plan_or_fault : PlanText → Result PlanData PlanFault
plan_or_fault = value_or_fault requirements plan_data

-- the plan that a JSON value is, or the first fault
unfoldable pub plan_of_json : Data → Result PlanData PlanFault
plan_of_json d = option_map_or plan_or_fault (plan_text d) (Err Member)

-- the plan that the bytes are, or the first fault
unfoldable pub plan_of_bytes : List ℕ → Result PlanData PlanFault
plan_of_bytes bytes = option_map_or plan_of_json (json_of bytes) (Err NotJson)

-- a fault that says nothing of the text
abbrev pub is_memory : PlanFault → Bool
is_memory Memory = true
is_memory fault = false

-- a part of another form is the fault Member
abbrev pub fault_of_part : PartError → PlanFault
fault_of_part part.Form = Member
fault_of_part part.Memory = Memory
