-- The layout in the abstract that a list of stages is.
use Rattle.std.specs.Prelude.{ℕ, suc, ℤ, ◌+◌, ◌-◌, List, [], ◌∷◌, Bool, true, ◌&&◌, if◌then◌else◌, Option, Some, None, length, take, drop, map, slice_index}
use Rattle.plain_data.specs.Record.{Record}
use Rattle.key_groups.specs.Groups.{key_group}
use Rattle.key_groups.specs.Ranges.{group_owner}
use Rattle.plan_model.specs.PlanData.{PlanData}
use Rattle.plan_model.specs.Windows.{passes}
use Rattle.dataflow_model.specs.declared.message.Message.{Message}
use Rattle.dataflow_model.specs.Role.{is_source}
use Rattle.dataflow_model.specs.AbstractTask.{AbstractTask, Routing, Whole, Split}
use Rattle.dataflow_model.specs.Leg.{Leg}
use Rattle.dataflow_model.specs.AbstractLayout.{AbstractLayout, AbstractInput}
use Rattle.layout_rules.specs.declared.stage.Operator.{Operator}
use Rattle.layout_rules.specs.declared.stage.Operator.TheVariants.{Source, Filter, Window, Sink}
use Rattle.layout_rules.specs.declared.stage.Edge.{Edge}
use Rattle.layout_rules.specs.declared.stage.Edge.TheVariants.{Forward, ByGroup, Rebalance}
use Rattle.layout_rules.specs.declared.stage.Stage.{Stage}
use Rattle.layout_rules.specs.Below.{sum_below, row_of, count_below}
use Rattle.layout_rules.specs.Stages.{parallelism_at, role_of, source_of, next_stage, stage_of, task_stage, is_ring, inputs_of, outputs_of, partitions_of}

-- how many partitions each source has
abbrev pub partition_counts : PlanData → List ℕ
partition_counts p = map (λ s. s.partitions) p.sources

-- which of n subtasks owns a key
abbrev pub owner_of : PlanData → ℕ → ℤ → ℕ
owner_of p n key = group_owner p.max n (key_group p.max key)

-- what the filters among some operators keep
abbrev pub passes_operators : PlanData → List Operator → Record → Bool
passes_operators p [] r = true
passes_operators p (Source x ∷ os) r = passes_operators p os r
passes_operators p (Filter f ∷ os) r = passes (take 1 (drop f p.filters)) r && passes_operators p os r
passes_operators p (Window ∷ os) r = passes_operators p os r
passes_operators p (Sink ∷ os) r = passes_operators p os r

-- and what those of several stages keep
abbrev pub passes_stages : PlanData → List Stage → Record → Bool
passes_stages p [] r = true
passes_stages p (s ∷ ss) r = passes_operators p s.operators r && passes_stages p ss r

-- an input: the entries of each source and partition, the watermark that each brings, the watermarks after n entries,
-- and how many there are
pub record Entries : Type 0 where
  pub entry : ℕ → ℕ → ℕ → Message
  pub brings : ℕ → ℕ → ℕ → ℤ
  pub watermark : ℕ → ℕ → ℕ → ℤ
  pub size : ℕ → ℕ → ℕ

-- where the tasks of a stage send records, if its edge leads to n subtasks
abbrev pub routing_of : PlanData → Option Edge → ℕ → Routing
routing_of p None n = Whole
routing_of p (Some Forward) n = Whole
routing_of p (Some ByGroup) n = Split (owner_of p n)
routing_of p (Some Rebalance) n = Whole

-- task t of a leg in the abstract
abbrev pub abstract_task : PlanData → Entries → Leg → List Stage → ℕ → AbstractTask
abstract_task p e leg stages t =
    let s = task_stage stages t in
    let x = source_of s.operators in
    let mine = partitions_of (partition_counts p) stages t in
    record {
      role = role_of s.operators;
      inputs = if is_source (role_of s.operators) then length mine else length (inputs_of stages t);
      outputs = length (outputs_of stages t);
      routing = routing_of p s.edge (parallelism_at stages (next_stage stages (stage_of stages t)));
      keeps = passes_operators p s.operators;
      source = x;
      partition = slice_index mine;
      entry = λ k. e.entry x (slice_index mine k);
      brings = λ k. e.brings x (slice_index mine k);
      watermark = λ k. e.watermark x (slice_index mine k);
      size = λ k. e.size x (slice_index mine k);
      first = leg.first;
      saves = leg.saves;
      limit = λ m k. leg.limit m x (slice_index mine k);
      ending = leg.ending;
    }

-- the layout whose window is stage w; source x is stage x
abbrev pub abstract_layout : PlanData → Entries → Leg → List Stage → ℕ → AbstractLayout
abstract_layout p e leg stages w = record {
  before = sum_below (parallelism_at stages) w;
  sink = sum_below (parallelism_at stages) (suc w);
  task = abstract_task p e leg stages;
  first_task = sum_below (parallelism_at stages);
  parallelism = parallelism_at stages;
  ring = is_ring stages;
  from = λ t i. slice_index (inputs_of stages t) i;
  to = λ s j. slice_index (outputs_of stages s) j;
  out_at = λ s t. count_below (is_ring stages s) t;
  in_at = λ s t. count_below (λ x. is_ring stages x t) s;
  owner = λ key. sum_below (parallelism_at stages) w + owner_of p (parallelism_at stages w) key;
  pass = passes p.filters;
  rest = λ t. passes_stages p (drop (next_stage stages (stage_of stages t)) stages);
}

-- the source of partition q, where partitions are numbered through the sources, and its number there
abbrev pub source_at : PlanData → ℕ → ℕ
source_at p q = row_of (slice_index (partition_counts p)) (length p.sources) q

abbrev pub number_at : PlanData → ℕ → ℕ
number_at p q = q - sum_below (slice_index (partition_counts p)) (source_at p q)

-- the number through all sources of partition k of source x
abbrev pub through_all : PlanData → ℕ → ℕ → ℕ
through_all p x k = sum_below (slice_index (partition_counts p)) x + k

abbrev pub abstract_input : PlanData → Entries → AbstractInput
abstract_input p e = record {
  sources = length p.sources;
  partitions = sum_below (slice_index (partition_counts p)) (length p.sources);
  source = source_at p;
  number = number_at p;
  through = through_all p;
  entry = λ q. e.entry (source_at p q) (number_at p q);
  brings = λ q. e.brings (source_at p q) (number_at p q);
  watermark = λ q. e.watermark (source_at p q) (number_at p q);
  size = λ q. e.size (source_at p q) (number_at p q);
  pass = passes p.filters;
}
