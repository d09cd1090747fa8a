-- A worked layout: sources with 2 and 3 subtasks, two chained filters with 2, a window with 3.
use Rattle.std.specs.Prelude.{◌≡◌, ℕ, List, [], ◌∷◌, true, Some, None}
use Rattle.plan_model.specs.declared.spec.SourceSpec.{SourceSpec}
use Rattle.plan_model.specs.declared.spec.FilterSpec.{FilterSpec}
use Rattle.plan_model.specs.declared.spec.WindowSpec.{WindowSpec}
use Rattle.plan_model.specs.PlanData.{PlanData, plan_data_of}
use Rattle.dataflow_model.specs.Leg.{Leg}
use Rattle.dataflow_model.specs.AbstractLayout.{reader_of, place_in_reader, partition_read}
use Rattle.layout_rules.specs.declared.stage.Operator.TheVariants.{Source, Filter, Window, Sink}
use Rattle.layout_rules.specs.declared.stage.Edge.TheVariants.{Forward, ByGroup, Rebalance}
use Rattle.layout_rules.specs.declared.stage.Stage.{Stage}
use Rattle.layout_rules.specs.Stages.{stage_from, inputs_of, outputs_of, partitions_of}
use Rattle.layout_rules.specs.Rules.{IsCompiled}
use Rattle.layout_rules.specs.Scale.{FilterScale, ScaleData, scale_data_of}
use Rattle.layout_rules.specs.Layouts.{partition_counts, Entries, abstract_layout, abstract_input}

-- a plan with two sources of 5 partitions and two filters
abbrev pub five_partitions : List ℕ → SourceSpec
five_partitions uid = record { uid = uid; partitions = 5; bound = None }

abbrev pub two_sources : List ℕ → List ℕ → FilterSpec → FilterSpec → WindowSpec → PlanData
two_sources s r f g w = plan_data_of 3 128 (five_partitions s ∷ five_partitions r ∷ []) (f ∷ g ∷ []) w

abbrev pub chained : ℕ → FilterScale
chained n = record { parallelism = n; chain = true }

abbrev pub two_and_three : ScaleData
two_and_three = scale_data_of 16 (2 ∷ 3 ∷ []) (chained 2 ∷ chained 2 ∷ []) 3

abbrev pub five : List Stage
five =
    stage_from 2 (Source 0 ∷ []) (Some Forward)
    ∷ stage_from 3 (Source 1 ∷ []) (Some Rebalance)
    ∷ stage_from 2 (Filter 0 ∷ Filter 1 ∷ []) (Some ByGroup)
    ∷ stage_from 3 (Window ∷ []) (Some Rebalance)
    ∷ stage_from 1 (Sink ∷ []) None ∷ []

-- partition 4 of the second source, the last of ten, is at place 1 of task 3
abbrev pub LastPartition : List ℕ → List ℕ → FilterSpec → FilterSpec → WindowSpec → Entries → Leg → Type 0
LastPartition s r f g w e leg =
    let i = abstract_input (two_sources s r f g w) e in
    let l = abstract_layout (two_sources s r f g w) e leg five 3 in
    (i.partitions ≡ 10)
    × (reader_of i l 9 ≡ 3)
    × (place_in_reader i l 9 ≡ 1)
    × (partition_read i l 3 1 ≡ 9)
    × ((l.task 3).limit 0 1 ≡ leg.limit 0 1 4)

abbrev pub FiveStages : Type 0
FiveStages = (s r : List ℕ) (f g : FilterSpec) (w : WindowSpec)
    → IsCompiled (two_sources s r f g w) two_and_three five
    × (inputs_of five 5 ≡ 0 ∷ 2 ∷ 3 ∷ 4 ∷ [])
    × (inputs_of five 6 ≡ 1 ∷ 2 ∷ 3 ∷ 4 ∷ [])
    × (inputs_of five 8 ≡ 5 ∷ 6 ∷ [])
    × (inputs_of five 10 ≡ 7 ∷ 8 ∷ 9 ∷ [])
    × (outputs_of five 1 ≡ 6 ∷ [])
    × (outputs_of five 3 ≡ 5 ∷ 6 ∷ [])
    × (outputs_of five 5 ≡ 7 ∷ 8 ∷ 9 ∷ [])
    × (outputs_of five 10 ≡ [])
    × (partitions_of (partition_counts (two_sources s r f g w)) five 3 ≡ 1 ∷ 4 ∷ [])
    × (partitions_of (partition_counts (two_sources s r f g w)) five 5 ≡ [])
    × ((e : Entries) (leg : Leg) → LastPartition s r f g w e leg)
