-- A layout as contracts see it.
use Rattle.std.specs.Prelude.{◌≡◌, ℕ, List}
use Rattle.plan_model.specs.PlanData.{PlanData}
use Rattle.layout_rules.specs.declared.stage.Stage.{Stage}
use Rattle.layout_rules.specs.Scale.{ScaleData, IsScale}
use Rattle.layout_rules.specs.Rules.{stages_of}
use Rattle.layout_rules.specs.Layouts.{partition_counts}

-- the stages, how many partitions each source has, how many key groups there are, and how many messages a ring holds
pub record LayoutData : Type 0 where
  pub stages : List Stage
  pub partitions : List ℕ
  pub max : ℕ
  pub capacity : ℕ

abbrev pub layout_data_of : List Stage → List ℕ → ℕ → ℕ → LayoutData
layout_data_of stages partitions max capacity = record { stages = stages; partitions = partitions; max = max; capacity = capacity }

-- the layout of a plan at a scale
abbrev pub layout_of : PlanData → ScaleData → LayoutData
layout_of p c = layout_data_of (stages_of p c) (partition_counts p) p.max c.capacity

-- a layout is the plan's at some scale
pub record IsLayoutOf (p : PlanData) (l : LayoutData) : Type 0 where
  pub scale : ScaleData
  pub fits : IsScale p scale
  pub is : l ≡ layout_of p scale
