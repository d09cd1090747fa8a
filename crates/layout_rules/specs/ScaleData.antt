-- A scale as contracts see it: the capacity of the rings, and the operators' parallelism.
use Rattle.std.specs.Prelude.{ℕ, ◌≤◌, List}
use Rattle.layout_rules.specs.declared.limits.TheConstants.{MOST_CAPACITY}
pub use Rattle.layout_rules.specs.declared.stage.FilterScale.{FilterScale}

-- how many messages a ring may hold: 1 to 1,024
pub record IsCapacity (n : ℕ) : Type 0 where
  pub some : 1 ≤ n
  pub small : n ≤ MOST_CAPACITY

-- sources and filters stand in plan order
pub record ScaleData : Type 0 where
  pub capacity : ℕ
  pub sources : List ℕ
  pub filters : List FilterScale
  pub window : ℕ

abbrev pub scale_data_of : ℕ → List ℕ → List FilterScale → ℕ → ScaleData
scale_data_of capacity sources filters window = record { capacity = capacity; sources = sources; filters = filters; window = window }
