-- How far partitions are read, and how many barriers there are on the way.
use Rattle.std.specs.Prelude.{ℕ, ◌+◌, List, slice_get, slice_index, if◌then◌else◌}
use Rattle.std.specs.Option.{option_map_or}
use Rattle.dataflow_model.specs.Ending.{may_stop}
use Rattle.task_steps.specs.declared.setup.Setup.{Setup}

-- the partition at place q, until savepoint n is taken: its limit there, and after the last one its end
abbrev pub limit_in : List (List ℕ) → List ℕ → ℕ → ℕ → ℕ
limit_in limits ends n q = option_map_or (λ l. slice_index l q) (slice_get limits n) (slice_index ends q)

-- how many barriers the leg has: of its savepoints on the way, and of its stop where it may have one
abbrev pub barriers_in : Setup → ℕ
barriers_in s = s.saves + (if may_stop s.ending then 1 else 0)
