-- Comparisons as numbers, in the order in which they are declared.
use Rattle.std.specs.Prelude.{ℕ, ◌==◌, if◌then◌else◌}
use Rattle.lane_kernels.specs.declared.Cmp.{Cmp}
use Rattle.lane_kernels.specs.declared.Cmp.TheVariants.{Eq, Ne, Lt, Le, Gt, Ge}

abbrev pub cmp_of : ℕ → Cmp
cmp_of n = if n == 0 then Eq else (if n == 1 then Ne else (if n == 2 then Lt else (if n == 3 then Le else (if n == 4 then Gt else Ge))))
