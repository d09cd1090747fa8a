-- Which of two numbers is kept.
use Rattle.std.specs.Prelude.{ℤ}
use Rattle.std.specs.Int.{int_min, int_max}
use Rattle.lane_kernels.specs.declared.extremes.Extreme.{Extreme}
use Rattle.lane_kernels.specs.declared.extremes.Extreme.TheVariants.{Least, Greatest}

abbrev pub pick : Extreme → ℤ → ℤ → ℤ
pick Least = int_min
pick Greatest = int_max
