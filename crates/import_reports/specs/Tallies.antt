-- The least and the greatest time of rows.
use Rattle.std.specs.Prelude.{ℤ, List}
use Rattle.lane_kernels.specs.Compare.{least_of, greatest_of}
use Rattle.import_reports.specs.declared.tally.Tally.{Tally}

-- what is known of rows with these times
abbrev pub tally_of : List ℤ → Tally
tally_of times = record { first = least_of times; last = greatest_of times }
