-- How many records went where.
use Rattle.std.specs.Prelude.{ℕ, ◌-◌, ◌^◌, Bool, true, false, List, count_by, min}
use Rattle.import_fates.specs.declared.fate.Fate.{Fate}
use Rattle.import_fates.specs.declared.fate.Fate.TheVariants.{Written, Late, Twice, Bad}
use Rattle.import_fates.specs.declared.counts.FateCounts.{FateCounts}

abbrev pub is_written : Fate → Bool
is_written Written = true
is_written Late = false
is_written Twice = false
is_written Bad = false

abbrev pub is_late : Fate → Bool
is_late Written = false
is_late Late = true
is_late Twice = false
is_late Bad = false

abbrev pub is_twice : Fate → Bool
is_twice Written = false
is_twice Late = false
is_twice Twice = true
is_twice Bad = false

abbrev pub is_bad : Fate → Bool
is_bad Written = false
is_bad Late = false
is_bad Twice = false
is_bad Bad = true

-- how many pass a test, or the greatest count where there are more
abbrev pub counted : (Fate → Bool) → List Fate → ℕ
counted test fates = min (count_by test fates) (2 ^ 64 - 1)

-- how many went to each place
unfoldable pub counts_of : List Fate → FateCounts
counts_of fates = record { written = counted is_written fates; late = counted is_late fates; twice = counted is_twice fates; bad = counted is_bad fates }
