-- Which watermarks there are.
use Rattle.std.specs.Prelude.{ℕ, ℤ, true, false, Option, Some, None, unsigned_abs}
use Rattle.import_entries.specs.declared.ends.WindowEnds.{WindowEnds}
use Rattle.import_entries.specs.declared.rule.Bound.{Bound}

-- those with a bound, if there is one
abbrev pub marks_of : Option ℕ → Option Bound
marks_of None = None
marks_of (Some bound) = Some (record { behind = bound; ends = None; stand = true })

-- the same, rounded down to the ends of windows
abbrev pub aligned_marks : Option Bound → WindowEnds → Option Bound
aligned_marks None ends = None
aligned_marks (Some marks) ends = Some (record { behind = marks.behind; ends = Some ends; stand = marks.stand })

-- those of a source: where it has a bound it makes its own, by that and no other, and none of them stands between its
-- entries
abbrev pub source_marks : Option ℤ → Option Bound → Option Bound
source_marks None marks = marks
source_marks (Some bound) marks = Some (record { behind = unsigned_abs bound; ends = None; stand = false })
