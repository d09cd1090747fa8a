-- The clocks by which times are read that have no zone.
use Rattle.std.specs.Prelude.{◌≡◌, ℕ, List, Option, Some, None, codes}
use Rattle.jiff_tz.specs.declared.tzif.Tzif.{Tzif as Table}
use Rattle.calendar_numbers.specs.Named.{IsZoneOf}
use Rattle.local_times.specs.declared.clocks.Clocks.{Clocks}
use Rattle.local_times.specs.declared.clocks.Clocks.TheVariants.{Zoned, Local}
use Rattle.local_times.specs.declared.clocks.Fold.{Fold}
use Rattle.local_times.specs.declared.clocks.Fold.TheVariants.{First, Second}

-- which of two instants is meant, as the word of --fold says
abbrev pub IsFold : Option (List ℕ) → Option Fold → Type 0
IsFold None fold = fold ≡ None
IsFold (Some word) None = ⊥
IsFold (Some word) (Some First) = word ≡ codes "first"
IsFold (Some word) (Some Second) = word ≡ codes "second"

-- there are clocks just where --zone names a zone, and they are those of that zone
abbrev pub IsClocks : List Table → Option (List ℕ) → Option (List ℕ) → Clocks → Type 0
IsClocks tables None fold Zoned = fold ≡ None
IsClocks tables None fold (Local zone own) = ⊥
IsClocks tables (Some name) fold Zoned = ⊥
IsClocks tables (Some name) fold (Local zone own) = IsZoneOf tables name zone × IsFold fold own
