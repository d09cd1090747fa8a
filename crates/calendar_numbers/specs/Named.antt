-- The zones that are there, by their names.
use Rattle.std.specs.Prelude.{◌≡◌, ◌≢◌, ◌⊎◌, ℕ, List, [], ◌∷◌, ◌++◌, Some, Ok, codes}
use Rattle.std.specs.List.{All, Contains}
use Rattle.jiff_tz.specs.TzifReader.{read_tzif}
use Rattle.jiff_tz.specs.Tzif.{tzif_name, tzif_view}
use Rattle.jiff_tz.specs.declared.timezone.TimeZone.{TimeZone}
use Rattle.jiff_tz.specs.declared.timezone.TimeZone.TheVariants.{UTC, Unknown, Fixed, Posix, Tzif}
use Rattle.jiff_tz.specs.declared.tzif.Tzif.{Tzif as Table}

-- the zone has this name: UTC, or one of the tables
abbrev pub IsZoneOf : List Table → List ℕ → TimeZone → Type 0
IsZoneOf tables name UTC = name ≡ codes "UTC"
IsZoneOf tables name Unknown = ⊥
IsZoneOf tables name (Fixed offset) = ⊥
IsZoneOf tables name (Posix tz) = ⊥
IsZoneOf tables name (Tzif table) = Contains tables table.now × (tzif_name table.now ≡ Some name)

-- no zone has this name
abbrev pub HasNoZone : List Table → List ℕ → Type 0
HasNoZone tables name = (name ≢ codes "UTC") × All (λ table. tzif_name table ≢ Some name) tables

-- the new tables are the old ones, and behind them the one of this name that the bytes read as
pub record IsAdded (old new : List Table) (name bytes : List ℕ) : Type 0 where
  pub table : Table
  pub added : new ≡ old ++ table ∷ []
  pub named : tzif_name table ≡ Some name
  pub read : read_tzif bytes ≡ Ok (tzif_view table)

-- some zone has this name
abbrev pub HasZone : List Table → List ℕ → Type 0
HasZone tables name = (name ≡ codes "UTC") ⊎ ((table : Table) × Contains tables table × (tzif_name table ≡ Some name))
