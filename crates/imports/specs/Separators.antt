-- What stands between the fields of CSV.
use Rattle.std.specs.Prelude.{ℕ, ◌==◌, nat_lt, not, Bool, ◌&&◌, List, [], ◌∷◌, codes, bytes_eq, Option, Some, None, if◌then◌else◌}
use Rattle.csv.specs.Reading.{default_config}
use Rattle.csv.specs.declared.parser.Config.{Config}
use Rattle.imports.specs.declared.separator.Separator.{Separator}

abbrev pub separator_of : Separator → ℕ
separator_of separator = separator.byte

-- a byte can stand between fields: it is of ASCII, ends no line and is no quotation mark
abbrev pub separates : ℕ → Bool
separates b = nat_lt b 128 && (not (b == 34) && (not (b == 13) && not (b == 10)))

abbrev pub only_byte : List ℕ → Option ℕ
only_byte [] = None
only_byte (b ∷ []) = if separates b then Some b else None
only_byte (b ∷ c ∷ more) = None

-- the separator that a word says
abbrev pub separator_said : List ℕ → Option ℕ
separator_said word = if bytes_eq word (codes "tab") then Some 9 else only_byte word

-- how CSV is read with a separator, and else with the defaults of its crate
abbrev pub separated : ℕ → Config
separated separator = record default_config { delimiter = separator }
