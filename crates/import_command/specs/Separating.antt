-- The separator that a word says, and what stands for a point.
use Rattle.std.specs.Prelude.{◌≡◌, ℕ, ◌==◌, List, Option, Some, None, Result, Ok, Err, if◌then◌else◌}
use Rattle.std.specs.Borrow.{Bor}
use Rattle.decimal_texts.specs.Points.{byte_of, point_said}
use Rattle.decimal_texts.specs.declared.point.DecimalPoint.{DecimalPoint}
use Rattle.decimal_texts.specs.declared.point.DecimalPoint.TheVariants.{Point}
use Rattle.import_words.specs.Judging.{IsRefusal}
use Rattle.import_words.specs.declared.refusal.ImportCode.TheVariants.{Options}
use Rattle.import_words.specs.declared.refusal.ImportFault.{ImportFault}
use Rattle.imports.specs.Separators.{separator_of, separator_said}
use Rattle.imports.specs.declared.separator.Separator.{Separator}

-- the separator that a word says, or that it says none, and without a word a comma
abbrev pub GivesSeparator : Option (Bor (List ℕ)) → Result Separator ImportFault → Type 0
GivesSeparator None (Ok separator) = separator_of separator ≡ 44
GivesSeparator None (Err fault) = ⊥
GivesSeparator (Some word) (Ok separator) = separator_said word.now ≡ Some (separator_of separator)
GivesSeparator (Some word) (Err fault) = (separator_said word.now ≡ None) × IsRefusal Options fault

-- what stands for a point, where it is not what stands between fields
abbrev pub other_than : ℕ → Option DecimalPoint → Option DecimalPoint
other_than separator None = None
other_than separator (Some mark) = if byte_of mark == separator then None else Some mark

-- what a word says of the point, or that it says nothing beside the separator, and without a word a point
abbrev pub GivesPoint : Option (Bor (List ℕ)) → Separator → Result DecimalPoint ImportFault → Type 0
GivesPoint None separator (Ok mark) = mark ≡ Point
GivesPoint None separator (Err fault) = ⊥
GivesPoint (Some word) separator (Ok mark) = other_than (separator_of separator) (point_said word.now) ≡ Some mark
GivesPoint (Some word) separator (Err fault) = (other_than (separator_of separator) (point_said word.now) ≡ None) × IsRefusal Options fault
