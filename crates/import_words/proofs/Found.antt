-- What was found in words.
use Rattle.std.proofs.Common.{ℕ, List, ◌∷◌, Option, Some, None}
use Rattle.std.specs.Borrow.{Bor}
use Rattle.import_words.specs.Judging.{IsRefusal}
use Rattle.import_words.specs.Files.{parts}
use Rattle.import_words.specs.Words.{HasNoColumn, RefusesColumns}
use Rattle.import_words.specs.declared.refusal.ImportCode.TheVariants.{Columns}
use Rattle.import_words.specs.declared.refusal.ImportFault.{ImportFault}
use Rattle.import_words.specs.declared.refusal.ImportFault.TheVariants.{Refused, Write, Memory}

-- the files that were found, if there are such, with those of further words
abbrev pub with_found : Option (Bor (List ℕ)) → List (List ℕ) → List (List ℕ)
with_found None more = more
with_found (Some files) more = files.now ∷ more

-- a word that says no column is refused so
pub refused : (word : List ℕ) (fault : ImportFault) → IsRefusal Columns fault → HasNoColumn (parts word) → RefusesColumns word fault
refused word (Refused code sentence) is none = (is, none)
refused word Write is none = is
refused word Memory is none = tt
