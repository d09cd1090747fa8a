-- The texts of a partition of all parts, row by row of the whole. Rows are listed from the last one back.
use Rattle.std.specs.Prelude.{◌≡◌, ℕ, ◌<◌, ◌==◌, List, [], ◌∷◌, ◌++◌, length, Some, Result, Ok, Err, if◌then◌else◌}
use Rattle.import_entries.specs.declared.rule.EntryRule.{EntryRule}
use Rattle.import_entries.specs.Entries.{progress_of, place_fault, place_said}
use Rattle.entry_texts.specs.Partitions.{Row, AreTimely, times_of}
use Rattle.entry_texts.specs.declared.partition.PutFault.{PutFault}
use Rattle.entry_texts.specs.declared.partition.PutFault.TheVariants as put
use Rattle.dealt_texts.specs.Dealing.{owner_of}
use Rattle.dealt_texts.specs.Parts.{Growing, growing, nothing, ended}
use Rattle.dealt_texts.specs.Steps.{text_at, placed, dealt}
use Rattle.dealt_texts.specs.declared.dealing.Dealing.{Dealing}
use Rattle.dealt_texts.specs.declared.texts.PartTexts.{PartTexts}

-- the text of the part at a place that the rows of the whole come to
abbrev pub part_of_rows : EntryRule → Dealing → ℕ → List Row → Growing
part_of_rows rule dealing i [] = nothing
part_of_rows rule dealing i (row ∷ before) = dealt (owner_of dealing row.first row.others == i) row (placed (place_said rule.most_rows rule.bound (times_of before)) (part_of_rows rule dealing i before))

-- a text behind what was taken out of it
abbrev pub behind : List ℕ → Growing → Growing
behind written part = growing (written ++ part.text) part.is_first part.is_open

abbrev pub rule_of : PartTexts → EntryRule
rule_of p = p.rule

abbrev pub dealing_of : PartTexts → Dealing
dealing_of p = p.dealing

abbrev pub texts_of : PartTexts → List Growing
texts_of p = p.texts.items

-- the places of the texts that the last row made longer, from the first to behind the last
abbrev pub grown_of : PartTexts → ℕ × ℕ
grown_of p = p.grown

-- these are the rows of the whole so far, none of them late, and what was taken out of each text, with the text, is
-- that of its part
pub record HoldsParts (rows : List Row) (written : ℕ → List ℕ) (p : PartTexts) : Type 0 where
  pub progress : p.progress ≡ progress_of p.rule.most_rows (times_of rows)
  pub timely : AreTimely p.rule.most_rows p.rule.bound rows
  pub all : length (texts_of p) ≡ p.dealing.parts
  pub texts : (i : ℕ) → i < p.dealing.parts → behind (written i) (text_at (texts_of p) i) ≡ part_of_rows p.rule p.dealing i rows

-- and the partition is ended in each
abbrev pub HoldWhole : List Row → (ℕ → List ℕ) → PartTexts → Type 0
HoldWhole rows written p = (length (texts_of p) ≡ p.dealing.parts) × ((i : ℕ) → i < p.dealing.parts → written i ++ (text_at (texts_of p) i).text ≡ ended (part_of_rows p.rule p.dealing i rows))

-- the row stands behind those before, in its part; or it goes nowhere, and nothing changes
abbrev pub PutsRow : List Row → (ℕ → List ℕ) → Row → PartTexts → PartTexts → Result (Unit {0}) PutFault → Type 0
PutsRow before written row old new (Ok _) = HoldsParts (row ∷ before) written new
PutsRow before written row old new (Err (put.Place fault)) = (place_fault old.rule.most_rows old.rule.bound (times_of before) row.time ≡ Some fault) × (new ≡ old)
PutsRow before written row old new (Err put.Memory) = Unit {0}

-- a text with more taken out, at one place
abbrev pub more_at : ℕ → List ℕ → (ℕ → List ℕ) → ℕ → List ℕ
more_at place more written i = if place == i then written i ++ more else written i
