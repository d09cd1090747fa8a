-- The text of a partition, row by row. Rows are listed from the last one back.
use Rattle.std.specs.Prelude.{◌≡◌, ℕ, ℤ, Bool, true, false, List, [], ◌∷◌, ◌++◌, Option, Some, None, Result, Ok, Err, string_bytes}
use Rattle.import_entries.specs.declared.rule.EntryRule.{EntryRule}
use Rattle.import_entries.specs.declared.rule.Bound.{Bound}
use Rattle.import_entries.specs.Entries.{progress_of, place_fault, place_said}
use Rattle.entry_texts.specs.EntryTexts.{row_text, lead_text, end_text}
use Rattle.entry_texts.specs.declared.partition.PartitionText.{PartitionText}
use Rattle.entry_texts.specs.declared.partition.PutFault.{PutFault}
use Rattle.entry_texts.specs.declared.partition.PutFault.TheVariants.{Place, Memory}

-- a row: its time, its first number and the others
pub record Row : Type 0 where
  pub time : ℤ
  pub first : ℤ
  pub others : List ℤ

-- the times of rows, the first one's first
abbrev pub times_of : List Row → List ℤ
times_of [] = []
times_of (row ∷ before) = times_of before ++ row.time ∷ []

abbrev pub is_none : List Row → Bool
is_none [] = true
is_none (row ∷ before) = false

-- each row behind what its place asks for, by how many rows an entry has and which watermarks there are
abbrev pub rows_text : ℕ → Option Bound → List Row → List ℕ
rows_text n marks [] = []
rows_text n marks (row ∷ before) = rows_text n marks before ++ (lead_text (is_none before) (place_said n marks (times_of before)) ++ row_text row.first row.others)

-- no row is late, and no time is out of range
abbrev pub AreTimely : ℕ → Option Bound → List Row → Type 0
AreTimely n marks [] = Unit {0}
AreTimely n marks (row ∷ before) = (place_fault n marks (times_of before) row.time ≡ None) × AreTimely n marks before

abbrev pub rule_of : PartitionText → EntryRule
rule_of p = p.rule

abbrev pub text_of : PartitionText → List ℕ
text_of p = string_bytes p.text

-- these are the rows so far, none of them late, and what was taken out, with the text, is theirs
pub record Holds (rows : List Row) (written : List ℕ) (p : PartitionText) : Type 0 where
  pub progress : p.progress ≡ progress_of p.rule.most_rows (times_of rows)
  pub none : p.is_empty ≡ is_none rows
  pub timely : AreTimely p.rule.most_rows p.rule.bound rows
  pub text : written ++ string_bytes p.text ≡ rows_text p.rule.most_rows p.rule.bound rows

-- and the partition is ended
abbrev pub HoldsWhole : List Row → List ℕ → PartitionText → Type 0
HoldsWhole rows written p = written ++ string_bytes p.text ≡ rows_text p.rule.most_rows p.rule.bound rows ++ end_text (is_none rows)

-- the row stands behind those before; or it goes nowhere, and nothing changes
abbrev pub Puts : List Row → List ℕ → Row → PartitionText → PartitionText → Result (Unit {0}) PutFault → Type 0
Puts before written row old new (Ok _) = Holds (row ∷ before) written new
Puts before written row old new (Err (Place fault)) = (place_fault old.rule.most_rows old.rule.bound (times_of before) row.time ≡ Some fault) × (new ≡ old)
Puts before written row old new (Err Memory) = Unit {0}
