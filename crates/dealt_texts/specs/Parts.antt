-- The text of a partition of one part, as it grows.
use Rattle.std.specs.Prelude.{ℕ, ℤ, Bool, true, false, List, [], ◌++◌, codes, Option, Some, None, if◌then◌else◌}
use Rattle.std.specs.Fmt.{signed_decimal}
use Rattle.entry_texts.specs.EntryTexts.{row_text, watermark_label}

-- the text; whether no entry stands in it; and whether the last one that does is one of rows that is not closed
pub record Growing : Type 0 where
  pub text : List ℕ
  pub is_first : Bool
  pub is_open : Bool

abbrev pub growing : List ℕ → Bool → Bool → Growing
growing text is_first is_open = record { text = text; is_first = is_first; is_open = is_open }

abbrev pub nothing : Growing
nothing = growing [] true false

-- with the last entry closed
abbrev pub closed : Growing → Growing
closed part = growing (part.text ++ (if part.is_open then codes "]}" else [])) part.is_first false

-- with what stands before an entry
abbrev pub separated : Growing → Growing
separated part = growing (part.text ++ (if part.is_first then codes "[" else codes ",")) false part.is_open

-- with a watermark behind it
abbrev pub with_mark : ℤ → Growing → Growing
with_mark mark part = growing ((separated part).text ++ (watermark_label ++ (signed_decimal mark ++ codes "}"))) false part.is_open

abbrev pub with_marks : Option ℤ → Growing → Growing
with_marks None part = part
with_marks (Some mark) part = with_mark mark part

-- with what stands before a row
abbrev pub opened : Growing → Growing
opened part = growing (if part.is_open then part.text ++ codes "," else (separated part).text ++ codes "{\"rows\":[") (if part.is_open then part.is_first else false) true

-- with a row behind it
abbrev pub with_row : ℤ → List ℤ → Growing → Growing
with_row first others part = growing ((opened part).text ++ row_text first others) (opened part).is_first true

-- the text of the whole partition
abbrev pub ended : Growing → List ℕ
ended part = (closed part).text ++ (if part.is_first then codes "[]" else codes "]")

-- with the whole partition ended
abbrev pub whole : Growing → Growing
whole part = growing (ended part) part.is_first false
