-- The texts of the parts of an input, as they grow side by side.
use Rattle.std.specs.Prelude.{◌≡◌, ℕ, ◌<◌, ◌++◌, Bool, true, false, List, [], Option, None, codes, length, slice_index_or, if◌then◌else◌}
use Rattle.std.specs.Io.KnownBytes.{Appends}
use Rattle.std.specs.List.{fold}
use Rattle.stream_model.specs.declared.entry.Entry.{Entry}
use Rattle.part_texts.specs.InputTexts.{entry_text}

-- the text of a part, and whether no entry of the partition that is being written stands in it yet
pub record Growing : Type 0 where
  pub text : List ℕ
  pub is_first : Bool

abbrev pub growing : List ℕ → Bool → Growing
growing text is_first = record { text = text; is_first = is_first }

-- with words behind it that stand around entries
abbrev pub with_words : List ℕ → Growing → Growing
with_words words part = growing (part.text ++ words) true

abbrev pub before_entry : Bool → List ℕ
before_entry is_first = if is_first then [] else codes ","

-- with the text of an entry behind it
abbrev pub with_text : Growing → List ℕ → Growing
with_text part entry = growing ((part.text ++ before_entry part.is_first) ++ entry) false

abbrev pub with_entry : Growing → Entry → Growing
with_entry part entry = with_text part (entry_text entry)

-- with entries behind it
abbrev pub with_entries : Growing → List Entry → Growing
with_entries part entries = fold with_entry part entries

-- what is known of a part as it grows: what its stream has got with what is kept behind that, if it is known; and
-- whether no entry of the partition that is being written stands in it yet
pub record Known : Type 0 where
  pub text : Option (List ℕ)
  pub is_first : Bool

abbrev pub unknown : Known
unknown = record { text = None; is_first = true }

-- from a start on, this has been put
abbrev pub Stands : Option (List ℕ) → Growing → Known → Type 0
Stands start part now = Appends start now.text part.text × (now.is_first ≡ part.is_first)

-- whatever has been put, a step is taken with it
abbrev pub Takes : (Growing → Growing) → Known → Known → Type 0
Takes step old new = (start : Option (List ℕ)) (part : Growing) → Stands start part old → Stands start (step part) new

-- each text is taken a step, by its place
pub record Each (step : ℕ → Growing → Growing) (old new : List Known) : Type 0 where
  pub same : length new ≡ length old
  pub each : (i : ℕ) → i < length old → Takes (step i) (slice_index_or old i unknown) (slice_index_or new i unknown)

-- each text has more bytes behind it, by its place
pub record Grow (more : ℕ → List ℕ) (old new : List Known) : Type 0 where
  pub same : length new ≡ length old
  pub each : (i : ℕ) → i < length old → Appends (slice_index_or old i unknown).text (slice_index_or new i unknown).text (more i)
