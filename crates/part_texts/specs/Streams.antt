-- The streams of the parts of an input, and what is kept for each.
use Rattle.std.specs.Prelude.{◌≡◌, ℕ, ◌<◌, List, [], Option, None, Vec, length, map, slice_index_or}
use Rattle.std.specs.Io.KnownBytes.{Appends, append_known}
use Rattle.std.specs.declared.alloc.Global.{Global}
use Rattle.part_texts.specs.PartTexts.{Known}
use Rattle.part_texts.specs.declared.part.PartText.{PartText}

abbrev pub stream_of : {W : Type 0} → PartText W → W
stream_of part = part.out

-- the text that the stream has not got yet
abbrev pub kept_of : {W : Type 0} → PartText W → List ℕ
kept_of part = part.text.items

-- what the stream has got, and then that
abbrev pub text_of : {W : Type 0} → (W → Option (List ℕ)) → PartText W → Option (List ℕ)
text_of contents part = append_known (contents part.out) part.text.items

abbrev pub state_of : {W : Type 0} → (W → Option (List ℕ)) → PartText W → Known
state_of contents part = record { text = text_of contents part; is_first = part.is_first }

abbrev pub states_of : {W : Type 0} → (W → Option (List ℕ)) → List (PartText W) → List Known
states_of contents parts = map (state_of contents) parts

-- the places of the list at a place
abbrev pub places_at : List (Vec ℕ Global) → ℕ → List ℕ
places_at lists place = slice_index_or (map (λ places. places.items) lists) place []

-- behind what each stream had got and what was kept for it, it has got this text, by its place, and all of it
pub record Got {W : Type 0} (contents : W → Option (List ℕ)) (text : ℕ → List ℕ) (old new : List (PartText W)) : Type 0 where
  pub same : length new ≡ length old
  pub each : (i : ℕ) → i < length old → Appends (slice_index_or (map (text_of contents) old) i None) (slice_index_or (map (λ part. contents (stream_of part)) new) i None) (text i)
