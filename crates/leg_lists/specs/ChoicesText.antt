-- What a JSON value, and bytes, say as the choices of legs. None: a part is missing or of another form.
use Rattle.std.specs.Prelude.{◌==◌, ◌^◌, ℕ, nat_lt, List, length, Option, Some, None, Result, Ok, Err, if◌then◌else◌}
use Rattle.std.specs.Option.{option_map_or}
use Rattle.serde_json.specs.Data.{Data}
use Rattle.json_parts.specs.Parts.{◌>>=◌, count_text, json_of, list_text}
use Rattle.legs.specs.declared.choice.Choice.{Choice}
use Rattle.legs.specs.declared.fault.LegFault.{LegFault}
use Rattle.legs.specs.declared.fault.LegFault.TheVariants.{Choices}

-- a whole number of 0 to 2^32 - 1
unfoldable pub choice_text : Data → Option Choice
choice_text d = do
  n ← count_text d
  if nat_lt n (2 ^ 32) then Some (record { number = n }) else None

-- a list of them for each of so many legs
unfoldable pub choices_text : ℕ → Data → Option (List (List Choice))
choices_text legs d = do
  lists ← list_text (list_text choice_text) d
  if length lists == legs then Some lists else None

-- what the bytes say so
unfoldable pub choices_said : ℕ → List ℕ → Option (List (List Choice))
choices_said legs bytes = json_of bytes >>= choices_text legs

-- the choices of so many legs that the bytes are
unfoldable pub choices_of_bytes : ℕ → List ℕ → Result (List (List Choice)) LegFault
choices_of_bytes legs bytes = option_map_or Ok (choices_said legs bytes) (Err Choices)
