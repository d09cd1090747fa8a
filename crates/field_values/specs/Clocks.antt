-- What a text says as a date with a time of day, and as a zone.
use Rattle.std.specs.Prelude.{ℕ, ◌==◌, nat_le, Bool, false, ◌&&◌, ◌||◌, List, length, drop, slice_index, slice_range, if◌then◌else◌}
use Rattle.std.specs.Str.Parse.{digits_value}
use Rattle.field_values.specs.declared.clock.Clock.{Clock}
use Rattle.field_values.specs.declared.zone.Zone.{Zone}
use Rattle.field_values.specs.Digits.{are_digits}

-- the marks between the numbers, at their places
unfoldable pub has_marks : List ℕ → Bool
has_marks text =
    (slice_index text 4 == 45) && (slice_index text 7 == 45) && ((slice_index text 10 == 84) || (slice_index text 10 == 32))
    && (slice_index text 13 == 58) && (slice_index text 16 == 58)

-- the digits between the marks
unfoldable pub has_numbers : List ℕ → Bool
has_numbers text =
    are_digits (slice_range text 0 4) && are_digits (slice_range text 5 7) && are_digits (slice_range text 8 10)
    && are_digits (slice_range text 11 13) && are_digits (slice_range text 14 16) && are_digits (slice_range text 17 19)

-- YYYY-MM-DDTHH:MM:SS, where a space may stand for the T
unfoldable pub is_clock : List ℕ → Bool
is_clock text = (length text == 19) && has_marks text && has_numbers text

-- and what its numbers are
unfoldable pub clock_said : List ℕ → Clock
clock_said text = record {
  year = digits_value 10 (slice_range text 0 4);
  month = digits_value 10 (slice_range text 5 7);
  day = digits_value 10 (slice_range text 8 10);
  hour = digits_value 10 (slice_range text 11 13);
  minute = digits_value 10 (slice_range text 14 16);
  second = digits_value 10 (slice_range text 17 19);
}

-- Z
unfoldable pub is_utc : List ℕ → Bool
is_utc text = (length text == 1) && (slice_index text 0 == 90)

-- a plus or a hyphen
abbrev pub is_sign : ℕ → Bool
is_sign b = (b == 43) || (b == 45)

-- what stands behind the hours, but for a colon
unfoldable pub without_colon : List ℕ → List ℕ
without_colon rest = if slice_index rest 0 == 58 then drop 1 rest else rest

-- nothing, mm or :mm
unfoldable pub is_minutes : List ℕ → Bool
is_minutes rest = (length rest == 0) || ((length (without_colon rest) == 2) && are_digits (without_colon rest))

-- a sign, and hh, hhmm or hh:mm
unfoldable pub is_offset : List ℕ → Bool
is_offset text =
    nat_le 3 (length text) && is_sign (slice_index text 0)
    && are_digits (slice_range text 1 3) && is_minutes (drop 3 text)

-- and what it says
unfoldable pub offset_said : List ℕ → Zone
offset_said text = record {
  is_behind = slice_index text 0 == 45;
  hours = digits_value 10 (slice_range text 1 3);
  minutes = digits_value 10 (without_colon (drop 3 text));
}

unfoldable pub utc : Zone
utc = record { is_behind = false; hours = 0; minutes = 0 }

unfoldable pub is_zone : List ℕ → Bool
is_zone text = is_utc text || is_offset text

unfoldable pub zone_said : List ℕ → Zone
zone_said text = if is_utc text then utc else offset_said text
