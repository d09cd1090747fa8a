-- Digits, and the numbers that they write.
use Rattle.std.specs.Prelude.{ℕ, Bool, ◌&&◌, ◌||◌, ◌==◌, nat_lt, List, length, drop, slice_index}
use Rattle.std.specs.Char.{is_ascii_digit}
use Rattle.std.specs.List.{list_all}

-- one decimal digit or more, and nothing else
unfoldable pub are_digits : List ℕ → Bool
are_digits text = nat_lt 0 (length text) && list_all is_ascii_digit text

-- nothing, or a point and digits
unfoldable pub is_fraction : List ℕ → Bool
is_fraction text = (length text == 0) || ((slice_index text 0 == 46) && are_digits (drop 1 text))
