-- Where something stands in a text.
use Rattle.std.specs.Prelude.{ℕ, Bool, not, ◌||◌, ◌==◌, nat_lt, nat_le, List, take, reverse, take_while, count_by}

-- the bytes before an offset, from the nearest back to the beginning of the line
abbrev pub line_before : ℕ → List ℕ → List ℕ
line_before offset text = take_while (λ b. not (b == 10)) (reverse (take offset text))

-- a byte with which a character of UTF-8 begins
abbrev pub begins_character : ℕ → Bool
begins_character b = nat_lt b 128 || nat_le 192 b

-- the lines that end before an offset
abbrev pub lines_before : ℕ → List ℕ → ℕ
lines_before offset text = count_by (λ b. b == 10) (take offset text)

-- the characters of the line before an offset
abbrev pub characters_before : ℕ → List ℕ → ℕ
characters_before offset text = count_by begins_character (line_before offset text)
