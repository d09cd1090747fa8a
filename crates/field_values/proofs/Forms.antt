-- What a form says of the parts of a text.
use Rattle.std.proofs.Common.{◌≡◌, ℕ, ◌<◌, true, false, Bool, ◌&&◌, List, [], ◌∷◌, length, take, eqb, arith, rules, refl, length-take}
use Rattle.std.specs.Char.{is_ascii_digit}
use Rattle.std.specs.List.{list_all}
use Rattle.std.specs.List.{slice_range}
use Rattle.std.proofs.lemmas.Bool.{false≢true}
use Rattle.std.proofs.lemmas.Bool.Decides.{nat_tests}
use Rattle.field_values.specs.Digits.{are_digits}
use Rattle.std.specs.Str.Parse.{digits_value}
use Rattle.field_values.specs.Clocks.{is_clock, has_numbers, is_minutes, without_colon}
use Rattle.field_values.specs.Instants.{is_time, clock_text}

pub all_digits : (text : List ℕ) → are_digits text ≡ true → list_all is_ascii_digit text ≡ true
unfolding are_digits
all_digits text h = search rules

pub no_minutes : (rest : List ℕ) → length rest ≡ 0 → (is_minutes rest ≡ true) × (0 ≡ digits_value 10 (without_colon rest))
unfolding is_minutes without_colon
no_minutes [] h = (refl, refl)
no_minutes (b ∷ rest) h = absurd (omega (arith, h))

short_is_no_clock : (text : List ℕ) → length text < 19 → is_clock (take 19 text) ≡ false
unfolding is_clock
short_is_no_clock text short =
    let other : eqb (length (take 19 text)) 19 ≡ false = grind (arith, nat_tests, length-take) in
    rw other refl

pub short_is_no_time : (text : List ℕ) → length text < 19 → is_time text ≡ false
unfolding is_time clock_text
short_is_no_time text short = rw (short_is_no_clock text short) refl

six : (a b c d e f : Bool) → (a && b && c && d && e && f) ≡ true → (a ≡ true) × (b ≡ true) × (c ≡ true) × (d ≡ true) × (e ≡ true) × (f ≡ true)
six true true true true true true h = (refl, refl, refl, refl, refl, refl)
six true true true true true false h = absurd (false≢true h)
six true true true true false f h = absurd (false≢true h)
six true true true false e f h = absurd (false≢true h)
six true true false d e f h = absurd (false≢true h)
six true false c d e f h = absurd (false≢true h)
six false b c d e f h = absurd (false≢true h)

-- the numbers of a date and a time of day are digits
pub numbers_in : (text : List ℕ) → has_numbers text ≡ true → (are_digits (slice_range text 0 4) ≡ true) × (are_digits (slice_range text 5 7) ≡ true) × (are_digits (slice_range text 8 10) ≡ true) × (are_digits (slice_range text 11 13) ≡ true) × (are_digits (slice_range text 14 16) ≡ true) × (are_digits (slice_range text 17 19) ≡ true)
unfolding has_numbers
numbers_in text h = six (are_digits (slice_range text 0 4)) (are_digits (slice_range text 5 7)) (are_digits (slice_range text 8 10)) (are_digits (slice_range text 11 13)) (are_digits (slice_range text 14 16)) (are_digits (slice_range text 17 19)) h
