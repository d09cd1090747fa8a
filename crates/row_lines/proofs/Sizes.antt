-- Digits as numbers of 64 bits.
use Rattle.std.proofs.Common.{◌≡◌, ℕ, ◌+◌, ◌-◌, ◌*◌, ◌%◌, ◌^◌, ◌<◌, ◌≤◌, List, length, get_or, take, drop, arith, sym, ap, ◌∙◌, lit<, length-take, refl}
use Rattle.std.specs.Float.Numeral.{digits_len}
use Rattle.std.specs.Fmt.{decimal}
use Rattle.std.specs.Str.Parse.{AllDigits, digits_value}
use Rattle.std.proofs.lemmas.Fmt.{decimal-digits_value}
use Rattle.std.proofs.lemmas.Int.Digits.{digits_value-lt}
use Rattle.std.proofs.Math.Nat.{lt_of_lt_of_le, pow-le-pow_right}
use Rattle.core.proofs.dec2flt.Rows.{AllDigits-digits_len}
use Rattle.row_lines.specs.Numbers.{IsSizeOf}
use Rattle.row_lines.proofs.Parses.{own}

-- digits without a zero before others are how their number is printed
pub printed_size : (ds : List ℕ) (n : ℕ) → 0 < length ds → (get_or ds 0 0 ≡ 48 → length ds ≡ 1) → AllDigits 10 ds → n ≡ digits_value 10 ds → n < 2 ^ 63 → ds ≡ decimal n
printed_size ds n some zero digits is small = sym (decimal-digits_value own ds digits some zero (omega arith)) ∙ ap decimal (sym is)

-- up to 18 digits in front of a text write a number of 63 bits
pub size_counted : (text : List ℕ) (count size : ℕ) → count ≡ digits_len text → count ≤ 18 → size ≡ digits_value 10 (take count text) → IsSizeOf (take count text) size
size_counted text count size counted few is =
    let all : AllDigits 10 (take count text) = AllDigits-digits_len text count (omega (arith, counted)) in
    let short : length (take count text) ≤ 18 = omega (arith, length-take count text) in
    let less : digits_value 10 (take count text) < 10 ^ 18 = lt_of_lt_of_le (digits_value-lt 10 (take count text) all) (pow-le-pow_right (lit< tt) short) in
    (all, is, omega (arith, is, less))

-- and it is as it was read
pub size_read : (text : List ℕ) (count size : ℕ) → count ≡ 0 + digits_len (drop 0 text) → count ≤ 18 → size ≡ (0 * 10 ^ (count - 0) + digits_value 10 (take (count - 0) (drop 0 text))) % 2 ^ 64 → IsSizeOf (take count text) size
size_read text count size counted few read =
    let digits : count ≡ digits_len text = omega (arith, counted) in
    let own : IsSizeOf (take count text) (digits_value 10 (take count text)) = size_counted text count _ digits few refl in
    let cut : count - 0 ≡ count = omega arith in
    let sum : 0 * 10 ^ (count - 0) + digits_value 10 (take (count - 0) text) ≡ digits_value 10 (take count text) = rw cut (omega arith) in
    size_counted text count size digits few (read ∙ ap (λ n. n % 2 ^ 64) sum ∙ omega (arith, own.2))
