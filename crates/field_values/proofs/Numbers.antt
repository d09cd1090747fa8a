-- Digits that are read one after another.
use Rattle.std.specs.Option.{unwrap_or, SomeIff}
use Rattle.std.proofs.lemmas.List.{drop_all}
use Rattle.std.proofs.lemmas.List.Sums.{prefix_len-le-length}
use Rattle.std.proofs.lemmas.Bool.Decides.{nat_tests}
use Rattle.std.proofs.Common.{Bool, not, Option, cond, ltb, Some, None, ◌≡◌, ℕ, ◌+◌, ◌-◌, ◌*◌, ◌^◌, ◌≤◌, ◌<◌, true, List, [], ◌∷◌, ◌++◌, length, drop, get_or, arith, rules, refl, ap, ◌∙◌, sym, suc, add-one}
use Rattle.std.specs.Char.{is_ascii_digit, digit_value}
use Rattle.std.specs.Int.{IsInRange}
use Rattle.std.specs.List.{list_all, position_or_len}
use Rattle.std.specs.Str.Parse.{digits_value, digits_value_after}
use Rattle.std.proofs.lemmas.Str.Parse.{IsNumeralModel, IsDigitsTest, numerals_by_value, digit_at, digits_value_short}
use Rattle.std.proofs.lemmas.Int.Digits.{digits_value-lt}
use Rattle.std.proofs.Math.Nat.{mul-le-mul_left, one-le-pow, pow-succ'}
use Rattle.field_values.specs.Decimals.{magnitude}
use Rattle.std.proofs.Math.Seq.{drop-cons}

pub digits_tested : IsDigitsTest (λ ds. list_all is_ascii_digit ds ≡ true)
digits_tested = search rules

pub own : IsNumeralModel (λ ds. list_all is_ascii_digit ds ≡ true) (digits_value 10)
own = numerals_by_value _ digits_tested

-- further digits make no number smaller
pub after_at_least : (n : ℕ) (es : List ℕ) → n ≤ digits_value_after 10 n es
after_at_least n [] = omega arith
after_at_least n (e ∷ es) = omega (arith, after_at_least (n * 10 + digit_value e) es)

pub digit_there : (ds : List ℕ) (i : ℕ) → list_all is_ascii_digit ds ≡ true → i < length ds → IsInRange 48 57 (get_or ds i 0)
digit_there ds i h lt = digit_at ds i (own.to ds h) lt

value_of_digit : (c : ℕ) → IsInRange 48 57 c → digit_value c ≡ c - 48
value_of_digit c h = search rules

pub next_digit : (n : ℕ) (ds : List ℕ) (i : ℕ) → list_all is_ascii_digit ds ≡ true → i < length ds → digits_value_after 10 n (drop i ds) ≡ digits_value_after 10 (n * 10 + (get_or ds i 0 - 48)) (drop (i + 1) ds)
next_digit n ds i h lt =
    let e = value_of_digit (get_or ds i 0) (digit_there ds i h lt) in
    let first = ap (digits_value_after 10 n) (drop-cons ds i 0 lt) in
    let second = ap (λ (d : ℕ). digits_value_after 10 (n * 10 + d) (drop (suc i) ds)) e in
    rw add-one (first ∙ second)

pub after_joined : (n : ℕ) (ds es : List ℕ) → digits_value_after 10 n (ds ++ es) ≡ digits_value_after 10 (digits_value_after 10 n ds) es
after_joined n [] es = refl
after_joined n (d ∷ ds) es = after_joined (n * 10 + digit_value d) ds es

-- digits behind a number
pub after_value : (n : ℕ) (es : List ℕ) → digits_value_after 10 n es ≡ n * 10 ^ length es + digits_value 10 es
after_value n [] = omega arith
after_value n (e ∷ es) =
    let d = digit_value e in
    let first : digits_value_after 10 n (e ∷ es) ≡ (n * 10 + d) * 10 ^ length es + digits_value 10 es = after_value (n * 10 + d) es in
    let second : digits_value 10 (e ∷ es) ≡ (0 * 10 + d) * 10 ^ length es + digits_value 10 es = after_value (0 * 10 + d) es in
    let power : n * 10 ^ length (e ∷ es) ≡ n * (10 * 10 ^ length es) = ap (λ (k : ℕ). n * k) (pow-succ' 10 (length es)) in
    omega arith

-- where a number is too large after one digit, it is so after all
pub too_large : (n before : ℕ) (ds : List ℕ) (i : ℕ) → list_all is_ascii_digit ds ≡ true → i < length ds → digits_value_after 10 n (drop i ds) ≡ digits_value_after 10 before ds → 2 ^ 64 ≤ n * 10 + (get_or ds i 0 - 48) → 2 ^ 64 ≤ digits_value_after 10 before ds
too_large n before ds i h lt e over = omega (arith, next_digit n ds i h lt, after_at_least (n * 10 + (get_or ds i 0 - 48)) (drop (i + 1) ds))

pub value_below : (ds : List ℕ) → list_all is_ascii_digit ds ≡ true → digits_value 10 ds < 10 ^ length ds
value_below ds h = digits_value-lt 10 ds (own.to ds h)

-- what is multiplied by a power of ten gets no smaller
pub power_at_least : (n k : ℕ) → n ≤ n * 10 ^ k
power_at_least n k = omega (arith, mul-le-mul_left n (one-le-pow k 10 (omega arith)))

pub place_or_end : (p : ℕ → Bool) (xs : List ℕ) → unwrap_or (cond (ltb (position_or_len p xs) (length xs)) (Some (position_or_len p xs)) None) (length xs) ≡ position_or_len p xs
place_or_end p xs =
    let within = prefix_len-le-length (λ x. not (p x)) xs in
    grind (arith, nat_tests)

pub magnitude_is : (places : ℕ) (whole decimals : List ℕ) → magnitude places whole decimals ≡ digits_value_after 10 (digits_value 10 whole) decimals * 10 ^ (places - length decimals)
unfolding magnitude
magnitude_is places whole decimals = ap (λ n. n * 10 ^ (places - length decimals)) (after_joined 0 whole decimals)

pub whole_at_least : (places : ℕ) (whole decimals : List ℕ) → digits_value 10 whole ≤ magnitude places whole decimals
whole_at_least places whole decimals =
    let all = digits_value_after 10 (digits_value 10 whole) decimals in
    omega (arith, magnitude_is places whole decimals, after_at_least (digits_value 10 whole) decimals, power_at_least all (places - length decimals))

-- up to four digits write a number below ten thousand
pub short_value : (ds : List ℕ) → list_all is_ascii_digit ds ≡ true → length ds ≤ 4 → digits_value 10 ds < 10000
short_value ds h few = digits_value_short own ds 4 h few

pub none_left : (n : ℕ) (ds : List ℕ) (i : ℕ) → length ds ≤ i → n ≡ digits_value_after 10 n (drop i ds)
none_left n ds i h = sym (ap (digits_value_after 10 n) (drop_all i ds h))

pub all_at_least : (places : ℕ) (whole decimals : List ℕ) (before : ℕ) → before ≡ digits_value 10 whole → digits_value_after 10 before decimals ≤ magnitude places whole decimals
all_at_least places whole decimals before e =
    let all = digits_value_after 10 (digits_value 10 whole) decimals in
    omega (arith, ap (λ (n : ℕ). digits_value_after 10 n decimals) e, magnitude_is places whole decimals, power_at_least all (places - length decimals))

pub magnitude_from : (places : ℕ) (whole decimals : List ℕ) (before all power : ℕ) → before ≡ digits_value 10 whole → all ≡ digits_value_after 10 before decimals → power ≡ 10 ^ (places - length decimals) → magnitude places whole decimals ≡ all * power
magnitude_from places whole decimals before all power e f g =
    let h = magnitude_is places whole decimals in
    let k = ap (λ (n : ℕ). digits_value_after 10 n decimals) e in
    cc

-- what 64 bits hold is there
pub given : (r : Option ℕ) (v : ℕ) → v < 2 ^ 64 → SomeIff r (v < 2 ^ 64) v → unwrap_or r 0 ≡ v
given None v small h = absurd (h small)
given (Some x) v small h = h.1
