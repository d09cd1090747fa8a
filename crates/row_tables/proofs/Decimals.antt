-- Decimals read as their numbers.
use Rattle.std.proofs.Common.{◌≡◌, ℕ, zero, suc, ◌+◌, ◌-◌, ◌*◌, ◌/◌, ◌%◌, ◌^◌, ◌<◌, ◌≤◌, ℤ, pos, negsuc, Bool, true, false, ◌&&◌, ◌||◌, not, cond, eqb, ltb, List, [], ◌∷◌, ◌++◌, length, take, drop, Option, None, Some, Ok, Err, ok_or, FitsSigned, inl, inr, if◌then◌else◌, arith, rules, refl, sym, ap, subst, ◌∙◌, append-nil, length-append}
use Rattle.std.proofs.lemmas.Bool.{and_parts, or_right, cases_lt, lt-ltb, le-ltb, le-leb, lt-leb}
use Rattle.std.proofs.lemmas.Bool.Decides.{nat_tests}
use Rattle.std.proofs.lemmas.Fmt.{decimal_is_IsNumeral, length-decimal-le}
use Rattle.std.proofs.lemmas.List.Folds.{list_all-append}
use Rattle.std.proofs.Math.Nat.{one-le-pow, pow-le-pow_right, pow-succ', div-add-mod, div-le_self, mod-lt}
use Rattle.std.proofs.Math.Seq.{take-append_seam, drop-append_seam}
use Rattle.std.specs.Char.{is_ascii_digit, digit_value}
use Rattle.std.specs.Fmt.{decimal}
use Rattle.std.specs.Int.{w64}
use Rattle.std.specs.List.{list_all, position_or_len}
use Rattle.std.specs.Str.Parse.{digits_value, digits_value_after, starts_with_minus}
use Rattle.field_values.proofs.Numbers.{own, after_value, after_joined, value_below}
use Rattle.field_values.specs.Decimals.{is_point, scaled_said, whole_digits, decimal_digits, from_point, is_decimal, magnitude, signed, without_minus}
use Rattle.field_values.specs.Digits.{are_digits, is_fraction}
use Rattle.field_values.specs.declared.fault.FieldFault.TheVariants.{NoNumber, MorePlaces, TooLarge}
use Rattle.row_tables.specs.Decimals.{decimal_text, is_decimal_byte, part_digits, size_text}

decimal_digits_are : (n : ℕ) → n < 2 ^ 64 → list_all is_ascii_digit (decimal n) ≡ true
decimal_digits_are n h = own.from (decimal n) (decimal_is_IsNumeral n h).0.1

-- as many digits as there are places, that write a part
record IsPart (places part : ℕ) (ds : List ℕ) : Type 0 where
  digits : list_all is_ascii_digit ds ≡ true
  long : length ds ≡ places
  value : digits_value 10 ds ≡ part

one_digit : (k q v r : ℕ) → k * q + v ≡ q + r → v < q → r < q → v ≡ r
one_digit zero q v r e a b = absurd (omega (arith, e, a))
one_digit (suc zero) q v r e a b = omega (arith, e)
one_digit (suc (suc k)) q v r e a b = absurd (omega (arith, e, a, b))

part_from : (places part : ℕ) (ds : List ℕ) → list_all is_ascii_digit ds ≡ true → digits_value 10 ds ≡ 10 ^ places + part → part < 10 ^ places → length ds ≤ suc places → IsPart places part (drop 1 ds)
part_from places part [] h value small few = absurd (omega (arith, value, small))
part_from places part (d ∷ ds) h value small few =
    let parts = and_parts (is_ascii_digit d) (list_all is_ascii_digit ds) h in
    let split : digits_value 10 (d ∷ ds) ≡ (0 * 10 + digit_value d) * 10 ^ length ds + digits_value 10 ds = after_value (0 * 10 + digit_value d) ds in
    let below : digits_value 10 (d ∷ ds) < 10 ^ length (d ∷ ds) = value_below (d ∷ ds) h in
    let long : length ds ≡ places = elim (cases_lt (length ds) places) [
      | inl less ↦
          let high : 10 ^ length (d ∷ ds) ≤ 10 ^ places = pow-le-pow_right (omega arith) (omega (arith, less)) in
          absurd (omega (arith, value, below, high))
      | inr most ↦ omega (arith, most, few)
    ] in
    let rest : digits_value 10 ds < 10 ^ places = subst (λ k. digits_value 10 ds < 10 ^ k) long (value_below ds parts.1) in
    let first = 0 * 10 + digit_value d in
    let all : first * 10 ^ places + digits_value 10 ds ≡ 10 ^ places + part = subst (λ k. first * 10 ^ k + digits_value 10 ds ≡ 10 ^ places + part) long (sym split ∙ value) in
    record { digits = parts.1; long = long; value = one_digit first (10 ^ places) (digits_value 10 ds) part all rest small }

part_is : (places part : ℕ) → places ≤ 18 → part < 10 ^ places → IsPart places part (part_digits (10 ^ places) part)
part_is places part few small =
    let high : 10 ^ places ≤ 10 ^ 18 = pow-le-pow_right (omega arith) few in
    let all : 10 ^ places + part < 2 ^ 64 = omega (arith, high, small) in
    let wide : 10 ^ places + part < 10 ^ suc places = omega (arith, small, pow-succ' 10 places) in
    part_from places part (decimal (10 ^ places + part)) (decimal_digits_are (10 ^ places + part) all) (decimal_is_IsNumeral (10 ^ places + part) all).1 small (length-decimal-le (suc places) (10 ^ places + part) (omega arith) wide all)

not_point : (c : ℕ) → is_ascii_digit c ≡ true → eqb c 46 ≡ false
not_point c h = grind (arith, nat_tests)

not_minus : (c : ℕ) → is_ascii_digit c ≡ true → eqb c 45 ≡ false
not_minus c h = grind (arith, nat_tests)

point_step : (c : ℕ) (xs : List ℕ) → is_ascii_digit c ≡ true → position_or_len is_point (c ∷ xs) ≡ 1 + position_or_len is_point xs
point_step c xs h = ap (λ (b : Bool). cond (not b) (1 + position_or_len is_point xs) 0) (not_point c h)

-- the first point stands behind the digits
point_at : (whole rest : List ℕ) → list_all is_ascii_digit whole ≡ true → position_or_len is_point rest ≡ 0 → position_or_len is_point (whole ++ rest) ≡ length whole
point_at [] rest h none = none
point_at (c ∷ whole) rest h none =
    let parts = and_parts (is_ascii_digit c) (list_all is_ascii_digit whole) h in
    omega (arith, point_step c (whole ++ rest) parts.0, point_at whole rest parts.1 none)

no_minus : (whole rest : List ℕ) → 0 < length whole → list_all is_ascii_digit whole ≡ true → starts_with_minus (whole ++ rest) ≡ false
no_minus [] rest some h = absurd (omega (arith, some))
no_minus (c ∷ whole) rest some h = not_minus c (and_parts (is_ascii_digit c) (list_all is_ascii_digit whole) h).0

-- what a text says whose parts are known
says : (places : ℕ) (negative : Bool) (text whole rest : List ℕ) (n : ℕ) → without_minus text ≡ whole ++ rest → starts_with_minus text ≡ negative → position_or_len is_point (whole ++ rest) ≡ length whole → are_digits whole ≡ true → is_fraction rest ≡ true
    → length (drop 1 rest) ≤ places → magnitude places whole (drop 1 rest) ≡ n → scaled_said places text ≡ ok_or (signed negative n) TooLarge
unfolding scaled_said whole_digits from_point decimal_digits is_decimal
says places negative text whole rest n plain minus point digits fraction few value =
    let place : position_or_len is_point (without_minus text) ≡ length whole = ap (position_or_len is_point) plain ∙ point in
    let front : whole_digits text ≡ whole = ap (λ k. take k (without_minus text)) place ∙ ap (take (length whole)) plain ∙ take-append_seam whole rest in
    let back : from_point text ≡ rest = ap (λ k. drop k (without_minus text)) place ∙ ap (drop (length whole)) plain ∙ drop-append_seam whole rest in
    let tested : is_decimal text ≡ true = ap (λ l. are_digits l && is_fraction (from_point text)) front ∙ ap (λ l. are_digits whole && is_fraction l) back ∙ ap (λ (b : Bool). b && is_fraction rest) digits ∙ fraction in
    let short : ltb places (length (decimal_digits text)) ≡ false = ap (λ l. ltb places (length (drop 1 l))) back ∙ le-ltb places (length (drop 1 rest)) few in
    let size : magnitude places (whole_digits text) (decimal_digits text) ≡ n = ap (λ l. magnitude places l (decimal_digits text)) front ∙ ap (λ l. magnitude places whole (drop 1 l)) back ∙ value in
    ap (λ (b : Bool). if not b then Err NoNumber else if ltb places (length (decimal_digits text)) then Err MorePlaces else ok_or (signed (starts_with_minus text) (magnitude places (whole_digits text) (decimal_digits text))) TooLarge) tested
    ∙ ap (λ (b : Bool). if b then Err MorePlaces else ok_or (signed (starts_with_minus text) (magnitude places (whole_digits text) (decimal_digits text))) TooLarge) short
    ∙ ap (λ (b : Bool). ok_or (signed b (magnitude places (whole_digits text) (decimal_digits text))) TooLarge) minus ∙ ap (λ m. ok_or (signed negative m) TooLarge) size

digits_some : (ds : List ℕ) → 0 < length ds → list_all is_ascii_digit ds ≡ true → are_digits ds ≡ true
unfolding are_digits
digits_some ds some h = ap (λ (b : Bool). b && list_all is_ascii_digit ds) (lt-ltb 0 (length ds) some) ∙ h

no_fraction : is_fraction [] ≡ true
unfolding is_fraction
no_fraction = refl

fraction_some : (ds : List ℕ) → are_digits ds ≡ true → is_fraction (46 ∷ ds) ≡ true
unfolding is_fraction
fraction_some ds h = or_right (eqb (length (46 ∷ ds)) 0) (are_digits ds) h

size_of : (places whole part n : ℕ) (ds es : List ℕ) → digits_value 10 ds ≡ whole → IsPart places part es → 10 ^ places * whole + part ≡ n → magnitude places ds es ≡ n
unfolding magnitude
size_of places whole part n ds es value is all =
    let none : places - length es ≡ 0 = omega (arith, is.long) in
    let joined : digits_value 10 (ds ++ es) ≡ digits_value 10 ds * 10 ^ length es + digits_value 10 es = after_joined 0 ds es ∙ after_value (digits_value 10 ds) es in
    let size : digits_value 10 (ds ++ es) ≡ n = joined ∙ ap (λ k. digits_value 10 ds * 10 ^ k + digits_value 10 es) is.long ∙ ap (λ k. k * 10 ^ places + digits_value 10 es) value ∙ ap (λ k. whole * 10 ^ places + k) is.value ∙ omega (arith, all) in
    omega (arith, ap (λ k. digits_value 10 (ds ++ es) * 10 ^ k) none, size)

-- what the text of a size says, behind a hyphen or none
size_says : (places : ℕ) (negative : Bool) (text : List ℕ) (n : ℕ) → places ≤ 18 → n < 2 ^ 64 → without_minus text ≡ size_text places n → starts_with_minus text ≡ negative → scaled_said places text ≡ ok_or (signed negative n) TooLarge
size_says zero negative text n few small plain minus =
    let digits = decimal_digits_are n small in
    let is = decimal_is_IsNumeral n small in
    says 0 negative text (decimal n) [] n (plain ∙ sym (append-nil (decimal n))) minus (point_at (decimal n) [] digits refl) (digits_some (decimal n) is.0.0 digits) no_fraction (omega arith)
    (size_of 0 n 0 n (decimal n) [] is.1 (record { digits = refl; long = refl; value = refl }) (omega arith))
size_says (suc p) negative text n few small plain minus =
    let scale = 10 ^ suc p in
    let some : 0 < scale = one-le-pow (suc p) 10 (omega arith) in
    let whole = n / scale in
    let part = n % scale in
    let all : scale * whole + part ≡ n = div-add-mod n scale in
    let less : whole < 2 ^ 64 = omega (arith, small, div-le_self n scale) in
    let digits = decimal_digits_are whole less in
    let is = decimal_is_IsNumeral whole less in
    let ds = part_digits scale part in
    let is_part = part_is (suc p) part few (mod-lt n some) in
    says (suc p) negative text (decimal whole) (46 ∷ ds) n plain minus (point_at (decimal whole) (46 ∷ ds) digits refl) (digits_some (decimal whole) is.0.0 digits)
    (fraction_some ds (digits_some ds (omega (arith, is_part.long)) is_part.digits)) (omega (arith, is_part.long)) (size_of (suc p) whole part n (decimal whole) ds is.1 is_part all)

size_starts : (places n : ℕ) → n < 2 ^ 64 → starts_with_minus (size_text places n) ≡ false
size_starts zero n small = subst (λ l. starts_with_minus l ≡ false) (append-nil (decimal n)) (no_minus (decimal n) [] (decimal_is_IsNumeral n small).0.0 (decimal_digits_are n small))
size_starts (suc p) n small =
    let whole = n / 10 ^ suc p in
    let less : whole < 2 ^ 64 = omega (arith, small, div-le_self n (10 ^ suc p)) in
    no_minus (decimal whole) (46 ∷ part_digits (10 ^ suc p) (n % 10 ^ suc p)) (decimal_is_IsNumeral whole less).0.0 (decimal_digits_are whole less)

without_none : (text : List ℕ) → starts_with_minus text ≡ false → without_minus text ≡ text
without_none text h = ap (λ (b : Bool). if b then drop 1 text else text) h

signed_plain : (n : ℕ) → n < 2 ^ 63 → signed false n ≡ Some (pos n)
signed_plain n small = ap (λ (b : Bool). if b then Some (pos n) else None) (lt-ltb n (2 ^ 63) small)

signed_minus : (n : ℕ) → suc n ≤ 2 ^ 63 → signed true (suc n) ≡ Some (negsuc n)
signed_minus n small = ap (λ (b : Bool). if b then Some (negsuc n) else None) (le-leb (suc n) (2 ^ 63) small)

-- a decimal of 64 bits reads as the number
pub reads : (places : ℕ) (z : ℤ) → places ≤ 18 → FitsSigned w64 z → scaled_said places (decimal_text places z) ≡ Ok z
reads places (pos n) few fits =
    let small : n < 2 ^ 63 = omega (arith, fits) in
    let starts = size_starts places n (omega (arith, small)) in
    size_says places false (size_text places n) n few (omega (arith, small)) (without_none (size_text places n) starts) starts ∙ ap (λ o. ok_or o TooLarge) (signed_plain n small)
reads places (negsuc n) few fits =
    let small : suc n ≤ 2 ^ 63 = omega (arith, fits) in
    size_says places true (45 ∷ size_text places (suc n)) (suc n) few (omega (arith, small)) refl refl ∙ ap (λ o. ok_or o TooLarge) (signed_minus n small)

digits_plain : (ds : List ℕ) → list_all is_ascii_digit ds ≡ true → list_all is_decimal_byte ds ≡ true
digits_plain [] h = refl
digits_plain (d ∷ ds) h =
    let parts = and_parts (is_ascii_digit d) (list_all is_ascii_digit ds) h in
    ap (λ (b : Bool). (b || eqb d 46 || eqb d 45) && list_all is_decimal_byte ds) parts.0 ∙ digits_plain ds parts.1

size_plain : (places n : ℕ) → places ≤ 18 → n < 2 ^ 64 → list_all is_decimal_byte (size_text places n) ≡ true
size_plain zero n few small = digits_plain (decimal n) (decimal_digits_are n small)
size_plain (suc p) n few small =
    let scale = 10 ^ suc p in
    let some : 0 < scale = one-le-pow (suc p) 10 (omega arith) in
    let less : n / scale < 2 ^ 64 = omega (arith, small, div-le_self n scale) in
    let part = part_is (suc p) (n % scale) few (mod-lt n some) in
    list_all-append is_decimal_byte (decimal (n / scale)) (46 ∷ part_digits scale (n % scale))
    ∙ ap (λ (b : Bool). b && list_all is_decimal_byte (46 ∷ part_digits scale (n % scale))) (digits_plain (decimal (n / scale)) (decimal_digits_are (n / scale) less))
    ∙ digits_plain (part_digits scale (n % scale)) part.digits

-- and has no other bytes
pub is_plain : (places : ℕ) (z : ℤ) → places ≤ 18 → FitsSigned w64 z → list_all is_decimal_byte (decimal_text places z) ≡ true
is_plain places (pos n) few fits = size_plain places n few (omega (arith, fits))
is_plain places (negsuc n) few fits = size_plain places (suc n) few (omega (arith, fits))
