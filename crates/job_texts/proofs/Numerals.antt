-- What a text of digits gives where it is parsed.
use Rattle.std.proofs.Common.{◌≡◌, ◌≢◌, ℕ, ℤ, ◌^◌, ◌-◌, ◌≤◌, ◌<◌, true, false, List, length, drop, Result, Some, None, Ok, Err, rules, refl, inl, inr}
use mir.Syntax.{w64}
use lib.ListN.{get_or}
use Rattle.std.specs.Char.{is_ascii_digit}
use Rattle.std.specs.List.{list_all}
use Rattle.std.specs.Result.{result_ok}
use Rattle.std.specs.Str.Parse.{digits_value, starts_with_minus, ParsesUnsigned, ParsesSigned}
use Rattle.std.proofs.lemmas.Bool.{cases_Bool}
use Rattle.std.proofs.lemmas.Str.Parse.{not_in_digits, parse_digits, parse_signed_minus, parse_signed_plain}
use Rattle.field_values.proofs.Numbers.{own}
use Rattle.job_texts.specs.Group.{are_digits, number_said, without_hyphen, key_said}

pub all_digits : (n : ℕ) (text : List ℕ) → are_digits n text ≡ true → (0 < length text) × (list_all is_ascii_digit text ≡ true)
unfolding are_digits
all_digits n text e = search rules

pub said_within : (n least most : ℕ) (text : List ℕ) → are_digits n text ≡ true → least ≤ digits_value 10 text → digits_value 10 text ≤ most → number_said n least most text ≡ Some (digits_value 10 text)
unfolding number_said
said_within n least most text e low high = search rules

pub said_below : (n least most : ℕ) (text : List ℕ) → digits_value 10 text < least → number_said n least most text ≡ None
unfolding number_said
said_below n least most text low = search rules

pub said_above : (n least most : ℕ) (text : List ℕ) → most < digits_value 10 text → number_said n least most text ≡ None
unfolding number_said
said_above n least most text high = search rules

pub said_other : (n least most : ℕ) (text : List ℕ) → are_digits n text ≡ false → number_said n least most text ≡ None
unfolding number_said
said_other n least most text e = search rules

pub parsed_value : {E : Type 0} (k n : ℕ) (text : List ℕ) (r : Result ℕ E) (value : ℕ) → ParsesUnsigned k 10 text r → r ≡ Ok value → are_digits n text ≡ true → digits_value 10 text ≡ value
parsed_value k n text r value h is e =
    let digits = all_digits n text e in
    let given = parse_digits own k text r h digits.1 in
    search rules

pub unparsed_value : {E : Type 0} (k n : ℕ) (text : List ℕ) (r : Result ℕ E) (err : E) → ParsesUnsigned k 10 text r → r ≡ Err err → are_digits n text ≡ true → 2 ^ k ≤ digits_value 10 text
unparsed_value k n text r err h is e =
    let digits = all_digits n text e in
    let given = parse_digits own k text r h digits.1 in
    search rules

pub parsed_count : {E : Type 0} (text : List ℕ) (r : Result ℕ E) → ParsesUnsigned 64 10 text r → are_digits 20 text ≡ true → result_ok r ≡ number_said 20 0 (2 ^ 64 - 1) text
parsed_count {E = E} text (Ok n) h e =
    let digits = all_digits 20 text e in
    let given = parse_digits own {E = E} 64 text (Ok n) h digits.1 in
    let said : number_said 20 0 (2 ^ 64 - 1) text ≡ Some (digits_value 10 text) = said_within 20 0 (2 ^ 64 - 1) text e (search rules) (search rules) in
    rw said (search rules)
parsed_count text (Err err) h e =
    let digits = all_digits 20 text e in
    let given = parse_digits own 64 text (Err err) h digits.1 in
    let large : 2 ^ 64 - 1 < digits_value 10 text = search rules in
    rw (said_above 20 0 (2 ^ 64 - 1) text large) refl

pub minus_first : (text : List ℕ) → starts_with_minus text ≡ true → get_or text 0 0 ≡ 45
minus_first text e = search rules

pub digit_first : (n : ℕ) (text : List ℕ) → are_digits n text ≡ true → (get_or text 0 0 ≢ 43) × (get_or text 0 0 ≢ 45)
digit_first n text e =
    let digits = all_digits n text e in
    (not_in_digits own text 43 digits.1 (search rules) 0 digits.0, not_in_digits own text 45 digits.1 (search rules) 0 digits.0)

pub parsed_negative : {E : Type 0} (text : List ℕ) (r : Result ℤ E) → ParsesSigned w64 10 text r → starts_with_minus text ≡ true → are_digits 19 (drop 1 text) ≡ true → result_ok r ≡ key_said text
unfolding key_said
parsed_negative {E = E} text (Ok z) h minus e =
    let digits = all_digits 19 (drop 1 text) e in
    let given = parse_signed_minus own {E = E} w64 text (Ok z) h (minus_first text minus) in
    let said : number_said 19 0 (2 ^ 63) (drop 1 text) ≡ Some (digits_value 10 (drop 1 text)) = said_within 19 0 (2 ^ 63) (drop 1 text) e (search rules) given.0.2 in
    rw (minus, said) (search rules)
parsed_negative text (Err err) h minus e =
    let digits = all_digits 19 (drop 1 text) e in
    let given = parse_signed_minus own w64 text (Err err) h (minus_first text minus) in
    let large : 2 ^ 63 < digits_value 10 (drop 1 text) = search rules in
    rw (minus, said_above 19 0 (2 ^ 63) (drop 1 text) large) refl

pub parsed_plain : {E : Type 0} (text : List ℕ) (r : Result ℤ E) → ParsesSigned w64 10 text r → starts_with_minus text ≡ false → are_digits 19 text ≡ true → result_ok r ≡ key_said text
unfolding key_said
parsed_plain {E = E} text (Ok z) h plain e =
    let digits = all_digits 19 text e in
    let first = digit_first 19 text e in
    let given = parse_signed_plain own {E = E} w64 text (Ok z) h first.0 first.1 in
    let said : number_said 19 0 (2 ^ 63 - 1) text ≡ Some (digits_value 10 text) = said_within 19 0 (2 ^ 63 - 1) text e (search rules) (search rules) in
    rw (plain, said) (search rules)
parsed_plain text (Err err) h plain e =
    let digits = all_digits 19 text e in
    let first = digit_first 19 text e in
    let given = parse_signed_plain own w64 text (Err err) h first.0 first.1 in
    let large : 2 ^ 63 - 1 < digits_value 10 text = search rules in
    rw (plain, said_above 19 0 (2 ^ 63 - 1) text large) refl

pub parsed_key : {E : Type 0} (text : List ℕ) (r : Result ℤ E) → ParsesSigned w64 10 text r → are_digits 19 (without_hyphen text) ≡ true → result_ok r ≡ key_said text
parsed_key text r h e = elim (cases_Bool (starts_with_minus text)) [
  | inl minus ↦ parsed_negative text r h minus (rw (minus) at e)
  | inr plain ↦ parsed_plain text r h plain (rw (plain) at e)
]

pub said_no_key : (text : List ℕ) → are_digits 19 (without_hyphen text) ≡ false → key_said text ≡ None
unfolding key_said
said_no_key text e = elim (cases_Bool (starts_with_minus text)) [
  | inl minus ↦ let other : are_digits 19 (drop 1 text) ≡ false = rw minus at e in rw (minus, said_other 19 0 (2 ^ 63) (drop 1 text) other) refl
  | inr plain ↦ let other : are_digits 19 text ≡ false = rw plain at e in rw (plain, said_other 19 0 (2 ^ 63 - 1) text other) refl
]
