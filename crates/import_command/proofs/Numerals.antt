-- What digits give where they are parsed.
use Rattle.std.proofs.Common.{◌≡◌, ℕ, ◌^◌, ◌-◌, ◌<◌, true, false, List, length, Result, Some, None, Ok, Err, rules, refl}
use Rattle.std.specs.Char.{is_ascii_digit}
use Rattle.std.specs.List.{list_all}
use Rattle.std.specs.Result.{result_ok}
use Rattle.std.specs.Str.Parse.{digits_value, ParsesUnsigned}
use Rattle.std.proofs.lemmas.Str.Parse.{parse_digits}
use Rattle.field_values.specs.Digits.{are_digits}
use Rattle.field_values.proofs.Numbers.{own}
use Rattle.import_command.specs.Numbers.{number_said}

all_digits : (text : List ℕ) → are_digits text ≡ true → (0 < length text) × (list_all is_ascii_digit text ≡ true)
unfolding are_digits
all_digits text e = search rules

said_within : (text : List ℕ) → are_digits text ≡ true → digits_value 10 text < 2 ^ 64 → number_said text ≡ Some (digits_value 10 text)
unfolding number_said
said_within text e low = search rules

said_above : (text : List ℕ) → 2 ^ 64 - 1 < digits_value 10 text → number_said text ≡ None
unfolding number_said
said_above text high = search rules

pub said_other : (text : List ℕ) → are_digits text ≡ false → number_said text ≡ None
unfolding number_said
said_other text e = search rules

pub parsed_number : {E : Type 0} (text : List ℕ) (r : Result ℕ E) → ParsesUnsigned 64 10 text r → are_digits text ≡ true → result_ok r ≡ number_said text
parsed_number {E = E} text (Ok n) h e =
    let digits = all_digits text e in
    let given = parse_digits own {E = E} 64 text (Ok n) h digits.1 in
    let said : number_said text ≡ Some (digits_value 10 text) = said_within text e (search rules) in
    rw said (search rules)
parsed_number text (Err err) h e =
    let digits = all_digits text e in
    let given = parse_digits own 64 text (Err err) h digits.1 in
    let large : 2 ^ 64 - 1 < digits_value 10 text = search rules in
    rw (said_above text large) refl
