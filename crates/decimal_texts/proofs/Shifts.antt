-- Digits that are cut off at the end, and what is left of the number.
use Rattle.std.proofs.Common.{◌≡◌, ℕ, ◌+◌, ◌-◌, ◌*◌, ◌/◌, ◌%◌, ◌^◌, ◌<◌, ◌≤◌, ◌⊎◌, ◌&&◌, Bool, true, false, Option, Some, None, eqb, List, [], ◌∷◌, ◌++◌, length, take, drop, arith, refl, sym, ap, ◌∙◌, inl, inr, append_assoc, length-append, length-drop}
use Rattle.std.proofs.lemmas.Bool.{and_parts, false≢true, eqb-true, cases_lt}
use Rattle.std.proofs.lemmas.Bool.Decides.{nat_tests, eqb_tells}
use Rattle.std.proofs.lemmas.List.{take-append-drop, take_all, drop_all, append-nil}
use Rattle.std.proofs.lemmas.List.Folds.{list_all-append}
use Rattle.std.proofs.lemmas.Nat.{pow-add, div-mul-add, mod-mul-add}
use Rattle.std.proofs.Math.Nat.{mul-le-mul_right, one-le-pow, pow-succ', pow-le-pow_right, mul-lt-mul_of_pos_right}
use Rattle.std.specs.Char.{is_ascii_digit, digit_value}
use Rattle.std.specs.List.{list_all}
use Rattle.std.specs.Str.Parse.{digits_value, digits_value_after}
use Rattle.field_values.proofs.Numbers.{after_value, after_joined, after_at_least, value_below, power_at_least}
use Rattle.std.specs.Option.{SomeIff}
use Rattle.std.proofs.Common.{ok_or, ltb}
use Rattle.field_values.specs.declared.fault.FieldFault.TheVariants.{TooLarge}
use Rattle.decimal_texts.specs.Exact.{exact_quotient, held}

pub both_value : (xs ys : List ℕ) → digits_value 10 (xs ++ ys) ≡ digits_value 10 xs * 10 ^ length ys + digits_value 10 ys
both_value xs ys = after_joined 0 xs ys ∙ after_value (digits_value 10 xs) ys

-- zeros write 0
pub zeros_value : (ds : List ℕ) → list_all (λ b. eqb b 48) ds ≡ true → digits_value 10 ds ≡ 0
zeros_value [] h = refl
zeros_value (d ∷ ds) h =
    let parts = and_parts (eqb d 48) (list_all (λ b. eqb b 48) ds) h in
    let none : digit_value d ≡ 0 = ap digit_value (eqb-true d 48 parts.0) in
    ap (λ (k : ℕ). digits_value_after 10 (0 * 10 + k) ds) none ∙ zeros_value ds parts.1

digit_some : (d : ℕ) → is_ascii_digit d ≡ true → eqb d 48 ≡ false → 0 < digit_value d
digit_some d h other = grind (arith, nat_tests)

-- and other digits do not
pub others_value : (ds : List ℕ) → list_all is_ascii_digit ds ≡ true → list_all (λ b. eqb b 48) ds ≡ false → 0 < digits_value 10 ds
others_value [] h other = absurd (false≢true (sym other))
others_value (d ∷ ds) h other =
    let parts = and_parts (is_ascii_digit d) (list_all is_ascii_digit ds) h in
    elim (eqb_tells d 48) [
      | inl zero ↦
          let none : digit_value d ≡ 0 = ap digit_value zero.1 in
          let rest : list_all (λ b. eqb b 48) ds ≡ false = ap (λ (b : Bool). b && list_all (λ b. eqb b 48) ds) (sym zero.0) ∙ other in
          let more = others_value ds parts.1 rest in
          omega (arith, ap (λ (k : ℕ). digits_value_after 10 (0 * 10 + k) ds) none)
      | inr some ↦ omega (arith, digit_some d parts.0 some.0, after_at_least (0 * 10 + digit_value d) ds)
    ]

powers_same : (up down : ℕ) → 10 ^ (down - up) * 10 ^ up ≡ 10 ^ (up - down) * 10 ^ down
powers_same up down =
    let e : (down - up) + up ≡ (up - down) + down = omega arith in
    sym (pow-add 10 (down - up) up) ∙ ap (λ (k : ℕ). 10 ^ k) e ∙ pow-add 10 (up - down) down

pub quotient_whole : (n up down a : ℕ) → n ≡ a * 10 ^ (down - up) → exact_quotient n up down ≡ Some (a * 10 ^ (up - down))
unfolding exact_quotient
quotient_whole n up down a e =
    let ten : 0 < 10 = omega arith in
    let some : 0 < 10 ^ down = one-le-pow down 10 ten in
    let all : n * 10 ^ up ≡ (a * 10 ^ (up - down)) * 10 ^ down + 0
    = omega (arith, ap (λ (k : ℕ). k * 10 ^ up) e, ap (λ (k : ℕ). a * k) (powers_same up down)) in
    let left = ap (λ (k : ℕ). k % 10 ^ down) all ∙ mod-mul-add (a * 10 ^ (up - down)) (10 ^ down) 0 some in
    let quotient = ap (λ (k : ℕ). k / 10 ^ down) all ∙ div-mul-add (a * 10 ^ (up - down)) (10 ^ down) 0 some in
    rw (left, quotient) refl

order_of : (up down b : ℕ) → 0 < b → b < 10 ^ (down - up) → up ≤ down
order_of up down b some small = elim (cases_lt down up) [
  | inl less ↦
      let none : down - up ≡ 0 = omega arith in
      let power : 10 ^ (down - up) ≡ 1 = ap (λ (k : ℕ). 10 ^ k) none in
      absurd (omega arith)
  | inr least ↦ least
]

pub quotient_left : (n up down a b : ℕ) → n ≡ a * 10 ^ (down - up) + b → 0 < b → b < 10 ^ (down - up) → exact_quotient n up down ≡ None
unfolding exact_quotient
quotient_left n up down a b e some small =
    let ten : 0 < 10 = omega arith in
    let power : 0 < 10 ^ up = one-le-pow up 10 ten in
    let same = powers_same up down in
    let less : up ≤ down = order_of up down b some small in
    let one_power : 10 ^ (up - down) ≡ 1 = ap (λ (k : ℕ). 10 ^ k) (let z : up - down ≡ 0 = omega arith in z) in
    let rest : b * 10 ^ up < 10 ^ (down - up) * 10 ^ up = mul-lt-mul_of_pos_right small power in
    let below : b * 10 ^ up < 10 ^ down = omega (arith, ap (λ (k : ℕ). k * 10 ^ down) one_power) in
    let all : n * 10 ^ up ≡ a * 10 ^ down + b * 10 ^ up
    = omega (arith, ap (λ (k : ℕ). k * 10 ^ up) e, ap (λ (k : ℕ). a * k) same, ap (λ (k : ℕ). a * (k * 10 ^ down)) one_power) in
    let left : (n * 10 ^ up) % 10 ^ down ≡ b * 10 ^ up = ap (λ (k : ℕ). k % 10 ^ down) all ∙ mod-mul-add a (10 ^ down) (b * 10 ^ up) below in
    let more : b ≤ b * 10 ^ up = power_at_least b up in
    let other : eqb ((n * 10 ^ up) % 10 ^ down) 0 ≡ false = grind (arith, nat_tests) in
    rw other refl

pub kept_digits : (ds : List ℕ) (n : ℕ) → list_all is_ascii_digit ds ≡ true → (list_all is_ascii_digit (take n ds) ≡ true) × (list_all is_ascii_digit (drop n ds) ≡ true)
kept_digits ds n h =
    let parts = sym (list_all-append is_ascii_digit (take n ds) (drop n ds)) ∙ ap (list_all is_ascii_digit) (take-append-drop n ds) ∙ h in
    and_parts (list_all is_ascii_digit (take n ds)) (list_all is_ascii_digit (drop n ds)) parts

joined_digits : (xs ys : List ℕ) → list_all is_ascii_digit xs ≡ true → list_all is_ascii_digit ys ≡ true → list_all is_ascii_digit (xs ++ ys) ≡ true
joined_digits xs ys h k = rw (list_all-append is_ascii_digit xs ys, h) k

-- digits with so many others behind them, or none before fewer
parted : (xs ys : List ℕ) (c : ℕ) → list_all is_ascii_digit ys ≡ true → (length ys ≡ c) ⊎ ((digits_value 10 xs ≡ 0) × (length ys ≤ c)) → (digits_value 10 (xs ++ ys) ≡ digits_value 10 xs * 10 ^ c + digits_value 10 ys) × (digits_value 10 ys < 10 ^ c)
parted xs ys c h (inl e) =
    (both_value xs ys ∙ ap (λ (k : ℕ). digits_value 10 xs * 10 ^ k + digits_value 10 ys) e, omega (arith, value_below ys h, ap (λ (k : ℕ). 10 ^ k) e))
parted xs ys c h (inr none) =
    let ten : 0 < 10 = omega arith in
    let power : 10 ^ length ys ≤ 10 ^ c = pow-le-pow_right ten none.1 in
    (omega (arith, both_value xs ys, ap (λ (k : ℕ). k * 10 ^ length ys) none.0, ap (λ (k : ℕ). k * 10 ^ c) none.0), omega (arith, value_below ys h))

abbrev Cuts : List ℕ → List ℕ → List ℕ → List ℕ → List ℕ → ℕ → Type 0
Cuts all front front_rest back back_rest c =
    (digits_value 10 all ≡ digits_value 10 (front ++ back) * 10 ^ c + digits_value 10 (front_rest ++ back_rest)) × (digits_value 10 (front_rest ++ back_rest) < 10 ^ c)

within_decimals : (whole decimals : List ℕ) (c : ℕ) → list_all is_ascii_digit decimals ≡ true → c ≤ length decimals → Cuts (whole ++ decimals) whole [] (take (length decimals - c) decimals) (drop (length decimals - c) decimals) c
within_decimals whole decimals c h few =
    let j = length decimals - c in
    let size : length (drop j decimals) ≡ c = omega (arith, length-drop j decimals) in
    let p = parted (whole ++ take j decimals) (drop j decimals) c (kept_digits decimals j h).1 (inl size) in
    let e : (whole ++ take j decimals) ++ drop j decimals ≡ whole ++ decimals = append_assoc whole (take j decimals) (drop j decimals) ∙ ap (λ (l : List ℕ). whole ++ l) (take-append-drop j decimals) in
    (ap (digits_value 10) (sym e) ∙ p.0, p.1)

last_many : (whole decimals : List ℕ) (c : ℕ) → length decimals ≤ c → (length (drop (length whole - (c - length decimals)) whole ++ decimals) ≡ c) ⊎ ((digits_value 10 (take (length whole - (c - length decimals)) whole) ≡ 0) × (length (drop (length whole - (c - length decimals)) whole ++ decimals) ≤ c))
last_many whole decimals c many =
    let i = length whole - (c - length decimals) in
    let size = length-drop i whole in
    let joined = length-append (drop i whole) decimals in
    elim (cases_lt (length whole) (c - length decimals)) [
      | inl over ↦
          let none : i ≡ 0 = omega arith in
          inr (ap (λ (k : ℕ). digits_value 10 (take k whole)) none, omega arith)
      | inr within ↦ inl (omega arith)
    ]

into_whole : (whole decimals : List ℕ) (c : ℕ) → list_all is_ascii_digit whole ≡ true → list_all is_ascii_digit decimals ≡ true → length decimals ≤ c → Cuts (whole ++ decimals) (take (length whole - (c - length decimals)) whole) (drop (length whole - (c - length decimals)) whole) [] decimals c
into_whole whole decimals c g h many =
    let i = length whole - (c - length decimals) in
    let p = parted (take i whole) (drop i whole ++ decimals) c (joined_digits (drop i whole) decimals (kept_digits whole i g).1 h) (last_many whole decimals c many) in
    let e : take i whole ++ (drop i whole ++ decimals) ≡ whole ++ decimals = sym (append_assoc (take i whole) (drop i whole) decimals) ∙ ap (λ (l : List ℕ). l ++ decimals) (take-append-drop i whole) in
    let front : digits_value 10 (take i whole ++ []) * 10 ^ c ≡ digits_value 10 (take i whole) * 10 ^ c = ap (λ (l : List ℕ). digits_value 10 l * 10 ^ c) (append-nil (take i whole)) in
    (omega (arith, ap (digits_value 10) (sym e), p.0), p.1)

-- the last digits of both are cut off, of the decimals first
cuts : (whole decimals : List ℕ) (c : ℕ) → list_all is_ascii_digit whole ≡ true → list_all is_ascii_digit decimals ≡ true → Cuts (whole ++ decimals) (take (length whole - (c - length decimals)) whole) (drop (length whole - (c - length decimals)) whole) (take (length decimals - c) decimals) (drop (length decimals - c) decimals) c
cuts whole decimals c g h = elim (cases_lt (length decimals) c) [
  | inl many ↦
      let none : length decimals - c ≡ 0 = omega arith in
      rw none (into_whole whole decimals c g h (omega arith))
  | inr few ↦
      let whole_there : take (length whole - (c - length decimals)) whole ≡ whole = take_all (length whole - (c - length decimals)) whole (omega arith) in
      let none_left : drop (length whole - (c - length decimals)) whole ≡ [] = drop_all (length whole - (c - length decimals)) whole (omega arith) in
      rw (whole_there, none_left) (within_decimals whole decimals c h few)
]

abbrev zeros : List ℕ → Bool
zeros ds = list_all (λ b. eqb b 48) ds

quotient_there : (whole decimals : List ℕ) (up down : ℕ) → list_all is_ascii_digit whole ≡ true → list_all is_ascii_digit decimals ≡ true → zeros (drop (length whole - ((down - up) - length decimals)) whole) ≡ true → zeros (drop (length decimals - (down - up)) decimals) ≡ true → exact_quotient (digits_value 10 (whole ++ decimals)) up down ≡ Some (digits_value 10 (take (length whole - ((down - up) - length decimals)) whole ++ take (length decimals - (down - up)) decimals) * 10 ^ (up - down))
quotient_there whole decimals up down g h z1 z2 =
    let c = down - up in
    let fr = drop (length whole - (c - length decimals)) whole in
    let br = drop (length decimals - c) decimals in
    let p = cuts whole decimals c g h in
    let z : zeros (fr ++ br) ≡ true = rw (list_all-append (λ b. eqb b 48) fr br, z1) z2 in
    let none = zeros_value (fr ++ br) z in
    quotient_whole (digits_value 10 (whole ++ decimals)) up down (digits_value 10 (take (length whole - (c - length decimals)) whole ++ take (length decimals - c) decimals)) (omega (arith, p.0, none))

quotient_gone : (whole decimals : List ℕ) (up down : ℕ) → list_all is_ascii_digit whole ≡ true → list_all is_ascii_digit decimals ≡ true → (zeros (drop (length whole - ((down - up) - length decimals)) whole) && zeros (drop (length decimals - (down - up)) decimals)) ≡ false → exact_quotient (digits_value 10 (whole ++ decimals)) up down ≡ None
quotient_gone whole decimals up down g h other =
    let c = down - up in
    let i = length whole - (c - length decimals) in
    let j = length decimals - c in
    let p = cuts whole decimals c g h in
    let rest : zeros (drop i whole ++ drop j decimals) ≡ false = list_all-append (λ b. eqb b 48) (drop i whole) (drop j decimals) ∙ other in
    let some = others_value (drop i whole ++ drop j decimals) (joined_digits (drop i whole) (drop j decimals) (kept_digits whole i g).1 (kept_digits decimals j h).1) rest in
    quotient_left (digits_value 10 (whole ++ decimals)) up down (digits_value 10 (take i whole ++ take j decimals)) (digits_value 10 (drop i whole ++ drop j decimals)) p.0 some p.1

-- the same of parts that are so
pub record Parts (whole decimals front front_rest back back_rest : List ℕ) (up down : ℕ) : Type 0 where
  pub front_is : front ≡ take (length whole - ((down - up) - length decimals)) whole
  pub front_rest_is : front_rest ≡ drop (length whole - ((down - up) - length decimals)) whole
  pub back_is : back ≡ take (length decimals - (down - up)) decimals
  pub back_rest_is : back_rest ≡ drop (length decimals - (down - up)) decimals

pub magnitude_there : (whole decimals front front_rest back back_rest : List ℕ) (up down : ℕ) → Parts whole decimals front front_rest back back_rest up down → list_all is_ascii_digit whole ≡ true → list_all is_ascii_digit decimals ≡ true → zeros front_rest ≡ true → zeros back_rest ≡ true → exact_quotient (digits_value 10 (whole ++ decimals)) up down ≡ Some (digits_value 10 (front ++ back) * 10 ^ (up - down))
magnitude_there whole decimals front front_rest back back_rest up down parts g h z1 z2 =
    let q = quotient_there whole decimals up down g h (ap zeros (sym parts.front_rest_is) ∙ z1) (ap zeros (sym parts.back_rest_is) ∙ z2) in
    let e : front ++ back ≡ take (length whole - ((down - up) - length decimals)) whole ++ take (length decimals - (down - up)) decimals = ap (λ (l : List ℕ). l ++ back) parts.front_is ∙ ap (λ (l : List ℕ). take (length whole - ((down - up) - length decimals)) whole ++ l) parts.back_is in
    q ∙ ap (λ (l : List ℕ). Some (digits_value 10 l * 10 ^ (up - down))) (sym e)

pub magnitude_gone : (whole decimals front front_rest back back_rest : List ℕ) (up down : ℕ) → Parts whole decimals front front_rest back back_rest up down → list_all is_ascii_digit whole ≡ true → list_all is_ascii_digit decimals ≡ true → (zeros front_rest && zeros back_rest) ≡ false → exact_quotient (digits_value 10 (whole ++ decimals)) up down ≡ None
magnitude_gone whole decimals front front_rest back back_rest up down parts g h other =
    quotient_gone whole decimals up down g h (ap (λ (l : List ℕ). zeros l && zeros (drop (length decimals - (down - up)) decimals)) (sym parts.front_rest_is) ∙ ap (λ (l : List ℕ). zeros front_rest && zeros l) (sym parts.back_rest_is) ∙ other)

-- a power of ten that is over 64 bits
pub twenty_places : (places : ℕ) → 19 < places → 2 ^ 64 ≤ 10 ^ places
twenty_places places many =
    let ten : 0 < 10 = omega arith in
    let least : 20 ≤ places = omega arith in
    let power : 10 ^ 20 ≤ 10 ^ places = pow-le-pow_right ten least in
    omega arith

pub too_many_places : (n places : ℕ) → 0 < n → 19 < places → 2 ^ 64 ≤ n * 10 ^ places
too_many_places n places some many =
    let power = twenty_places places many in
    let one : 1 ≤ n = omega arith in
    let least : 1 * 10 ^ places ≤ n * 10 ^ places = mul-le-mul_right (10 ^ places) one in
    omega arith

-- what 64 bits hold is there, and else it is too large
pub held_is : (r : Option ℕ) (n : ℕ) → SomeIff r (n < 2 ^ 64) n → ok_or r TooLarge ≡ held (Some n)
held_is None n s =
    let over : ltb n (2 ^ 64) ≡ false = grind (arith, nat_tests) in
    rw over refl
held_is (Some x) n s =
    let within : ltb n (2 ^ 64) ≡ true = grind (arith, nat_tests) in
    rw (within, s.1) refl
