-- A clock with a zone behind it is a time without a fraction.
use Rattle.std.proofs.Common.{◌≡◌, ◌≢◌, ℕ, ◌+◌, ◌-◌, ◌*◌, ◌^◌, ◌<◌, ◌≤◌, ◌⊎◌, inl, inr, suc, cond, true, false, Bool, not, ◌&&◌, List, [], ◌∷◌, ◌++◌, length, take, drop, eqb, Err, Ok, ℤ, pos, ◌+ℤ◌, ◌*ℤ◌, arith, refl, sym, ap, ◌∙◌, length-drop}
use Rattle.std.proofs.lemmas.Bool.Decides.{nat_tests}
use Rattle.std.proofs.lemmas.Int.{ints}
use Rattle.std.proofs.Math.Bool.{and-true, and-false}
use Rattle.std.proofs.Math.Seq.{take-append_seam, drop-append_seam}
use Rattle.std.specs.List.{position_or_len, list_all}
use Rattle.field_values.specs.declared.fault.FieldFault.TheVariants.{NoTime, TooFine, NoSuchTime}
use Rattle.field_values.specs.Clocks.{is_clock, is_zone, is_utc, is_offset, is_minutes, without_colon, clock_said, zone_said}
use Rattle.field_values.specs.Instants.{zone_place, is_time, clock_text, zone_text, fraction_text, fraction_digits, milliseconds_said, thousandths, is_coarse, is_moment, second_of}
use Rattle.field_values.specs.Digits.{is_fraction}
use Rattle.instant_texts.specs.declared.unit.FineUnit.{FineUnit}
use Rattle.instant_texts.specs.declared.unit.FineUnit.TheVariants.{Microseconds, Nanoseconds}
use Rattle.instant_texts.specs.Instants.{unit_digits, fraction_units, held, whole_said, instant_from, instant_said}
use Rattle.instant_texts.specs.Instants.{is_coarse as coarse}
use Rattle.std.specs.Char.{is_ascii_digit}
use Rattle.std.specs.Str.Parse.{digits_value}
use Rattle.std.proofs.Common.{min, length-take}
use Rattle.std.proofs.lemmas.Bool.{cases_lt}
use Rattle.std.proofs.lemmas.List.{take_all}
use Rattle.std.proofs.lemmas.Nat.{pow-add}
use Rattle.std.proofs.Math.Nat.{one-le-pow, pow-le-pow_right, mul-lt-mul_of_pos_right}
use Rattle.field_values.proofs.Numbers.{value_below}
use Rattle.decimal_texts.proofs.Shifts.{kept_digits}

either_long : (b : Bool) (xs ys : List ℕ) (n : ℕ) → n ≤ length xs → n ≤ length ys → n ≤ length (cond b xs ys)
either_long true xs ys n h k = h
either_long false xs ys n h k = k

long_minutes : (rest : List ℕ) → 3 < length rest → is_minutes rest ≡ false
unfolding is_minutes without_colon
long_minutes rest long =
    let behind = length-drop 1 rest in
    let least : 3 ≤ length (without_colon rest) = either_long _ (drop 1 rest) rest 3 (omega arith) (omega arith) in
    let some : eqb (length rest) 0 ≡ false = grind (arith, nat_tests) in
    let more : eqb (length (without_colon rest)) 2 ≡ false = grind (arith, nat_tests) in
    rw (some, more) refl

-- no zone has more than 6 bytes
long_is_no_zone : (text : List ℕ) → 6 < length text → is_zone text ≡ false
unfolding is_zone is_utc is_offset
long_is_no_zone text long =
    let behind = length-drop 3 text in
    let more : eqb (length text) 1 ≡ false = grind (arith, nat_tests) in
    let minutes = long_minutes (drop 3 text) (omega arith) in
    rw (more, minutes) (and-false _)

short_is_no_clock : (text : List ℕ) → length text ≢ 19 → is_clock text ≡ false
unfolding is_clock
short_is_no_clock text other =
    let e : eqb (length text) 19 ≡ false = grind (arith, nat_tests) in
    rw e refl

pub not_whole : (clock zone : List ℕ) → (length clock ≢ 19) ⊎ ((length clock ≡ 19) × (6 < length zone)) → whole_said clock zone ≡ Err NoTime
unfolding whole_said
not_whole clock zone (inl other) = rw (short_is_no_clock clock other) refl
not_whole clock zone (inr long) = rw (long_is_no_zone zone long.1, and-false (is_clock clock)) refl

first_step : (p : ℕ → Bool) (x : ℕ) (xs : List ℕ) (b : Bool) → p x ≡ b → position_or_len p (drop (position_or_len p xs) xs) ≡ 0 → position_or_len p (drop (position_or_len p (x ∷ xs)) (x ∷ xs)) ≡ 0
first_step p x xs true h more = simp h refl
first_step p x xs false h more =
    let e : 1 + position_or_len p xs ≡ suc (position_or_len p xs) = omega arith in
    simp (h, e) more

-- what begins at the first place begins there
pub rest_first : (p : ℕ → Bool) (xs : List ℕ) → position_or_len p (drop (position_or_len p xs) xs) ≡ 0
rest_first p [] = refl
rest_first p (x ∷ xs) = first_step p x xs (p x) refl (rest_first p xs)

clock_there : (clock zone : List ℕ) → length clock ≡ 19 → clock_text (clock ++ zone) ≡ clock
unfolding clock_text
clock_there clock zone e = sym (ap (λ (k : ℕ). take k (clock ++ zone)) e) ∙ take-append_seam clock zone

rest_there : (clock zone : List ℕ) → length clock ≡ 19 → drop 19 (clock ++ zone) ≡ zone
rest_there clock zone e = sym (ap (λ (k : ℕ). drop k (clock ++ zone)) e) ∙ drop-append_seam clock zone

no_fraction : (clock zone : List ℕ) → length clock ≡ 19 → zone_place zone ≡ 0 → fraction_text (clock ++ zone) ≡ []
unfolding fraction_text
no_fraction clock zone e h = rw (rest_there clock zone e, h) refl

zone_there : (clock zone : List ℕ) → length clock ≡ 19 → zone_place zone ≡ 0 → zone_text (clock ++ zone) ≡ zone
unfolding zone_text
zone_there clock zone e h = rw (rest_there clock zone e, h) refl

time_there : (clock zone : List ℕ) → length clock ≡ 19 → zone_place zone ≡ 0 → is_time (clock ++ zone) ≡ (is_clock clock && is_zone zone)
unfolding is_time is_fraction
time_there clock zone e h =
    rw (clock_there clock zone e, no_fraction clock zone e h, zone_there clock zone e h, and-true (is_clock clock)) refl

no_digits : (clock zone : List ℕ) → length clock ≡ 19 → zone_place zone ≡ 0 → fraction_digits (clock ++ zone) ≡ []
unfolding fraction_digits
no_digits clock zone e h = rw (no_fraction clock zone e h) refl

none_more : (n : ℤ) → n +ℤ pos 0 ≡ n
none_more n = omega (arith, ints)

pub whole_is : (clock zone : List ℕ) → length clock ≡ 19 → zone_place zone ≡ 0 → milliseconds_said (clock ++ zone) ≡ whole_said clock zone
unfolding milliseconds_said whole_said is_coarse thousandths
whole_is clock zone e h =
    rw (time_there clock zone e h, no_digits clock zone e h, clock_there clock zone e, zone_there clock zone e h, none_more) refl

-- the unit's share of a second
scale_whole : (unit : FineUnit) (second : ℤ) → (second *ℤ pos 1000) *ℤ pos (10 ^ (unit_digits unit - 3)) ≡ second *ℤ pos (10 ^ unit_digits unit)
scale_whole Microseconds second = omega (arith, ints)
scale_whole Nanoseconds second = omega (arith, ints)

flipped : {A : Type 0} (k : Bool) (x y : A) → cond k x y ≡ cond (not k) y x
flipped true x y = refl
flipped false x y = refl

by_tests : (unit : FineUnit) (a z m : Bool) (fraction : List ℕ) (second : ℤ) → instant_from (unit_digits unit) fraction (cond (not (a && z)) (Err NoTime) (cond (not m) (Err NoSuchTime) (Ok (second *ℤ pos 1000)))) ≡ cond (not (a && true && z)) (Err NoTime) (cond (not (coarse (unit_digits unit) fraction)) (Err TooFine) (cond (not m) (Err NoSuchTime) (held (second *ℤ pos (10 ^ unit_digits unit) +ℤ pos (fraction_units (unit_digits unit) fraction)))))
unfolding instant_from
by_tests unit false z m fraction second = refl
by_tests unit true false m fraction second = refl
by_tests unit true true false fraction second = flipped (coarse (unit_digits unit) fraction) (Err NoSuchTime) (Err TooFine)
by_tests unit true true true fraction second =
    ap (λ (n : ℤ). cond (coarse (unit_digits unit) fraction) (held (n +ℤ pos (fraction_units (unit_digits unit) fraction))) (Err TooFine)) (scale_whole unit second)
    ∙ flipped (coarse (unit_digits unit) fraction) (held (second *ℤ pos (10 ^ unit_digits unit) +ℤ pos (fraction_units (unit_digits unit) fraction))) (Err TooFine)

-- the units by the parts
pub instant_by_parts : (unit : FineUnit) (text : List ℕ) → is_fraction (fraction_text text) ≡ true → instant_from (unit_digits unit) (fraction_digits text) (whole_said (clock_text text) (zone_text text)) ≡ instant_said (unit_digits unit) text
unfolding instant_said whole_said is_time
instant_by_parts unit text h =
    rw h (by_tests unit (is_clock (clock_text text)) (is_zone (zone_text text)) (is_moment (clock_said (clock_text text)) (zone_said (zone_text text))) (fraction_digits text) (second_of (clock_said (clock_text text)) (zone_said (zone_text text))))

pub no_instant : (count : ℕ) (text : List ℕ) → is_time text ≡ false → instant_said count text ≡ Err NoTime
unfolding instant_said
no_instant count text h = rw h refl

-- no more digits are taken than there are
pub all_taken : (ds : List ℕ) (count m : ℕ) → m ≡ min (length ds) count → take m ds ≡ take count ds
all_taken ds count m e = elim (cases_lt count (length ds)) [
  | inl more ↦ ap (λ (k : ℕ). take k ds) (let same : m ≡ count = omega arith in same)
  | inr few ↦ take_all m ds (omega arith) ∙ sym (take_all count ds few)
]

pub few_units : (ds : List ℕ) (count : ℕ) → list_all is_ascii_digit ds ≡ true → count ≤ 9 → fraction_units count ds < 10 ^ 9
unfolding fraction_units
few_units ds count h few =
    let kept = take count ds in
    let size = length-take count ds in
    let ten : 0 < 10 = omega arith in
    let value = value_below kept (kept_digits ds count h).0 in
    let some : 0 < 10 ^ (count - length kept) = one-le-pow (count - length kept) 10 ten in
    let less : digits_value 10 kept * 10 ^ (count - length kept) < 10 ^ length kept * 10 ^ (count - length kept) = mul-lt-mul_of_pos_right value some in
    let sum : length kept + (count - length kept) ≡ count = omega arith in
    let power = sym (pow-add 10 (length kept) (count - length kept)) ∙ ap (λ (k : ℕ). 10 ^ k) sum in
    let most : 10 ^ count ≤ 10 ^ 9 = pow-le-pow_right ten few in
    omega (arith, power)
