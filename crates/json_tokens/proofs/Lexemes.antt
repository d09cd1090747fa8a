-- Numbers, names and marks at the front of a text, as lexemes.
use Rattle.std.proofs.Common.{arith, ◌≡◌, ℕ, suc, ◌+◌, ◌-◌, ◌*◌, ◌%◌, ◌^◌, ◌<◌, ◌≤◌, ℤ, pos, neg_ℤ, Bool, true, false, cond, ◌||◌, ◌==◌, nat_lt, List, [], ◌∷◌, length, take, drop, get_or, Some, None, option_and_then, inl, inr, refl, sym, ap, ◌∙◌, subst, append-nil, one-add, add-one, drop-cons, ne_eqb, lit<, length-drop, length-take}
use Rattle.std.proofs.lemmas.Bool.{eqb-true, ltb-true, or_cases}
use Rattle.std.proofs.lemmas.Bool.Decides.{nat_tests}
use Rattle.std.proofs.lemmas.Float.Parse.{scan_numeral-text_of}
use Rattle.std.proofs.lemmas.Int.Digits.{digits_value-lt}
use Rattle.std.proofs.lemmas.List.{length-take-le}
use Rattle.std.proofs.lemmas.List.Sums.{prefix_len-le-length}
use Rattle.std.proofs.Math.Nat.{lt_of_lt_of_le, pow-le-pow_right}
use Rattle.std.specs.List.{prefix_len}
use Rattle.std.specs.Char.{is_ascii_digit, digit_value}
use Rattle.std.specs.Str.Parse.{AllDigits, digits_value}
use Rattle.std.specs.Float.Numeral.{scan_numeral}
use Rattle.fast_float.specs.Text.{Parts}
use Rattle.json.specs.Token.{Token, number, bad}
use Rattle.json.specs.Word.{is_operator, is_space, head, after_digits, after_sign, after_minus, after_whole, after_fraction, after_exponent, after_number, number_before, word}
use Rattle.json.specs.Lex.{token, other, class, between, in_word, lex_byte, lex}
use Rattle.serde_json.specs.Data.{unsigned, negative}
use Rattle.serde_json.specs.Read.{number_of, number_from}
use Rattle.serde_json.specs.Find.{as_i64}
use Rattle.json_tokens.specs.Lexemes.{ends_number, BeginsDigits, BeginsItem, BeginsWhole}

-- ---- the bytes behind a number

is_one : (P : ℕ → Type 0) (x c : ℕ) → P c → (x == c) ≡ true → P x
is_one P x c p e = subst P (sym (eqb-true x c e)) p

either : (P : Type 0) (a b : Bool) → (a ≡ true → P) → (b ≡ true → P) → (a || b) ≡ true → P
either P a b f g h = elim (or_cases a b h) [ inl e ↦ f e | inr e ↦ g e ]

pub behind_number : (P : ℕ → Type 0) → P 44 → P 93 → P 125 → P 32 → P 9 → P 10 → P 13 → (x : ℕ) → ends_number x ≡ true → P x
behind_number P comma bracket brace space tab feed back x h =
    either (P x) ((x == 44) || (x == 93) || (x == 125)) (is_space x)
    (either (P x) ((x == 44) || (x == 93)) (x == 125) (either (P x) (x == 44) (x == 93) (is_one P x 44 comma) (is_one P x 93 bracket)) (is_one P x 125 brace))
    (either (P x) ((x == 32) || (x == 9) || (x == 10)) (x == 13) (either (P x) ((x == 32) || (x == 9)) (x == 10) (either (P x) (x == 32) (x == 9) (is_one P x 32 space) (is_one P x 9 tab)) (is_one P x 10 feed)) (is_one P x 13 back)) h

module _ (r : List ℕ) (ends : ends_number (head r) ≡ true) where
  no_fraction : after_fraction r ≡ Some r
  no_fraction = ap (λ b. cond b (after_digits (drop 1 r)) (Some r)) (behind_number (λ y. (y == 46) ≡ false) refl refl refl refl refl refl refl (head r) ends)

  no_exponent : after_exponent r ≡ Some r
  no_exponent = ap (λ b. cond b (after_digits (after_sign (drop 1 r))) (Some r)) (behind_number (λ y. ((y == 101) || (y == 69)) ≡ false) refl refl refl refl refl refl refl (head r) ends)

  word_over : (is_operator (head r) || is_space (head r)) ≡ true
  word_over = behind_number (λ y. (is_operator y || is_space y) ≡ true) refl refl refl refl refl refl refl (head r) ends

pub number_over : (t : List ℕ) → ends_number (head t) ≡ true → lex in_word t ≡ lex between t
unfolding lex
number_over [] h = refl
number_over (x ∷ xs) h = behind_number (λ y. lex in_word (y ∷ xs) ≡ lex between (y ∷ xs)) refl refl refl refl refl refl refl x h

-- ---- white space

space_first : (x : ℕ) (xs : List ℕ) → is_space x ≡ true → lex between (x ∷ xs) ≡ lex between xs
unfolding lex
space_first x xs h =
    let P = λ (y : ℕ). lex between (y ∷ xs) ≡ lex between xs in
    either (P x) ((x == 32) || (x == 9) || (x == 10)) (x == 13) (either (P x) ((x == 32) || (x == 9)) (x == 10) (either (P x) (x == 32) (x == 9) (is_one P x 32 refl) (is_one P x 9 refl)) (is_one P x 10 refl)) (is_one P x 13 refl) h

pub space_over : (t : List ℕ) (i : ℕ) → i < length t → is_space (get_or t i 0) ≡ true → lex between (drop (i + 1) t) ≡ lex between (drop i t)
space_over t i within h = ap (λ k. lex between (drop k t)) (add-one i) ∙ sym (ap (lex between) (drop-cons t i 0 within) ∙ space_first (get_or t i 0) (drop (suc i) t) h)

-- ---- digits

class_digit : (x : ℕ) → is_ascii_digit x ≡ true → class x ≡ other
class_digit x h = grind (arith, nat_tests)

in_word_other : (x : ℕ) (xs : List ℕ) → class x ≡ other → lex in_word (x ∷ xs) ≡ lex in_word xs
unfolding lex
in_word_other x xs e = ap (λ c. lex_byte in_word c x xs (λ next. lex next xs)) e

between_other : (x : ℕ) (xs : List ℕ) → class x ≡ other → lex between (x ∷ xs) ≡ token (word (x ∷ xs)) ∷ lex in_word xs
unfolding lex
between_other x xs e = ap (λ c. lex_byte between c x xs (λ next. lex next xs)) e

pub digits_over : (t : List ℕ) → lex in_word t ≡ lex in_word (drop (prefix_len is_ascii_digit t) t)
digits_over [] = refl
digits_over (x ∷ xs) = by_first (digits_over xs) (is_ascii_digit x) refl
  where
    by_first : lex in_word xs ≡ lex in_word (drop (prefix_len is_ascii_digit xs) xs) → (b : Bool) → is_ascii_digit x ≡ b
        → lex in_word (x ∷ xs) ≡ lex in_word (drop (cond b (1 + prefix_len is_ascii_digit xs) 0) (x ∷ xs))
    by_first rest true e = in_word_other x xs (class_digit x e) ∙ rest ∙ ap (λ n. lex in_word (drop n (x ∷ xs))) (sym (one-add (prefix_len is_ascii_digit xs)))
    by_first rest false e = refl

pub all_digits : (t : List ℕ) → AllDigits 10 (take (prefix_len is_ascii_digit t) t)
all_digits [] = tt
all_digits (x ∷ xs) = by_first (all_digits xs) (is_ascii_digit x) refl
  where
    by_first : AllDigits 10 (take (prefix_len is_ascii_digit xs) xs) → (b : Bool) → is_ascii_digit x ≡ b → AllDigits 10 (take (cond b (1 + prefix_len is_ascii_digit xs) 0) (x ∷ xs))
    by_first rest true e = subst (λ n. AllDigits 10 (take n (x ∷ xs))) (sym (one-add (prefix_len is_ascii_digit xs))) (grind (arith, nat_tests), rest)
    by_first rest false e = tt

first_digit : (t : List ℕ) → 0 < prefix_len is_ascii_digit t → is_ascii_digit (head t) ≡ true
first_digit [] h = absurd (omega arith)
first_digit (x ∷ xs) h = by_first (is_ascii_digit x) refl h
  where
    by_first : (b : Bool) → is_ascii_digit x ≡ b → 0 < cond b (1 + prefix_len is_ascii_digit xs) 0 → is_ascii_digit x ≡ true
    by_first true e h = e
    by_first false e h = absurd (omega arith)

-- ---- the word that a number is

whole_over : (u : List ℕ) (n : ℕ) → n ≡ prefix_len is_ascii_digit u → 0 < n → (head u ≡ 48 → n ≡ 1) → after_whole u ≡ Some (drop n u)
whole_over u n counted some no_zero = by_zero (head u == 48) refl
  where
    by_zero : (z : Bool) → (head u == 48) ≡ z → cond z (Some (drop 1 u)) (after_digits u) ≡ Some (drop n u)
    by_zero true e = ap (λ k. Some (drop k u)) (sym (no_zero (eqb-true (head u) 48 e)))
    by_zero false e = ap (λ k. cond (k == 0) None (Some (drop k u))) (sym counted) ∙ ap (λ b. cond b None (Some (drop n u))) (ne_eqb n 0 (λ z. omega arith))

passed : (b : Bool) (x y z : Token) → b ≡ false → y ≡ z → cond b x y ≡ z
passed true x y z e h = absurd (cc)
passed false x y z e h = h

pub number_word : (t u : List ℕ) (n : ℕ) → after_minus t ≡ u → n ≡ prefix_len is_ascii_digit u → 0 < n → (head u ≡ 48 → n ≡ 1) → ends_number (head (drop n u)) ≡ true → head t < 58
    → word t ≡ number (take (length t - length (drop n u)) t)
unfolding word after_number
number_word t u n minus counted some no_zero ends low =
    let r = drop n u in
    let found : after_number t ≡ Some r =
    ap (λ v. option_and_then after_exponent (option_and_then after_fraction (after_whole v))) minus ∙ ap (λ o. option_and_then after_exponent (option_and_then after_fraction o)) (whole_over u n counted some no_zero)
    ∙ ap (option_and_then after_exponent) (no_fraction r ends) ∙ no_exponent r ends in
    let t_no : (head t == 116) ≡ false = ne_eqb (head t) 116 (λ e. omega arith) in
    let f_no : (head t == 102) ≡ false = ne_eqb (head t) 102 (λ e. omega arith) in
    let n_no : (head t == 110) ≡ false = ne_eqb (head t) 110 (λ e. omega arith) in
    passed (head t == 116) _ _ _ t_no (passed (head t == 102) _ _ _ f_no (passed (head t == 110) _ _ _ n_no
    (ap (number_before t) found ∙ ap (λ b. cond b (number (take (length t - length r) t)) bad) (word_over r ends))))

-- ---- what digits say

abbrev plain : List ℕ → Parts
plain ds = record { whole = ds; point = false; fraction = []; exponent_negative = false; exponent = []; len = length ds }

pub scan_digits : (ds : List ℕ) → AllDigits 10 ds → scan_numeral ds ≡ plain ds
scan_digits ds h =
    ap scan_numeral (sym (append-nil ds))
    ∙ scan_numeral-text_of (plain ds) (record { whole_digits = h; fraction_digits = tt; exponent_digits = tt; no_point = λ e. refl; no_exponent = λ e. refl; len_is = ap length (sym (append-nil ds)) })

first_is_digit : (ds : List ℕ) → AllDigits 10 ds → 0 < length ds → (get_or ds 0 0 == 45) ≡ false
first_is_digit [] h some = absurd (omega arith)
first_is_digit (d ∷ ds) h some = ne_eqb d 45 (λ e. (let no : 36 < 10 = subst (λ x. digit_value x < 10) e h.0 in absurd (omega (arith, no))))

unsigned_is : (ds : List ℕ) → 0 < length ds → digits_value 10 ds < 2 ^ 64 → number_from false (plain ds) ≡ Some (unsigned (digits_value 10 ds))
unsigned_is ds some fits = rw (append-nil ds) (grind (arith, nat_tests))

negative_is : (ds : List ℕ) → 0 < length ds → 0 < digits_value 10 ds → digits_value 10 ds ≤ 2 ^ 63 → number_from true (plain ds) ≡ Some (negative (neg_ℤ (pos (digits_value 10 ds))))
negative_is ds some above fits = rw (append-nil ds) (grind (arith, nat_tests))

unsigned_number : (ds : List ℕ) → AllDigits 10 ds → 0 < length ds → digits_value 10 ds < 2 ^ 64 → number_of ds ≡ Some (unsigned (digits_value 10 ds))
unfolding number_of
unsigned_number ds h some fits =
    ap (λ b. cond b (number_from true (scan_numeral (drop 1 ds))) (number_from false (scan_numeral ds))) (first_is_digit ds h some) ∙ ap (number_from false) (scan_digits ds h) ∙ unsigned_is ds some fits

negative_number : (ds : List ℕ) → AllDigits 10 ds → 0 < length ds → 0 < digits_value 10 ds → digits_value 10 ds ≤ 2 ^ 63 → number_of (45 ∷ ds) ≡ Some (negative (neg_ℤ (pos (digits_value 10 ds))))
unfolding number_of
negative_number ds h some above fits = ap (number_from true) (scan_digits ds h) ∙ negative_is ds some above fits

-- ---- whole numbers

pub digits_counted : (t : List ℕ) (n value : ℕ) → n ≡ 0 + prefix_len is_ascii_digit (drop 0 t) → n ≤ 19 → value ≡ (0 * 10 ^ (n - 0) + digits_value 10 (take (n - 0) (drop 0 t))) % 2 ^ 64 → value ≡ digits_value 10 (take n t)
digits_counted t n value counted few e =
    let same : n ≡ prefix_len is_ascii_digit t = omega (arith, counted) in
    let all : AllDigits 10 (take n t) = subst (λ k. AllDigits 10 (take k t)) (sym same) (all_digits t) in
    let short : length (take n t) ≤ 19 = omega (arith, length-take n t) in
    let less : digits_value 10 (take n t) < 10 ^ 19 = lt_of_lt_of_le (digits_value-lt 10 (take n t) all) (pow-le-pow_right (lit< tt) short) in
    let fits : digits_value 10 (take n t) < 2 ^ 64 = omega (arith, less) in
    let cut : n - 0 ≡ n = omega arith in
    let sum : 0 * 10 ^ (n - 0) + digits_value 10 (take (n - 0) t) ≡ digits_value 10 (take n t) = rw cut (omega arith) in
    e ∙ ap (λ k. k % 2 ^ 64) sum ∙ omega (arith, fits)

module _ (t : List ℕ) (size : ℕ) (rest : List ℕ) (d : BeginsDigits t size rest) where
  whole_count : d.count ≤ length t
  whole_count = omega (arith, d.counted, prefix_len-le-length is_ascii_digit t)

  digits_all : AllDigits 10 (take d.count t)
  digits_all = subst (λ k. AllDigits 10 (take k t)) (sym d.counted) (all_digits t)

  digits_some : 0 < length (take d.count t)
  digits_some = omega (arith, length-take-le d.count t whole_count, d.some)

  lexed : lex in_word t ≡ lex between rest
  lexed = digits_over t ∙ ap (λ k. lex in_word (drop k t)) (sym d.counted) ∙ ap (lex in_word) (sym d.over) ∙ number_over rest d.ends

  first_low : is_ascii_digit (head t) ≡ true
  first_low = first_digit t (omega (arith, d.counted, d.some))

  counted_off : length t - length (drop d.count t) ≡ d.count
  counted_off = omega (arith, length-drop d.count t, whole_count)

  follows : ends_number (head (drop d.count t)) ≡ true
  follows = subst (λ r. ends_number (head r) ≡ true) d.over d.ends

  unsigned_word : (head t == 45) ≡ false → word t ≡ number (take d.count t)
  unsigned_word e =
      number_word t t d.count (ap (λ b. cond b (drop 1 t) t) e) d.counted d.some d.no_zero follows (grind (arith, nat_tests, first_low)) ∙ ap (λ k. number (take k t)) counted_off

  signed_off : length (45 ∷ t) - length (drop d.count t) ≡ suc d.count
  signed_off = omega (arith, length-drop d.count t, whole_count)

  signed_word : word (45 ∷ t) ≡ number (45 ∷ take d.count t)
  signed_word = number_word (45 ∷ t) t d.count refl d.counted d.some d.no_zero follows (lit< tt) ∙ ap (λ k. number (take k (45 ∷ t))) signed_off

no_minus : (x : ℕ) → is_ascii_digit x ≡ true → (x == 45) ≡ false
no_minus x h = ne_eqb x 45 (λ e. (let no : is_ascii_digit 45 ≡ true = subst (λ y. is_ascii_digit y ≡ true) e h in cc))

unsigned_lexed : (t : List ℕ) (size : ℕ) (rest : List ℕ) → BeginsDigits t size rest → (n : ℕ) → lex in_word t ≡ lex between rest → word t ≡ number (take n t) → is_ascii_digit (head t) ≡ true
    → lex between t ≡ token (number (take n t)) ∷ lex between rest
unsigned_lexed [] size rest d n over e h = absurd (omega (arith, d.counted, d.some))
unsigned_lexed (x ∷ xs) size rest d n over e h =
    between_other x xs (class_digit x h) ∙ ap (λ w. token w ∷ lex in_word xs) e ∙ ap (λ ls. token (number (take n (x ∷ xs))) ∷ ls) (sym (in_word_other x xs (class_digit x h)) ∙ over)

small_size : (size : ℕ) (z : ℤ) → Some z ≡ as_i64 (unsigned size) → size < 2 ^ 64
small_size size z = by_test (nat_lt size (2 ^ 63)) refl
  where
    by_test : (b : Bool) → nat_lt size (2 ^ 63) ≡ b → Some z ≡ cond b (Some (pos size)) None → size < 2 ^ 64
    by_test true h e = omega (arith, ltb-true size (2 ^ 63) h)
    by_test false h e = absurd (cc)

-- digits with no sign
pub unsigned_whole : (t : List ℕ) (size : ℕ) (rest : List ℕ) (z : ℤ) → BeginsDigits t size rest → Some z ≡ as_i64 (unsigned size) → BeginsWhole t z rest
unsigned_whole t size rest z d e =
    let fits = small_size size z e in
    let h = first_low t size rest d in (
      take d.count t,
      unsigned_lexed t size rest d d.count (lexed t size rest d) (unsigned_word t size rest d (no_minus (head t) h)) h,
      ap (option_and_then as_i64) (unsigned_number (take d.count t) (digits_all t size rest d) (digits_some t size rest d) (subst (λ k. k < 2 ^ 64) d.says fits)) ∙ ap (λ k. as_i64 (unsigned k)) (sym d.says) ∙ sym e,
    )

-- digits behind a minus
pub negative_whole : (t : List ℕ) (size : ℕ) (rest : List ℕ) → BeginsDigits t size rest → 0 < size → size ≤ 2 ^ 63 → BeginsWhole (45 ∷ t) (neg_ℤ (pos size)) rest
negative_whole t size rest d above fits = (
  45 ∷ take d.count t,
  between_other 45 t refl ∙ ap (λ w. token w ∷ lex in_word t) (signed_word t size rest d) ∙ ap (λ ls. token (number (45 ∷ take d.count t)) ∷ ls) (lexed t size rest d),
  ap (option_and_then as_i64) (negative_number (take d.count t) (digits_all t size rest d) (digits_some t size rest d) (subst (λ k. 0 < k) d.says above) (subst (λ k. k ≤ 2 ^ 63) d.says fits)) ∙ ap (λ k. Some (neg_ℤ (pos k))) (sym d.says),
)

-- ---- a space before a number

pub item_behind_space : (t u : List ℕ) (mark : ℕ) (n : ℤ) (r : List ℕ) → t ≡ 32 ∷ u → BeginsItem u mark n r → BeginsItem t mark n r
item_behind_space t u mark n r e item =
    let over : lex between t ≡ lex between u = ap (lex between) e ∙ sym (space_over (32 ∷ u) 0 (omega arith) refl) in
    (item.0, (item.1.0, over ∙ item.1.1, item.1.2), item.2)
