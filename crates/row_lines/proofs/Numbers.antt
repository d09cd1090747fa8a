-- Numbers in decimal, however large: no space and no line feed stands in one, and the text of a number of 128 bits is
-- that of no other.
use Rattle.std.proofs.Common.{◌≡◌, ◌≢◌, ℕ, zero, suc, ℤ, pos, negsuc, ◌+◌, ◌*◌, ◌/◌, ◌%◌, ◌^◌, ◌<◌, ◌≤◌, ◌==◌, Bool, true, false, cond, ltb, List, [], ◌∷◌, length, map, get_or, drop, inl, inr, FitsSigned, rules, arith, refl, sym, ap, ◌∙◌, pow-suc, if◌then◌else◌}
use mir.Syntax.{w128}
use Rattle.std.specs.Fmt.{decimal, signed_decimal, digits, digits_onto, digit_glyph}
use Rattle.std.specs.List.{All}
use Rattle.std.specs.Str.Parse.{digits_value}
use Rattle.std.proofs.lemmas.Bool.{cases_lt, ne_eqb}
use Rattle.std.proofs.lemmas.Fmt.{decimal_is_IsNumeral_wide, length-decimal-le_wide}
use Rattle.std.proofs.lemmas.List.Elements.{All-nil, All-cons, All-head, All-tail, All-weaker}
use Rattle.std.proofs.lemmas.Nat.{le-div}

abbrev IsAboveMinus : ℕ → Type 0
IsAboveMinus b = 45 < b

glyph_above : (d : ℕ) (b : Bool) → IsAboveMinus (cond b (48 + d) (87 + d))
glyph_above d true = omega arith
glyph_above d false = omega arith

either : (b : Bool) (xs ys : List ℕ) → All IsAboveMinus xs → All IsAboveMinus ys → All IsAboveMinus (if b then xs else ys)
either true xs ys h k = h
either false xs ys h k = k

onto_above : (k n : ℕ) (acc : List ℕ) → All IsAboveMinus acc → All IsAboveMinus (digits_onto k 10 false n acc)
onto_above zero n acc h = h
onto_above (suc k) n acc h =
    let more = All-cons IsAboveMinus (digit_glyph false (n % 10)) acc (glyph_above (n % 10) (ltb (n % 10) 10)) h in
    either (n / 10 == 0) (digit_glyph false (n % 10) ∷ acc) (digits_onto k 10 false (n / 10) (digit_glyph false (n % 10) ∷ acc)) more
    (onto_above k (n / 10) (digit_glyph false (n % 10) ∷ acc) more)

-- no sign, no space and no line feed stands among digits
digits_above : (n : ℕ) → All IsAboveMinus (decimal n)
unfolding digits
digits_above n = onto_above 64 n [] (All-nil IsAboveMinus)

tens : (k : ℕ) → 0 < 10 ^ k
tens zero = omega arith
tens (suc k) =
    let more : 10 ^ suc k ≡ 10 ^ k * 10 = pow-suc 10 k in
    omega (arith, tens k, more)

onto_length : (k n : ℕ) (acc : List ℕ) → 10 ^ k ≤ n → length (digits_onto k 10 false n acc) ≡ k + length acc
onto_length zero n acc h = omega arith
onto_length (suc k) n acc h =
    let more : 10 ^ suc k ≡ 10 ^ k * 10 = pow-suc 10 k in
    let tenth : 10 ^ k ≤ n / 10 = le-div (10 ^ k) n 10 (omega arith) (omega arith) in
    let some : 0 < 10 ^ k = tens k in
    let behind = digit_glyph false (n % 10) ∷ acc in
    ap (λ (b : Bool). length (if b then behind else digits_onto k 10 false (n / 10) behind)) (ne_eqb (n / 10) 0 (λ e. omega arith))
    ∙ onto_length k (n / 10) behind tenth
    ∙ omega arith

-- a number of more than 64 digits is cut to 64
longest : (n : ℕ) → 10 ^ 64 ≤ n → length (decimal n) ≡ 64
unfolding digits
longest n h = onto_length 64 n [] h

value_of : (n : ℕ) → n < 10 ^ 64 → digits_value 10 (decimal n) ≡ n
value_of n small = (decimal_is_IsNumeral_wide n small).1

same_decimal : (m n : ℕ) → m ≤ 2 ^ 127 → decimal m ≡ decimal n → m ≡ n
same_decimal m n small e = elim (cases_lt n (10 ^ 64)) [
  | inl low ↦ sym (value_of m (omega arith)) ∙ ap (digits_value 10) e ∙ value_of n low
  | inr high ↦
      let short = length-decimal-le_wide 39 m (omega arith) (omega arith) (omega arith) in
      let same : length (decimal m) ≡ length (decimal n) = ap length e in
      absurd (omega (arith, short, same, longest n high))
]

no_minus : (n : ℕ) (text : List ℕ) → decimal n ≢ 45 ∷ text
no_minus n text e =
    let first_above = digits_above n 0 0 (let some : length (decimal n) ≡ suc (length text) = ap length e in omega arith) in
    let first : get_or (decimal n) 0 0 ≡ 45 = ap (λ l. get_or l 0 0) e in
    omega (arith, first_above, first)

pub same_number : (y z : ℤ) → FitsSigned w128 y → signed_decimal y ≡ signed_decimal z → y ≡ z
same_number (pos m) (pos n) fits e = let small : m < 2 ^ 127 = search rules in ap pos (same_decimal m n (omega arith) e)
same_number (pos m) (negsuc n) fits e = absurd (no_minus m (decimal (suc n)) e)
same_number (negsuc m) (pos n) fits e = absurd (no_minus n (decimal (suc m)) (sym e))
same_number (negsuc m) (negsuc n) fits e =
    let small : suc m ≤ 2 ^ 127 = search rules in
    let same : suc m ≡ suc n = same_decimal (suc m) (suc n) small (ap (drop 1) e) in
    let same' : m ≡ n = omega arith in
    ap negsuc same'

above : (b : ℕ) → IsAboveMinus b → 32 < b
above b h = omega arith

-- no space and no line feed stands in a number
pub number_above : (z : ℤ) → All (λ b. 32 < b) (signed_decimal z)
number_above (pos n) = All-weaker IsAboveMinus (λ b. 32 < b) above (decimal n) (digits_above n)
number_above (negsuc n) = All-cons (λ b. 32 < b) 45 (decimal (suc n)) (omega arith) (All-weaker IsAboveMinus (λ b. 32 < b) above (decimal (suc n)) (digits_above (suc n)))

heads : (xs ys : List (List ℕ)) (x y : List ℕ) → x ∷ xs ≡ y ∷ ys → x ≡ y
heads xs ys x y e = ap (λ l. get_or l 0 []) e

tails : (xs ys : List (List ℕ)) (x y : List ℕ) → x ∷ xs ≡ y ∷ ys → xs ≡ ys
tails xs ys x y e = ap (drop 1) e

pub same_numbers : (xs ys : List ℤ) → All (FitsSigned w128) xs → map signed_decimal xs ≡ map signed_decimal ys → xs ≡ ys
same_numbers [] [] fit e = refl
same_numbers [] (y ∷ ys) fit e = absurd cc
same_numbers (x ∷ xs) [] fit e = absurd cc
same_numbers (x ∷ xs) (y ∷ ys) fit e =
    let head = same_number x y (All-head (FitsSigned w128) x xs fit) (heads (map signed_decimal xs) (map signed_decimal ys) (signed_decimal x) (signed_decimal y) e) in
    let tail = same_numbers xs ys (All-tail (FitsSigned w128) x xs fit) (tails (map signed_decimal xs) (map signed_decimal ys) (signed_decimal x) (signed_decimal y) e) in
    λ i. head i ∷ tail i
