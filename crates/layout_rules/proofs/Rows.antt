-- Numbers dealt out in rows, and the numbers that pass a test.
use Rattle.std.proofs.Common.{◌≡◌, ℕ, zero, suc, ◌+◌, ◌-◌, ◌*◌, ◌/◌, ◌%◌, ◌<◌, ◌≤◌, [], ◌∷◌, ◌++◌, Bool, true, false, cond, eqb, leb, length, get_or, refl, sym, ap, ◌∙◌, inl, inr, arith}
use Rattle.std.proofs.lemmas.Bool.{cases_eq, cases_Bool, cases_lt, leb-true, leb-false, eq-eqb, ne_eqb}
use Rattle.std.proofs.lemmas.Nat.{mod-mul-add, div-add-mod'}
use Rattle.std.proofs.lemmas.List.{length-append, get_or_append_left, get_or_at}
use Rattle.layout_rules.specs.Below.{sum_below, row_of, filter_below, count_below}

-- a row begins where those before it end
pub first_up : (f : ℕ → ℕ) (a b : ℕ) → a ≤ b → sum_below f a ≤ sum_below f b
first_up f a zero l = let e : a ≡ 0 = omega arith in rw e (omega arith)
first_up f a (suc b) l =
    elim (cases_eq a (suc b)) [
      | inl e ↦ rw e (omega arith)
      | inr ne ↦ omega (arith, first_up f a b (omega arith))
    ]

pub row_is : (f : ℕ → ℕ) (n t : ℕ) → t < sum_below f n → (row_of f n t < n) × (sum_below f (row_of f n t) ≤ t) × (t < sum_below f (suc (row_of f n t)))
row_is f zero t l = absurd (omega arith)
row_is f (suc n) t l =
    elim (cases_Bool (leb (sum_below f n) t)) [
      | inl e ↦ rw e (omega arith, leb-true (sum_below f n) t e, l)
      | inr e ↦ rw e (let r = row_is f n t (leb-false (sum_below f n) t e) in (omega (arith, r.0), r.1, r.2))
    ]

-- a number has one row
pub row_one : (f : ℕ → ℕ) (a b t : ℕ) → sum_below f a ≤ t → t < sum_below f (suc a) → sum_below f b ≤ t → t < sum_below f (suc b) → a ≡ b
row_one f a b t l m l' m' =
    elim (cases_lt a b) [
      | inl e ↦ absurd (omega (arith, first_up f (suc a) b e, l', m))
      | inr e ↦ elim (cases_eq a b) [ inl q ↦ q | inr ne ↦ absurd (omega (arith, first_up f (suc b) a (omega arith), l, m')) ]
    ]

pub row_at : (f : ℕ → ℕ) (n a i : ℕ) → a < n → i < f a → (row_of f n (sum_below f a + i) ≡ a) × (sum_below f a + i < sum_below f n)
row_at f n a i l m =
    let u : sum_below f a + i < sum_below f n = omega (arith, first_up f (suc a) n l) in
    let r = row_is f n (sum_below f a + i) u in
    (row_one f (row_of f n (sum_below f a + i)) a (sum_below f a + i) r.1 r.2 (omega arith) (omega arith), u)

pub length_those : (test : ℕ → Bool) (n : ℕ) → length (filter_below test n) ≡ count_below test n
length_those test zero = refl
length_those test (suc n) =
    length-append (filter_below test n) (cond (test n) (n ∷ []) [])
    ∙ elim (cases_Bool (test n)) [
      | inl e ↦ rw e (omega (arith, length_those test n))
      | inr e ↦ rw e (omega (arith, length_those test n))
    ]

-- a number that passes stands at its count
pub select : (test : ℕ → Bool) (n s : ℕ) → s < n → test s ≡ true → (count_below test s < count_below test n) × (get_or (filter_below test n) (count_below test s) 0 ≡ s)
select test zero s l e = absurd (omega arith)
select test (suc n) s l e =
    elim (cases_eq s n) [
      | inl q ↦ (
          let e' : test n ≡ true = sym (ap test q) ∙ e in
          rw (q, e') (omega arith, get_or_at (filter_below test n) n [] 0 (count_below test n) (length_those test n)))
      | inr ne ↦ (
          let r = select test n s (omega arith) e in
          let k : count_below test s < length (filter_below test n) = omega (arith, r.0, length_those test n) in
          (omega (arith, r.0), get_or_append_left (filter_below test n) (cond (test n) (n ∷ []) []) 0 (count_below test s) k ∙ r.1))
    ]

-- and what stands at a place passes and has that count
pub selected : (test : ℕ → Bool) (n i : ℕ) → i < count_below test n → (get_or (filter_below test n) i 0 < n) × (test (get_or (filter_below test n) i 0) ≡ true) × (count_below test (get_or (filter_below test n) i 0) ≡ i)
selected test zero i l = absurd (omega arith)
selected test (suc n) i l =
    elim (cases_lt i (count_below test n)) [
      | inl k ↦ (
          let r = selected test n i k in
          let k' : i < length (filter_below test n) = omega (arith, k, length_those test n) in
          let q = get_or_append_left (filter_below test n) (cond (test n) (n ∷ []) []) 0 i k' in
          rw q (omega (arith, r.0), r.1, r.2))
      | inr k ↦ elim (cases_Bool (test n)) [
        | inr e ↦ absurd (let z : i < count_below test n + cond (test n) 1 0 = l in let z' : i < count_below test n + 0 = (rw e at z) in omega (arith, z', k))
        | inl e ↦ (
            let z' : i < count_below test n + 1 = (let z : i < count_below test n + cond (test n) 1 0 = l in rw e at z) in
            let i' : i ≡ count_below test n = omega (arith, z', k) in
            let q : get_or (filter_below test n ++ cond (test n) (n ∷ []) []) i 0 ≡ n = rw e (get_or_at (filter_below test n) n [] 0 i (length_those test n ∙ sym i')) in
            rw q (omega arith, e, sym i'))
      ]
    ]

-- a stretch that none passes, and one that all pass
pub count_none : (test : ℕ → Bool) (a n : ℕ) → a ≤ n → ((k : ℕ) → a ≤ k → k < n → test k ≡ false) → count_below test n ≡ count_below test a
count_none test a zero l h = let e : a ≡ 0 = omega arith in rw e refl
count_none test a (suc n) l h =
    elim (cases_eq a (suc n)) [
      | inl e ↦ rw e refl
      | inr ne ↦ let z = h n (omega arith) (omega arith) in rw z (omega (arith, count_none test a n (omega arith) (λ k x y. h k x (omega arith))))
    ]

pub count_all : (test : ℕ → Bool) (a n : ℕ) → a ≤ n → ((k : ℕ) → a ≤ k → k < n → test k ≡ true) → count_below test n + a ≡ count_below test a + n
count_all test a zero l h = let e : a ≡ 0 = omega arith in rw e refl
count_all test a (suc n) l h =
    elim (cases_eq a (suc n)) [
      | inl e ↦ rw e refl
      | inr ne ↦ let z = h n (omega arith) (omega arith) in rw z (omega (arith, count_all test a n (omega arith) (λ k x y. h k x (omega arith))))
    ]

-- of the numbers below a * w + j, where j is at most i, a leave i when divided by w
count_mod : (w i : ℕ) → i < w → (a j : ℕ) → j ≤ i → count_below (λ k. eqb (k % w) i) (a * w + j) ≡ a
count_mod w i l zero zero m = let to : 0 * w + 0 ≡ 0 = omega arith in ap (count_below (λ k. eqb (k % w) i)) to
count_mod w i l (suc a) zero m =
    let test : ℕ → Bool = λ k. eqb (k % w) i in
    let before : count_below test (a * w + i) ≡ a = count_mod w i l a i (omega arith) in
    let it : test (a * w + i) ≡ true = eq-eqb ((a * w + i) % w) i (mod-mul-add a w i l) in
    let one : count_below test (suc (a * w + i)) ≡ suc a = rw it (omega (arith, before)) in
    let none : count_below test (a * w + w) ≡ count_below test (suc (a * w + i)) = count_none test (suc (a * w + i)) (a * w + w) (omega (arith, l)) (λ k x y. (
    let at : k % w ≡ (k - a * w) = ap (λ n. n % w) (let z : k ≡ a * w + (k - a * w) = omega (arith, x) in z) ∙ mod-mul-add a w (k - a * w) (omega (arith, x, y)) in
    ne_eqb (k % w) i (λ q. omega (arith, q, at, x)))) in
    let to : suc a * w + 0 ≡ a * w + w = omega arith in
    ap (count_below test) to ∙ none ∙ one
count_mod w i l a (suc j) m =
    let test : ℕ → Bool = λ k. eqb (k % w) i in
    let e : (a * w + j) % w ≡ j = mod-mul-add a w j (omega (arith, l, m)) in
    let no : test (a * w + j) ≡ false = ne_eqb ((a * w + j) % w) i (λ q. omega (arith, q, e, m)) in
    let step : count_below test (suc (a * w + j)) ≡ a = rw no (omega (arith, count_mod w i l a j (omega (arith, m)))) in
    let to : a * w + suc j ≡ suc (a * w + j) = omega arith in
    ap (count_below test) to ∙ step

-- so a number that leaves i has as many before it as w goes into it
pub count_div : (w i v : ℕ) → i < w → v % w ≡ i → count_below (λ k. eqb (k % w) i) v ≡ v / w
count_div w i v l e =
    let to : v ≡ v / w * w + i = omega (arith, e, div-add-mod' v w) in
    ap (count_below (λ k. eqb (k % w) i)) to ∙ count_mod w i l (v / w) i (omega arith)
