-- Sums over the numbers below n.
use Rattle.std.proofs.Common.{◌≡◌, ℕ, zero, suc, ◌+◌, ◌-◌, ◌<◌, ◌≤◌, refl, sym, ap, ◌∙◌, inl, inr, arith, Bool, true, false, cond, eqb}
use Rattle.std.proofs.lemmas.Bool.{cases_eq, cases_Bool, eq-eqb, ne_eqb, false≢true}
use Rattle.dataflow_model.specs.Sums.{total}

pub total_same : (n : ℕ) (f g : ℕ → ℕ) → ((k : ℕ) → k < n → f k ≡ g k) → total n f ≡ total n g
total_same zero f g h = refl
total_same (suc n) f g h =
    let a : f n ≡ g n = h n (omega arith) in
    let b : total n f ≡ total n g = total_same n f g (λ k l. h k (omega arith)) in
    omega arith

pub total_add : (n : ℕ) (f g : ℕ → ℕ) → total n (λ k. f k + g k) ≡ total n f + total n g
total_add zero f g = refl
total_add (suc n) f g = omega (arith, total_add n f g)

pub total_none : (n : ℕ) → total n (λ k. 0) ≡ 0
total_none zero = refl
total_none (suc n) = omega (arith, total_none n)

pub total_swap : (n m : ℕ) (f : ℕ → ℕ → ℕ) → total n (λ i. total m (λ j. f i j)) ≡ total m (λ j. total n (λ i. f i j))
total_swap zero m f = sym (total_none m)
total_swap (suc n) m f = omega (arith, total_swap n m f, total_add m (λ j. f n j) (λ j. total n (λ i. f i j)))

pub total_front : (n p : ℕ) (f : ℕ → ℕ) → p ≤ n → ((k : ℕ) → p ≤ k → k < n → f k ≡ 0) → total n f ≡ total p f
total_front zero p f l h = let e : p ≡ 0 = omega arith in rw e refl
total_front (suc n) p f l h =
    elim (cases_eq p (suc n)) [
      | inl e ↦ rw e refl
      | inr ne ↦
          let m : p ≤ n = omega arith in
          let z : f n ≡ 0 = h n m (omega arith) in
          omega (arith, z, total_front n p f m (λ k a b. h k a (omega arith)))
    ]

pub eqb_swap : (a b : ℕ) → eqb a b ≡ eqb b a
eqb_swap a b =
    elim (cases_eq a b) [
      | inl e ↦ eq-eqb a b e ∙ sym (eq-eqb b a (sym e))
      | inr n ↦ ne_eqb a b n ∙ sym (ne_eqb b a (λ e. n (sym e)))
    ]

pub total_at : (n c x : ℕ) → c < n → total n (λ j. cond (eqb j c) x 0) ≡ x
total_at zero c x l = absurd (omega arith)
total_at (suc n) c x l =
    elim (cases_eq n c) [
      | inl e ↦
          let z : total n (λ j. cond (eqb j c) x 0) ≡ 0 = total_same n (λ j. cond (eqb j c) x 0) (λ j. 0) (λ j k. let q = ne_eqb j c (λ u. absurd (omega arith)) in rw q refl) ∙ total_none n in
          let q = eq-eqb n c e in rw q (omega arith)
      | inr ne ↦ let q = ne_eqb n c ne in rw q (omega (arith, total_at n c x (omega arith)))
    ]

-- a sum over the numbers that a test picks, by their places
pub total_places : (n m : ℕ) (test : ℕ → Bool) (place : ℕ → ℕ) (number : ℕ → ℕ) (f : ℕ → ℕ) → ((i : ℕ) → i < m → (number i < n) × (test (number i) ≡ true) × (place (number i) ≡ i)) → ((s : ℕ) → s < n → test s ≡ true → (place s < m) × (number (place s) ≡ s)) → total n (λ s. cond (test s) (f (place s)) 0) ≡ total m f
total_places n m test place number f there back =
    total_same n _ (λ s. total m (λ i. cond (eqb (number i) s) (f i) 0)) (λ s l. elim (cases_Bool (test s)) [
      | inl e ↦ rw e (
          let bk = back s l e in
          sym (total_same m _ (λ i. cond (eqb i (place s)) (f (place s)) 0) (λ i k. elim (cases_eq i (place s)) [
            | inl u ↦ (let d = eq-eqb i (place s) u in let d' : eqb (number i) s ≡ true = eq-eqb (number i) s (ap number u ∙ bk.1) in rw (d, d') (ap f u))
            | inr u ↦ (let d = ne_eqb i (place s) u in let d' : eqb (number i) s ≡ false = ne_eqb (number i) s (λ q. u (sym (there i k).2 ∙ ap place q)) in rw (d, d') refl)
          ])
          ∙ total_at m (place s) (f (place s)) bk.0))
      | inr e ↦ rw e (sym (total_same m _ (λ i. 0) (λ i k. let d' : eqb (number i) s ≡ false = ne_eqb (number i) s (λ q. false≢true (sym e ∙ ap test (sym q) ∙ (there i k).1)) in rw d' refl) ∙ total_none m))
    ])
    ∙ total_swap n m (λ s i. cond (eqb (number i) s) (f i) 0)
    ∙ total_same m _ f (λ i k. total_same n _ (λ s. cond (eqb s (number i)) (f i) 0) (λ s l. ap (λ x. cond x (f i) 0) (eqb_swap (number i) s)) ∙ total_at n (number i) (f i) (there i k).0)

pub total_le : (n : ℕ) (f g : ℕ → ℕ) → ((k : ℕ) → k < n → f k ≤ g k) → total n f ≤ total n g
total_le zero f g h = omega arith
total_le (suc n) f g h = let a = h n (omega arith) in let c = total_le n f g (λ k l. h k (omega arith)) in omega (arith, a, c)

-- a sum with one term changed
pub total_change : (n k : ℕ) (f g : ℕ → ℕ) → k < n → ((x : ℕ) → (x ≡ k → ⊥) → f x ≡ g x) → total n f + g k ≡ total n g + f k
total_change zero k f g l h = absurd (omega arith)
total_change (suc n) k f g l h =
    elim (cases_eq k n) [
      | inl e ↦
          (let a = total_same n f g (λ x m. h x (λ q. absurd (omega arith))) in
          let p = ap f e in let q = ap g e in omega (arith, a, p, q))
      | inr ne ↦ (let a = total_change n k f g (omega arith) h in let p = h n (λ q. ne (sym q)) in omega (arith, a, p))
    ]

total_more : (n k : ℕ) (f : ℕ → ℕ) → total n f ≤ total (n + k) f
total_more n zero f = (let e : n + 0 ≡ n = omega arith in rw e (omega arith))
total_more n (suc k) f = let a = total_more n k f in (let e : n + suc k ≡ suc (n + k) = omega arith in rw e (omega arith))

pub total_up : (n m : ℕ) (f : ℕ → ℕ) → n ≤ m → total n f ≤ total m f
total_up n m f le = let e : n + (m - n) ≡ m = omega arith in let a = total_more n (m - n) f in (rw e at a)

pub front_and_one : (n p u : ℕ) (f : ℕ → ℕ) → p ≤ u → u < n → total p f + f u ≤ total n f
front_and_one n p u f l m = let a = total_up p u f l in let c = total_up (suc u) n f m in omega (arith, a, c)

-- a sum with one term at most
pub total_at_le : (n c x : ℕ) → total n (λ j. cond (eqb j c) x 0) ≤ x
total_at_le zero c x = omega arith
total_at_le (suc n) c x =
    elim (cases_eq n c) [
      | inl e ↦ (let a = total_at (suc n) c x (omega arith) in omega (arith, a))
      | inr ne ↦ (let q = ne_eqb n c ne in rw q (let a = total_at_le n c x in omega (arith, a)))
    ]
