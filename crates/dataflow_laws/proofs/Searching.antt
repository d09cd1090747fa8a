-- The least, the highest and the lowest of the numbers below n that pass a test.
use Rattle.std.proofs.Common.{◌≡◌, ℕ, zero, suc, ◌<◌, ◌≤◌, Bool, true, false, sym, ap, ◌∙◌, ◌⊎◌, inl, inr, arith}
use Rattle.std.proofs.lemmas.Bool.{cases_eq, cases_Bool, cases_lt, false≢true}

-- one that passes, where f is least
pub record Least (f : ℕ → ℕ) (test : ℕ → Bool) (n : ℕ) : Type 0 where
  pub at : ℕ
  pub below : at < n
  pub is : test at ≡ true
  pub least : (u : ℕ) → u < n → test u ≡ true → f at ≤ f u

last_fails : (test : ℕ → Bool) (n u : ℕ) → test n ≡ false → u ≡ n → test u ≡ true → ⊥
last_fails test n u e q h = false≢true (sym e ∙ ap test (sym q) ∙ h)

pub least : (f : ℕ → ℕ) (test : ℕ → Bool) (n : ℕ) → ((t : ℕ) → t < n → test t ≡ false) ⊎ Least f test n
least f test zero = inl (λ t l. absurd (omega arith))
least f test (suc n) = elim (cases_Bool (test n)) [
  | inr e ↦ elim (least f test n) [
    | inl h ↦ inl (λ t l. elim (cases_eq t n) [ inl q ↦ ap test q ∙ e | inr q ↦ h t (omega (arith, l, q)) ])
    | inr h ↦ inr (record { at = h.at; below = (let l = h.below in omega (arith, l)); is = h.is; least = λ u l y. elim (cases_eq u n) [ inl q ↦ absurd (last_fails test n u e q y) | inr q ↦ h.least u (omega (arith, l, q)) y ] })
  ]
  | inl e ↦ elim (least f test n) [
    | inl h ↦ inr (record { at = n; below = omega arith; is = e; least = λ u l y. elim (cases_eq u n) [ inl q ↦ (let z = ap f q in omega (arith, z)) | inr q ↦ absurd (false≢true (sym (h u (omega (arith, l, q))) ∙ y)) ] })
    | inr h ↦ elim (cases_lt (f n) (f h.at)) [
      | inl lt ↦ inr (record { at = n; below = omega arith; is = e; least = λ u l y. elim (cases_eq u n) [ inl q ↦ (let z = ap f q in omega (arith, z)) | inr q ↦ (let z = h.least u (omega (arith, l, q)) y in omega (arith, z, lt)) ] })
      | inr ge ↦ inr (record { at = h.at; below = (let l = h.below in omega (arith, l)); is = h.is; least = λ u l y. elim (cases_eq u n) [ inl q ↦ (let z = ap f q in omega (arith, z, ge)) | inr q ↦ h.least u (omega (arith, l, q)) y ] })
    ]
  ]
]

pub record Top (test : ℕ → Bool) (n : ℕ) : Type 0 where
  pub at : ℕ
  pub below : at < n
  pub is : test at ≡ true
  pub above : (u : ℕ) → at < u → u < n → test u ≡ false

pub top : (test : ℕ → Bool) (n : ℕ) → ((t : ℕ) → t < n → test t ≡ false) ⊎ Top test n
top test zero = inl (λ t l. absurd (omega arith))
top test (suc n) = elim (cases_Bool (test n)) [
  | inl e ↦ inr (record { at = n; below = omega arith; is = e; above = λ u a c. absurd (omega (arith, a, c)) })
  | inr e ↦ elim (top test n) [
    | inl h ↦ inl (λ t l. elim (cases_eq t n) [ inl q ↦ ap test q ∙ e | inr q ↦ h t (omega (arith, l, q)) ])
    | inr h ↦ inr (record { at = h.at; below = (let l = h.below in omega (arith, l)); is = h.is; above = λ u a c. elim (cases_eq u n) [ inl q ↦ ap test q ∙ e | inr q ↦ h.above u a (omega (arith, c, q)) ] })
  ]
]

pub record Bottom (test : ℕ → Bool) (n : ℕ) : Type 0 where
  pub at : ℕ
  pub below : at < n
  pub is : test at ≡ true
  pub before : (u : ℕ) → u < at → test u ≡ false

pub bottom : (test : ℕ → Bool) (n : ℕ) → ((t : ℕ) → t < n → test t ≡ false) ⊎ Bottom test n
bottom test zero = inl (λ t l. absurd (omega arith))
bottom test (suc n) = elim (bottom test n) [
  | inr h ↦ inr (record { at = h.at; below = (let l = h.below in omega (arith, l)); is = h.is; before = h.before })
  | inl h ↦ elim (cases_Bool (test n)) [
    | inr e ↦ inl (λ t l. elim (cases_eq t n) [ inl q ↦ ap test q ∙ e | inr q ↦ h t (omega (arith, l, q)) ])
    | inl e ↦ inr (record { at = n; below = omega arith; is = e; before = λ u l. h u l })
  ]
]

-- a place where f has not come to g, or none
pub some_left : (n : ℕ) (f g : ℕ → ℕ) → ((q : ℕ) → q < n → f q ≤ g q) → ((q : ℕ) → q < n → f q ≡ g q) ⊎ ((q : ℕ) × (q < n) × (f q < g q))
some_left zero f g h = inl (λ q l. absurd (omega arith))
some_left (suc n) f g h = elim (cases_lt (f n) (g n)) [
  | inl a ↦ inr (n, omega arith, a)
  | inr a ↦ elim (some_left n f g (λ q l. h q (omega (arith, l)))) [
    | inr x ↦ inr (x.0, (let l = x.1 in omega (arith, l)), x.2)
    | inl x ↦ inl (λ q l. elim (cases_eq q n) [ inl e ↦ (let y = h n (omega arith) in let z = ap f e in let z' = ap g e in omega (arith, y, z, z', a)) | inr e ↦ x q (omega (arith, l, e)) ])
  ]
]
