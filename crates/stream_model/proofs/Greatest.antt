-- A partition's watermark bounds the watermarks before it, and is one of them.
use Rattle.std.proofs.Common.{◌≡◌, ℤ, ◌≤ℤ◌, ◌==◌, Bool, true, false, ◌||◌, List, [], ◌∷◌, take, length, refl, ap, ◌∙◌, ◌⊎◌, inl, inr, arith}
use Rattle.std.specs.Int.{int_max}
use Rattle.std.specs.List.{All, fold, list_any}
use Rattle.std.specs.Ordering.{int_eq}
use Rattle.std.proofs.lemmas.Int.{ints, clamps}
use Rattle.std.proofs.lemmas.Bool.{ne_eqb}
use Rattle.std.proofs.lemmas.List.Elements.{All-nil, All-cons}
use Rattle.std.proofs.lemmas.Cmp.{int_eq_equiv}
use Rattle.stream_model.specs.declared.entry.Marked.{Marked}
use Rattle.stream_model.specs.Watermarks.{watermark_of_entry}
use Rattle.plain_data.specs.Times.{lowest}
use Rattle.stream_model.specs.Laws.{WatermarkIsGreatest}
use Rattle.stream_model.proofs.Due.{le_fold, le_trans_z}

-- the watermark after an entry
abbrev pub after : ℤ → Marked → ℤ
after w e = int_max w (watermark_of_entry e)

pub max_second : (a b : ℤ) → b ≤ℤ int_max a b
max_second a b = omega (arith, ints, clamps)

bounds : (a : ℤ) (es : List Marked) → All (λ e. watermark_of_entry e ≤ℤ fold after a es) es
bounds a [] = All-nil (λ e. watermark_of_entry e ≤ℤ a)
bounds a (e ∷ es) =
    All-cons (λ d. watermark_of_entry d ≤ℤ fold after (after a e) es) e es
    (le_trans_z (watermark_of_entry e) (after a e) _ (max_second a (watermark_of_entry e)) (le_fold (after a e) es))
    (bounds (after a e) es)

neither : (a b z : ℤ) → int_eq (int_max a b) z ≡ true → int_eq a z ≡ false → int_eq b z ≡ false → ⊥
neither a b z h e f = grind (arith, ints, clamps)

is_max : (a b z : ℤ) → int_eq (int_max a b) z ≡ true → (int_eq a z ≡ true) ⊎ (int_eq b z ≡ true)
is_max a b z h = max_case (int_eq a z) (int_eq b z) refl refl
  where
    max_case : (s t : Bool) → int_eq a z ≡ s → int_eq b z ≡ t → (int_eq a z ≡ true) ⊎ (int_eq b z ≡ true)
    max_case true t e f = inl e
    max_case false true e f = inr f
    max_case false false e f = absurd (neither a b z h e f)

or_true : (b : Bool) → (b || true) ≡ true
or_true true = refl
or_true false = refl

-- where z is the running greatest, it is where that began or one of the watermarks
reached : (a : ℤ) (es : List Marked) (z : ℤ) → int_eq (fold after a es) z ≡ true → (int_eq a z ≡ true) ⊎ (list_any (λ e. int_eq (watermark_of_entry e) z) es ≡ true)
reached a [] z h = inl h
reached a (e ∷ es) z h = elim (reached (after a e) es z h) [
  | inl here ↦ elim (is_max a (watermark_of_entry e) z here) [
    | inl first ↦ inl first
    | inr second ↦ inr (ap (λ b. b || list_any (λ d. int_eq (watermark_of_entry d) z) es) second)
  ]
  | inr later ↦ inr (ap (λ b. int_eq (watermark_of_entry e) z || b) later ∙ or_true (int_eq (watermark_of_entry e) z))
]

same_z : (a b : ℤ) → int_eq a b ≡ true → b ≡ a
same_z a b h = grind (arith, ints)

pub watermark_is_greatest : WatermarkIsGreatest
watermark_is_greatest p n short =
    let here : (n == length p) ≡ false = ne_eqb n (length p) short in
    rw here (
      bounds lowest (take n p),
      elim (reached lowest (take n p) (fold after lowest (take n p)) (int_eq_equiv.refl (fold after lowest (take n p)))) [
        | inl first ↦ inl (same_z _ _ first)
        | inr one ↦ inr one
      ],
    )
