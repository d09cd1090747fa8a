-- The start nearest to a number, of those of some slices, as the code looks for it.
use Rattle.std.proofs.Common.{◌≡◌, ℕ, zero, suc, ℤ, ◌+◌, ◌<◌, true, List, [], ◌∷◌, length, take, get_or, ap, subst, ◌∙◌, ◌⊎◌, inl, inr, arith, Option, Some, None}
use Rattle.std.specs.Prelude.{IfSome}
use Rattle.std.specs.List.{All}
use Rattle.std.specs.Ordering.{int_eq}
use Rattle.std.proofs.lemmas.Bool.{or_left, or_right}
use Rattle.std.proofs.lemmas.Int.{ints}
use Rattle.std.proofs.lemmas.List.Elements.{All-more, All-weaker}
use Rattle.window_slices.specs.declared.key_slices.Slice.{Slice}
use Rattle.window_slices.specs.KeySlices.{has_start, IsUpTo, IsFrom}

itself : (z : ℤ) → int_eq z z ≡ true
itself z = grind (arith, ints)

pub has_item : (xs : List Slice) (i : ℕ) (d : Slice) → i < length xs → has_start (get_or xs i d).start xs ≡ true
has_item [] i d h = absurd (omega (arith, h))
has_item (x ∷ xs) zero d h = or_left (int_eq x.start x.start) (has_start x.start xs) (itself x.start)
has_item (x ∷ xs) (suc i) d h = or_right (int_eq (get_or xs i d).start x.start) (has_start (get_or xs i d).start xs) (has_item xs i d (omega (arith, h)))

-- one that is found is the one before, or has the start that was looked at
pub found_there : (P : ℤ → Type 0) (number : ℤ) (xs : List Slice) (old new : Option ℤ) → has_start number xs ≡ true → IfSome new (λ b. (old ≡ Some b) ⊎ ((b ≡ number) × P b))
    → IfSome old (λ b. P b × (has_start b xs ≡ true)) → IfSome new (λ b. P b × (has_start b xs ≡ true))
found_there P number xs old None has one there = tt
found_there P number xs old (Some b) has one there = elim one [
  | inl same ↦ subst (λ o. IfSome o (λ b. P b × (has_start b xs ≡ true))) same there
  | inr taken ↦ (taken.1, ap (λ z. has_start z xs) taken.0 ∙ has)
]

-- it reaches the starts that the one before did, and the one that was looked at
pub found_nearest : (Q : ℤ → Type 0) (R : Option ℤ → ℤ → Type 0) (xs : List Slice) (i : ℕ) (x : Slice) (old new : Option ℤ) → i < length xs → x ≡ get_or xs i x → ((z : ℤ) → R old z → R new z)
    → (Q x.start → R new x.start) → All (λ (y : Slice). Q y.start → R old y.start) (take i xs) → All (λ (y : Slice). Q y.start → R new y.start) (take (i + 1) xs)
found_nearest Q R xs i x old new h is kept here all =
    All-more (λ (y : Slice). Q y.start → R new y.start) xs i x h
    (All-weaker (λ (y : Slice). Q y.start → R old y.start) (λ (y : Slice). Q y.start → R new y.start) (λ y f q. kept y.start (f q)) (take i xs) all)
    (subst (λ (y : Slice). Q y.start → R new y.start) is here)

pub up_to_kept : (old new : Option ℤ) → IfSome old (λ b. IsUpTo new b) → (z : ℤ) → IsUpTo old z → IsUpTo new z
up_to_kept None new kept z h = absurd h
up_to_kept (Some b) None kept z h = absurd kept
up_to_kept (Some b) (Some c) kept z h = omega (arith, ints, kept, h)

pub from_kept : (old new : Option ℤ) → IfSome old (λ b. IsFrom new b) → (z : ℤ) → IsFrom old z → IsFrom new z
from_kept None new kept z h = absurd h
from_kept (Some b) None kept z h = absurd kept
from_kept (Some b) (Some c) kept z h = omega (arith, ints, kept, h)
