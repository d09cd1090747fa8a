-- What the slices of a key come to, so far and in all.
use Rattle.std.proofs.Common.{◌≡◌, ℕ, ℤ, ◌+◌, ◌<◌, ◌≤◌, ◌^◌, Bool, true, false, cond, List, ◌∷◌, map, drop, length, get_or, refl, sym, ap, subst, ◌∙◌, arith, Option, Some, None}
use Rattle.std.specs.List.{All}
use Rattle.std.specs.Option.{option_map, IfSome}
use Rattle.std.proofs.lemmas.List.{drop_more, drop_all}
use Rattle.std.proofs.lemmas.List.Elements.{All-get_or}
use Rattle.plan_model.specs.declared.spec.Aggregate.{Aggregate}
use Rattle.plan_model.specs.declared.spec.WindowSpec.{WindowSpec}
use Rattle.plan_model.specs.Aggregates.{Aggregated, merge}
use Rattle.plan_model.specs.Windows.{is_within}
use Rattle.plan_model.proofs.Facts.{merge_assoc, count_or, count_merge}
use Rattle.aggregates.specs.Kinds.{AccData, kind_of}
use Rattle.window_slices.specs.declared.key_slices.Slice.{Slice}
use Rattle.window_slices.specs.KeySlices.{IsSliceOf, IsCounted, acc_with, slices_total, total_of}

-- ---- what they come to so far

-- o is what the slices before the i-th come to, with what stood there at first
pub record IsSoFar (w : WindowSpec) (s : ℤ) (xs : List Slice) (first : Option Aggregated) (i : ℕ) (o : Option AccData) : Type 0 where
  pub kinds : IfSome o (λ a. a.kinds ≡ map kind_of w.aggregates)
  pub merged : merge w.aggregates (total_of o) (slices_total w s (drop i xs)) ≡ merge w.aggregates first (slices_total w s xs)

-- the kinds of what stands there
pub kinds_of : (w : WindowSpec) (o : Option AccData) (a : AccData) → o ≡ Some a → IfSome o (λ b. b.kinds ≡ map kind_of w.aggregates) → a.kinds ≡ map kind_of w.aggregates
kinds_of w o a there kinds = subst (λ (p : Option AccData). IfSome p (λ b. b.kinds ≡ map kind_of w.aggregates)) there kinds

pub at_most : (o : Option Aggregated) → IsCounted o → count_or o ≤ 2 ^ 41
at_most None few = omega arith
at_most (Some a) few = few a refl

-- the next slice
module _ (w : WindowSpec) (s : ℤ) (xs : List Slice) (first : Option Aggregated) (i : ℕ) (x : Slice) (low : i < length xs) (is : x ≡ get_or xs i x) where
  left_next : (b : Bool) → is_within w s x.start ≡ b
      → slices_total w s (drop i xs) ≡ cond b (merge w.aggregates (Some x.acc.total) (slices_total w s (drop (i + 1) xs))) (slices_total w s (drop (i + 1) xs))
  left_next b within =
      let rest = slices_total w s (drop (i + 1) xs) in
      ap (slices_total w s) (drop_more xs i x low ∙ ap (λ (y : Slice). y ∷ drop (i + 1) xs) (sym is))
      ∙ ap (λ t. cond t (merge w.aggregates (Some x.acc.total) rest) rest) within

  next_kinds : All (IsSliceOf w) xs → IsSliceOf w x
  next_kinds all = subst (IsSliceOf w) (sym is) (All-get_or (IsSliceOf w) xs i x low all)

  -- it has the kinds of what stands there
  pub same_kinds : (o : Option AccData) (a : AccData) → o ≡ Some a → IsSoFar w s xs first i o → All (IsSliceOf w) xs → a.kinds ≡ x.acc.kinds
  same_kinds o a there so_far all = kinds_of w o a there so_far.kinds ∙ sym (next_kinds all)

  -- both together are of no more records than all
  pub few_in : (o : Option AccData) (a : AccData) → o ≡ Some a → is_within w s x.start ≡ true → IsSoFar w s xs first i o → IsCounted (merge w.aggregates first (slices_total w s xs)) → a.total.count + x.acc.total.count ≤ 2 ^ 41
  few_in o a there within so_far few =
      let all = merge w.aggregates first (slices_total w s xs) in
      let rest = slices_total w s (drop (i + 1) xs) in
      let left = merge w.aggregates (Some x.acc.total) rest in
      let whole : merge w.aggregates (Some a.total) left ≡ all =
      ap (λ t. merge w.aggregates (total_of t) left) (sym there) ∙ ap (merge w.aggregates (total_of o)) (sym (left_next true within)) ∙ so_far.merged in
      let counts : count_or all ≡ a.total.count + count_or left = sym (ap count_or whole) ∙ count_merge w.aggregates (Some a.total) left in
      let next : count_or left ≡ x.acc.total.count + count_or rest = count_merge w.aggregates (Some x.acc.total) rest in
      omega (arith, counts, next, at_most all few)

  merged_in : (before now : Option Aggregated) → is_within w s x.start ≡ true → now ≡ merge w.aggregates before (Some x.acc.total)
      → merge w.aggregates before (slices_total w s (drop i xs)) ≡ merge w.aggregates first (slices_total w s xs)
      → merge w.aggregates now (slices_total w s (drop (i + 1) xs)) ≡ merge w.aggregates first (slices_total w s xs)
  merged_in before now within steps so_far =
      let rest = slices_total w s (drop (i + 1) xs) in
      ap (λ t. merge w.aggregates t rest) steps
      ∙ merge_assoc w.aggregates before (Some x.acc.total) rest
      ∙ ap (merge w.aggregates before) (sym (left_next true within))
      ∙ so_far

  -- one in the window is merged with what stands there
  pub so_far_merged : (o : Option AccData) (a new : AccData) → o ≡ Some a → is_within w s x.start ≡ true → new.kinds ≡ a.kinds
      → ((aggregates : List Aggregate) → map kind_of aggregates ≡ a.kinds → Some new.total ≡ merge aggregates (Some a.total) (Some x.acc.total)) → IsSoFar w s xs first i o
      → IsSoFar w s xs first (i + 1) (Some new)
  so_far_merged o a new there within kinds total so_far =
      let own = kinds_of w o a there so_far.kinds in
      record {
        kinds = kinds ∙ own;
        merged = merged_in (total_of o) (Some new.total) within (total w.aggregates (sym own) ∙ ap (λ t. merge w.aggregates (total_of t) (Some x.acc.total)) (sym there)) so_far.merged;
      }

  -- the first in the window stands there
  pub so_far_first : (o : Option AccData) → o ≡ None → is_within w s x.start ≡ true → All (IsSliceOf w) xs → IsSoFar w s xs first i o → IsSoFar w s xs first (i + 1) (Some x.acc)
  so_far_first o none within all so_far = record {
    kinds = next_kinds all;
    merged = merged_in (total_of o) (Some x.acc.total) within (ap (λ t. merge w.aggregates (total_of t) (Some x.acc.total)) (sym none)) so_far.merged;
  }

  -- one that is not in the window is left out
  pub so_far_out : (o : Option AccData) → is_within w s x.start ≡ false → IsSoFar w s xs first i o → IsSoFar w s xs first (i + 1) o
  so_far_out o without so_far = record {
    kinds = so_far.kinds;
    merged = ap (merge w.aggregates (total_of o)) (sym (left_next false without)) ∙ so_far.merged;
  }

-- ---- the accumulator of them all

acc_of : (w : WindowSpec) (o : Option AccData) (all : Option Aggregated) → IfSome o (λ a. a.kinds ≡ map kind_of w.aggregates) → merge w.aggregates (total_of o) None ≡ all → o ≡ option_map (acc_with w) all
acc_of w None all kinds is = ap (option_map (acc_with w)) is
acc_of w (Some a) all kinds is = (λ i. Some (record { kinds = kinds i; total = a.total })) ∙ ap (option_map (acc_with w)) is

pub acc_of_all : (w : WindowSpec) (s : ℤ) (xs : List Slice) (first : Option Aggregated) (i : ℕ) (o : Option AccData) → length xs ≤ i → IsSoFar w s xs first i o
    → o ≡ option_map (acc_with w) (merge w.aggregates first (slices_total w s xs))
acc_of_all w s xs first i o high so_far =
    acc_of w o (merge w.aggregates first (slices_total w s xs)) so_far.kinds (ap (λ l. merge w.aggregates (total_of o) (slices_total w s l)) (sym (drop_all i xs high)) ∙ so_far.merged)
