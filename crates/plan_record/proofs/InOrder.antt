-- Keys put in order rise from each to the next.
use Rattle.std.proofs.Common.{◌≡◌, List, [], ◌∷◌, refl, ap, ◌∙◌}
use Rattle.std.specs.List.{AllByRecursion, fold}
use Rattle.std.specs.List.Sorted.{IsStrictlySortedBy}
use Rattle.std.specs.Ordering.{match_ordering, ordering_reverse, nat_cmp}
use Rattle.std.specs.Cmp.{IsTotalOrder, int_cmp_total, on_total, then_total}
use Rattle.std.specs.Cmp.Lexicographic.{slice_cmp}
use Rattle.std.specs.FinMap.{IsAntisymmetric}
use Rattle.std.specs.declared.cmp.Ordering.{Ordering}
use Rattle.std.specs.declared.cmp.Ordering.TheVariants.{Less, Equal, Greater}
use Rattle.std.specs.BTreeSet.{insert_key}
use Rattle.std.proofs.lemmas.Cmp.{nat_cmp_total, nat_list_cmp_total}
use Rattle.plan_record.specs.declared.record.Condition.{Condition}
use Rattle.plan_record.specs.PlanRecord.{ascending, condition_cmp}
use Rattle.plan_record.specs.Laws.{IsInOrder, AscendingIsInOrder}
use Rattle.plan_record.proofs.Members.{any_ascending, conditions_apart, uids_apart}

condition_cmp_total : IsTotalOrder condition_cmp
condition_cmp_total = then_total (on_total (λ (c : Condition). c.subject) nat_cmp_total) (then_total (on_total (λ (c : Condition). c.op) nat_cmp_total) (on_total (λ (c : Condition). c.value) int_cmp_total))

module _ {K : Type 0} (cmp : K → K → Ordering) (total : IsTotalOrder cmp) where
  -- what is above a key is above each key below it
  above_all : (key x : K) (keys : List K) → cmp key x ≡ Less → AllByRecursion (λ y. cmp x y ≡ Less) keys → AllByRecursion (λ y. cmp key y ≡ Less) keys
  above_all key x [] e h = tt
  above_all key x (y ∷ keys) e h = (total.trans key x y e h.0, above_all key x keys e h.1)

  below_inserted : (x key : K) (keys : List K) → cmp x key ≡ Less → AllByRecursion (λ y. cmp x y ≡ Less) keys → AllByRecursion (λ y. cmp x y ≡ Less) (insert_key cmp keys key)
  below_inserted x key [] e h = (e, tt)
  below_inserted x key (y ∷ keys) e h =
      elim (cmp key y) as (λ o. AllByRecursion (λ z. cmp x z ≡ Less) (match_ordering o (key ∷ y ∷ keys) (y ∷ keys) (y ∷ insert_key cmp keys key))) [
        | Less ↦ (e, h)
        | Equal ↦ h
        | Greater ↦ (h.0, below_inserted x key keys e h.1)
      ]

  inserted : (keys : List K) (key : K) → IsStrictlySortedBy cmp keys → IsStrictlySortedBy cmp (insert_key cmp keys key)
  unfolding IsStrictlySortedBy
  inserted [] key s = (tt, tt)
  inserted (x ∷ keys) key s = by_case (cmp key x) refl (inserted keys key s.1)
    where
      by_case : (o : Ordering) → cmp key x ≡ o → IsStrictlySortedBy cmp (insert_key cmp keys key) → IsStrictlySortedBy cmp (match_ordering o (key ∷ x ∷ keys) (x ∷ keys) (x ∷ insert_key cmp keys key))
      by_case Less e rest = ((e, above_all key x keys e s.0), s)
      by_case Equal e rest = s
      by_case Greater e rest = (below_inserted x key keys (total.antisymm x key ∙ ap ordering_reverse e) s.0, rest)

  folded : (keys set : List K) → IsStrictlySortedBy cmp set → IsStrictlySortedBy cmp (fold (insert_key cmp) set keys)
  folded [] set s = s
  folded (x ∷ keys) set s = folded keys (insert_key cmp set x) (inserted set x s)

  in_order : IsAntisymmetric cmp → (keys : List K) → IsInOrder cmp keys (ascending cmp keys)
  unfolding IsStrictlySortedBy
  in_order apart keys = record { rises = folded keys [] tt; members = λ test. any_ascending cmp apart test keys }

pub ascending_is_in_order : AscendingIsInOrder
ascending_is_in_order = (in_order (slice_cmp nat_cmp) nat_list_cmp_total uids_apart, in_order condition_cmp condition_cmp_total conditions_apart)
