-- Keys put in order have the members that they had.
use Rattle.std.proofs.Common.{◌≡◌, ℕ, ℤ, Bool, true, false, ◌&&◌, ◌||◌, List, [], ◌∷◌, refl, sym, ap, ◌∙◌}
use Rattle.std.specs.List.{fold, list_all, list_any}
use Rattle.std.specs.Ordering.{match_ordering, nat_cmp, int_cmp, ordering_then}
use Rattle.std.specs.Cmp.Lexicographic.{slice_cmp}
use Rattle.std.specs.FinMap.{IsAntisymmetric, nat_cmp-IsAntisymmetric, int_cmp-IsAntisymmetric, slice_cmp-IsAntisymmetric}
use Rattle.std.specs.declared.cmp.Ordering.{Ordering}
use Rattle.std.specs.declared.cmp.Ordering.TheVariants.{Less, Equal, Greater}
use Rattle.std.specs.BTreeSet.{insert_key}
use Rattle.plan_record.specs.declared.record.Condition.{Condition}
use Rattle.plan_record.specs.PlanRecord.{ascending, condition_cmp}

and_twice : (a b : Bool) → (a && b) ≡ (a && (a && b))
and_twice true b = refl
and_twice false b = refl

and_swap : (a b c : Bool) → (a && (b && c)) ≡ (b && (a && c))
and_swap true b c = refl
and_swap false true c = refl
and_swap false false c = refl

or_twice : (a b : Bool) → (a || b) ≡ (a || (a || b))
or_twice true b = refl
or_twice false b = refl

or_swap : (a b c : Bool) → (a || (b || c)) ≡ (b || (a || c))
or_swap true true c = refl
or_swap true false c = refl
or_swap false b c = refl

module _ {K : Type 0} (cmp : K → K → Ordering) (apart : IsAntisymmetric cmp) (test : K → Bool) where
  all_inserted : (keys : List K) (key : K) → list_all test (insert_key cmp keys key) ≡ (test key && list_all test keys)
  all_inserted [] key = refl
  all_inserted (x ∷ keys) key = step (all_inserted keys key) (cmp key x) refl
    where
      step : list_all test (insert_key cmp keys key) ≡ (test key && list_all test keys) → (o : Ordering) → cmp key x ≡ o → list_all test (match_ordering o (key ∷ x ∷ keys) (x ∷ keys) (x ∷ insert_key cmp keys key)) ≡ (test key && (test x && list_all test keys))
      step rest Less e = refl
      step rest Equal e = and_twice (test x) (list_all test keys) ∙ ap (λ k. test k && (test x && list_all test keys)) (sym (apart key x e))
      step rest Greater e = ap (λ b. test x && b) rest ∙ and_swap (test x) (test key) (list_all test keys)

  any_inserted : (keys : List K) (key : K) → list_any test (insert_key cmp keys key) ≡ (test key || list_any test keys)
  any_inserted [] key = refl
  any_inserted (x ∷ keys) key = step (any_inserted keys key) (cmp key x) refl
    where
      step : list_any test (insert_key cmp keys key) ≡ (test key || list_any test keys) → (o : Ordering) → cmp key x ≡ o → list_any test (match_ordering o (key ∷ x ∷ keys) (x ∷ keys) (x ∷ insert_key cmp keys key)) ≡ (test key || (test x || list_any test keys))
      step rest Less e = refl
      step rest Equal e = or_twice (test x) (list_any test keys) ∙ ap (λ k. test k || (test x || list_any test keys)) (sym (apart key x e))
      step rest Greater e = ap (λ b. test x || b) rest ∙ or_swap (test x) (test key) (list_any test keys)

  all_folded : (keys set : List K) → list_all test (fold (insert_key cmp) set keys) ≡ (list_all test keys && list_all test set)
  all_folded [] set = refl
  all_folded (x ∷ keys) set = all_folded keys (insert_key cmp set x) ∙ ap (λ b. list_all test keys && b) (all_inserted set x) ∙ and_swap (list_all test keys) (test x) (list_all test set) ∙ regroup (test x) (list_all test keys) (list_all test set)
    where
      regroup : (a b c : Bool) → (a && (b && c)) ≡ ((a && b) && c)
      regroup true b c = refl
      regroup false b c = refl

  any_folded : (keys set : List K) → list_any test (fold (insert_key cmp) set keys) ≡ (list_any test keys || list_any test set)
  any_folded [] set = refl
  any_folded (x ∷ keys) set = any_folded keys (insert_key cmp set x) ∙ ap (λ b. list_any test keys || b) (any_inserted set x) ∙ or_swap (list_any test keys) (test x) (list_any test set) ∙ regroup (test x) (list_any test keys) (list_any test set)
    where
      regroup : (a b c : Bool) → (a || (b || c)) ≡ ((a || b) || c)
      regroup true b c = refl
      regroup false b c = refl

  -- a test passes each of the keys in order where it passes each of the keys
  pub all_ascending : (keys : List K) → list_all test (ascending cmp keys) ≡ list_all test keys
  all_ascending keys = all_folded keys [] ∙ and_true (list_all test keys)
    where
      and_true : (a : Bool) → (a && true) ≡ a
      and_true true = refl
      and_true false = refl

  -- and one of them where it passes one
  pub any_ascending : (keys : List K) → list_any test (ascending cmp keys) ≡ list_any test keys
  any_ascending keys = any_folded keys [] ∙ or_false (list_any test keys)
    where
      or_false : (a : Bool) → (a || false) ≡ a
      or_false true = refl
      or_false false = refl

then_both : (a b : Ordering) → ordering_then a b ≡ Equal → (a ≡ Equal) × (b ≡ Equal)
then_both Less b e = absurd cc
then_both Equal b e = (refl, e)
then_both Greater b e = absurd cc

abbrev condition : ℕ → ℕ → ℤ → Condition
condition subject op value = record { subject = subject; op = op; value = value }

pub conditions_apart : IsAntisymmetric condition_cmp
conditions_apart a b e =
    let subject = then_both (nat_cmp a.subject b.subject) _ e in
    let rest = then_both (nat_cmp a.op b.op) (int_cmp a.value b.value) subject.1 in
    ap (λ s. condition s a.op a.value) (nat_cmp-IsAntisymmetric a.subject b.subject subject.0) ∙ ap (λ o. condition b.subject o a.value) (nat_cmp-IsAntisymmetric a.op b.op rest.0) ∙ ap (λ v. condition b.subject b.op v) (int_cmp-IsAntisymmetric a.value b.value rest.1)

pub uids_apart : IsAntisymmetric (slice_cmp nat_cmp)
uids_apart a b e = slice_cmp-IsAntisymmetric nat_cmp-IsAntisymmetric a b e
