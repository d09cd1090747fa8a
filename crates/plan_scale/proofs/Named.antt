-- The members of a document by their names.
use Rattle.std.proofs.Common.{◌≡◌, ℕ, ℤ, suc, ◌+◌, Bool, true, false, ◌&&◌, not, min, pos, cond, length, List, [], ◌∷◌, Some, None, is_some, refl, ◌∙◌, ltb, inl, inr, arith}
use Rattle.std.proofs.lemmas.Bool.{cases_Bool, and_parts}
use Rattle.std.proofs.lemmas.Int.{ints}
use Rattle.std.proofs.lemmas.Bool.Decides.{nat_tests}
use Rattle.std.specs.Prelude.{bytes_eq}
use Rattle.std.specs.List.{list_all, list_any, position, prefix_len}
use Rattle.std.proofs.lemmas.List.Folds.{list_all-append, list_all-map}
use Rattle.plan_model.specs.declared.spec.SourceSpec.{SourceSpec}
use Rattle.plan_model.specs.declared.spec.FilterSpec.{FilterSpec}
use Rattle.plan_model.specs.PlanData.{PlanData}
use Rattle.json_parts.specs.Tests.{is_within}
use Rattle.key_groups.specs.declared.limits.TheConstants.{MOST_SUBTASKS}
use Rattle.plan_scale.specs.declared.text.OperatorText.{OperatorText}
use Rattle.plan_scale.specs.declared.text.ScaleText.{ScaleText}
use Rattle.plan_scale.specs.Said.{one_subtask, operator_under}
use Rattle.plan_scale.specs.Requirements.{has_all_uids, has_parallelism}
use Rattle.plan_model.proofs.Facts.{and_true}

-- each uid of the plan is given, part by part
pub all_uids : (plan : PlanData) (text : ScaleText) → has_all_uids plan text
    ≡ ((list_all (λ (s : SourceSpec). list_any (λ m. bytes_eq m.0 s.uid) text.operators) plan.sources
    && list_all (λ (f : FilterSpec). list_any (λ m. bytes_eq m.0 f.uid) text.operators) plan.filters)
    && list_any (λ m. bytes_eq m.0 plan.window.uid) text.operators)
unfolding has_all_uids
all_uids plan text = simp (list_all-append, list_all-map, and_true)

some_if : (b : Bool) (n : ℕ) → is_some (cond b (Some n) None) ≡ b
some_if true n = refl
some_if false n = refl

below_suc : (m n : ℕ) → ltb (1 + m) (suc n) ≡ ltb m n
below_suc m n = grind (arith, nat_tests)

found_below : {A : Type 0} (test : A → Bool) (xs : List A) → ltb (prefix_len (λ x. not (test x)) xs) (length xs) ≡ list_any test xs
found_below test [] = refl
found_below test (x ∷ xs) =
    elim (cases_Bool (test x)) [
      | inl e ↦ rw e (grind (arith, nat_tests))
      | inr e ↦ rw e (below_suc (prefix_len (λ y. not (test y)) xs) (length xs) ∙ found_below test xs)
    ]

pub is_some_position : {A : Type 0} (test : A → Bool) (xs : List A) → is_some (position test xs) ≡ list_any test xs
is_some_position test xs = some_if _ _ ∙ found_below test xs

-- what holds of each member's part, and of one subtask, holds under each uid
pub found_passes : (test : OperatorText → Bool) (uid : List ℕ) (operators : List (List ℕ × OperatorText)) → test one_subtask ≡ true → list_all (λ m. test m.1) operators ≡ true → test (operator_under uid operators) ≡ true
found_passes test uid [] one all = one
found_passes test uid (m ∷ ms) one all =
    let parts = and_parts (test m.1) (list_all (λ (x : List ℕ × OperatorText). test x.1) ms) all in
    elim (cases_Bool (bytes_eq m.0 uid)) [
      | inl e ↦ rw e parts.0
      | inr e ↦ rw e (found_passes test uid ms one parts.1)
    ]

pub within_under : (uid : List ℕ) (operators : List (List ℕ × OperatorText)) → list_all (λ m. is_within (pos 1) (pos MOST_SUBTASKS) m.1.parallelism) operators ≡ true
    → is_within (pos 1) (pos MOST_SUBTASKS) (operator_under uid operators).parallelism ≡ true
within_under uid operators all = found_passes (λ o. is_within (pos 1) (pos MOST_SUBTASKS) o.parallelism) uid operators refl all

narrower : (max : ℕ) (n : ℤ) → is_within (pos 1) (pos (min MOST_SUBTASKS max)) n ≡ true → is_within (pos 1) (pos MOST_SUBTASKS) n ≡ true
narrower max n h = grind (arith, ints)

all_narrower : (max : ℕ) (operators : List (List ℕ × OperatorText)) → list_all (λ m. is_within (pos 1) (pos (min MOST_SUBTASKS max)) m.1.parallelism) operators ≡ true → list_all (λ m. is_within (pos 1) (pos MOST_SUBTASKS) m.1.parallelism) operators ≡ true
all_narrower max [] h = refl
all_narrower max (m ∷ ms) h =
    let parts = and_parts (is_within (pos 1) (pos (min MOST_SUBTASKS max)) m.1.parallelism) (list_all (λ (x : List ℕ × OperatorText). is_within (pos 1) (pos (min MOST_SUBTASKS max)) x.1.parallelism) ms) h in
    rw (narrower max m.1.parallelism parts.0) (all_narrower max ms parts.1)

pub within_64 : (plan : PlanData) (text : ScaleText) → has_parallelism plan text ≡ true → list_all (λ m. is_within (pos 1) (pos MOST_SUBTASKS) m.1.parallelism) text.operators ≡ true
unfolding has_parallelism
within_64 plan text h = all_narrower plan.max text.operators h
