-- Tests of the parts of a list.
use Rattle.std.proofs.Common.{◌≡◌, Bool, true, ◌&&◌, List, ◌∷◌}
use Rattle.std.specs.List.{list_all}
use Rattle.std.proofs.lemmas.List.Folds.{list_all-map, list_all-append}
use Rattle.logical_plan.specs.declared.text.SourceText.{SourceText}
use Rattle.logical_plan.specs.declared.text.FilterText.{FilterText}
use Rattle.logical_plan.specs.declared.text.PlanText.{PlanText}
use Rattle.plan_model.specs.Uids.{is_uid}
use Rattle.byte_fields.proofs.Exact.{both}
use Rattle.logical_plan.specs.Requirements.{has_uids}
use Rattle.plan_model.proofs.Facts.{and_true}

-- the test of all uids, part by part
pub all_uids : (p : PlanText) → has_uids p ≡ ((list_all (λ (s : SourceText). is_uid s.uid) p.sources && list_all (λ (f : FilterText). is_uid f.uid) p.filters) && is_uid p.window.uid)
unfolding has_uids
all_uids p = simp (list_all-append, list_all-map, and_true)

-- a test that all pass, at the first and at the rest
pub first_passes : {X : Type 0} (test : X → Bool) (xs ys : List X) (x : X) → xs ≡ x ∷ ys → list_all test xs ≡ true → (test x ≡ true) × (list_all test ys ≡ true)
first_passes test xs ys x split all = both (test x) (list_all test ys) (rw split at all)
