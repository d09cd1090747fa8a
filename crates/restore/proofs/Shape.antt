-- What is met of a savepoint, requirement after requirement.
use Rattle.std.proofs.Common.{◌≡◌, Bool, true, false, List, [], ◌∷◌, ◌++◌, length, map, Option, Some, None, Result, Ok, Err, refl, sym, ◌∙◌, ap, subst}
use Rattle.std.specs.Prelude.{◌==◌}
use Rattle.std.specs.List.{list_all}
use Rattle.std.specs.Result.{IsErrAnd}
use Rattle.std.specs.Option.{option_or, option_map_or}
use Rattle.std.proofs.lemmas.Bool.{eqb-true, and_parts}
use Rattle.answers.specs.Answer.{unless, Fails, Gives, first_unmet, value_or_fault}
use Rattle.answers.proofs.Facts.{met_first, no_fault}
use Rattle.plan_model.specs.declared.spec.SourceSpec.{SourceSpec}
use Rattle.plan_model.specs.PlanData.{PlanData}
use Rattle.savepoint_codec.specs.declared.savepoint.SavedSource.{SavedSource}
use Rattle.savepoint_codec.specs.declared.savepoint.Contents.{Contents}
use Rattle.redistribute.specs.StartData.{StartData, IsStartOf}
use Rattle.legs.specs.declared.restore_fault.RestoreFault.{RestoreFault}
use Rattle.legs.specs.declared.restore_fault.RestoreFault.TheVariants.{MaxParallelism, UnknownUid, MissingUid, PlanChanged, Partitions}
use Rattle.restore.specs.Saved.{saved_under}
use Rattle.restore.specs.Requirements.{has_max, has_known_uids, has_all_uids, has_plan, has_partitions, plan_requirements}
use Rattle.restore.specs.Answer.{met_or_fault, start_of, is_memory}

only : (b : Bool) (P Q : Type 0) → (P → Q) → unless b P → unless b Q
only true P Q f h = tt
only false P Q f h = f h

nested : {F : Type 0} (a b d : Option F) → option_or a (option_or b d) ≡ option_or (option_or a b) d
nested (Some f) b d = refl
nested None b d = refl

first_of_both : (rs ts : List (Contents → Option RestoreFault)) (s : Contents) → first_unmet (rs ++ ts) s ≡ option_or (first_unmet rs s) (first_unmet ts s)
first_of_both [] ts s = refl
first_of_both (r ∷ rs) ts s = ap (option_or (r s)) (first_of_both rs ts s) ∙ nested (r s) (first_unmet rs s) (first_unmet ts s)

abbrev met : Result (Unit {0}) RestoreFault
met = Ok tt

pub none_of : (o : Option RestoreFault) → option_map_or Err o met ≡ met → o ≡ None
none_of o h = (no_fault o tt tt h).0

some_of : (o : Option RestoreFault) (f : RestoreFault) → option_map_or Err o met ≡ Err f → o ≡ Some f
some_of None f h = absurd cc
some_of (Some g) f h = cc

said_of : (rs ts : List (Contents → Option RestoreFault)) (v : Contents → StartData) (s : Contents) (a b : Option RestoreFault) → first_unmet rs s ≡ a → first_unmet ts s ≡ b
    → value_or_fault (rs ++ ts) v s ≡ option_map_or Err (option_or a b) (Ok (v s))
said_of rs ts v s a b p q = ap (λ o. option_map_or Err o (Ok (v s))) (first_of_both rs ts s ∙ (λ i. option_or (p i) (q i)))

-- where both are met, the start is answered
pub both_met : (rs ts : List (Contents → Option RestoreFault)) (v : Contents → StartData) (s : Contents) → met_or_fault rs s ≡ Ok tt → met_or_fault ts s ≡ Ok tt → value_or_fault (rs ++ ts) v s ≡ Ok (v s)
both_met rs ts v s p q = said_of rs ts v s None None (none_of _ p) (none_of _ q)

-- else the fault of the first that is not
pub first_unmet_is : (rs ts : List (Contents → Option RestoreFault)) (v : Contents → StartData) (s : Contents) (f : RestoreFault) → Fails is_memory f (met_or_fault rs s) → Fails is_memory f (value_or_fault (rs ++ ts) v s)
first_unmet_is rs ts v s f h = only (is_memory f) _ _ (λ p. said_of rs ts v s (Some f) (first_unmet ts s) (some_of _ f p) refl) h

pub second_unmet_is : (rs ts : List (Contents → Option RestoreFault)) (v : Contents → StartData) (s : Contents) (f : RestoreFault) → met_or_fault rs s ≡ Ok tt → Fails is_memory f (met_or_fault ts s) → Fails is_memory f (value_or_fault (rs ++ ts) v s)
second_unmet_is rs ts v s f p h = only (is_memory f) _ _ (λ q. said_of rs ts v s None (Some f) (none_of _ p) (some_of _ f q)) h

-- a source has as many partitions as the plan says
shaped : (specs : List SourceSpec) (saved : List SavedSource) → list_all (λ x. length (saved_under x.uid saved) == x.partitions) specs ≡ true
    → map (λ ps. length ps) (map (λ x. saved_under x.uid saved) specs) ≡ map (λ x. x.partitions) specs
shaped [] saved h = refl
shaped (x ∷ xs) saved h =
    let parts = and_parts (length (saved_under x.uid saved) == x.partitions) (list_all (λ (y : SourceSpec). length (saved_under y.uid saved) == y.partitions) xs) h in
    λ i. eqb-true _ _ parts.0 i ∷ shaped xs saved parts.1 i

pub start_shaped : (plan : PlanData) (s : Contents) → met_or_fault (plan_requirements plan) s ≡ Ok tt → IsStartOf plan (start_of plan s)
unfolding plan_requirements has_partitions
start_shaped plan s h =
    let a = none_of _ h in
    let b = (met_first MaxParallelism (has_max plan s) _ a).1 in
    let d = (met_first UnknownUid (has_known_uids plan s) _ b).1 in
    let e = (met_first MissingUid (has_all_uids plan s) _ d).1 in
    let f = (met_first PlanChanged (has_plan plan s) _ e).1 in
    let g = (met_first Partitions (has_partitions plan s) None f).0 in
    shaped plan.sources s.sources g

-- a fault that was answered
pub gives_fault : (r : Result StartData RestoreFault) (f : RestoreFault) (said : Result StartData RestoreFault) → IsErrAnd r (λ e. e ≡ f) → Fails is_memory f said → Gives is_memory (λ s. s) r said
gives_fault (Ok x) f said h k = absurd h
gives_fault (Err e) f said h k = subst (λ g. Fails is_memory g said) (sym h) k
