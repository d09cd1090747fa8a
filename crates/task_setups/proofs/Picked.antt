-- Filters, one operator after another.
use Rattle.std.proofs.Common.{◌≡◌, ℕ, zero, suc, ◌+◌, ◌<◌, List, [], ◌∷◌, ◌++◌, length, take, drop, get_or, append_assoc, refl, sym, ap, ◌∙◌, arith}
use Rattle.std.proofs.Math.Seq.{take-suc}
use Rattle.plan_model.specs.declared.spec.FilterSpec.{FilterSpec}
use Rattle.plan_model.specs.PlanData.{PlanData}
use Rattle.layout_rules.specs.declared.stage.Operator.{Operator}
use Rattle.layout_rules.specs.declared.stage.Operator.TheVariants.{Source, Filter, Window, Sink}
use Rattle.task_setups.specs.Setups.{filters_of}

-- what stands at a place, alone
pub there : {X : Type 0} (xs : List X) (i : ℕ) (x : X) → i < length xs → x ≡ get_or xs i x → take 1 (drop i xs) ≡ x ∷ []
there [] i x l e = absurd (omega (arith, l))
there (y ∷ xs) zero x l e = ap (λ z. z ∷ []) (sym e)
there (y ∷ xs) (suc i) x l e = there xs i x (omega (arith, l)) e

filters_both : (p : PlanData) (os os' : List Operator) → filters_of p (os ++ os') ≡ filters_of p os ++ filters_of p os'
filters_both p [] os' = refl
filters_both p (Source x ∷ os) os' = filters_both p os os'
filters_both p (Filter f ∷ os) os' = ap (λ fs. take 1 (drop f p.filters) ++ fs) (filters_both p os os') ∙ sym (append_assoc (take 1 (drop f p.filters)) (filters_of p os) (filters_of p os'))
filters_both p (Window ∷ os) os' = filters_both p os os'
filters_both p (Sink ∷ os) os' = filters_both p os os'

-- those of one more operator
pub one_more : (p : PlanData) (os : List Operator) (i : ℕ) (d : Operator) (fs gs : List FilterSpec) → i < length os → fs ≡ filters_of p (take i os) → gs ≡ fs ++ filters_of p (get_or os i d ∷ []) → gs ≡ filters_of p (take (i + 1) os)
one_more p os i d fs gs l e g =
    let q : i + 1 ≡ suc i = omega arith in
    g ∙ ap (λ x. x ++ filters_of p (get_or os i d ∷ [])) e ∙ sym (filters_both p (take i os) (get_or os i d ∷ [])) ∙ ap (filters_of p) (sym (take-suc os i d l)) ∙ ap (λ n. filters_of p (take n os)) (sym q)
