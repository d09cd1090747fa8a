-- Operators in stages, from the other end.
use Rattle.std.proofs.Common.{◌≡◌, suc, ◌<◌, List, [], ◌∷◌, ◌++◌, true, ◌&&◌, ◌==◌, length, refl, sym, ap, subst, ◌∙◌, inl, inr, arith}
use Rattle.std.specs.List.{AllByRecursion}
use Rattle.std.proofs.lemmas.Bool.{cases_Bool, eqb-true, false≢true, and_parts}
use Rattle.plan_model.specs.PlanData.{PlanData}
use Rattle.layout_rules.specs.declared.stage.Operator.{Operator}
use Rattle.layout_rules.specs.declared.stage.Operator.TheVariants.{Source, Filter, Window, Sink}
use Rattle.layout_rules.specs.Rules.{filter_scale, parallelism_of, may_chain_to, is_chained, onto_first, stage_operators_from, last_of, onto_last, HasParallelism}
use Rattle.layout_rules.specs.Scale.{ScaleData}
use Rattle.layout_rules.specs.Laws.{OneMore, StagesAlike}

first_last : (o x y : Operator) (os : List Operator) (gs : List (List Operator)) → onto_first o (onto_last x ((y ∷ os) ∷ gs)) ≡ onto_last x (onto_first o ((y ∷ os) ∷ gs))
first_last o x y os [] = refl
first_last o x y os (g ∷ gs) = refl

-- an operator stands first in its stages
pub headed : (p : PlanData) (c : ScaleData) (o : Operator) (os : List Operator) → (xs : List Operator) × (rest : List (List Operator)) × (stage_operators_from p c o os ≡ (o ∷ xs) ∷ rest)
headed p c o [] = ([], [], refl)
headed p c o (o' ∷ os) =
    let h = headed p c o' os in
    elim (cases_Bool (is_chained p c o o')) [
      | inl e ↦ (o' ∷ h.0, h.1, rw e (ap (onto_first o) h.2))
      | inr e ↦ ([], stage_operators_from p c o' os, rw e refl)
    ]

cons_last : (g : List Operator) (x : Operator) (gs : List (List Operator)) → 0 < length gs → g ∷ onto_last x gs ≡ onto_last x (g ∷ gs)
cons_last g x [] l = absurd (omega (arith, l))
cons_last g x (g' ∷ gs) l = refl

pub one_more : OneMore
one_more p c o o' [] = elim (cases_Bool (is_chained p c o o')) [ inl e ↦ rw e refl | inr e ↦ rw e refl ]
one_more p c o o' (x ∷ os) =
    let ih = one_more p c x o' os in
    let h = headed p c x os in
    let some : 0 < length (stage_operators_from p c x os) = (let z : length (stage_operators_from p c x os) ≡ suc (length h.1) = ap length h.2 in omega (arith, z)) in
    let fl : onto_first o (onto_last o' (stage_operators_from p c x os)) ≡ onto_last o' (onto_first o (stage_operators_from p c x os)) =
    subst (λ g. onto_first o (onto_last o' g) ≡ onto_last o' (onto_first o g)) (sym h.2) (first_last o o' x h.0 h.1) in
    let fa : onto_first o (stage_operators_from p c x os ++ (o' ∷ []) ∷ []) ≡ onto_first o (stage_operators_from p c x os) ++ (o' ∷ []) ∷ [] =
    subst (λ g. onto_first o (g ++ (o' ∷ []) ∷ []) ≡ onto_first o g ++ (o' ∷ []) ∷ []) (sym h.2) refl in
    elim (cases_Bool (is_chained p c o x)) [
      | inl e ↦ rw e (ap (onto_first o) ih ∙ elim (cases_Bool (is_chained p c (last_of x os) o')) [ inl d ↦ rw d fl | inr d ↦ rw d fa ])
      | inr e ↦ rw e (ap (λ g. (o ∷ []) ∷ g) ih ∙ elim (cases_Bool (is_chained p c (last_of x os) o')) [ inl d ↦ rw d (cons_last (o ∷ []) o' (stage_operators_from p c x os) some) | inr d ↦ rw d refl ])
    ]

pub same_width : (p : PlanData) (c : ScaleData) (o o' : Operator) → is_chained p c o o' ≡ true → parallelism_of c o ≡ parallelism_of c o'
same_width p c o (Source x) e = absurd (false≢true e)
same_width p c o (Filter f) e =
    let z = and_parts (filter_scale c f).chain ((parallelism_of c o == (filter_scale c f).parallelism) && may_chain_to p o) e in
    let y = and_parts (parallelism_of c o == (filter_scale c f).parallelism) (may_chain_to p o) z.1 in
    eqb-true (parallelism_of c o) (parallelism_of c (Filter f)) y.0
same_width p c o Window e = absurd (false≢true e)
same_width p c o Sink e = absurd (false≢true e)

alike : (p : PlanData) (c : ScaleData) (o : Operator) (os : List Operator) → AllByRecursion (HasParallelism c) (stage_operators_from p c o os)
alike p c o [] = ((refl, tt), tt)
alike p c o (o' ∷ os) =
    let h = headed p c o' os in
    let ih : AllByRecursion (HasParallelism c) ((o' ∷ h.0) ∷ h.1) = subst (AllByRecursion (HasParallelism c)) h.2 (alike p c o' os) in
    elim (cases_Bool (is_chained p c o o')) [
      | inl e ↦ rw e (
          let q = same_width p c o o' e in
          subst (λ g. AllByRecursion (HasParallelism c) (onto_first o g)) (sym h.2) ((refl, subst (λ n. AllByRecursion (λ x. parallelism_of c x ≡ n) (o' ∷ h.0)) (sym q) ih.0), ih.1))
      | inr e ↦ rw e ((refl, tt), alike p c o' os)
    ]

pub stages_alike : StagesAlike
stages_alike p c [] = tt
stages_alike p c (o ∷ os) = alike p c o os
