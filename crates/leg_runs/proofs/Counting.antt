-- What so many steps of each task come to.
use Rattle.std.proofs.Common.{◌≡◌, ℕ, ◌<◌, ◌≤◌, ◌+◌, ◌-◌, ◌^◌, ◌%◌, List, [], ◌∷◌, ◌++◌, Option, length, take, get_or, set, refl, sym, ap, subst, ◌∙◌, inl, inr, arith}
use Rattle.std.specs.Prelude.{◌⊎◌, slice_get, slice_index, flat_map, min, Some, None, MatchOption, unwrap_or}
use Rattle.std.specs.List.{range_with_len, sum}
use Rattle.std.proofs.Math.Nat.{mod-eq_of_lt, mod-lt}
use Rattle.std.proofs.lemmas.Bool.{cases_lt, cases_eq}
use Rattle.std.proofs.lemmas.Option.{none-some, slice_get-get_or}
use Rattle.std.proofs.lemmas.List.{get_or-set_same, get_or-set_other, length-set, take_all, get_or_append_left, length-append}
use Rattle.std.proofs.lemmas.List.Sums.{sum_by_more}
use Rattle.std.proofs.Math.Seq.{get_or-append_seam}
use Rattle.dataflow_laws.specs.declared.step.Step.{Step}
use Rattle.dataflow_laws.specs.declared.step.Step.TheVariants.{Open}
use Rattle.layout_rules.specs.Stages.{task_count}
use Rattle.plan_compiler.specs.LayoutData.{LayoutData}
use Rattle.core_steps.specs.World.{WorldData}
use Rattle.core_steps.specs.Answers.{CanMake}
use Rattle.leg_runs.specs.Choosing.{Selects, HasCount, IsChosen, AreCounts, IsRecounted, steps_of, all_steps}
use Rattle.leg_runs.proofs.Selecting.{flat_selects, flat_length, flat_place}

-- one more task was counted
pub counted_more : (w : WorldData) (l : LayoutData) (counts new : List ℕ) (n count : ℕ) → length counts ≡ n → ((t : ℕ) → t < n → HasCount (CanMake w) (steps_of l t) (slice_index counts t)) → HasCount (CanMake w) (steps_of l n) count → new ≡ counts ++ count ∷ []
    → (length new ≡ n + 1) × ((t : ℕ) → t < n + 1 → HasCount (CanMake w) (steps_of l t) (slice_index new t))
counted_more w l counts new n count long each here is = (
  (let a = ap length is in let b = length-append counts (count ∷ []) in omega (arith, a, b, long)),
  λ t less. elim (cases_lt t n) [
    | inl m ↦ subst (HasCount (CanMake w) (steps_of l t)) (sym (ap (λ xs. get_or xs t 0) is ∙ get_or_append_left counts (count ∷ []) 0 t (omega (arith, m, long)))) (each t m)
    | inr m ↦ (let e : n ≡ t = omega (arith, m, less) in let f : t ≡ length counts = omega (arith, m, less, long) in
        subst (λ k. HasCount (CanMake w) (steps_of l k) (slice_index new t)) e
        (subst (HasCount (CanMake w) (steps_of l n)) (sym (ap (λ xs. get_or xs t 0) is ∙ ap (λ k. get_or (counts ++ count ∷ []) k 0) f ∙ get_or-append_seam counts count [] 0)) here))
  ],
)

pub sum_more : (xs : List ℕ) (t : ℕ) → t < length xs → sum (take (t + 1) xs) ≡ sum (take t xs) + get_or xs t 0
sum_more xs t less = sum_by_more (λ x. x) xs t 0 less

-- the steps that each task could make
pick : (w : WorldData) (l : LayoutData) (counts : List ℕ) (t : ℕ) → AreCounts w l counts → (t < task_count l.stages) ⊎ (task_count l.stages ≤ t) → List Step
pick w l counts t are (inl m) = (are.each t m).0
pick w l counts t are (inr m) = []

pick_is : (w : WorldData) (l : LayoutData) (counts : List ℕ) (t : ℕ) (are : AreCounts w l counts) (d : (t < task_count l.stages) ⊎ (task_count l.stages ≤ t)) → t < task_count l.stages
    → Selects (CanMake w) (steps_of l t) (pick w l counts t are d) × (length (pick w l counts t are d) ≡ get_or counts t 0)
unfolding pick
pick_is w l counts t are (inl m) less = ((are.each t m).1, (are.each t m).2)
pick_is w l counts t are (inr m) less = absurd (omega (arith, m, less))

picked : (w : WorldData) (l : LayoutData) (counts : List ℕ) → AreCounts w l counts → ℕ → List Step
picked w l counts are t = pick w l counts t are (cases_lt t (task_count l.stages))

picked_is : (w : WorldData) (l : LayoutData) (counts : List ℕ) (are : AreCounts w l counts) (t : ℕ) → t < task_count l.stages → Selects (CanMake w) (steps_of l t) (picked w l counts are t) × (length (picked w l counts are t) ≡ get_or counts t 0)
unfolding picked
picked_is w l counts are t less = pick_is w l counts t are (cases_lt t (task_count l.stages)) less

picked_all : (w : WorldData) (l : LayoutData) (counts : List ℕ) (are : AreCounts w l counts) → Selects (CanMake w) (all_steps l) (flat_map (picked w l counts are) (range_with_len 0 (task_count l.stages)))
picked_all w l counts are = flat_selects (CanMake w) (steps_of l) (picked w l counts are) (task_count l.stages) (λ t less. (picked_is w l counts are t less).0)

picked_below : (w : WorldData) (l : LayoutData) (counts : List ℕ) (are : AreCounts w l counts) (n : ℕ) → n ≤ task_count l.stages → length (flat_map (picked w l counts are) (range_with_len 0 n)) ≡ sum (take n counts)
picked_below w l counts are n less = (let all = are.all in flat_length (picked w l counts are) counts n (omega (arith, all, less)) (λ t m. (picked_is w l counts are t (omega (arith, m, less))).1))

picked_sum : (w : WorldData) (l : LayoutData) (counts : List ℕ) (are : AreCounts w l counts) → length (flat_map (picked w l counts are) (range_with_len 0 (task_count l.stages))) ≡ sum counts
picked_sum w l counts are = picked_below w l counts are (task_count l.stages) (omega (arith)) ∙ ap sum (take_all (task_count l.stages) counts (let all = are.all in omega (arith, all)))

nothing_long : {X : Type 0} (xs : List X) → length xs ≡ 0 → xs ≡ []
nothing_long [] e = refl
nothing_long (x ∷ xs) e = absurd (omega (arith, e))

-- where all counts are zero there is no step
pub none_at_all : (w : WorldData) (l : LayoutData) (counts : List ℕ) (steps : ℕ) → AreCounts w l counts → steps ≡ min (sum counts) (2 ^ 64 - 1) → steps ≡ 0 → Selects (CanMake w) (all_steps l) []
none_at_all w l counts steps are is zero =
    let long = picked_sum w l counts are in
    let nil = nothing_long (flat_map (picked w l counts are) (range_with_len 0 (task_count l.stages))) (grind (arith, long, is, zero)) in
    subst (Selects (CanMake w) (all_steps l)) nil (picked_all w l counts are)

-- a number is divided as well by the greatest number where it is smaller than what it would be divided by
pub rest_is : (number total steps : ℕ) → steps ≡ min total (2 ^ 64 - 1) → number < 2 ^ 32 → number % steps ≡ number % total
rest_is number total steps is small =
    elim (cases_lt total (2 ^ 64)) [
      | inl m ↦ (let e : steps ≡ total = grind (arith, is, m) in ap (λ n. number % n) e)
      | inr m ↦ (let e : number < steps = grind (arith, is, m, small) in let f : number < total = grind (arith, m, small) in mod-eq_of_lt e ∙ sym (mod-eq_of_lt f))
    ]

-- the step that was found in one task is the one that a number picks of all
pub chosen_is : (w : WorldData) (l : LayoutData) (counts : List ℕ) (steps number t place : ℕ) (found : Option Step) → AreCounts w l counts → steps ≡ min (sum counts) (2 ^ 64 - 1) → number < 2 ^ 32 → t < task_count l.stages → place < get_or counts t 0 → place + sum (take t counts) ≡ number % steps
    → ((ys : List Step) → Selects (CanMake w) (steps_of l t) ys → slice_get ys place ≡ found) → MatchOption found (Selects (CanMake w) (all_steps l) []) (λ step. IsChosen (CanMake w) (all_steps l) number step)
chosen_is w l counts steps number t place found are is small less within at finds =
    let g = picked w l counts are in
    let own = picked_is w l counts are t less in
    let all = flat_map g (range_with_len 0 (task_count l.stages)) in
    let x : Step = get_or (g t) place (Open t) in
    let inside : place < length (g t) = (let e = own.1 in omega (arith, within, e)) in
    let here : slice_get (g t) place ≡ Some x = slice_get-get_or (g t) place (Open t) inside in
    let long = picked_sum w l counts are in
    let before = picked_below w l counts are t (omega (arith, less)) in
    let rest : number % length all ≡ length (flat_map g (range_with_len 0 t)) + place = ap (λ n. number % n) long ∙ sym (rest_is number (sum counts) steps is small) ∙ (omega (arith, at, before)) in
    let there = ap (slice_get all) rest ∙ flat_place g (task_count l.stages) t place less inside ∙ here in
    subst (λ o. MatchOption o (Selects (CanMake w) (all_steps l) []) (λ step. IsChosen (CanMake w) (all_steps l) number step)) (sym here ∙ finds (g t) own.0)
    (all, picked_all w l counts are, there)

-- and it is found in one of them
pub never_missed : (w : WorldData) (l : LayoutData) (counts : List ℕ) (steps number t place : ℕ) → AreCounts w l counts → steps ≡ min (sum counts) (2 ^ 64 - 1) → 0 < steps → task_count l.stages ≤ t → place + sum (take t counts) ≡ number % steps → ⊥
never_missed w l counts steps number t place are is some past at =
    let all : take t counts ≡ counts = take_all t counts (let e = are.all in omega (arith, e, past)) in
    let e = ap sum all in
    let less = mod-lt number some in
    grind (arith, at, e, less, is)

-- a task counted anew, and one that is not there
pub recounted_one : (w : WorldData) (l : LayoutData) (task count : ℕ) (old : List ℕ) → task < length old → HasCount (CanMake w) (steps_of l task) count → IsRecounted w l task None old (set old task count)
recounted_one w l task count old there has = record {
  all = length-set old task count;
  anew = λ t long less which. elim which [
    | inl e ↦ subst (HasCount (CanMake w) (steps_of l t)) (sym (ap (λ k. get_or (set old task count) k 0) e ∙ get_or-set_same old task count 0 there)) (subst (λ k. HasCount (CanMake w) (steps_of l k) count) (sym e) has)
    | inr e ↦ absurd (none-some t e)
  ];
  kept = λ t ne nor. get_or-set_other old task t count 0 ne;
}

pub recounted_none : (w : WorldData) (l : LayoutData) (task : ℕ) (old : List ℕ) → (task < task_count l.stages → task < length old → ⊥) → IsRecounted w l task None old old
recounted_none w l task old none = record {
  all = refl;
  anew = λ t long less which. elim which [
    | inl e ↦ absurd (none (subst (λ k. k < task_count l.stages) e less) (subst (λ k. k < length old) e long))
    | inr e ↦ absurd (none-some t e)
  ];
  kept = λ t ne nor. refl;
}

inner : {X : Type 0} (x y : X) → Some x ≡ Some y → x ≡ y
inner x y e = ap (λ o. unwrap_or o x) e

-- two tasks counted anew, one after the other
pub recounted_both : (w : WorldData) (l : LayoutData) (task other : ℕ) (a b c : List ℕ) → IsRecounted w l task None a b → IsRecounted w l other None b c → IsRecounted w l task (Some other) a c
recounted_both w l task other a b c first second = record {
  all = second.all ∙ first.all;
  anew = λ t long less which.
      let there : t < length b = (let e = first.all in omega (arith, e, long)) in
      elim (cases_eq t other) [
        | inl e ↦ second.anew t there less (inl e)
        | inr ne ↦ subst (HasCount (CanMake w) (steps_of l t)) (sym (second.kept t ne (none-some t))) (first.anew t long less (just_first which ne))
      ];
  kept = λ t ne nor. second.kept t (λ e. nor (ap Some (sym e))) (none-some t) ∙ first.kept t ne (none-some t);
}
  where
    just_first : {t : ℕ} → (t ≡ task) ⊎ (Some other ≡ Some t) → (t ≡ other → ⊥) → (t ≡ task) ⊎ (None ≡ Some t)
    just_first (inl e) ne = inl e
    just_first {t} (inr e) ne = absurd (ne (sym (inner other t e)))
