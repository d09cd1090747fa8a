-- The names of a plan's sources, what is found in a list, and tests of all its elements.
use Rattle.std.proofs.Common.{◌≡◌, ◌∙◌, ℕ, ℤ, Bool, true, false, not, ◌||◌, ◌++◌, List, [], ◌∷◌, map, Option, Some, None, option_map, option_and_then, bytes_eq, cond, ap, refl, subst, sym}
use Rattle.std.proofs.lemmas.Bool.{and_parts, or_parts, not-true}
use Rattle.std.proofs.lemmas.Slice.Eq.{bytes_eq-Decides}
use Rattle.std.proofs.lemmas.List.Elements.{All-head, All-tail}
use Rattle.std.specs.List.{All, list_all, list_any, find}
use Rattle.std.specs.Option.{option_map_or}
use Rattle.plan_model.specs.declared.spec.FilterSpec.{FilterSpec}
use Rattle.plan_model.specs.declared.spec.SourceSpec.{SourceSpec}
use Rattle.plan_model.specs.PlanData.{PlanData, IsPlan}
use Rattle.plan_model.specs.Uids.{are_distinct}
use Rattle.input_texts.specs.Seen.{bound_under}
use Rattle.input_texts.proofs.Pairs.{distinct_front}

pub distinct_sources : (plan : PlanData) → IsPlan plan → are_distinct (map (λ (s : SourceSpec). s.uid) plan.sources) ≡ true
distinct_sources plan p =
    let sources = map (λ (s : SourceSpec). s.uid) plan.sources in
    let filters = map (λ (f : FilterSpec). f.uid) plan.filters in
    distinct_front sources filters (distinct_front (sources ++ filters) (plan.window.uid ∷ []) p.distinct)

-- the source with a name is the one that has it
module _ {Y : Type 0} (f : Option ℤ → SourceSpec → Y) where
  abbrev bound_in : List SourceSpec → List ℕ → Option ℤ
  bound_in ss uid = option_and_then (λ s. s.bound) (find (λ s. bytes_eq s.uid uid) ss)

  others_bounds : (s : SourceSpec) (ss us : List SourceSpec) → list_any (bytes_eq s.uid) (map (λ (u : SourceSpec). u.uid) us) ≡ false
      → map (λ u. f (bound_in (s ∷ ss) u.uid) u) us ≡ map (λ u. f (bound_in ss u.uid) u) us
  others_bounds s ss [] none = refl
  others_bounds s ss (u ∷ us) none =
      let parts = or_parts (bytes_eq s.uid u.uid) (list_any (bytes_eq s.uid) (map (λ (v : SourceSpec). v.uid) us)) none in
      let here = ap (λ b. f (option_and_then (λ (v : SourceSpec). v.bound) (cond b (Some s) (find (λ v. bytes_eq v.uid u.uid) ss))) u) parts.0 in
      λ o. here o ∷ others_bounds s ss us parts.1 o

  bounds_in : (ss : List SourceSpec) → are_distinct (map (λ (s : SourceSpec). s.uid) ss) ≡ true → map (λ s. f (bound_in ss s.uid) s) ss ≡ map (λ s. f s.bound s) ss
  bounds_in [] distinct = refl
  bounds_in (s ∷ ss) distinct =
      let parts = and_parts (not (list_any (bytes_eq s.uid) (map (λ (u : SourceSpec). u.uid) ss))) (are_distinct (map (λ (u : SourceSpec). u.uid) ss)) distinct in
      let own : bytes_eq s.uid s.uid ≡ true = (bytes_eq-Decides s.uid s.uid).1 refl in
      let here = ap (λ b. f (option_and_then (λ (v : SourceSpec). v.bound) (cond b (Some s) (find (λ v. bytes_eq v.uid s.uid) ss))) s) own in
      λ o. here o ∷ (others_bounds s ss ss (not-true _ parts.0) ∙ bounds_in ss parts.1) o

pub own_bounds : {Y : Type 0} (plan : PlanData) (f : Option ℤ → SourceSpec → Y) → IsPlan plan → map (λ s. f (bound_under plan s.uid) s) plan.sources ≡ map (λ s. f s.bound s) plan.sources
own_bounds plan f sound = bounds_in f plan.sources (distinct_sources plan sound)

any_by : {A : Type 0} (b : Bool) (x m : A) (o : Option A) (others : Bool) → (o ≡ Some m → others ≡ true) → cond b (Some x) o ≡ Some m → (b || others) ≡ true
any_by true x m o others later h = refl
any_by false x m o others later h = later h

pub find_any : {A : Type 0} (test : A → Bool) (xs : List A) (m : A) → find test xs ≡ Some m → list_any test xs ≡ true
find_any test [] m h = absurd (cc)
find_any test (x ∷ xs) m h = any_by (test x) x m (find test xs) (list_any test xs) (find_any test xs m) h

find_by : {A : Type 0} (P : A → Type 0) (b : Bool) (x m : A) (o : Option A) → P x → (o ≡ Some m → P m) → cond b (Some x) o ≡ Some m → P m
find_by P true x m o here later h = let same : x ≡ m = cc in subst P same here
find_by P false x m o here later h = later h

pub find_all : {A : Type 0} (P : A → Type 0) (test : A → Bool) (xs : List A) (m : A) → find test xs ≡ Some m → All P xs → P m
find_all P test [] m h all = absurd (cc)
find_all P test (x ∷ xs) m h all = find_by P (test x) x m (find test xs) (All-head P x xs all) (λ found. find_all P test xs m found (All-tail P x xs all)) h

pub found_at : {A B C : Type 0} (f : A → List B) (g : List B → C) (o : Option A) (y : C) → option_map g (option_map f o) ≡ Some y → (m : A) × (o ≡ Some m) × (y ≡ g (option_map_or f o []))
found_at f g None y h = absurd (cc)
found_at f g (Some m) y h = let same : g (f m) ≡ y = cc in (m, refl, sym same)

pub all_weaker : {A : Type 0} (p q : A → Bool) → ((x : A) → p x ≡ true → q x ≡ true) → (xs : List A) → list_all p xs ≡ true → list_all q xs ≡ true
all_weaker p q implies [] h = refl
all_weaker p q implies (x ∷ xs) h = let parts = and_parts (p x) (list_all p xs) h in rw (implies x parts.0, all_weaker p q implies xs parts.1) refl
