-- What holds of lists of ends after a change that a function of them cannot tell, and of edges that are settled one
-- after another.
use Rattle.std.proofs.Common.{◌≡◌, ℕ, suc, ◌+◌, ◌-◌, ◌*◌, ◌<◌, ◌≤◌, List, [], ◌∷◌, ◌++◌, map, length, get_or, set, take, drop, Some, sym, ap, subst, ◌∙◌, arith, inl, inr, get_or-set_same}
use Rattle.std.specs.List.{slice_get}
use Rattle.std.proofs.lemmas.List.{map-append, length-map, length-set, length-append, get_or-map, get_or_append_left, get_or_at, take-append-drop}
use Rattle.std.proofs.lemmas.Option.{slice_get_within}
use Rattle.std.proofs.lemmas.Bool.{cases_lt}
use Rattle.std.proofs.Math.Seq.{map-set_same}
use Rattle.dataflow_model.specs.declared.message.Message.{Message}
use Rattle.layout_rules.specs.declared.stage.Stage.{Stage}
use Rattle.layout_rules.specs.Below.{sum_below}
use Rattle.layout_rules.specs.Stages.{task_count, is_ring, outputs_of}
use Rattle.task_setups.proofs.Facts.{few_pass}
use Rattle.thread_runner.specs.declared.jobs.Done.{Done}
use Rattle.thread_runner.specs.Rings.{RingName, LeavesOver}
use Rattle.thread_runner.specs.Edges.{SameDones, Leaves, AreLeft, AreLeftBy, AreJoined, out_names, in_names, put_there, taken_there, put_tables, taken_tables, left_on, left_by}

pub map_kept : {A B : Type 0} (f : A → B) (xs : List A) (i : ℕ) (old new : A) → old ≡ get_or xs i old → f new ≡ f old → map f (set xs i new) ≡ map f xs
map_kept f xs i old new is e = map-set_same f xs i new old (e ∙ ap f is)

pub map_there : {A B : Type 0} (f : A → List B) (xs : List A) (i : ℕ) (new : A) → i < length xs → get_or (map f (set xs i new)) i [] ≡ f new
map_there f xs i new lt = get_or-map f (set xs i new) i new [] (rw (length-set xs i new) lt) ∙ ap f (get_or-set_same xs i new new lt)

pub within_map : {A B : Type 0} (f : A → B) (xs : List A) (i : ℕ) (y : B) → slice_get (map f xs) i ≡ Some y → i < length xs
within_map f xs i y e = rw (length-map xs f) at (slice_get_within (map f xs) i y e)

-- a list in two parts, with an element of the first and the first of the second changed
pub split_kept : {A B : Type 0} (f : A → B) (xs front back : List A) (m i : ℕ) (d e x y : A) → front ≡ take m xs → back ≡ drop m xs
    → f x ≡ f (get_or front i d) → f y ≡ f (get_or back 0 e) → map f (set front i x ++ set back 0 y) ≡ map f xs
split_kept f xs front back m i d e x y is_front is_back same same' =
    map-append f (set front i x) (set back 0 y)
    ∙ (ap (λ l. l ++ map f (set back 0 y)) (map-set_same f front i x d same)
    ∙ (ap (λ l. map f front ++ l) (map-set_same f back 0 y e same')
    ∙ (sym (map-append f front back) ∙ ap (map f) (ap (λ l. l ++ back) is_front ∙ (ap (λ l. take m xs ++ l) is_back ∙ take-append-drop m xs)))))

pub there_front : {A B : Type 0} (f : A → List B) (front back : List A) (i : ℕ) (x : A) → i < length front → get_or (map f (set front i x ++ back)) i [] ≡ f x
there_front f front back i x lt =
    get_or-map f (set front i x ++ back) i x [] (omega (arith, length-append (set front i x) back, length-set front i x))
    ∙ ap f (get_or_append_left (set front i x) back x i (rw (length-set front i x) lt) ∙ get_or-set_same front i x x lt)

pub there_back : {A B : Type 0} (f : A → List B) (front back : List A) (m : ℕ) (y : A) → length front ≡ m → 0 < length back → get_or (map f (front ++ set back 0 y)) m [] ≡ f y
there_back f front [] m y is lt = absurd (omega arith)
there_back f front (z ∷ back) m y is lt =
    get_or-map f (front ++ y ∷ back) m y [] (omega (arith, length-append front (y ∷ back))) ∙ ap f (get_or_at front y back y m is)

pub same_dones_on : (a b c : List Done) → SameDones a b → SameDones b c → SameDones a c
same_dones_on a b c p q = (q.0 ∙ p.0, q.1 ∙ p.1, q.2 ∙ p.2, q.3 ∙ p.3, q.4 ∙ p.4)

left_is : (put taken : List Message) (n : ℕ) → LeavesOver put taken n → n ≡ length put - length taken
left_is put taken n h = let long = ap length h.1 in let both = length-append taken h.0 in let last = h.2 in omega (arith, long, both, last)

sum_more : (f : ℕ → ℕ) (k : ℕ) → sum_below f (k + 1) ≡ sum_below f k + f k
sum_more f k = let e : k + 1 ≡ suc k = omega arith in ap (sum_below f) e

-- the first k edges out of task s are settled
pub record SettledTo (stages : List Stage) (first ds : List Done) (s k total : ℕ) : Type 0 where
  pub same : SameDones first ds
  pub left : (o : ℕ) → o < k → Leaves stages (put_tables first) (taken_tables first) s o (left_on stages (put_tables first) (taken_tables first) s o)
  pub sum : total ≡ sum_below (left_on stages (put_tables first) (taken_tables first) s) k
  pub small : total ≤ 1024 * k

pub settled_more : (stages : List Stage) (first ds ds' : List Done) (s k total n : ℕ) → SettledTo stages first ds s k total → SameDones ds ds'
    → Leaves stages (put_tables ds') (taken_tables ds') s k n → n ≤ 1024 → SettledTo stages first ds' s (k + 1) (total + n)
settled_more stages first ds ds' s k total n h same leaves small =
    let all = same_dones_on first ds ds' h.same same in
    let here : Leaves stages (put_tables first) (taken_tables first) s k n =
    subst (λ (l : List (List (List Message))). Leaves stages l (taken_tables first) s k n) all.2 (subst (λ (l : List (List (List Message))). Leaves stages (put_tables ds') l s k n) all.3 leaves) in
    let is : n ≡ left_on stages (put_tables first) (taken_tables first) s k = left_is (put_there (put_tables first) s k) (taken_there stages (taken_tables first) s k) n here in
    record {
      same = all;
      left = λ o l. elim (cases_lt o k) [
        | inl before ↦ h.left o before
        | inr after ↦ (
            let e : k ≡ o = omega (arith, l, after) in
            subst (λ (v : ℕ). Leaves stages (put_tables first) (taken_tables first) s v (left_on stages (put_tables first) (taken_tables first) s v)) e
            (subst (Leaves stages (put_tables first) (taken_tables first) s k) is here))
      ];
      sum = ap (λ (v : ℕ). v + n) h.sum ∙ (ap (λ (v : ℕ). sum_below (left_on stages (put_tables first) (taken_tables first) s) k + v) is ∙ sym (sum_more (left_on stages (put_tables first) (taken_tables first) s) k));
      small = let before = h.small in omega (arith, before, small);
    }

-- all edges out of the first k tasks are
pub record SettledBy (stages : List Stage) (first ds : List Done) (k total : ℕ) : Type 0 where
  pub same : SameDones first ds
  pub left : (s : ℕ) → s < k → AreLeftBy stages (put_tables first) (taken_tables first) s
  pub sum : total ≡ sum_below (left_by stages (put_tables first) (taken_tables first)) k
  pub small : total ≤ 262144 * k

pub settled_by_more : (stages : List Stage) (first ds ds' : List Done) (k total n : ℕ) → SettledBy stages first ds k total → SameDones ds ds'
    → AreLeftBy stages (put_tables ds') (taken_tables ds') k → n ≡ left_by stages (put_tables ds') (taken_tables ds') k → n ≤ 262144 → SettledBy stages first ds' (k + 1) (total + n)
settled_by_more stages first ds ds' k total n h same leaves sum small =
    let all = same_dones_on first ds ds' h.same same in
    let here : AreLeftBy stages (put_tables first) (taken_tables first) k =
    subst (λ (l : List (List (List Message))). AreLeftBy stages l (taken_tables first) k) all.2 (subst (λ (l : List (List (List Message))). AreLeftBy stages (put_tables ds') l k) all.3 leaves) in
    let is : n ≡ left_by stages (put_tables first) (taken_tables first) k =
    subst (λ (l : List (List (List Message))). n ≡ left_by stages l (taken_tables first) k) all.2 (subst (λ (l : List (List (List Message))). n ≡ left_by stages (put_tables ds') l k) all.3 sum) in
    record {
      same = all;
      left = λ s l. elim (cases_lt s k) [
        | inl before ↦ h.left s before
        | inr after ↦ (let e : k ≡ s = omega (arith, l, after) in subst (AreLeftBy stages (put_tables first) (taken_tables first)) e here)
      ];
      sum = ap (λ (v : ℕ). v + n) h.sum ∙ (ap (λ (v : ℕ). sum_below (left_by stages (put_tables first) (taken_tables first)) k + v) is ∙ sym (sum_more (left_by stages (put_tables first) (taken_tables first)) k));
      small = let before = h.small in omega (arith, before, small);
    }

pub settled_left : (stages : List Stage) (first ds : List Done) (s k total : ℕ) → SettledTo stages first ds s k total → length (outputs_of stages s) ≤ k → AreLeftBy stages (put_tables ds) (taken_tables ds) s
settled_left stages first ds s k total h all =
    subst (λ (l : List (List (List Message))). AreLeftBy stages l (taken_tables ds) s) (sym h.same.2)
    (subst (λ (l : List (List (List Message))). AreLeftBy stages (put_tables first) l s) (sym h.same.3) (λ o l. h.left o (omega (arith, l, all))))

pub settled_by_left : (stages : List Stage) (first ds : List Done) (k total : ℕ) → SettledBy stages first ds k total → task_count stages ≤ k → AreLeft stages (put_tables ds) (taken_tables ds)
settled_by_left stages first ds k total h all =
    subst (λ (l : List (List (List Message))). AreLeft stages l (taken_tables ds)) (sym h.same.2)
    (subst (λ (l : List (List (List Message))). AreLeft stages (put_tables first) l) (sym h.same.3) (λ s o l. h.left s (omega (arith, l, all)) o))

pub joined_same : (stages : List Stage) (first ds : List Done) → SameDones first ds → AreJoined stages (out_names first) (in_names first) → AreJoined stages (out_names ds) (in_names ds)
joined_same stages first ds same h =
    subst (λ (l : List (List RingName)). AreJoined stages l (in_names ds)) (sym same.0) (subst (λ (l : List (List RingName)). AreJoined stages (out_names first) l) (sym same.1) h)

pub few_outputs : (stages : List Stage) (s : ℕ) → length (outputs_of stages s) ≤ task_count stages
few_outputs stages s = few_pass (is_ring stages s) (task_count stages)
