-- Texts that are told apart one after the other.
use Rattle.std.proofs.Common.{◌≡◌, ℕ, ◌+◌, ◌<◌, Bool, true, false, cond, not, ◌&&◌, ◌||◌, List, [], ◌∷◌, ◌++◌, map, length, take, drop, get_or, append_assoc, refl, ap, sym, ◌∙◌, ◌⊎◌, inl, inr}
use Rattle.std.specs.Prelude.{bytes_eq}
use Rattle.std.specs.List.{list_any}
use Rattle.std.specs.Cmp.Lexicographic.{nat_list_eq_equiv}
use Rattle.std.proofs.lemmas.Bool.{or_parts, not-true, not-false}
use Rattle.std.proofs.lemmas.List.{map-append, take-append-drop}
use Rattle.std.proofs.lemmas.List.Folds.{list_any-append}
use Rattle.plan_model.specs.Uids.{are_distinct}
use Rattle.plain_data.proofs.Facts.{front_more}
use Rattle.plan_model.proofs.Facts.{and_false}

or_true : (a b : Bool) → (a || b) ≡ true → (a ≡ true) ⊎ ((a ≡ false) × (b ≡ true))
or_true true b h = inl refl
or_true false b h = inr (refl, h)

and_true : (a b : Bool) → (not a && b) ≡ true → (a ≡ false) × (b ≡ true)
and_true true b h = absurd cc
and_true false b h = (refl, h)

turned : (x y : List ℕ) → bytes_eq x y ≡ bytes_eq y x
turned x y = nat_list_eq_equiv.symm x y

-- another one at the end
are_distinct_push : (xs : List (List ℕ)) (x : List ℕ) → are_distinct xs ≡ true → list_any (bytes_eq x) xs ≡ false → are_distinct (xs ++ x ∷ []) ≡ true
are_distinct_push [] x h new = refl
are_distinct_push (y ∷ ys) x h new =
    let here = and_true (list_any (bytes_eq y) ys) (are_distinct ys) h in
    let apart = or_parts (bytes_eq x y) (list_any (bytes_eq x) ys) new in
    let other : bytes_eq y x ≡ false = turned y x ∙ apart.0 in
    rw (list_any-append (bytes_eq y) ys (x ∷ []), here.0, other) (are_distinct_push ys x here.1 apart.1)

or_right : (a b : Bool) → (a || (true || b)) ≡ true
or_right true b = refl
or_right false b = refl

-- one that is there already
are_distinct_again : (xs : List (List ℕ)) (x : List ℕ) (more : List (List ℕ)) → list_any (bytes_eq x) xs ≡ true → are_distinct (xs ++ x ∷ more) ≡ false
are_distinct_again [] x more h = absurd cc
are_distinct_again (y ∷ ys) x more h =
    elim (or_true (bytes_eq x y) (list_any (bytes_eq x) ys) h) [
      | inl same ↦
          let other : bytes_eq y x ≡ true = turned y x ∙ same in
          rw (list_any-append (bytes_eq y) ys (x ∷ more), other, or_right) refl
      | inr later ↦ rw (are_distinct_again ys x more later.1) (and_false _)
    ]

-- what adding x gives, where it was new
added_new : (front now : List (List ℕ)) (x : List ℕ) (r : Bool) → r ≡ true → r ≡ not (list_any (bytes_eq x) front) → now ≡ cond r (front ++ x ∷ []) front → are_distinct front ≡ true
    → (now ≡ front ++ x ∷ []) × (are_distinct now ≡ true)
added_new front now x r is_true is_new is_now distinct =
    let e : now ≡ front ++ x ∷ [] = rw is_true at is_now in
    (e, rw e (are_distinct_push front x distinct (not-true _ (sym is_new ∙ is_true))))

-- and where it was there
added_again : (front all more : List (List ℕ)) (x : List ℕ) (r : Bool) → r ≡ false → r ≡ not (list_any (bytes_eq x) front) → all ≡ front ++ x ∷ more → are_distinct all ≡ false
added_again front all more x r is_false is_new split = rw split (are_distinct_again front x more (not-false _ (sym is_new ∙ is_false)))

front_rest : {A : Type 0} (f : A → List ℕ) (xs : List A) (i : ℕ) (d : A) → i < length xs → map f xs ≡ map f (take i xs) ++ f (get_or xs i d) ∷ map f (drop (i + 1) xs)
front_rest f xs i d lt =
    let whole : map f xs ≡ map f (take (i + 1) xs ++ drop (i + 1) xs) = ap (map f) (sym (take-append-drop (i + 1) xs)) in
    whole ∙ map-append f (take (i + 1) xs) (drop (i + 1) xs) ∙ ap (λ (ys : List (List ℕ)). ys ++ map f (drop (i + 1) xs)) (front_more f xs i d lt) ∙ append_assoc (map f (take i xs)) (f (get_or xs i d) ∷ []) (map f (drop (i + 1) xs))

-- the element at i of a list, where those before it were added and it was new
pub next_new : {A : Type 0} (f : A → List ℕ) (xs : List A) (i : ℕ) (d : A) (front now : List (List ℕ)) (r : Bool) → i < length xs → front ≡ map f (take i xs) → are_distinct front ≡ true
    → r ≡ true → r ≡ not (list_any (bytes_eq (f (get_or xs i d))) front) → now ≡ cond r (front ++ f (get_or xs i d) ∷ []) front
    → (now ≡ map f (take (i + 1) xs)) × (are_distinct now ≡ true)
next_new f xs i d front now r lt is_front distinct is_true is_new is_now =
    let added = added_new front now (f (get_or xs i d)) r is_true is_new is_now distinct in
    (added.0 ∙ rw is_front (sym (front_more f xs i d lt)), added.1)

-- and where it was there
pub next_again : {A : Type 0} (f : A → List ℕ) (xs : List A) (i : ℕ) (d : A) (front : List (List ℕ)) (r : Bool) → i < length xs → front ≡ map f (take i xs)
    → r ≡ false → r ≡ not (list_any (bytes_eq (f (get_or xs i d))) front) → are_distinct (map f xs) ≡ false
next_again f xs i d front r lt is_front is_false is_new =
    added_again front (map f xs) (map f (drop (i + 1) xs)) (f (get_or xs i d)) r is_false is_new (rw is_front (front_rest f xs i d lt))
