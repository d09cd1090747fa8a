-- PUBLIC: facts on lists that the library lacks, for the crates above.
use Rattle.std.proofs.Common.{◌≡◌, ℕ, ◌+◌, ◌<◌, Bool, true, false, cond, not, ◌||◌, List, [], ◌∷◌, ◌++◌, map, length, take, get_or, slice_get, Some, refl, ap, ◌∙◌, if◌then◌else◌}
use Rattle.std.specs.List.{filter, list_any, prefix_len, position}
use Rattle.std.proofs.lemmas.List.{length-map, take_more, map_push}
use Rattle.std.proofs.lemmas.Option.{get_or_from_slice_get, slice_get_within}

-- one filter after the other, in either order, for one element more
filter_step : {X : Type 0} (p q : X → Bool) (x : X) (xs : List X) → filter p (filter q xs) ≡ filter q (filter p xs) → (a b : Bool) → p x ≡ a → q x ≡ b
    → filter p (cond b (x ∷ filter q xs) (filter q xs)) ≡ filter q (cond a (x ∷ filter p xs) (filter p xs))
filter_step p q x xs h true true e f = rw (e, f) (ap (λ l. x ∷ l) h)
filter_step p q x xs h true false e f = rw f h
filter_step p q x xs h false true e f = rw e h
filter_step p q x xs h false false e f = h

pub filter_turned : {X : Type 0} (p q : X → Bool) (xs : List X) → filter p (filter q xs) ≡ filter q (filter p xs)
filter_turned p q [] = refl
filter_turned p q (x ∷ xs) = filter_step p q x xs (filter_turned p q xs) (p x) (q x) refl refl

prefix_len_map : {A B : Type 0} (test : B → Bool) (f : A → B) (xs : List A) → prefix_len test (map f xs) ≡ prefix_len (λ x. test (f x)) xs
prefix_len_map test f [] = refl
prefix_len_map test f (x ∷ xs) = ap (λ (n : ℕ). cond (test (f x)) (1 + n) 0) (prefix_len_map test f xs)

pub position_map : {A B : Type 0} (test : B → Bool) (f : A → B) (xs : List A) → position test (map f xs) ≡ position (λ x. test (f x)) xs
position_map test f xs = rw (prefix_len_map (λ y. not (test y)) f xs, length-map) refl

pub list_any_map : {A B : Type 0} (test : B → Bool) (f : A → B) (xs : List A) → list_any test (map f xs) ≡ list_any (λ x. test (f x)) xs
list_any_map test f [] = refl
list_any_map test f (x ∷ xs) = ap (λ (b : Bool). test (f x) || b) (list_any_map test f xs)

-- what is made of one element more
pub front_more : {A B : Type 0} (f : A → B) (xs : List A) (i : ℕ) (d : A) → i < length xs → map f (take (i + 1) xs) ≡ map f (take i xs) ++ f (get_or xs i d) ∷ []
front_more f xs i d lt = rw (take_more xs i d lt, map_push) refl

pub taken_more : {X : Type 0} (xs : List X) (i : ℕ) (x : X) → slice_get xs i ≡ Some x → take (i + 1) xs ≡ take i xs ++ x ∷ []
taken_more xs i x at = take_more xs i x (slice_get_within xs i x at) ∙ ap (λ y. take i xs ++ y ∷ []) (get_or_from_slice_get xs i x x at)

pub first_where : {X : Type 0} (test : Bool) (x y : X) → test ≡ true → x ≡ (if test then x else y)
first_where true x y e = refl
first_where false x y e = absurd cc
