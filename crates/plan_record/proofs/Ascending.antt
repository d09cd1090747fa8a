-- Keys that are put in order one after the other.
use Rattle.std.proofs.Common.{◌≡◌, ℕ, ◌+◌, ◌<◌, ◌≤◌, Bool, true, false, cond, List, [], ◌∷◌, map, length, take, get_or, refl, ap, sym, ◌∙◌, arith}
use Rattle.std.specs.List.{fold, list_all}
use Rattle.std.specs.declared.cmp.Ordering.{Ordering}
use Rattle.std.specs.declared.cmp.Ordering.TheVariants.{Less, Equal, Greater}
use Rattle.std.specs.Ordering.{match_ordering}
use Rattle.std.specs.BTreeSet.{insert_key}
use Rattle.std.proofs.lemmas.List.{map_more}
use Rattle.std.proofs.lemmas.List.Sums.{fold_push}
use Rattle.byte_fields.proofs.Exact.{both, and_true}
use Rattle.plan_record.specs.PlanRecord.{ascending}

ascending_more : {A K : Type 0} (cmp : K → K → Ordering) (f : A → K) (xs : List A) (i : ℕ) (d : A) → i < length xs
    → ascending cmp (map f (take (i + 1) xs)) ≡ insert_key cmp (ascending cmp (map f (take i xs))) (f (get_or xs i d))
ascending_more cmp f xs i d lt = ap (ascending cmp) (map_more f xs i d lt) ∙ fold_push (insert_key cmp) [] (map f (take i xs)) (f (get_or xs i d))

-- the keys once that of one more element is in
pub keys_more : {A K : Type 0} (cmp : K → K → Ordering) (f : A → K) (xs : List A) (i : ℕ) (d : A) (old new : List K) (key : K) → i < length xs → old ≡ ascending cmp (map f (take i xs)) → key ≡ f (get_or xs i d)
    → new ≡ insert_key cmp old key → new ≡ ascending cmp (map f (take (i + 1) xs))
keys_more cmp f xs i d old new key lt is_old is_key is_new = is_new ∙ rw (is_old, is_key) (sym (ascending_more cmp f xs i d lt))

-- keys that are seen by f, in the order of what is seen
pub map_insert_key : {A B : Type 0} (cmp : B → B → Ordering) (f : A → B) (keys : List A) (key : A) → map f (insert_key (λ x y. cmp (f x) (f y)) keys key) ≡ insert_key cmp (map f keys) (f key)
map_insert_key {B = B} cmp f [] key = refl
map_insert_key {B = B} cmp f (x ∷ keys) key =
    elim (cmp (f key) (f x)) as (λ o. map f (match_ordering o (key ∷ x ∷ keys) (x ∷ keys) (x ∷ insert_key (λ x y. cmp (f x) (f y)) keys key)) ≡ match_ordering o (f key ∷ f x ∷ map f keys) (f x ∷ map f keys) (f x ∷ insert_key cmp (map f keys) (f key))) [
      | Less ↦ refl
      | Equal ↦ refl
      | Greater ↦ ap (λ (ys : List B). f x ∷ ys) (map_insert_key cmp f keys key)
    ]

-- no more keys than there were
length-insert_key : {K : Type 0} (cmp : K → K → Ordering) (keys : List K) (key : K) → length (insert_key cmp keys key) ≤ length keys + 1
length-insert_key cmp [] key = omega arith
length-insert_key cmp (x ∷ keys) key =
    let rest = length-insert_key cmp keys key in
    elim (cmp key x) as (λ o. length (match_ordering o (key ∷ x ∷ keys) (x ∷ keys) (x ∷ insert_key cmp keys key)) ≤ length (x ∷ keys) + 1) [
      | Less ↦ omega arith
      | Equal ↦ omega arith
      | Greater ↦ omega (arith, rest)
    ]

length-folded : {K : Type 0} (cmp : K → K → Ordering) (set keys : List K) → length (fold (insert_key cmp) set keys) ≤ length set + length keys
length-folded cmp set [] = omega arith
length-folded cmp set (x ∷ keys) = omega (arith, length-folded cmp (insert_key cmp set x) keys, length-insert_key cmp set x)

pub length-ascending : {K : Type 0} (cmp : K → K → Ordering) (keys : List K) → length (ascending cmp keys) ≤ length keys
length-ascending cmp keys = omega (arith, length-folded cmp [] keys)

pub one_more : (added : Bool) (m n i : ℕ) → m ≡ n + cond added 1 0 → n ≤ i → m ≤ i + 1
one_more true m n i e le = omega arith
one_more false m n i e le = omega arith

-- a key that passes a test, among keys that do
pub all_insert_key : {K : Type 0} (cmp : K → K → Ordering) (test : K → Bool) (keys : List K) (key : K) → list_all test keys ≡ true → test key ≡ true → list_all test (insert_key cmp keys key) ≡ true
all_insert_key cmp test [] key all one = rw one refl
all_insert_key cmp test (x ∷ keys) key all one =
    let parts = both (test x) (list_all test keys) all in
    elim (cmp key x) as (λ o. list_all test (match_ordering o (key ∷ x ∷ keys) (x ∷ keys) (x ∷ insert_key cmp keys key)) ≡ true) [
      | Less ↦ and_true (test key) _ one all
      | Equal ↦ all
      | Greater ↦ and_true (test x) _ parts.0 (all_insert_key cmp test keys key parts.1 one)
    ]
