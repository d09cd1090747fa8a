-- Members that are put into an object one after another, each under a name of its own.
use Rattle.std.proofs.Common.{◌≡◌, ◌||◌, ℕ, Bool, true, false, not, bytes_eq, List, [], ◌∷◌, map, Some, Ordering, Less, Equal, Greater, nat_cmp, refl, sym, ◌∙◌}
use Rattle.std.proofs.lemmas.Bool.{and_parts, and_from, or_parts, or_left, or_right, true≢false}
use Rattle.std.proofs.lemmas.Slice.Eq.{bytes_eq-Decides}
use Rattle.std.specs.Cmp.Lexicographic.{slice_cmp}
use Rattle.std.specs.List.{list_all, list_any}
use Rattle.std.specs.Ordering.{match_ordering}
use Rattle.plan_model.specs.Uids.{are_distinct}
use Rattle.serde_json.specs.Data.{Data, Members, no_members, member, put}
use Rattle.serde_json.specs.Find.{get_member}
use Rattle.serde_json.proofs.Views.{get_member-put, get_member-put_other}
use Rattle.json_parts.specs.Parts.{is_one_of, names_of}

abbrev pub Named : Type 0
Named = List ℕ × Data

-- all put in, the last one last
abbrev pub put_all : List Named → Members → Members
put_all [] ms = ms
put_all (z ∷ zs) ms = put_all zs (put z.0 z.1 ms)

-- a name is not among others
abbrev pub Apart : List ℕ → List (List ℕ) → Type 0
Apart q [] = Unit {0}
Apart q (k ∷ ks) = (q ≡ k → ⊥) × Apart q ks

-- no name stands twice
abbrev pub Distinct : List (List ℕ) → Type 0
Distinct [] = Unit {0}
Distinct (k ∷ ks) = Apart k ks × Distinct ks

abbrev pub names_in : List Named → List (List ℕ)
names_in zs = map (λ z. z.0) zs

-- what stood there stays, if nothing is put there
kept : (q : List ℕ) (zs : List Named) (ms : Members) → Apart q (names_in zs) → get_member q (put_all zs ms) ≡ get_member q ms
kept q [] ms apart = refl
kept q (z ∷ zs) ms apart = kept q zs (put z.0 z.1 ms) apart.1 ∙ get_member-put_other q z.0 z.1 ms apart.0

-- each is found
abbrev pub AreThere : Members → List Named → Type 0
AreThere ms [] = Unit {0}
AreThere ms (z ∷ zs) = (get_member z.0 ms ≡ Some z.1) × AreThere ms zs

pub all_there : (zs : List Named) (ms : Members) → Distinct (names_in zs) → AreThere (put_all zs ms) zs
all_there [] ms distinct = tt
all_there (z ∷ zs) ms distinct = (kept z.0 zs (put z.0 z.1 ms) distinct.0 ∙ get_member-put z.0 z.1 ms, all_there zs (put z.0 z.1 ms) distinct.1)

-- ---- no other name is there

named_at : (o : Ordering) (P : List ℕ → Bool) (k l : List ℕ) (d e : Data) (ms : Members) → P k ≡ true → P l ≡ true → list_all P (names_of ms) ≡ true → list_all P (names_of (put k d ms)) ≡ true
    → list_all P (names_of (match_ordering o (member k d (member l e ms)) (member l d ms) (member l e (put k d ms)))) ≡ true
named_at Less P k l d e ms here there rest later = and_from _ _ here (and_from _ _ there rest)
named_at Equal P k l d e ms here there rest later = and_from _ _ there rest
named_at Greater P k l d e ms here there rest later = and_from _ _ there later

named_put : (P : List ℕ → Bool) (k : List ℕ) (d : Data) (ms : Members) → P k ≡ true → list_all P (names_of ms) ≡ true → list_all P (names_of (put k d ms)) ≡ true
named_put P k d no_members here all = and_from _ _ here refl
named_put P k d (member l e ms) here all =
    let parts = and_parts (P l) (list_all P (names_of ms)) all in
    named_at (slice_cmp nat_cmp k l) P k l d e ms here parts.0 parts.1 (named_put P k d ms here parts.1)

all_named : (P : List ℕ → Bool) (zs : List Named) (ms : Members) → list_all P (names_in zs) ≡ true → list_all P (names_of ms) ≡ true → list_all P (names_of (put_all zs ms)) ≡ true
all_named P [] ms each all = all
all_named P (z ∷ zs) ms each all =
    let parts = and_parts (P z.0) (list_all P (names_in zs)) each in
    all_named P zs (put z.0 z.1 ms) parts.1 (named_put P z.0 z.1 ms parts.0 all)

-- a name is one of those behind it
later : (k : List ℕ) (ks : List (List ℕ)) (names : List (List ℕ)) → list_all (is_one_of names) ks ≡ true → list_all (is_one_of (k ∷ names)) ks ≡ true
later k [] names all = refl
later k (l ∷ ks) names all =
    let parts = and_parts _ _ all in
    and_from _ _ (or_right (bytes_eq k l) _ parts.0) (later k ks names parts.1)

one_of_itself : (ks : List (List ℕ)) → list_all (is_one_of ks) ks ≡ true
one_of_itself [] = refl
one_of_itself (k ∷ ks) = and_from _ _ (or_left (bytes_eq k k) _ ((bytes_eq-Decides k k).1 refl)) (later k ks ks (one_of_itself ks))

pub no_other : (zs : List Named) → list_all (is_one_of (names_in zs)) (names_of (put_all zs no_members)) ≡ true
no_other zs = all_named (is_one_of (names_in zs)) zs no_members (one_of_itself (names_in zs)) refl

-- ---- distinct names, by the test

none_same : (k : List ℕ) (ks : List (List ℕ)) (b : Bool) → list_any (bytes_eq k) ks ≡ b → not b ≡ true → Apart k ks
none_same k [] b e apart = tt
none_same k (l ∷ ks) true e apart = absurd cc
none_same k (l ∷ ks) false e apart = let parts = or_parts (bytes_eq k l) (list_any (bytes_eq k) ks) e in ((λ same. true≢false (sym ((bytes_eq-Decides k l).1 same) ∙ parts.0)), none_same k ks false parts.1 refl)

pub distinct_by_test : (ks : List (List ℕ)) → are_distinct ks ≡ true → Distinct ks
distinct_by_test [] e = tt
distinct_by_test (k ∷ ks) e = let parts = and_parts _ _ e in (none_same k ks _ refl parts.0, distinct_by_test ks parts.1)
