-- How many names of a document's members the plan lacks.
use Rattle.std.proofs.Common.{◌≡◌, ℕ, ◌<◌, ◌≤◌, Bool, true, false, not, cond, ◌&&◌, ◌||◌, List, [], ◌∷◌, map, length, Option, Some, None, is_some, bytes_eq, nat_cmp, Ordering, Less, Equal, Greater, is_eq, refl, sym, ap, ◌∙◌, arith}
use Rattle.std.proofs.lemmas.Bool.{and_parts, or_parts}
use Rattle.std.proofs.lemmas.Cmp.{nat_list_eq_equiv}
use Rattle.std.proofs.lemmas.Map.Keys.{IsDistinct-from_sorted, IsDistinct-cons}
use Rattle.std.proofs.lemmas.Map.Made.{is_member-filter, length-le_from_is_member}
use Rattle.std.proofs.lemmas.Map.Text.{is_eq-slice_cmp}
use Rattle.std.proofs.lemmas.Slice.Eq.{bytes_eq-Decides}
use Rattle.std.specs.Cmp.Lexicographic.{slice_cmp}
use Rattle.std.specs.List.{AllByRecursion, IsDistinct, filter, list_any}
use Rattle.std.specs.List.Sorted.{IsStrictlySortedBy}
use Rattle.std.specs.Option.{option_map_or}
use Rattle.std.specs.Ordering.{eq_by_cmp, match_ordering}
use Rattle.std.specs.Prelude.{String, string_bytes}
use Rattle.std.specs.String.{string_cmp}
use Rattle.serde_json.specs.Data.{Data, Members, no_members, member, put}
use Rattle.serde_json.specs.Find.{get_member}
use Rattle.json_parts.specs.Parts.{names_of}
use Rattle.plan_model.specs.PlanData.{PlanData}
use Rattle.input_texts.specs.Document.{is_source, is_other, unknown_names}
use Rattle.input_texts.specs.Seen.{slot_of}
use Rattle.input_texts.proofs.OrderedMembers.{got_after}

-- ---- names that are in order are distinct

module _ {A : Type 0} where
  abbrev b : String A → List ℕ
  b s = string_bytes s

  apart_texts : (x : String A) (ks : List (String A)) → AllByRecursion (λ y. eq_by_cmp string_cmp x y ≡ false) ks → AllByRecursion (λ y. bytes_eq (b x) y ≡ false) (map b ks)
  apart_texts x [] h = tt
  apart_texts x (k ∷ ks) h = (sym (is_eq-slice_cmp (b x) (b k)) ∙ h.0, apart_texts x ks h.1)

  distinct_texts : (ks : List (String A)) → IsDistinct (eq_by_cmp string_cmp) ks → IsDistinct bytes_eq (map b ks)
  unfolding IsDistinct
  distinct_texts [] h = tt
  distinct_texts (k ∷ ks) h = (apart_texts k ks h.0, distinct_texts ks h.1)

  pub distinct_names : (ks : List (String A)) → IsStrictlySortedBy string_cmp ks → IsDistinct bytes_eq (map b ks)
  distinct_names ks h = distinct_texts ks (IsDistinct-from_sorted string_cmp ks h)

-- ---- one more member takes none of them away

length_by : (b : Bool) (x : List ℕ) (xs : List (List ℕ)) → length xs ≤ length (cond b (x ∷ xs) xs)
length_by true x xs = omega arith
length_by false x xs = omega arith

same_length : (xs ys : List (List ℕ)) → xs ≡ ys → length xs ≤ length ys
same_length xs ys same = let as_long : length xs ≡ length ys = ap length same in omega arith

longer_by : (b : Bool) (x : List ℕ) (xs ys : List (List ℕ)) → length xs ≤ length ys → length (cond b (x ∷ xs) xs) ≤ length (cond b (x ∷ ys) ys)
longer_by true x xs ys h = omega arith
longer_by false x xs ys h = h

module _ (test : List ℕ → Bool) where
  kept_by : (o : Ordering) (k : List ℕ) (d : Data) (l : List ℕ) (e : Data) (ms more : Members) → length (filter test (names_of ms)) ≤ length (filter test (names_of more))
      → length (filter test (names_of (member l e ms))) ≤ length (filter test (names_of (match_ordering o (member k d (member l e ms)) (member l d ms) (member l e more))))
  kept_by Less k d l e ms more after = length_by (test k) k (filter test (names_of (member l e ms)))
  kept_by Equal k d l e ms more after = same_length (filter test (names_of (member l e ms))) (filter test (names_of (member l e ms))) refl
  kept_by Greater k d l e ms more after = longer_by (test l) l (filter test (names_of ms)) (filter test (names_of more)) after

  names_kept : (k : List ℕ) (d : Data) (ms : Members) → length (filter test (names_of ms)) ≤ length (filter test (names_of (put k d ms)))
  names_kept k d no_members = omega arith
  names_kept k d (member l e ms) = kept_by (slice_cmp nat_cmp k l) k d l e ms (put k d ms) (names_kept k d ms)

pub unknown_kept : (plan : PlanData) (k : List ℕ) (d : Data) (ms : Members) → length (unknown_names plan ms) ≤ length (unknown_names plan (put k d ms))
unknown_kept plan k d ms = names_kept (λ n. not (is_source plan n)) k d ms

-- ---- a name that has a member

or_true : (a : Bool) → (a || true) ≡ true
or_true true = refl
or_true false = refl

named_by : (o : Ordering) (b : Bool) (g : Option Data) (e d : Data) (any : Bool) → is_eq o ≡ b → (g ≡ Some d → any ≡ true) → match_ordering o g (Some e) g ≡ Some d → (b || any) ≡ true
named_by Less b g e d any order later got = ap (λ a. b || a) (later got) ∙ or_true b
named_by Equal b g e d any order later got = ap (λ c. c || any) (sym order)
named_by Greater b g e d any order later got = ap (λ a. b || a) (later got) ∙ or_true b

named : (j : List ℕ) (d : Data) (ms : Members) → get_member j ms ≡ Some d → list_any (bytes_eq j) (names_of ms) ≡ true
named j d no_members got = absurd (cc)
named j d (member l e ms) got = named_by (slice_cmp nat_cmp j l) (bytes_eq j l) (get_member j ms) e d (list_any (bytes_eq j) (names_of ms)) (is_eq-slice_cmp j l) (named j d ms) got

module _ (plan : PlanData) where
  abbrev unknown : List ℕ → Bool
  unknown n = not (is_source plan n)

  same_unknown : (j x : List ℕ) → bytes_eq j x ≡ true → unknown j ≡ unknown x
  same_unknown j x equal = ap unknown ((bytes_eq-Decides j x).0 equal)

  found : (j : List ℕ) (d : Data) (ms : Members) → unknown j ≡ true → get_member j ms ≡ Some d → list_any (bytes_eq j) (unknown_names plan ms) ≡ true
  found j d ms lacks got = is_member-filter nat_list_eq_equiv unknown j (same_unknown j) (names_of ms) ∙ rw (named j d ms got, lacks) refl

  other_got : (j : List ℕ) (o : Option Data) → option_map_or (λ d. not (is_some (slot_of plan j d))) o false ≡ true → (d : Data) × (o ≡ Some d)
  other_got j None h = absurd (cc)
  other_got j (Some d) h = (d, refl)

  module _ (k : List ℕ) (d : Data) (ms : Members) where
    found_by : (b : Bool) (j : List ℕ) → bytes_eq j k ≡ b → is_source plan k ≡ false → (b ≡ false → is_other plan ms j ≡ true) → list_any (bytes_eq j) (unknown_names plan (put k d ms)) ≡ true
    found_by true j equal lacks others =
        let here : unknown j ≡ true = same_unknown j k equal ∙ ap not lacks in
        found j d (put k d ms) here (got_after j k d ms ∙ ap (λ b. cond b (Some d) (get_member j ms)) equal)
    found_by false j apart lacks others =
        let parts = and_parts (unknown j) (option_map_or (λ e. not (is_some (slot_of plan j e))) (get_member j ms) false) (others refl) in
        let there = other_got j (get_member j ms) parts.1 in
        found j there.0 (put k d ms) parts.0 (got_after j k d ms ∙ ap (λ b. cond b (Some d) (get_member j ms)) apart ∙ there.1)

apart_by : (a any : Bool) → (a || any) ≡ true → a ≡ false → any ≡ true
apart_by true any h apart = absurd (cc)
apart_by false any h apart = h

all_apart : (k : List ℕ) (ns : List (List ℕ)) → list_any (bytes_eq k) ns ≡ false → AllByRecursion (λ y. bytes_eq k y ≡ false) ns
all_apart k [] h = tt
all_apart k (n ∷ ns) h = let parts = or_parts (bytes_eq k n) (list_any (bytes_eq k) ns) h in (parts.0, all_apart k ns parts.1)

-- distinct names of members that the plan lacks, and one more, are no more than there are
pub one_more_unknown : (plan : PlanData) (k : List ℕ) (d : Data) (ms : Members) (ns : List (List ℕ)) → is_source plan k ≡ false → IsDistinct bytes_eq ns → list_any (bytes_eq k) ns ≡ false
    → ((j : List ℕ) → list_any (bytes_eq j) ns ≡ true → is_other plan ms j ≡ true) → length ns < length (unknown_names plan (put k d ms))
one_more_unknown plan k d ms ns lacks distinct apart others =
    let all = length-le_from_is_member nat_list_eq_equiv (k ∷ ns) (unknown_names plan (put k d ms)) (IsDistinct-cons bytes_eq k ns (all_apart k ns apart) distinct)
    (λ j h. found_by plan k d ms (bytes_eq j k) j refl lacks (λ other. others j (apart_by (bytes_eq j k) (list_any (bytes_eq j) ns) h other))) in
    omega (arith, all)
