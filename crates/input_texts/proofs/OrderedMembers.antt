-- The members of an object in the order of their names, where one more is put.
use Rattle.std.proofs.Common.{◌≡◌, ℕ, Bool, true, false, cond, ◌&&◌, T, List, ◌∷◌, Some, bytes_eq, nat_cmp, Ordering, Less, Equal, Greater, is_eq, refl, sym, ap, ◌∙◌, subst}
use Rattle.std.proofs.lemmas.Cmp.{nat_list_cmp_total}
use Rattle.std.proofs.lemmas.Map.Text.{is_eq-slice_cmp}
use Rattle.std.proofs.lemmas.Slice.Eq.{bytes_eq-Decides}
use Rattle.std.specs.Cmp.Lexicographic.{slice_cmp}
use Rattle.std.specs.FinMap.Entries as entries
use Rattle.std.specs.List.{list_all}
use Rattle.std.specs.Ordering.{match_ordering}
use Rattle.serde_json.specs.Data.{Data, Members, no_members, member, put}
use Rattle.serde_json.specs.Find.{get_member}
use Rattle.json_parts.specs.Parts.{names_of}
use Rattle.json_tokens.proofs.Facts.{got_put, kept_put}
use Rattle.input_texts.specs.Document.{pairs}

-- ---- the order of the names

is_true : (b : Bool) → T b → b ≡ true
is_true true h = refl
is_true false h = absurd h

pairs_by : (o : Ordering) (k : List ℕ) (d : Data) (l : List ℕ) (e : Data) (ms more : Members) → pairs more ≡ entries.put (slice_cmp nat_cmp) k d (pairs ms)
    → pairs (match_ordering o (member k d (member l e ms)) (member l d ms) (member l e more))
    ≡ entries.by_order o ((k, d) ∷ (l, e) ∷ pairs ms) ((l, d) ∷ pairs ms) ((l, e) ∷ entries.put (slice_cmp nat_cmp) k d (pairs ms))
pairs_by Less k d l e ms more after = refl
pairs_by Equal k d l e ms more after = refl
pairs_by Greater k d l e ms more after = ap (λ ps. (l, e) ∷ ps) after

pairs_put : (k : List ℕ) (d : Data) (ms : Members) → pairs (put k d ms) ≡ entries.put (slice_cmp nat_cmp) k d (pairs ms)
pairs_put k d no_members = refl
pairs_put k d (member l e ms) = pairs_by (slice_cmp nat_cmp k l) k d l e ms (put k d ms) (pairs_put k d ms)

pub ordered_put : (k : List ℕ) (d : Data) (ms : Members) → entries.is_sorted (slice_cmp nat_cmp) (pairs ms) ≡ true → entries.is_sorted (slice_cmp nat_cmp) (pairs (put k d ms)) ≡ true
ordered_put k d ms h =
    let sorted : T (entries.is_sorted (slice_cmp nat_cmp) (pairs ms)) = subst T (sym h) tt in
    ap (entries.is_sorted (slice_cmp nat_cmp)) (pairs_put k d ms)
    ∙ is_true (entries.is_sorted (slice_cmp nat_cmp) (entries.put (slice_cmp nat_cmp) k d (pairs ms))) (entries.is_sorted-put (slice_cmp nat_cmp) nat_list_cmp_total k d (pairs ms) sorted)

-- ---- tests of the names

swapped : (a b r : Bool) → (a && (b && r)) ≡ (b && (a && r))
swapped true b r = refl
swapped false true r = refl
swapped false false r = refl

again : (a r : Bool) → (a && r) ≡ (a && (a && r))
again true r = refl
again false r = refl

module _ (test : List ℕ → Bool) where
  named_by : (o : Ordering) (k : List ℕ) (d : Data) (l : List ℕ) (e : Data) (ms more : Members) → slice_cmp nat_cmp k l ≡ o → list_all test (names_of more) ≡ (test k && list_all test (names_of ms))
      → list_all test (names_of (match_ordering o (member k d (member l e ms)) (member l d ms) (member l e more))) ≡ (test k && list_all test (names_of (member l e ms)))
  named_by Less k d l e ms more order after = refl
  named_by Equal k d l e ms more order after =
      let same : k ≡ l = (bytes_eq-Decides k l).0 (sym (is_eq-slice_cmp k l) ∙ ap is_eq order) in
      again (test l) (list_all test (names_of ms)) ∙ ap (λ n. test n && list_all test (names_of (member l e ms))) (sym same)
  named_by Greater k d l e ms more order after = ap (λ b. test l && b) after ∙ swapped (test l) (test k) (list_all test (names_of ms))

  pub named_put : (k : List ℕ) (d : Data) (ms : Members) → list_all test (names_of (put k d ms)) ≡ (test k && list_all test (names_of ms))
  named_put k d no_members = refl
  named_put k d (member l e ms) = named_by (slice_cmp nat_cmp k l) k d l e ms (put k d ms) refl (named_put k d ms)

-- ---- the member under a name

got_by : (b : Bool) (j k : List ℕ) (d : Data) (ms : Members) → bytes_eq j k ≡ b → get_member j (put k d ms) ≡ cond b (Some d) (get_member j ms)
got_by false j k d ms apart = kept_put j k apart d ms
got_by true j k d ms equal =
    let same : j ≡ k = (bytes_eq-Decides j k).0 equal in
    ap (λ n. get_member n (put k d ms)) same ∙ got_put k d ms

pub got_after : (j k : List ℕ) (d : Data) (ms : Members) → get_member j (put k d ms) ≡ cond (bytes_eq j k) (Some d) (get_member j ms)
got_after j k d ms = got_by (bytes_eq j k) j k d ms refl
