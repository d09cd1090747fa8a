-- The member under a name, where another is put.
use Rattle.std.proofs.Common.{◌≡◌, ℕ, Bool, true, false, List, Some, None, is_some, bytes_eq, nat_cmp, Ordering, Less, Equal, Greater, is_eq, refl, sym, ap, ◌∙◌}
use Rattle.std.proofs.lemmas.Map.Text.{is_eq-slice_cmp}
use Rattle.std.proofs.lemmas.Slice.Eq.{bytes_eq-Decides}
use Rattle.std.specs.Cmp.Lexicographic.{slice_cmp}
use Rattle.std.specs.Ordering.{match_ordering}
use Rattle.serde_json.specs.Data.{Data, Members, no_members, member, put}
use Rattle.serde_json.specs.Find.{get_member}

pub equal_from : (o : Ordering) → is_eq o ≡ true → o ≡ Equal
equal_from Less h = absurd (cc)
equal_from Equal h = refl
equal_from Greater h = absurd (cc)

skip : {A : Type 0} (o : Ordering) (x y : A) → is_eq o ≡ false → match_ordering o x y x ≡ x
skip Less x y h = refl
skip Equal x y h = absurd (cc)
skip Greater x y h = refl

same_name : (k : List ℕ) → slice_cmp nat_cmp k k ≡ Equal
same_name k = equal_from (slice_cmp nat_cmp k k) (is_eq-slice_cmp k k ∙ (bytes_eq-Decides k k).1 refl)

got_by : (o : Ordering) (k : List ℕ) (d : Data) (l : List ℕ) (e : Data) (ms more : Members) → slice_cmp nat_cmp k l ≡ o → get_member k more ≡ Some d
    → get_member k (match_ordering o (member k d (member l e ms)) (member l d ms) (member l e more)) ≡ Some d
got_by Less k d l e ms more order after = rw (same_name k) refl
got_by Equal k d l e ms more order after = rw order refl
got_by Greater k d l e ms more order after = rw order after

pub got_put : (k : List ℕ) (d : Data) (ms : Members) → get_member k (put k d ms) ≡ Some d
got_put k d no_members = rw (same_name k) refl
got_put k d (member l e ms) = got_by (slice_cmp nat_cmp k l) k d l e ms (put k d ms) refl (got_put k d ms)

module _ (name k : List ℕ) (other : bytes_eq name k ≡ false) where
  apart : is_eq (slice_cmp nat_cmp name k) ≡ false
  apart = is_eq-slice_cmp name k ∙ other

  kept_by : (o : Ordering) (d : Data) (l : List ℕ) (e : Data) (ms more : Members) → slice_cmp nat_cmp k l ≡ o → get_member name more ≡ get_member name ms
      → get_member name (match_ordering o (member k d (member l e ms)) (member l d ms) (member l e more)) ≡ get_member name (member l e ms)
  kept_by Less d l e ms more order after = skip (slice_cmp nat_cmp name k) (get_member name (member l e ms)) (Some d) apart
  kept_by Equal d l e ms more order after =
      let same : k ≡ l = (bytes_eq-Decides k l).0 (sym (is_eq-slice_cmp k l) ∙ ap is_eq order) in
      let far : is_eq (slice_cmp nat_cmp name l) ≡ false = rw same at apart in
      skip (slice_cmp nat_cmp name l) (get_member name ms) (Some d) far ∙ sym (skip (slice_cmp nat_cmp name l) (get_member name ms) (Some e) far)
  kept_by Greater d l e ms more order after = ap (λ o. match_ordering (slice_cmp nat_cmp name l) o (Some e) o) after

  pub kept_put : (d : Data) (ms : Members) → get_member name (put k d ms) ≡ get_member name ms
  kept_put d no_members = skip (slice_cmp nat_cmp name k) None (Some d) apart
  kept_put d (member l e ms) = kept_by (slice_cmp nat_cmp k l) d l e ms (put k d ms) refl (kept_put d ms)

stays_by : (b : Bool) (k j : List ℕ) (d : Data) (ms : Members) → bytes_eq k j ≡ b → is_some (get_member k ms) ≡ true → is_some (get_member k (put j d ms)) ≡ true
stays_by false k j d ms apart there = ap is_some (kept_put k j apart d ms) ∙ there
stays_by true k j d ms equal there =
    let same : k ≡ j = (bytes_eq-Decides k j).0 equal in
    ap (λ n. is_some (get_member n (put j d ms))) same ∙ ap is_some (got_put j d ms)

pub stays_put : (k j : List ℕ) (d : Data) (ms : Members) → is_some (get_member k ms) ≡ true → is_some (get_member k (put j d ms)) ≡ true
stays_put k j d ms there = stays_by (bytes_eq k j) k j d ms refl there
