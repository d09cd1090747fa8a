-- What is noted of an entry, by its members.
use Rattle.std.proofs.Common.{◌≡◌, ℕ, ℤ, Bool, true, false, ◌&&◌, cond, List, [], ◌∷◌, Option, Some, None, is_some, option_map, option_and_then, bytes_eq, nat_cmp, codes, Ordering, Less, Equal, Greater, is_eq, refl, sym, ap, ◌∙◌, subst}
use Rattle.std.proofs.lemmas.Map.Text.{is_eq-slice_cmp}
use Rattle.std.proofs.lemmas.Slice.Eq.{bytes_eq-Decides}
use Rattle.std.specs.Cmp.Lexicographic.{nat_list_eq_equiv, slice_cmp}
use Rattle.std.specs.List.{list_all}
use Rattle.std.specs.Ordering.{match_ordering}
use Rattle.json.specs.Token.{Token}
use Rattle.serde_json.specs.Data.{Data, object, Members, no_members, member, put}
use Rattle.serde_json.specs.Find.{as_object, get_member}
use Rattle.json_parts.specs.Parts.{whole, each_at, list_text, cell_text, has_only, is_one_of, names_of}
use Rattle.json_tokens.specs.Passed.{Passes}
use Rattle.json_tokens.proofs.Facts.{got_put, stays_put}
use Rattle.input_texts.specs.declared.text.EntryText.TheVariants.{Rows as rows, Watermark as watermark}
use Rattle.input_texts.specs.InputText.{rows_text, watermark_text, entry_text}
use Rattle.input_texts.specs.Seen.{Named, EntrySeen, Notes, entry_seen, member_text, named_by, with_member, noted_as}
use Rattle.input_texts.specs.Seen.named as named

rows_then : (o : Option (List (List (Option ℤ)))) → option_and_then (λ f. Some (rows f)) o ≡ option_map rows o
rows_then None = refl
rows_then (Some f) = refl

rows_member : (d : Data) → entry_text (object (member (codes "rows") d no_members)) ≡ option_map rows (list_text (list_text cell_text) d)
unfolding entry_text has_only rows_text each_at list_text
rows_member d = rows_then _

pub watermark_member : (d : Data) → entry_text (object (member (codes "watermark") d no_members)) ≡ Some (watermark (whole d))
unfolding entry_text has_only watermark_text
watermark_member d = refl

no_member : entry_text (object no_members) ≡ None
unfolding entry_text has_only rows_text each_at
no_member = refl

no_entry : (d : Data) → as_object d ≡ None → entry_text d ≡ None
unfolding entry_text has_only
no_entry d none = rw none refl

pub other_entry : (bound : Option ℤ) (columns time : ℕ) (w : ℤ) (depth : ℕ) (ts r : List Token) (d : Data) → Passes depth ts d r → as_object d ≡ None → Notes entry_text (entry_seen bound columns time w) depth ts None r
other_entry bound columns time w depth ts r d passed none = (d, passed, sym (ap (option_map (entry_seen bound columns time w)) (no_entry d none)))

-- ---- names that are others

and_false : (b c : Bool) → c ≡ false → b && c ≡ false
and_false true c h = h
and_false false c h = refl

other_by : (o : Ordering) (name k l : List ℕ) (e : Data) (ms : Members) → slice_cmp nat_cmp k l ≡ o → bytes_eq name k ≡ false
    → is_some (match_ordering o (get_member k ms) (Some e) (get_member k ms)) ≡ true → (is_some (get_member k ms) ≡ true → list_all (is_one_of (name ∷ [])) (names_of ms) ≡ false)
    → list_all (is_one_of (name ∷ [])) (l ∷ names_of ms) ≡ false
other_by Less name k l e ms order apart there later = and_false (is_one_of (name ∷ []) l) (list_all (is_one_of (name ∷ [])) (names_of ms)) (later there)
other_by Equal name k l e ms order apart there later =
    let same : k ≡ l = (bytes_eq-Decides k l).0 (sym (is_eq-slice_cmp k l) ∙ ap is_eq order) in
    let far : bytes_eq name l ≡ false = rw same at apart in
    rw far refl
other_by Greater name k l e ms order apart there later = and_false (is_one_of (name ∷ []) l) (list_all (is_one_of (name ∷ [])) (names_of ms)) (later there)

other_name : (name k : List ℕ) (ms : Members) → bytes_eq name k ≡ false → is_some (get_member k ms) ≡ true → list_all (is_one_of (name ∷ [])) (names_of ms) ≡ false
other_name name k no_members apart there = absurd (cc)
other_name name k (member l e ms) apart there = other_by (slice_cmp nat_cmp k l) name k l e ms refl apart there (other_name name k ms apart)

-- there is a member that is not the rows, and one that is not the watermark
pub record HasOthers (ms : Members) : Type 0 where
  one : List ℕ
  other : List ℕ
  no_rows : bytes_eq (codes "rows") one ≡ false
  no_watermark : bytes_eq (codes "watermark") other ≡ false
  has_one : is_some (get_member one ms) ≡ true
  has_other : is_some (get_member other ms) ≡ true

others_say : (ms : Members) → HasOthers ms → entry_text (object ms) ≡ None
unfolding entry_text has_only
others_say ms h =
    let no_rows = other_name (codes "rows") h.one ms h.no_rows h.has_one in
    let no_mark = other_name (codes "watermark") h.other ms h.no_watermark h.has_other in
    rw (no_rows, no_mark) refl

others_stay : (k : List ℕ) (d : Data) (ms : Members) → HasOthers ms → HasOthers (put k d ms)
others_stay k d ms h = record {
  one = h.one;
  other = h.other;
  no_rows = h.no_rows;
  no_watermark = h.no_watermark;
  has_one = stays_put h.one k d ms h.has_one;
  has_other = stays_put h.other k d ms h.has_other;
}

-- ---- members that were passed

-- what is known of the members where they are so named
abbrev pub Passed : Named → Members → Type 0
Passed named.Nothing ms = ms ≡ no_members
Passed named.Rows ms = (d : Data) × (ms ≡ member (codes "rows") d no_members)
Passed named.Watermark ms = (d : Data) × (ms ≡ member (codes "watermark") d no_members)
Passed named.Others ms = HasOthers ms

-- and what is noted of them
pub record MembersNoted (bound : Option ℤ) (columns time : ℕ) (w : ℤ) (name : Named) (ms : Members) (entry : Option EntrySeen) : Type 0 where
  pub passed : Passed name ms
  pub noted : entry ≡ option_map (entry_seen bound columns time w) (entry_text (object ms))

module _ (bound : Option ℤ) (columns time : ℕ) (w : ℤ) where
  pub none_passed : MembersNoted bound columns time w named.Nothing no_members None
  none_passed = record { passed = refl; noted = sym (ap (option_map (entry_seen bound columns time w)) no_member) }

  others_noted : (ms : Members) → HasOthers ms → MembersNoted bound columns time w named.Others ms None
  others_noted ms h = record { passed = h; noted = sym (ap (option_map (entry_seen bound columns time w)) (others_say ms h)) }

  rows_noted : (d : Data) (ms : Members) (entry : Option EntrySeen) → ms ≡ member (codes "rows") d no_members → entry ≡ option_map (entry_seen bound columns time w) (member_text named.Rows d) → MembersNoted bound columns time w named.Rows ms entry
  rows_noted d ms entry is h = record { passed = (d, is); noted = h ∙ sym (ap (option_map (entry_seen bound columns time w)) (ap (λ m. entry_text (object m)) is ∙ rows_member d)) }

  watermark_noted : (d : Data) (ms : Members) (entry : Option EntrySeen) → ms ≡ member (codes "watermark") d no_members → entry ≡ option_map (entry_seen bound columns time w) (member_text named.Watermark d)
      → MembersNoted bound columns time w named.Watermark ms entry
  watermark_noted d ms entry is h = record { passed = (d, is); noted = h ∙ sym (ap (option_map (entry_seen bound columns time w)) (ap (λ m. entry_text (object m)) is ∙ watermark_member d)) }

  rows_next : (before : Named) (d : Data) (ms : Members) (next : Option EntrySeen) → Passed before ms → next ≡ option_map (entry_seen bound columns time w) (member_text named.Rows d)
      → MembersNoted bound columns time w (with_member before named.Rows) (put (codes "rows") d ms) (noted_as (with_member before named.Rows) next)
  rows_next named.Nothing d ms next p h = rows_noted d (put (codes "rows") d ms) next (ap (put (codes "rows") d) p) h
  rows_next named.Rows d ms next p h = rows_noted d (put (codes "rows") d ms) next (ap (put (codes "rows") d) p.1) h
  rows_next named.Watermark d ms next p h =
      others_noted (put (codes "rows") d ms) (subst (λ m. HasOthers (put (codes "rows") d m)) (sym p.1) (record {
        one = codes "watermark";
        other = codes "rows";
        no_rows = refl;
        no_watermark = refl;
        has_one = refl;
        has_other = refl;
      }))
  rows_next named.Others d ms next p h = others_noted (put (codes "rows") d ms) (others_stay (codes "rows") d ms p)

  watermark_next : (before : Named) (d : Data) (ms : Members) (next : Option EntrySeen) → Passed before ms → next ≡ option_map (entry_seen bound columns time w) (member_text named.Watermark d)
      → MembersNoted bound columns time w (with_member before named.Watermark) (put (codes "watermark") d ms) (noted_as (with_member before named.Watermark) next)
  watermark_next named.Nothing d ms next p h = watermark_noted d (put (codes "watermark") d ms) next (ap (put (codes "watermark") d) p) h
  watermark_next named.Watermark d ms next p h = watermark_noted d (put (codes "watermark") d ms) next (ap (put (codes "watermark") d) p.1) h
  watermark_next named.Rows d ms next p h =
      others_noted (put (codes "watermark") d ms) (subst (λ m. HasOthers (put (codes "watermark") d m)) (sym p.1) (record {
        one = codes "watermark";
        other = codes "rows";
        no_rows = refl;
        no_watermark = refl;
        has_one = refl;
        has_other = refl;
      }))
  watermark_next named.Others d ms next p h = others_noted (put (codes "watermark") d ms) (others_stay (codes "watermark") d ms p)

  no_such : (before : Named) → with_member before named.Others ≡ named.Others
  no_such named.Nothing = refl
  no_such named.Rows = refl
  no_such named.Watermark = refl
  no_such named.Others = refl

  other_next : (before : Named) (k : List ℕ) (d : Data) (ms : Members) (next : Option EntrySeen) → bytes_eq k (codes "rows") ≡ false → bytes_eq k (codes "watermark") ≡ false
      → MembersNoted bound columns time w (with_member before named.Others) (put k d ms) (noted_as (with_member before named.Others) next)
  other_next before k d ms next one two =
      let has : is_some (get_member k (put k d ms)) ≡ true = ap is_some (got_put k d ms) in
      rw (no_such before) (others_noted (put k d ms) (record {
        one = k;
        other = k;
        no_rows = nat_list_eq_equiv.symm (codes "rows") k ∙ one;
        no_watermark = nat_list_eq_equiv.symm (codes "watermark") k ∙ two;
        has_one = has;
        has_other = has;
      }))

  abbrev by_names : Bool → Bool → Named
  by_names a b = cond a named.Rows (cond b named.Watermark named.Others)

  pub member_more : (before : Named) (k : List ℕ) (d : Data) (ms : Members) (entry next : Option EntrySeen) → MembersNoted bound columns time w before ms entry → next ≡ option_map (entry_seen bound columns time w) (member_text (named_by k) d)
      → MembersNoted bound columns time w (with_member before (named_by k)) (put k d ms) (noted_as (with_member before (named_by k)) next)
  member_more before k d ms entry next i h = by (bytes_eq k (codes "rows")) (bytes_eq k (codes "watermark")) refl refl h
    where
      by : (a b : Bool) → bytes_eq k (codes "rows") ≡ a → bytes_eq k (codes "watermark") ≡ b → next ≡ option_map (entry_seen bound columns time w) (member_text (by_names a b) d)
          → MembersNoted bound columns time w (with_member before (by_names a b)) (put k d ms) (noted_as (with_member before (by_names a b)) next)
      by true b one two is = subst (λ n. MembersNoted bound columns time w (with_member before named.Rows) (put n d ms) (noted_as (with_member before named.Rows) next)) (sym ((bytes_eq-Decides k (codes "rows")).0 one)) (rows_next before d ms next i.passed is)
      by false true one two is =
          subst (λ n. MembersNoted bound columns time w (with_member before named.Watermark) (put n d ms) (noted_as (with_member before named.Watermark) next)) (sym ((bytes_eq-Decides k (codes "watermark")).0 two)) (watermark_next before d ms next i.passed is)
      by false false one two is = other_next before k d ms next one two
