-- Steps through two texts, and all of them together.
use Rattle.std.proofs.Common.{◌≡◌, ◌≢◌, ℕ, ℤ, Bool, true, false, List, [], ◌∷◌, ◌++◌, length, Option, Some, None, IfSome, Result, Ok, refl, sym, ap, subst, ◌∙◌, append_assoc, append-nil, arith}
use Rattle.std.specs.Io.KnownBytes.{Appends}
use Rattle.std.specs.List.{flat_map}
use Rattle.std.specs.Option.{option_to_list}
use Rattle.std.specs.Ordering.{int_cmp, is_lt, ordering_then}
use Rattle.std.specs.declared.cmp.Ordering.{Ordering}
use Rattle.std.specs.declared.cmp.Ordering.TheVariants.{Less, Equal, Greater}
use Rattle.std.proofs.lemmas.Grind.{flat_map-append}
use Rattle.std.proofs.lemmas.Int.{ints}
use Rattle.plan_model.specs.declared.spec.Pane.{Pane}
use Rattle.plan_model.specs.declared.spec.Row.{Row}
use Rattle.plan_model.specs.Rows.{pane_of, pane_cmp}
use Rattle.row_lines.specs.Sequences.{is_after, AreRows, width_of, last_of, IsNext}
use Rattle.row_lines.specs.declared.rows.RowLines.{RowLines}
use Rattle.row_lines.proofs.Places.{appends_more}
use Rattle.row_changes.specs.Changes.{Change, Gone, New, change_of, lines_of, text_of_changes, AreChanges}
use Rattle.row_changes.specs.Order.{first_by, first_of}
use Rattle.row_changes.specs.Merging.{IsTextOf, first_width, WritesChanges, IsLeft, AreLeft, IsAtHand, IsBehind, AreBothLeft, AreBehind, Begins, PassesOld, PassesNew, PassesBoth, IsStep, Steps, NothingLeft}
use Rattle.row_changes.specs.declared.writing.Pair.{Pair}
use Rattle.row_changes.specs.declared.order.First.{First}
use Rattle.row_changes.specs.declared.order.First.TheVariants as first
use Rattle.row_changes.proofs.Merges.{behind_of, passed, next_at_hand, gone_changes, new_changes, both_changes}

less : (o : Ordering) → first_by o ≡ first.Old → is_lt o ≡ true
less Less e = refl
less Greater e = absurd cc
less Equal e = absurd cc

is_greater : (o : Ordering) → first_by o ≡ first.New → o ≡ Greater
is_greater Less e = absurd cc
is_greater Greater e = refl
is_greater Equal e = absurd cc

is_equal : (o : Ordering) → first_by o ≡ first.Both → o ≡ Equal
is_equal Less e = absurd cc
is_equal Greater e = absurd cc
is_equal Equal e = refl

turned : (a b c d : ℤ) → ordering_then (int_cmp a c) (int_cmp b d) ≡ Greater → is_lt (ordering_then (int_cmp c a) (int_cmp d b)) ≡ true
turned a b c d e = grind (arith, ints)

same_start : (a b c d : ℤ) → ordering_then (int_cmp a c) (int_cmp b d) ≡ Equal → c ≡ a
same_start a b c d e = grind (arith, ints)

same_key : (a b c d : ℤ) → ordering_then (int_cmp a c) (int_cmp b d) ≡ Equal → d ≡ b
same_key a b c d e = grind (arith, ints)

text_step : (before : List ℕ) (xs ys : List Change) → (before ++ text_of_changes xs) ++ text_of_changes ys ≡ before ++ text_of_changes (xs ++ ys)
text_step before xs ys = append_assoc before (text_of_changes xs) (text_of_changes ys) ∙ ap (λ l. before ++ l) (sym (flat_map-append lines_of xs ys))

-- rows that are left behind a place
later_rows : {R : Type 0} (remaining : R → Option (List ℕ)) (rows : RowLines R) (row : Option Row) (p : Pane) (left : List Row) → IsBehind (Some p) rows row → AreLeft remaining rows row left → AreRows None (Some p) left
later_rows remaining rows None p left behind h = subst (AreRows None (Some p)) (sym h) tt
later_rows remaining rows (Some row) p left behind h = subst (AreRows None (Some p)) (sym h.are) (h.is, refl, behind.after, h.rows_are)

pub old_core : {R S : Type 0} (r : R → Option (List ℕ)) (s : S → Option (List ℕ)) (pair next : Pair R S) (last : Option Pane) (before after : List ℕ) (a : Row) → pair.old_row ≡ Some a → IsAtHand last pair.olds a
    → IsBehind (Some (pane_of a)) pair.news pair.new_row → PassesOld r pair next → after ≡ before ++ text_of_changes (option_to_list (change_of pair.old_row None)) → Steps r s last pair next before after
old_core r s pair next last before after a e here other passes text = record {
  next = Some (pane_of a);
  behind = record {
    old = next_at_hand r pair.olds next.olds next.old_row (Some (pane_of a)) here.last_is passes.next;
    new = subst (λ n. IsBehind (Some (pane_of a)) n next.new_row) (sym passes.news) (subst (IsBehind (Some (pane_of a)) pair.news) (sym passes.row) other);
  };
  step = λ olds news changes left just.
      let new_left : AreLeft s pair.news pair.new_row news = subst (λ o. AreLeft s pair.news o news) passes.row (subst (λ n. AreLeft s n next.new_row news) passes.news left.new) in
      let old_left = passed r pair.olds next.olds a next.old_row last olds here passes.next left.old in
      let old_rows = subst (λ l. AreRows (width_of pair.olds) l olds) here.last_is (behind_of r pair.olds next.olds next.old_row olds passes.next left.old).0 in
      record {
        all_olds = a ∷ olds;
        all_news = news;
        all = Gone a ∷ changes;
        left = record { old = subst (λ o. AreLeft r pair.olds o (a ∷ olds)) (sym e) old_left; new = new_left };
        just = gone_changes last a (width_of pair.olds) None olds news changes here.after old_rows (later_rows s pair.news pair.new_row (pane_of a) news other new_left) just;
        text = ap (λ l. l ++ text_of_changes changes) (text ∙ ap (λ o. before ++ text_of_changes (option_to_list (change_of o None))) e) ∙ text_step before (Gone a ∷ []) changes;
      };
}

pub new_core : {R S : Type 0} (r : R → Option (List ℕ)) (s : S → Option (List ℕ)) (pair next : Pair R S) (last : Option Pane) (before after : List ℕ) (b : Row) → pair.new_row ≡ Some b → IsAtHand last pair.news b
    → IsBehind (Some (pane_of b)) pair.olds pair.old_row → PassesNew s pair next → after ≡ before ++ text_of_changes (option_to_list (change_of None pair.new_row)) → Steps r s last pair next before after
new_core r s pair next last before after b e here other passes text = record {
  next = Some (pane_of b);
  behind = record {
    old = subst (λ n. IsBehind (Some (pane_of b)) n next.old_row) (sym passes.olds) (subst (IsBehind (Some (pane_of b)) pair.olds) (sym passes.row) other);
    new = next_at_hand s pair.news next.news next.new_row (Some (pane_of b)) here.last_is passes.next;
  };
  step = λ olds news changes left just.
      let old_left : AreLeft r pair.olds pair.old_row olds = subst (λ o. AreLeft r pair.olds o olds) passes.row (subst (λ n. AreLeft r n next.old_row olds) passes.olds left.old) in
      let new_left = passed s pair.news next.news b next.new_row last news here passes.next left.new in
      let new_rows = subst (λ l. AreRows (width_of pair.news) l news) here.last_is (behind_of s pair.news next.news next.new_row news passes.next left.new).0 in
      record {
        all_olds = olds;
        all_news = b ∷ news;
        all = New b ∷ changes;
        left = record { old = old_left; new = subst (λ o. AreLeft s pair.news o (b ∷ news)) (sym e) new_left };
        just = new_changes last b None (width_of pair.news) olds news changes here.after (later_rows r pair.olds pair.old_row (pane_of b) olds other old_left) new_rows just;
        text = ap (λ l. l ++ text_of_changes changes) (text ∙ ap (λ o. before ++ text_of_changes (option_to_list (change_of None o))) e) ∙ text_step before (New b ∷ []) changes;
      };
}

pub both_core : {R S : Type 0} (r : R → Option (List ℕ)) (s : S → Option (List ℕ)) (pair next : Pair R S) (last : Option Pane) (before after : List ℕ) (a b : Row) → pair.old_row ≡ Some a → pair.new_row ≡ Some b → pane_of b ≡ pane_of a
    → IsAtHand last pair.olds a → IsAtHand last pair.news b → PassesBoth r s pair next → after ≡ before ++ text_of_changes (option_to_list (change_of pair.old_row pair.new_row)) → Steps r s last pair next before after
both_core r s pair next last before after a b e f same here there passes text = record {
  next = Some (pane_of a);
  behind = record {
    old = next_at_hand r pair.olds next.olds next.old_row (Some (pane_of a)) here.last_is passes.old_next;
    new = next_at_hand s pair.news next.news next.new_row (Some (pane_of a)) (there.last_is ∙ ap (λ p. Some p) same) passes.new_next;
  };
  step = λ olds news changes left just.
      let old_left = passed r pair.olds next.olds a next.old_row last olds here passes.old_next left.old in
      let new_left = passed s pair.news next.news b next.new_row last news there passes.new_next left.new in
      let old_rows = subst (λ l. AreRows (width_of pair.olds) l olds) here.last_is (behind_of r pair.olds next.olds next.old_row olds passes.old_next left.old).0 in
      let new_rows = subst (λ l. AreRows (width_of pair.news) l news) (there.last_is ∙ ap (λ p. Some p) same) (behind_of s pair.news next.news next.new_row news passes.new_next left.new).0 in
      record {
        all_olds = a ∷ olds;
        all_news = b ∷ news;
        all = option_to_list (change_of (Some a) (Some b)) ++ changes;
        left = record { old = subst (λ o. AreLeft r pair.olds o (a ∷ olds)) (sym e) old_left; new = subst (λ o. AreLeft s pair.news o (b ∷ news)) (sym f) new_left };
        just = both_changes last a b (width_of pair.olds) (width_of pair.news) olds news changes same here.after old_rows new_rows just;
        text = ap (λ l. l ++ text_of_changes changes) (text ∙ (λ i. before ++ text_of_changes (option_to_list (change_of (e i) (f i))))) ∙ text_step before (option_to_list (change_of (Some a) (Some b))) changes;
      };
}

-- behind a later place
moved : {R : Type 0} (rows : RowLines R) (row : Row) (last next : Option Pane) → is_after next (pane_of row) ≡ true → IsAtHand last rows row → IsAtHand next rows row
moved rows row last next after h = record { after = after; is = h.is; last_is = h.last_is; width_is = h.width_is }

old_at : {R S : Type 0} (r : R → Option (List ℕ)) (s : S → Option (List ℕ)) (pair next : Pair R S) (last : Option Pane) (before after : List ℕ) (x y : Option Row) → pair.old_row ≡ x → pair.new_row ≡ y → first_of x y ≡ first.Old
    → IsBehind last pair.olds x → IsBehind last pair.news y → PassesOld r pair next → after ≡ before ++ text_of_changes (option_to_list (change_of pair.old_row None)) → Steps r s last pair next before after
old_at r s pair next last before after None None e f o h k passes text = absurd cc
old_at r s pair next last before after None (Some b) e f o h k passes text = absurd cc
old_at r s pair next last before after (Some a) None e f o h k passes text =
    old_core r s pair next last before after a e h (subst (IsBehind (Some (pane_of a)) pair.news) (sym f) tt) passes text
old_at r s pair next last before after (Some a) (Some b) e f o h k passes text =
    old_core r s pair next last before after a e h (subst (IsBehind (Some (pane_of a)) pair.news) (sym f) (moved pair.news b last (Some (pane_of a)) (less (pane_cmp (pane_of a) (pane_of b)) o) k)) passes text

new_at : {R S : Type 0} (r : R → Option (List ℕ)) (s : S → Option (List ℕ)) (pair next : Pair R S) (last : Option Pane) (before after : List ℕ) (x y : Option Row) → pair.old_row ≡ x → pair.new_row ≡ y → first_of x y ≡ first.New
    → IsBehind last pair.olds x → IsBehind last pair.news y → PassesNew s pair next → after ≡ before ++ text_of_changes (option_to_list (change_of None pair.new_row)) → Steps r s last pair next before after
new_at r s pair next last before after None None e f o h k passes text = absurd cc
new_at r s pair next last before after (Some a) None e f o h k passes text = absurd cc
new_at r s pair next last before after None (Some b) e f o h k passes text =
    new_core r s pair next last before after b f k (subst (IsBehind (Some (pane_of b)) pair.olds) (sym e) tt) passes text
new_at r s pair next last before after (Some a) (Some b) e f o h k passes text =
    let above = turned a.start a.key b.start b.key (is_greater (pane_cmp (pane_of a) (pane_of b)) o) in
    new_core r s pair next last before after b f k (subst (IsBehind (Some (pane_of b)) pair.olds) (sym e) (moved pair.olds a last (Some (pane_of b)) above h)) passes text

both_at : {R S : Type 0} (r : R → Option (List ℕ)) (s : S → Option (List ℕ)) (pair next : Pair R S) (last : Option Pane) (before after : List ℕ) (x y : Option Row) → pair.old_row ≡ x → pair.new_row ≡ y → first_of x y ≡ first.Both
    → IsBehind last pair.olds x → IsBehind last pair.news y → PassesBoth r s pair next → after ≡ before ++ text_of_changes (option_to_list (change_of pair.old_row pair.new_row)) → Steps r s last pair next before after
both_at r s pair next last before after None None e f o h k passes text = absurd cc
both_at r s pair next last before after (Some a) None e f o h k passes text = absurd cc
both_at r s pair next last before after None (Some b) e f o h k passes text = absurd cc
both_at r s pair next last before after (Some a) (Some b) e f o h k passes text =
    let level = is_equal (pane_cmp (pane_of a) (pane_of b)) o in
    let start = same_start a.start a.key b.start b.key level in
    let key = same_key a.start a.key b.start b.key level in
    let same : pane_of b ≡ pane_of a = λ i. record { start = start i; key = key i } in
    both_core r s pair next last before after a b e f same h k passes text

pub old_steps : {R S : Type 0} (r : R → Option (List ℕ)) (s : S → Option (List ℕ)) (pair next : Pair R S) (last : Option Pane) (before after : List ℕ) → first_of pair.old_row pair.new_row ≡ first.Old → AreBehind last pair
    → PassesOld r pair next → after ≡ before ++ text_of_changes (option_to_list (change_of pair.old_row None)) → Steps r s last pair next before after
old_steps r s pair next last before after o h passes text = old_at r s pair next last before after pair.old_row pair.new_row refl refl o h.old h.new passes text

pub new_steps : {R S : Type 0} (r : R → Option (List ℕ)) (s : S → Option (List ℕ)) (pair next : Pair R S) (last : Option Pane) (before after : List ℕ) → first_of pair.old_row pair.new_row ≡ first.New → AreBehind last pair
    → PassesNew s pair next → after ≡ before ++ text_of_changes (option_to_list (change_of None pair.new_row)) → Steps r s last pair next before after
new_steps r s pair next last before after o h passes text = new_at r s pair next last before after pair.old_row pair.new_row refl refl o h.old h.new passes text

pub both_steps : {R S : Type 0} (r : R → Option (List ℕ)) (s : S → Option (List ℕ)) (pair next : Pair R S) (last : Option Pane) (before after : List ℕ) → first_of pair.old_row pair.new_row ≡ first.Both → AreBehind last pair
    → PassesBoth r s pair next → after ≡ before ++ text_of_changes (option_to_list (change_of pair.old_row pair.new_row)) → Steps r s last pair next before after
both_steps r s pair next last before after o h passes text = both_at r s pair next last before after pair.old_row pair.new_row refl refl o h.old h.new passes text

-- what is still to come makes the whole
pub record Continues {R S : Type 0} (r : R → Option (List ℕ)) (s : S → Option (List ℕ)) (old new start : Option (List ℕ)) (pair : Pair R S) (out : Option (List ℕ)) (text : List ℕ) : Type 0 where
  pub last : Option Pane
  pub behind : AreBehind last pair
  pub whole : (olds news : List Row) (changes : List Change) (after : Option (List ℕ)) → AreBothLeft r s pair olds news → AreChanges last olds news changes
      → Appends out after (text ++ text_of_changes changes) → WritesChanges old new start after

pub started : {R S : Type 0} (r : R → Option (List ℕ)) (s : S → Option (List ℕ)) (old new start : Option (List ℕ)) (pair : Pair R S) (text : List ℕ) → Begins r s old new pair → AreBehind None pair → text ≡ [] → Continues r s old new start pair start text
started r s old new start pair text begins behind empty = record {
  last = None;
  behind = behind;
  whole = λ olds news changes after left just appends.
      let rows = begins olds news left in
      record { olds = olds; news = news; changes = changes; old_rows = rows.0; new_rows = rows.1; old_text = rows.2; new_text = rows.3; just = just; written = subst (λ t. Appends start after (t ++ text_of_changes changes)) empty appends };
}

pub goes_on : {R S : Type 0} (r : R → Option (List ℕ)) (s : S → Option (List ℕ)) (old new start : Option (List ℕ)) (pair next : Pair R S) (out : Option (List ℕ)) (text more : List ℕ) → (h : Continues r s old new start pair out text) → Steps r s h.last pair next text more
    → Continues r s old new start next out more
goes_on r s old new start pair next out text more h steps = record {
  last = steps.next;
  behind = steps.behind;
  whole = λ olds news changes after left just appends.
      let one = steps.step olds news changes left just in
      h.whole one.all_olds one.all_news one.all after one.left one.just (subst (Appends out after) one.text appends);
}

pub flushed : {R S : Type 0} (r : R → Option (List ℕ)) (s : S → Option (List ℕ)) (old new start : Option (List ℕ)) (pair : Pair R S) (out next : Option (List ℕ)) (text empty : List ℕ) → Continues r s old new start pair out text → Appends out next text → empty ≡ []
    → Continues r s old new start pair next empty
flushed r s old new start pair out next text empty h writes none = record {
  last = h.last;
  behind = h.behind;
  whole = λ olds news changes after left just appends.
      h.whole olds news changes after left just (appends_more out next after text (text_of_changes changes) writes (subst (λ t. Appends next after (t ++ text_of_changes changes)) none appends));
}

pub finished : {R S : Type 0} (r : R → Option (List ℕ)) (s : S → Option (List ℕ)) (old new start : Option (List ℕ)) (pair : Pair R S) (out after : Option (List ℕ)) (text last : List ℕ) → Continues r s old new start pair out text → NothingLeft pair → last ≡ text
    → Appends out after last → WritesChanges old new start after
finished r s old new start pair out after text last h none same writes =
    h.whole [] [] [] after
    (record { old = subst (λ o. AreLeft r pair.olds o []) (sym none.0) refl; new = subst (λ o. AreLeft s pair.news o []) (sym none.1) refl })
    (record { ordered = tt; just = λ q. refl })
    (subst (Appends out after) (same ∙ sym (append-nil text)) writes)
