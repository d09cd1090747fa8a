-- Rows that are passed, and what comes of them.
use Rattle.std.proofs.Common.{◌≡◌, ◌≢◌, ℕ, suc, ℤ, ◌+◌, Bool, true, false, cond, ◌&&◌, List, [], ◌∷◌, ◌++◌, length, Option, Some, None, IfSome, Result, Ok, Err, refl, sym, ap, subst, ◌∙◌, inl, inr, append_assoc, append-nil, arith}
use Rattle.std.specs.Io.KnownBytes.{Consumes, IsAtEnd, Appends}
use Rattle.std.specs.List.{flat_map, filter, find}
use Rattle.std.specs.Option.{option_to_list}
use Rattle.std.specs.Ordering.{int_eq, int_cmp, is_lt, ordering_then}
use Rattle.std.specs.declared.cmp.Ordering.{Ordering}
use Rattle.std.specs.declared.cmp.Ordering.TheVariants.{Less, Equal, Greater}
use Rattle.std.proofs.lemmas.Bool.{cases_Bool, false≢true}
use Rattle.std.proofs.lemmas.Int.{ints}
use Rattle.std.proofs.lemmas.List.Concat.{flat_map-cons}
use Rattle.plan_model.specs.declared.spec.Pane.{Pane}
use Rattle.plan_model.specs.declared.spec.Row.{Row}
use Rattle.plan_model.specs.Rows.{pane_of, pane_cmp, row_is_at}
use Rattle.row_lines.specs.Text.{line_of, text_of_rows}
use Rattle.row_lines.specs.Sequences.{is_after, has_width, AreRows, rows_left, width_of, last_of, IsNext, IsRead}
use Rattle.row_lines.specs.declared.rows.RowLines.{RowLines}
use Rattle.row_changes.specs.Changes.{Change, Gone, New, Replaced, Changed, change_of, place_of, is_at, lines_of, text_of_changes, AreInOrder, AreChanges}
use Rattle.row_changes.specs.Merging.{IsTextOf, IsLeft, AreLeft, IsAtHand, IsBehind}

-- the text of one row more
text_more : (old new : Option (List ℕ)) (row : Row) (behind : List Row) → Consumes old new (line_of row) → IsTextOf new behind → IsTextOf old (row ∷ behind)
text_more None new row behind takes h = tt
text_more (Some xs) None row behind takes h = absurd takes
text_more (Some xs) (Some ys) row behind takes h = takes ∙ ap (λ l. line_of row ++ l) h ∙ sym (flat_map-cons line_of row behind)

text_end : (old : Option (List ℕ)) → IsAtEnd old → IsTextOf old []
text_end None h = tt
text_end (Some xs) h = h

-- what is behind a reader, by what its next row is
pub behind_of : {R : Type 0} (remaining : R → Option (List ℕ)) (old new : RowLines R) (row : Option Row) (left : List Row) → IsNext remaining old new (Ok row) → AreLeft remaining new row left
    → AreRows (width_of old) (last_of old) left × IsTextOf (rows_left remaining old) left
behind_of remaining old new None left next h =
    (subst (AreRows (width_of old) (last_of old)) (sym h) tt, subst (IsTextOf (rows_left remaining old)) (sym h) (text_end (rows_left remaining old) next))
behind_of remaining old new (Some row) left next h = (
  subst (AreRows (width_of old) (last_of old)) (sym h.are) (next.is, next.wide, next.after, h.rows_are),
  subst (IsTextOf (rows_left remaining old)) (sym h.are) (text_more (rows_left remaining old) (rows_left remaining new) row h.behind next.text h.text),
)

-- a row that was passed is left before
pub passed : {R : Type 0} (remaining : R → Option (List ℕ)) (old new : RowLines R) (row : Row) (next : Option Row) (last : Option Pane) (left : List Row) → IsAtHand last old row
    → IsNext remaining old new (Ok next) → AreLeft remaining new next left → IsLeft remaining old row (row ∷ left)
passed remaining old new row next last left here goes h =
    let behind = behind_of remaining old new next left goes h in
    record {
      behind = left;
      are = refl;
      is = here.is;
      rows_are = subst (λ w. AreRows w (Some (pane_of row)) left) here.width_is (subst (λ l. AreRows (width_of old) l left) here.last_is behind.0);
      text = behind.1;
      last = here.last_is;
      width = here.width_is;
    }

-- the next row is behind the one that was passed
pub next_at_hand : {R : Type 0} (remaining : R → Option (List ℕ)) (old new : RowLines R) (next : Option Row) (last : Option Pane) → last_of old ≡ last → IsNext remaining old new (Ok next) → IsBehind last new next
next_at_hand remaining old new None last is goes = tt
next_at_hand remaining old new (Some row) last is goes =
    record { after = ap (λ l. is_after l (pane_of row)) (sym is) ∙ goes.after; is = goes.is; last_is = goes.last; width_is = goes.width }

apart : (a b c d e f : ℤ) → is_lt (ordering_then (int_cmp a c) (int_cmp b d)) ≡ true → is_lt (ordering_then (int_cmp a e) (int_cmp b f)) ≡ false → (int_eq c e && int_eq d f) ≡ false
apart a b c d e f h k = grind (arith, ints)

later : (a b c d e f : ℤ) → is_lt (ordering_then (int_cmp a c) (int_cmp b d)) ≡ true → is_lt (ordering_then (int_cmp a e) (int_cmp b f)) ≡ false → is_lt (ordering_then (int_cmp c e) (int_cmp d f)) ≡ false
later a b c d e f h k = grind (arith, ints)

further : (a b c d e f : ℤ) → is_lt (ordering_then (int_cmp a c) (int_cmp b d)) ≡ true → is_lt (ordering_then (int_cmp c e) (int_cmp d f)) ≡ true → is_lt (ordering_then (int_cmp a e) (int_cmp b f)) ≡ true
further a b c d e f h k = grind (arith, ints)

level : (a b c d : ℤ) → (int_eq a c && int_eq b d) ≡ true → is_lt (ordering_then (int_cmp a c) (int_cmp b d)) ≡ false
level a b c d h = grind (arith, ints)

-- no row behind a place stands there, or before
find_none : (w : Option ℕ) (p q : Pane) (rows : List Row) → AreRows w (Some p) rows → is_lt (pane_cmp p q) ≡ false → find (row_is_at q) rows ≡ None
find_none w p q [] h low = refl
find_none w p q (row ∷ rows) h low =
    ap (λ b. cond b (Some row) (find (row_is_at q) rows)) (apart p.start p.key row.start row.key q.start q.key h.2 low)
    ∙ find_none (Some (length row.values)) (pane_of row) q rows h.3 (later p.start p.key row.start row.key q.start q.key h.2 low)

abbrev found : Option Row → Option Row → List Change
found a b = option_to_list (change_of a b)

pub gone_changes : (last : Option Pane) (a : Row) (w v : Option ℕ) (olds news : List Row) (changes : List Change) → is_after last (pane_of a) ≡ true → AreRows w (Some (pane_of a)) olds → AreRows v (Some (pane_of a)) news
    → AreChanges (Some (pane_of a)) olds news changes → AreChanges last (a ∷ olds) news (Gone a ∷ changes)
gone_changes last a w v olds news changes after old_rows new_rows h = record {
  ordered = (after, h.ordered);
  just = λ q. elim (cases_Bool (row_is_at q a)) [
    | inl here ↦
        let low = level a.start a.key q.start q.key here in
        let no_old = find_none w (pane_of a) q olds old_rows low in
        let no_new = find_none v (pane_of a) q news new_rows low in
        ap (λ b. cond b (Gone a ∷ filter (is_at q) changes) (filter (is_at q) changes)) here
        ∙ ap (λ l. Gone a ∷ l) (h.just q ∙ (λ i. found (no_old i) (no_new i)))
        ∙ sym (λ i. found (cond (here i) (Some a) (find (row_is_at q) olds)) (no_new i))
    | inr away ↦
        ap (λ b. cond b (Gone a ∷ filter (is_at q) changes) (filter (is_at q) changes)) away ∙ h.just q
        ∙ sym (λ i. found (cond (away i) (Some a) (find (row_is_at q) olds)) (find (row_is_at q) news))
  ];
}

pub new_changes : (last : Option Pane) (b : Row) (w v : Option ℕ) (olds news : List Row) (changes : List Change) → is_after last (pane_of b) ≡ true → AreRows w (Some (pane_of b)) olds → AreRows v (Some (pane_of b)) news
    → AreChanges (Some (pane_of b)) olds news changes → AreChanges last olds (b ∷ news) (New b ∷ changes)
new_changes last b w v olds news changes after old_rows new_rows h = record {
  ordered = (after, h.ordered);
  just = λ q. elim (cases_Bool (row_is_at q b)) [
    | inl here ↦
        let low = level b.start b.key q.start q.key here in
        let no_old = find_none w (pane_of b) q olds old_rows low in
        let no_new = find_none v (pane_of b) q news new_rows low in
        ap (λ x. cond x (New b ∷ filter (is_at q) changes) (filter (is_at q) changes)) here
        ∙ ap (λ l. New b ∷ l) (h.just q ∙ (λ i. found (no_old i) (no_new i)))
        ∙ sym (λ i. found (no_old i) (cond (here i) (Some b) (find (row_is_at q) news)))
    | inr away ↦
        ap (λ x. cond x (New b ∷ filter (is_at q) changes) (filter (is_at q) changes)) away ∙ h.just q
        ∙ sym (λ i. found (find (row_is_at q) olds) (cond (away i) (Some b) (find (row_is_at q) news)))
  ];
}

in_order : (last : Option Pane) (p : Pane) (changes : List Change) → is_after last p ≡ true → AreInOrder (Some p) changes → AreInOrder last changes
in_order last p [] after h = tt
in_order None p (change ∷ changes) after h = (refl, h.1)
in_order (Some l) p (change ∷ changes) after h = (further l.start l.key p.start p.key (place_of change).start (place_of change).key after h.0, h.1)

-- a change stands where its rows do
abbrev IsPlaced : Pane → Option Change → Type 0
IsPlaced p None = Unit {0}
IsPlaced p (Some change) = place_of change ≡ p

placed : (a b : Row) (x y : Bool) → IsPlaced (pane_of a) (cond x (cond y None (Some (Changed a b))) (Some (Replaced a b)))
placed a b true true = tt
placed a b true false = refl
placed a b false y = refl

both_in : (last : Option Pane) (p : Pane) (one : Option Change) (changes : List Change) → IsPlaced p one → is_after last p ≡ true → AreInOrder (Some p) changes → AreInOrder last (option_to_list one ++ changes)
both_in last p None changes at after h = in_order last p changes after h
both_in last p (Some change) changes at after h =
    (ap (λ q. is_after last q) at ∙ after, subst (λ q. AreInOrder (Some q) changes) (sym at) h)

abbrev stands : Pane → Pane → Bool
stands q p = int_eq p.start q.start && int_eq p.key q.key

both_here : (q p : Pane) (one : Option Change) (changes : List Change) → IsPlaced p one → stands q p ≡ true → filter (is_at q) changes ≡ [] → filter (is_at q) (option_to_list one ++ changes) ≡ option_to_list one
both_here q p None changes at here none = none
both_here q p (Some change) changes at here none =
    ap (λ b. cond b (change ∷ filter (is_at q) changes) (filter (is_at q) changes)) (ap (stands q) at ∙ here) ∙ ap (λ l. change ∷ l) none

both_away : (q p : Pane) (one : Option Change) (changes : List Change) → IsPlaced p one → stands q p ≡ false → filter (is_at q) (option_to_list one ++ changes) ≡ filter (is_at q) changes
both_away q p None changes at away = refl
both_away q p (Some change) changes at away = ap (λ b. cond b (change ∷ filter (is_at q) changes) (filter (is_at q) changes)) (ap (stands q) at ∙ away)

pub both_changes : (last : Option Pane) (a b : Row) (w v : Option ℕ) (olds news : List Row) (changes : List Change) → pane_of b ≡ pane_of a → is_after last (pane_of a) ≡ true
    → AreRows w (Some (pane_of a)) olds → AreRows v (Some (pane_of a)) news → AreChanges (Some (pane_of a)) olds news changes
    → AreChanges last (a ∷ olds) (b ∷ news) (found (Some a) (Some b) ++ changes)
both_changes last a b w v olds news changes same after old_rows new_rows h =
    let at : IsPlaced (pane_of a) (change_of (Some a) (Some b)) = placed a b _ _ in
    record {
      ordered = both_in last (pane_of a) (change_of (Some a) (Some b)) changes at after h.ordered;
      just = λ q. elim (cases_Bool (row_is_at q a)) [
        | inl here ↦
            let low = level a.start a.key q.start q.key here in
            let no_old = find_none w (pane_of a) q olds old_rows low in
            let no_new = find_none v (pane_of a) q news new_rows low in
            let there : row_is_at q b ≡ true = ap (stands q) same ∙ here in
            both_here q (pane_of a) (change_of (Some a) (Some b)) changes at here (h.just q ∙ (λ i. found (no_old i) (no_new i)))
            ∙ sym (λ i. found (cond (here i) (Some a) (find (row_is_at q) olds)) (cond (there i) (Some b) (find (row_is_at q) news)))
        | inr away ↦
            let there : row_is_at q b ≡ false = ap (stands q) same ∙ away in
            both_away q (pane_of a) (change_of (Some a) (Some b)) changes at away ∙ h.just q
            ∙ sym (λ i. found (cond (away i) (Some a) (find (row_is_at q) olds)) (cond (there i) (Some b) (find (row_is_at q) news)))
      ];
    }
