-- Rows of several texts that are passed one by one, and all of them together.
use Rattle.std.proofs.Common.{◌≡◌, ◌⊎◌, ℕ, zero, suc, ◌+◌, ◌<◌, inl, inr, option_map, cond, true, List, [], ◌∷◌, ◌++◌, length, get_or, set, map, Option, Some, None, Ok, refl, sym, ap, subst, ◌∙◌, append_assoc, append-nil, arith}
use Rattle.std.specs.Prelude.{IfSome, IsSome, is_some}
use Rattle.std.specs.Io.KnownBytes.{Appends, Consumes}
use Rattle.std.proofs.lemmas.Bool.{cases_lt}
use Rattle.std.specs.List.{All, AllZip}
use Rattle.std.specs.List.Sorted.{IsPermutation}
use Rattle.std.proofs.KnownBytes.{Appends-trans}
use Rattle.std.proofs.lemmas.List.Elements.{All-nil, All-cons, All-head, All-tail, All-append, All-get_or, All-set}
use Rattle.std.proofs.lemmas.List.Sorted.{IsPermutation-refl, IsPermutation-trans, IsPermutation-cons, IsPermutation-middle, IsPermutation-append_right}
use Rattle.plan_model.specs.declared.spec.Pane.{Pane}
use Rattle.plan_model.specs.declared.spec.Row.{Row}
use Rattle.plan_model.specs.Rows.{pane_of}
use Rattle.row_lines.specs.Lines.{line_in}
use Rattle.row_lines.specs.Text.{text_of_row, line_of, text_of_rows}
use Rattle.row_lines.specs.Rows.{IsRow}
use Rattle.row_lines.specs.Sequences.{has_width, is_after, rows_left, width_of, last_of, lines_of, AreRows, IsRead, IsNext, IsNextPlace}
use Rattle.row_lines.specs.declared.place.RowPlace.{RowPlace}
use Rattle.row_lines.specs.declared.rows.RowLines.{RowLines}
use Rattle.row_changes.specs.Merging.{IsTextOf, AreLeft}
use Rattle.row_changes.proofs.Merges.{behind_of, passed}
use Rattle.row_merges.specs.Merges.{IsRowsText, rows_in, MergesRows, AreLeftAt, IsLastRead, IsReadAt, IsOpened, AreAllLeft, AreBehind, AreAllBehind, line_at_hand, pane_in, HoldsTexts, HasRowAt, IsAdmitted, AreBefore, Steps, NothingLeft}
use Rattle.row_merges.specs.declared.head.Head.{Head}
use Rattle.row_merges.specs.declared.merge.Merge.{Merge}

-- ---- rows and the places of rows

abbrev given : {X : Type 0} → Option X → X → X
given None x = x
given (Some y) x = y

pub same_some : {X : Type 0} (x y : X) → Some x ≡ Some y → x ≡ y
same_some x y e = ap (λ o. given o x) e

-- the row that was read is any whose line, place and width are its own
read_as : {R : Type 0} (remaining : R → Option (List ℕ)) (old new : RowLines R) (a b : Row) → IsRead remaining old new a → IsRow b → last_of new ≡ Some (pane_of b) → width_of new ≡ Some (length b.values) → line_in (lines_of new) ≡ text_of_row b
    → IsRead remaining old new b
read_as remaining old new a b read is last width line =
    let pane : pane_of a ≡ pane_of b = same_some (pane_of a) (pane_of b) (sym read.last ∙ last) in
    let count : length a.values ≡ length b.values = same_some (length a.values) (length b.values) (sym read.width ∙ width) in
    record {
      is = is;
      wide = ap (λ n. has_width (width_of old) n) (sym count) ∙ read.wide;
      after = ap (λ p. is_after (last_of old) p) (sym pane) ∙ read.after;
      text = subst (λ l. Consumes (rows_left remaining old) (rows_left remaining new) (l ++ 10 ∷ [])) (sym read.line ∙ line) read.text;
      width = width;
      last = last;
      line = line;
    }

-- the next row, where its place was told and it is left
next_left : {R : Type 0} (remaining : R → Option (List ℕ)) (old new : RowLines R) (next : Option RowPlace) (left : List Row) → IsNextPlace remaining old new (Ok next) → AreLeftAt remaining new next left
    → (row : Option Row) × IsNext remaining old new (Ok row) × AreLeft remaining new row left
next_left remaining old new None left goes h = (None, goes, h)
next_left remaining old new (Some place) left goes h =
    (Some h.row, read_as remaining old new goes.0 h.row goes.1 h.is_left.is h.is_left.last h.is_left.width h.line, h.is_left)

-- the next row is the one that was read last
next_read : {R : Type 0} (remaining : R → Option (List ℕ)) (old new : RowLines R) (next : Option RowPlace) → IsNextPlace remaining old new (Ok next) → IsReadAt new next
next_read remaining old new None goes = tt
next_read remaining old new (Some place) goes =
    let read = goes.1 in
    record { row = goes.0; place_is = goes.2; line = read.line; at_hand = record { after = refl; is = read.is; last_is = read.last; width_is = read.width } }

pub opened : {R : Type 0} (remaining : R → Option (List ℕ)) (text : Option (List ℕ)) (old : RowLines R) (head : Head R) → rows_left remaining old ≡ text → width_of old ≡ None → last_of old ≡ None → IsNextPlace remaining old head.rows (Ok head.row)
    → IsOpened remaining text head
opened remaining text old head is width last goes = record {
  rows = λ left h.
      let one = next_left remaining old head.rows head.row left goes h in
      let behind = behind_of remaining old head.rows one.0 left one.1 one.2 in
      (subst (λ w. AreRows w None left) width (subst (λ l. AreRows (width_of old) l left) last behind.0), subst (λ t. IsTextOf t left) is behind.1);
  behind = next_read remaining old head.rows head.row goes;
}

-- ---- texts that are taken

last_of_zip : {A B : Type 0} (Q : A → B → Type 0) (xs : List A) (x : A) (ys : List B) → AllZip Q (xs ++ x ∷ []) ys → (zs : List B) × (z : B) × (ys ≡ zs ++ z ∷ []) × AllZip Q xs zs × Q x z
last_of_zip Q [] x [] h = absurd h
last_of_zip Q [] x (y ∷ []) h = ([], y, refl, tt, h.0)
last_of_zip Q [] x (y ∷ z ∷ ys) h = absurd h.1
last_of_zip Q (a ∷ xs) x [] h = absurd h
last_of_zip Q (a ∷ xs) x (y ∷ ys) h =
    let rest = last_of_zip Q xs x ys h.1 in
    (y ∷ rest.0, rest.1, ap (λ l. y ∷ l) rest.2, (h.0, rest.3), rest.4)

push_zip : {A B : Type 0} (Q : A → B → Type 0) (xs : List A) (ys : List B) (x : A) (y : B) → AllZip Q xs ys → Q x y → AllZip Q (xs ++ x ∷ []) (ys ++ y ∷ [])
push_zip Q [] [] x y h k = (k, tt)
push_zip Q [] (b ∷ ys) x y h k = absurd h
push_zip Q (a ∷ xs) [] x y h k = absurd h
push_zip Q (a ∷ xs) (b ∷ ys) x y h k = (h.0, push_zip Q xs ys x y h.1 k)

pub taken : {R : Type 0} (remaining : R → Option (List ℕ)) (texts : List (Option (List ℕ))) (text : Option (List ℕ)) (old new : Merge R) (head : Head R) → HoldsTexts remaining texts old → IsOpened remaining text head
    → new.heads.items ≡ old.heads.items ++ head ∷ [] → new.width ≡ old.width → new.last ≡ old.last → HoldsTexts remaining (texts ++ text ∷ []) new
taken {R} remaining texts text old new head holds opens heads width last =
    let Left = λ (h : Head R) (left : List Row). AreLeftAt remaining h.rows h.row left in
    record {
      rows = λ lists left.
          let one = last_of_zip Left old.heads.items head lists (subst (λ hs. AllZip Left hs lists) heads left) in
          subst (AllZip IsRowsText (texts ++ text ∷ [])) (sym one.2) (push_zip IsRowsText texts one.0 text one.1 (holds.rows one.0 one.3) (opens.rows one.1 one.4));
      behind = subst (AreBehind {R = R}) (sym heads)
          (All-append (λ (h : Head R). IsReadAt h.rows h.row) old.heads.items (head ∷ []) holds.behind (All-cons (λ (h : Head R). IsReadAt h.rows h.row) head [] opens.behind (All-nil (λ (h : Head R). IsReadAt h.rows h.row))));
      width = width ∙ holds.width;
      last = last ∙ holds.last;
    }

-- ---- a row that is passed

-- the first of the rows of a list is put in front of them all
to_front : (lists : List (List Row)) (k : ℕ) (row : Row) → k < length lists → IsPermutation (rows_in (set lists k (row ∷ get_or lists k []))) (row ∷ rows_in lists)
to_front [] k row lt = absurd (omega arith)
to_front (l ∷ ls) zero row lt = IsPermutation-refl (row ∷ (l ++ rows_in ls))
to_front (l ∷ ls) (suc k) row lt =
    IsPermutation-trans (l ++ rows_in (set ls k (row ∷ get_or ls k []))) (l ++ row ∷ rows_in ls) (row ∷ (l ++ rows_in ls))
    (IsPermutation-append_right l _ _ (to_front ls k row (omega arith)))
    (IsPermutation-middle l row (rows_in ls))

long_zip : {A B : Type 0} (Q : A → B → Type 0) (xs : List A) (ys : List B) → AllZip Q xs ys → length xs ≡ length ys
long_zip Q [] [] h = refl
long_zip Q [] (y ∷ ys) h = absurd h
long_zip Q (x ∷ xs) [] h = absurd h
long_zip Q (x ∷ xs) (y ∷ ys) h = let rest = long_zip Q xs ys h.1 in omega (arith, rest)

-- what is left of one of the texts is put back
put_back : {A B : Type 0} (Q : A → B → Type 0) (f : B → B) (d : A) (e : B) (xs : List A) (k : ℕ) (x : A) (ys : List B) → k < length xs → ((y : B) → Q x y → Q (get_or xs k d) (f y))
    → AllZip Q (set xs k x) ys → AllZip Q xs (set ys k (f (get_or ys k e)))
put_back Q f d e [] k x ys lt back h = absurd (omega arith)
put_back Q f d e (a ∷ xs) zero x [] lt back h = absurd h
put_back Q f d e (a ∷ xs) zero x (y ∷ ys) lt back h = (back y h.0, h.1)
put_back Q f d e (a ∷ xs) (suc k) x [] lt back h = absurd h
put_back Q f d e (a ∷ xs) (suc k) x (y ∷ ys) lt back h = (h.0, put_back Q f d e xs k x ys (omega arith) back h.1)

long_set : {A : Type 0} (xs : List A) (k : ℕ) (x : A) → length (set xs k x) ≡ length xs
long_set [] k x = refl
long_set (a ∷ xs) zero x = refl
long_set (a ∷ xs) (suc k) x = let rest = long_set xs k x in omega (arith, rest)

-- all that was left before a row was passed
before : {R : Type 0} (remaining : R → Option (List ℕ)) (heads : List (Head R)) (k : ℕ) (old new : Head R) (place : RowPlace) (lists : List (List Row)) → k < length heads → old ≡ get_or heads k old → old.row ≡ Some place
    → (here : IsLastRead old.rows place) → IsNextPlace remaining old.rows new.rows (Ok new.row) → AreAllLeft remaining (set heads k new) lists → AreBefore remaining heads here.row lists
before {R} remaining heads k old new place lists lt is has here next left =
    let Left = λ (h : Head R) (l : List Row). AreLeftAt remaining h.rows h.row l in
    let row = here.row in
    let back : (l : List Row) → Left new l → Left (get_or heads k old) (row ∷ l) = λ l h.
    let one = next_left remaining old.rows new.rows new.row l next h in
    subst (λ (o : Head R). Left o (row ∷ l)) is
    (subst (λ r. AreLeftAt remaining old.rows r (row ∷ l)) (sym has) (record { row = row; line = here.line; is_left = passed remaining old.rows new.rows row one.0 None l here.at_hand one.1 one.2 })) in
    let inside : k < length lists = omega (arith, long_zip Left (set heads k new) lists left, long_set heads k new) in
    record {
      all = set lists k (row ∷ get_or lists k []);
      left = put_back Left (λ l. row ∷ l) old [] heads k new lists lt back left;
      same = to_front lists k row inside;
    }

behind_after : {R : Type 0} (remaining : R → Option (List ℕ)) (heads : List (Head R)) (k : ℕ) (old new : Head R) → IsNextPlace remaining old.rows new.rows (Ok new.row) → AreBehind heads → AreBehind (set heads k new)
behind_after {R} remaining heads k old new next all = All-set (λ (h : Head R). IsReadAt h.rows h.row) heads k new (next_read remaining old.rows new.rows new.row next) all

-- the row that is told of at a place
row_at : (o : Option RowPlace) (p : Pane) → option_map pane_in o ≡ Some p → (row : RowPlace) × (o ≡ Some row)
row_at None p e = absurd cc
row_at (Some row) p e = (row, refl)

no_row_at : (o : Option RowPlace) → option_map pane_in o ≡ None → o ≡ None
no_row_at None e = refl
no_row_at (Some row) e = absurd cc

pub is_there : {X : Type 0} (o : Option X) (x : X) → o ≡ Some x → IsSome o
is_there None x e = absurd cc
is_there (Some y) x e = refl

-- what stands at a place is the same, whatever stands there where nothing does
pub there : {X : Type 0} (xs : List X) (k : ℕ) (d e : X) → k < length xs → get_or xs k d ≡ get_or xs k e
there [] k d e lt = absurd (omega arith)
there (x ∷ xs) zero d e lt = refl
there (x ∷ xs) (suc k) d e lt = there xs k d e (omega arith)

has_row : {R : Type 0} (heads : List (Head R)) (place : ℕ) (head : Head R) (pane : Pane) → place < length heads → head ≡ get_or heads place head → option_map pane_in head.row ≡ Some pane → HasRowAt heads place
has_row {R} heads place head pane lt is told =
    let one = row_at head.row pane told in
    (lt, λ d. (one.0, ap (λ (h : Head R). h.row) (there heads place d head lt ∙ sym is) ∙ one.1))

pub found_some : {R : Type 0} (heads : List (Head R)) (place : ℕ) (head : Head R) (found next : Option (ℕ × Pane)) → place < length heads → head ≡ get_or heads place head → IfSome found (λ at. HasRowAt heads at.0)
    → IfSome next (λ at. (found ≡ Some at) ⊎ ((at.0 ≡ place) × (option_map pane_in head.row ≡ Some at.1))) → IfSome next (λ at. HasRowAt heads at.0)
found_some heads place head found None lt is was now = tt
found_some heads place head found (Some at) lt is was now =
    elim now [
      | inl e ↦ subst (λ o. IfSome o (λ at. HasRowAt heads at.0)) e was
      | inr h ↦ subst (HasRowAt heads) (sym h.0) (has_row heads place head at.1 lt is h.1)
    ]

pub found_none : {R : Type 0} (heads : List (Head R)) (place : ℕ) (head : Head R) → place < length heads → head ≡ get_or heads place head → ((k : ℕ) (d : Head R) → k < place → (get_or heads k d).row ≡ None)
    → option_map pane_in head.row ≡ None → (k : ℕ) (d : Head R) → k < (place + 1) → (get_or heads k d).row ≡ None
found_none {R} heads place head lt is before none k d k_in =
    elim (cases_lt k place) [
      | inl less ↦ before k d less
      | inr not_less ↦
          let same : k ≡ place = omega arith in
          ap (λ (j : ℕ). (get_or heads j d).row) same ∙ ap (λ (h : Head R). h.row) (there heads place d head lt ∙ sym is) ∙ no_row_at head.row none
    ]

-- the line of the row at hand
line_there : {R : Type 0} (rows : RowLines R) (o : Option RowPlace) (row : Row) → IsSome o → line_in (lines_of rows) ≡ text_of_row row → cond (is_some o) (line_in (lines_of rows) ++ 10 ∷ []) [] ≡ line_of row
line_there rows None row some line = absurd cc
line_there rows (Some place) row some line = ap (λ l. l ++ 10 ∷ []) line

-- the row at hand at a place is passed
pub stepped : {R : Type 0} (remaining : R → Option (List ℕ)) (old new : Merge R) (place : ℕ) (at : RowPlace) (head next : Head R) (before_text after_text : List ℕ) → place < length old.heads.items → IsAdmitted old place at
    → head ≡ get_or old.heads.items place head → new.heads.items ≡ set old.heads.items place next → new.width ≡ Some at.width → new.last ≡ Some at.pane
    → after_text ≡ before_text ++ line_at_hand head → IsNextPlace remaining head.rows next.rows (Ok next.row) → AreAllBehind old → Steps remaining old new before_text after_text
stepped {R} remaining old new place at head next before_text after_text lt admitted is set_is width_is last_is text goes behind =
    let heads = old.heads.items in
    let at_is : head.row ≡ Some at = ap (λ (h : Head R). h.row) is ∙ admitted.at_hand head in
    let of_head : IsReadAt head.rows head.row = subst (λ (h : Head R). IsReadAt h.rows h.row) (sym is) (All-get_or (λ (h : Head R). IsReadAt h.rows h.row) heads place head lt behind) in
    let here : IsLastRead head.rows at = subst (IsReadAt head.rows) at_is of_head in
    let row = here.row in
    let width : at.width ≡ length row.values = ap (λ (p : RowPlace). p.width) here.place_is in
    let pane : at.pane ≡ pane_of row = ap (λ (p : RowPlace). p.pane) here.place_is in
    record {
      row = row;
      is = here.at_hand.is;
      wide = subst (λ n. has_width old.width n ≡ true) width admitted.wide;
      next = subst (λ p. is_after old.last p ≡ true) pane admitted.after;
      width = width_is ∙ ap (λ n. Some n) width;
      last = last_is ∙ ap (λ p. Some p) pane;
      text = text ∙ ap (λ l. before_text ++ l) (line_there head.rows head.row row (is_there head.row at at_is) here.line);
      left = λ lists left. before remaining heads place head next at lists lt is at_is here goes (subst (λ hs. AreAllLeft remaining hs lists) set_is left);
      behind = subst (AreBehind {R = R}) (sym set_is) (behind_after remaining heads place head next goes behind);
    }

-- ---- all of them together

-- what is still to come makes the whole
pub record Continues {R : Type 0} (remaining : R → Option (List ℕ)) (texts : List (Option (List ℕ))) (start : Option (List ℕ)) (merge : Merge R) (out : Option (List ℕ)) (text : List ℕ) : Type 0 where
  pub behind : AreAllBehind merge
  pub whole : (lists : List (List Row)) (rows : List Row) (after : Option (List ℕ)) → AreAllLeft remaining merge.heads.items lists → IsPermutation (rows_in lists) rows → AreRows merge.width merge.last rows
      → Appends out after (text ++ text_of_rows rows) → MergesRows texts start after

pub goes_on : {R : Type 0} (remaining : R → Option (List ℕ)) (texts : List (Option (List ℕ))) (start : Option (List ℕ)) (merge next : Merge R) (out : Option (List ℕ)) (text more : List ℕ)
    → Continues remaining texts start merge out text → Steps remaining merge next text more → Continues remaining texts start next out more
goes_on remaining texts start merge next out text more h steps = record {
  behind = steps.behind;
  whole = λ lists rows after left same ordered appends.
      let one = steps.left lists left in
      h.whole one.all (steps.row ∷ rows) after one.left
      (IsPermutation-trans (rows_in one.all) (steps.row ∷ rows_in lists) (steps.row ∷ rows) one.same (IsPermutation-cons steps.row (rows_in lists) rows same))
      (steps.is, steps.wide, steps.next, subst (λ w. AreRows w (Some (pane_of steps.row)) rows) steps.width (subst (λ l. AreRows next.width l rows) steps.last ordered))
      (subst (Appends out after) (ap (λ t. t ++ text_of_rows rows) steps.text ∙ append_assoc text (line_of steps.row) (text_of_rows rows)) appends);
}

pub flushed : {R : Type 0} (remaining : R → Option (List ℕ)) (texts : List (Option (List ℕ))) (start : Option (List ℕ)) (merge : Merge R) (out next : Option (List ℕ)) (text empty : List ℕ)
    → Continues remaining texts start merge out text → Appends out next text → empty ≡ [] → Continues remaining texts start merge next empty
flushed remaining texts start merge out next text empty h writes none = record {
  behind = h.behind;
  whole = λ lists rows after left same ordered appends.
      h.whole lists rows after left same ordered (Appends-trans out next after text (text_of_rows rows) writes (subst (λ t. Appends next after (t ++ text_of_rows rows)) none appends));
}

none_left : {R : Type 0} (remaining : R → Option (List ℕ)) (heads : List (Head R)) → All (λ head. head.row ≡ None) heads → AreAllLeft remaining heads (map (λ (h : Head R). let none : List Row = [] in none) heads)
none_left remaining [] h = tt
none_left {R} remaining (x ∷ xs) h =
    (subst (λ r. AreLeftAt remaining x.rows r []) (sym (All-head (λ (y : Head R). y.row ≡ None) x xs h)) refl, none_left remaining xs (All-tail (λ (y : Head R). y.row ≡ None) x xs h))

no_rows : {A : Type 0} (xs : List A) → rows_in (map (λ (x : A). let none : List Row = [] in none) xs) ≡ []
no_rows [] = refl
no_rows (x ∷ xs) = no_rows xs

pub finished : {R : Type 0} (remaining : R → Option (List ℕ)) (texts : List (Option (List ℕ))) (start : Option (List ℕ)) (merge : Merge R) (out after : Option (List ℕ)) (text last : List ℕ)
    → Continues remaining texts start merge out text → NothingLeft merge → last ≡ text → Appends out after last → MergesRows texts start after
finished {R} remaining texts start merge out after text last h none same writes =
    let nothing = map (λ (x : Head R). let none : List Row = [] in none) merge.heads.items in
    h.whole nothing [] after (none_left remaining merge.heads.items none)
    (subst (λ l. IsPermutation l []) (sym (no_rows merge.heads.items)) (IsPermutation-refl []))
    tt
    (subst (Appends out after) (same ∙ sym (append-nil text)) writes)
