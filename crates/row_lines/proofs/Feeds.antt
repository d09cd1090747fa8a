-- Lines of rows in a text.
use Rattle.std.proofs.Common.{◌≡◌, ◌≢◌, ℕ, suc, ℤ, ◌+◌, ◌-◌, ◌*◌, ◌<◌, ◌≤◌, true, false, List, [], ◌∷◌, ◌++◌, length, get_or, take, drop, Option, Some, None, IfSome, Result, Ok, Err, FitsSigned, rules, arith, refl, sym, ap, subst, ◌∙◌, append_assoc, length-append, take-take}
use Rattle.std.specs.Prelude.{IsErr, IsErrAnd}
use mir.Syntax.{w64, w128}
use Rattle.std.specs.Fmt.{signed_decimal}
use Rattle.std.specs.List.{All, flat_map}
use Rattle.std.specs.Io.KnownBytes.{Consumes}
use Rattle.std.proofs.lemmas.Bool.{false≢true}
use Rattle.std.proofs.lemmas.Fmt.{length_signed_le}
use Rattle.std.proofs.Math.Seq.{take-append_seam}
use Rattle.std.proofs.lemmas.List.{get_or-take, length-take}
use Rattle.std.proofs.lemmas.List.Concat.{flat_map-cons}
use Rattle.std.proofs.lemmas.List.Elements.{All-nil, All-cons, All-head, All-tail, All-append, All-get_or, All-weaker}
use Rattle.itoa.proofs.Decimal.{signed_wide}
use Rattle.plan_model.specs.declared.spec.Pane.{Pane}
use Rattle.plan_model.specs.declared.spec.Row.{Row}
use Rattle.plan_model.specs.Rows.{pane_of}
use Rattle.row_lines.specs.Text.{spaced, text_of_row}
use Rattle.row_lines.specs.Numbers.{text_of_numbers}
use Rattle.row_lines.specs.Rows.{IsRow, IsPlaceOf, IsLineFront, numbers_in, place_of}
use Rattle.row_lines.specs.Lines.{IsOneLine, IsPlace, line_in}
use Rattle.row_lines.specs.Sequences.{has_width, is_after, rows_left, width_of, last_of, lines_of, HasNoRow, HasEarlyRow, IsLine, MayTake, Takes, IsNext}
use Rattle.row_lines.specs.declared.place.RowPlace.{RowPlace}
use Rattle.row_lines.specs.declared.rows.RowLines.{RowLines}
use Rattle.row_lines.specs.declared.rows.RowsFault.{RowsFault}
use Rattle.row_lines.specs.declared.rows.RowsFault.TheVariants as fault
use Rattle.row_lines.proofs.Numbers.{number_above}
use Rattle.row_lines.proofs.Places.{HasNoLine}
use Rattle.row_lines.proofs.Texts.{row_text, row_numbers, numbers_unique}

-- rows of one text have as many numbers
pub same_width : (line : List ℕ) (a b : Row) → IsRow a → IsRow b → line ≡ text_of_row a → line ≡ text_of_row b → length a.values ≡ length b.values
same_width line a b a_is b_is e f =
    let numbers : numbers_in a ≡ numbers_in b = numbers_unique (numbers_in a) (numbers_in b) (row_numbers a a_is) (omega arith) (sym (row_text a) ∙ sym e ∙ f ∙ row_text b) in
    ap (λ ns. length (drop 3 ns)) numbers

other : (b : ℕ) → 10 < b → b ≢ 10
other b h e = absurd (omega arith)

number_no_feed : (z : ℤ) → IsOneLine (signed_decimal z)
number_no_feed z = All-weaker (λ b. 32 < b) (λ b. b ≢ 10) (λ b h. other b (omega (arith, h))) (signed_decimal z) (number_above z)

numbers_no_feed : (numbers : List ℤ) → IsOneLine (text_of_numbers numbers)
numbers_no_feed [] = All-nil (λ b. b ≢ 10)
numbers_no_feed (z ∷ []) = number_no_feed z
numbers_no_feed (z ∷ y ∷ numbers) =
    All-append (λ b. b ≢ 10) (signed_decimal z) (32 ∷ text_of_numbers (y ∷ numbers)) (number_no_feed z)
    (All-cons (λ x. x ≢ 10) 32 (text_of_numbers (y ∷ numbers)) (other 32 (omega arith)) (numbers_no_feed (y ∷ numbers)))

-- no line feed stands in a row's text, of whatever numbers
pub row_no_feed : (row : Row) → IsOneLine (text_of_row row)
row_no_feed row = subst IsOneLine (sym (row_text row)) (numbers_no_feed (numbers_in row))

narrow_length : (z : ℤ) → FitsSigned w64 z → length (signed_decimal z) ≤ 20
narrow_length z fits = length_signed_le 19 z (search rules) (search rules)

values_length : (zs : List ℤ) → All (FitsSigned w128) zs → length (flat_map spaced zs) ≤ 41 * length zs
values_length [] fit = omega arith
values_length (z ∷ zs) fit =
    let one = (signed_wide z (All-head (FitsSigned w128) z zs fit)).1 in
    let rest = values_length zs (All-tail (FitsSigned w128) z zs fit) in
    let parts : length (flat_map spaced (z ∷ zs)) ≡ suc (length (signed_decimal z)) + length (flat_map spaced zs) = ap length (flat_map-cons spaced z zs) ∙ length-append (spaced z) (flat_map spaced zs) in
    omega arith

-- a row's text has at most 390 bytes
row_length : (row : Row) → IsRow row → length (text_of_row row) ≤ 390
row_length row h =
    let a = narrow_length row.start h.start in
    let b = narrow_length row.end h.end in
    let k = narrow_length row.key h.key in
    let v = values_length row.values h.values in
    let few = h.few in
    let s = signed_decimal row.start in
    let one = length-append ((s ++ spaced row.end) ++ spaced row.key) (flat_map spaced row.values) in
    let two = length-append (s ++ spaced row.end) (spaced row.key) in
    let three = length-append s (spaced row.end) in
    let few' : length row.values ≤ 8 = few in
    omega arith

-- texts have the same first line, and the same behind it
pub first_line : (a b r s : List ℕ) → IsOneLine a → IsOneLine b → a ++ 10 ∷ r ≡ b ++ 10 ∷ s → (a ≡ b) × (r ≡ s)
first_line [] [] r s a_one b_one e = (refl, ap (drop 1) e)
first_line [] (y ∷ b) r s a_one b_one e = absurd (All-head (λ x. x ≢ 10) y b b_one (sym (ap (λ l. get_or l 0 0) e)))
first_line (x ∷ a) [] r s a_one b_one e = absurd (All-head (λ y. y ≢ 10) x a a_one (ap (λ l. get_or l 0 0) e))
first_line (x ∷ a) (y ∷ b) r s a_one b_one e =
    let head : x ≡ y = ap (λ l. get_or l 0 0) e in
    let tail = first_line a b r s (All-tail (λ z. z ≢ 10) x a a_one) (All-tail (λ z. z ≢ 10) y b b_one) (ap (drop 1) e) in
    (λ i. head i ∷ tail.0 i, tail.1)

behind : (t rest : List ℕ) → get_or (t ++ rest) (length t) 0 ≡ get_or rest 0 0
behind [] rest = refl
behind (x ∷ t) rest = behind t rest

-- the place of the line feed behind a row's line in front of a text, and the text before it
pub feed_behind : (text rest : List ℕ) (place : RowPlace) → IsLineFront text place rest
    → IsPlace (take 391 text) (Some (length text - length rest - 1)) × IsPlaceOf (take (length text - length rest - 1) text) place
feed_behind text rest place h =
    let line = h.0 in
    let long : length text ≡ length line + suc (length rest) = ap length h.2 ∙ length-append line (10 ∷ rest) in
    let count : length text - length rest - 1 ≡ length line = omega arith in
    let short : length line ≤ 390 = subst (λ (l : List ℕ). length l ≤ 390) (sym h.1.line_is) (row_length h.1.row h.1.is) in
    let front : take (length line) text ≡ line = ap (λ l. take (length line) l) h.2 ∙ take-append_seam line (10 ∷ rest) in
    let within = length-take 391 text in
    let before : take (length line) (take 391 text) ≡ line = take-take (length line) 391 text (omega arith) ∙ front in
    let one : IsOneLine line = subst IsOneLine (sym h.1.line_is) (row_no_feed h.1.row) in
    let at : get_or (take 391 text) (length line) 0 ≡ 10 = get_or-take 391 text (length line) 0 (omega arith) ∙ ap (λ l. get_or l (length line) 0) h.2 ∙ behind line (10 ∷ rest) in
    subst (λ n. IsPlace (take 391 text) (Some n) × IsPlaceOf (take n text) place) (sym count) ((omega arith, subst IsOneLine (sym before) one, at), subst (λ l. IsPlaceOf l place) (sym front) h.1)

-- no line, no row
no_row_soon : (width : Option ℕ) (text : List ℕ) → HasNoLine text → HasNoRow width text
no_row_soon width text h = (
  h.0,
  λ row rest is wide same.
      let t = text_of_row row in
      let short = row_length row is in
      let long : length text ≡ length (t ++ 10 ∷ []) + length rest = ap length same ∙ length-append (t ++ 10 ∷ []) rest in
      let long' = length-append t (10 ∷ []) in
      let front = length-take 391 text in
      let place : length t < length (take 391 text) = omega arith in
      let at : get_or (take 391 text) (length t) 0 ≡ 10 = get_or-take 391 text (length t) 0 (omega arith) ∙ ap (λ l. get_or l (length t) 0) (same ∙ append_assoc t (10 ∷ []) rest) ∙ behind t (10 ∷ rest) in
      All-get_or (λ b. b ≢ 10) (take 391 text) (length t) 0 place h.1 at,
)

pub no_row_left : (width : Option ℕ) (old : Option (List ℕ)) → IfSome old HasNoLine → IfSome old (HasNoRow width)
no_row_left width None h = tt
no_row_left width (Some text) h = no_row_soon width text h

-- a line of no row
no_row_there : (width : Option ℕ) (old new : Option (List ℕ)) (line : List ℕ) → Consumes old new (line ++ 10 ∷ []) → IsOneLine line
    → ((row : Row) → IsRow row → has_width width (length row.values) ≡ true → line ≢ text_of_row row) → IfSome old (HasNoRow width)
no_row_there width None new line takes one none = tt
no_row_there width (Some xs) None line takes one none = absurd takes
no_row_there width (Some xs) (Some ys) line takes one none =
    let long : length xs ≡ length (line ++ 10 ∷ []) + length ys = ap length takes ∙ length-append (line ++ 10 ∷ []) ys in
    let long' = length-append line (10 ∷ []) in
    let some : 0 < length xs = omega arith in (
      λ e. let empty : length xs ≡ 0 = ap (length {A = ℕ}) e in absurd (omega arith),
      λ row rest is wide same.
          none row is wide (first_line line (text_of_row row) ys rest one (row_no_feed row)
          (sym (append_assoc line (10 ∷ []) ys) ∙ sym takes ∙ same ∙ append_assoc (text_of_row row) (10 ∷ []) rest)).0,
    )

-- a row that comes too early
early_row : (width : Option ℕ) (last : Option Pane) (old new : Option (List ℕ)) (line : List ℕ) → Consumes old new (line ++ 10 ∷ [])
    → (row : Row) → IsRow row → has_width width (length row.values) ≡ true → is_after last (pane_of row) ≡ false → line ≡ text_of_row row → IfSome old (HasEarlyRow width last)
early_row width last None new line takes row is wide early same = tt
early_row width last (Some xs) None line takes row is wide early same = absurd takes
early_row width last (Some xs) (Some ys) line takes row is wide early same = (row, ys, is, wide, early, takes ∙ ap (λ l. (l ++ 10 ∷ []) ++ ys) same)

pub next_refused : {R : Type 0} (remaining : R → Option (List ℕ)) (old mid new : RowLines R) (f : RowsFault) → IsLine remaining old mid → Takes mid new (Err f) → IsNext remaining old new (Err f)
next_refused remaining old mid new fault.Read line takes = absurd takes
next_refused remaining old mid new fault.Memory line takes = tt
next_refused remaining old mid new fault.Line line takes =
    no_row_there (width_of old) (rows_left remaining old) (rows_left remaining mid) (line_in (lines_of mid)) line.text line.one
    (λ row is wide. takes row is (ap (λ o. has_width o (length row.values)) line.width ∙ wide))
next_refused remaining old mid new fault.Order line takes =
    let wide : has_width (width_of old) (length takes.0.values) ≡ true = ap (λ o. has_width o (length takes.0.values)) (sym line.width) ∙ takes.2 in
    let early : is_after (last_of old) (pane_of takes.0) ≡ false = ap (λ o. is_after o (pane_of takes.0)) (sym line.last) ∙ takes.3 in
    early_row (width_of old) (last_of old) (rows_left remaining old) (rows_left remaining mid) (line_in (lines_of mid)) line.text takes.0 takes.1 wide early takes.4

-- a row that may not stand there
pub take_refused : {R : Type 0} (old new : RowLines R) (row : Row) (place : RowPlace) (f : RowsFault) → IsRow row → line_in (lines_of old) ≡ text_of_row row → place ≡ place_of row → MayTake old new place (Err f) → Takes old new (Err f)
take_refused old new row place fault.Read is line at may = absurd may
take_refused old new row place fault.Memory is line at may = absurd may
take_refused old new row place fault.Line is line at may = λ other other_is wide other_line.
    let same : length other.values ≡ length row.values = same_width (line_in (lines_of old)) other row other_is is other_line line in
    let found : has_width (width_of old) place.width ≡ true = ap (λ (p : RowPlace). has_width (width_of old) p.width) at ∙ ap (λ n. has_width (width_of old) n) (sym same) ∙ wide in
    false≢true (sym may ∙ found)
take_refused old new row place fault.Order is line at may = (
  row,
  is,
  ap (λ (p : RowPlace). has_width (width_of old) p.width) (sym at) ∙ may.0,
  ap (λ (p : RowPlace). is_after (last_of old) p.pane) (sym at) ∙ may.1,
  line,
)

-- what `?` hands on is the fault that it has
pub handed : {T E : Type 0} (result : Result T E) (fault : E) → IsErr result → IsErrAnd result (λ e. e ≡ fault) → result ≡ Err fault
handed (Ok value) fault fails is = absurd cc
handed (Err other) fault fails is = ap Err is
