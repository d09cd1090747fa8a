-- Texts of the rows on parts, merged.
use Rattle.std.proofs.Common.{◌≡◌, ℕ, zero, suc, ℤ, ◌+◌, ◌<◌, Bool, true, false, cond, List, [], ◌∷◌, length, map, get_or, Option, Some, None, option_to_list, refl, sym, ap, subst, ◌∙◌, arith}
use Rattle.std.specs.List.{All, AllByRecursion, AllZip, filter}
use Rattle.std.specs.List.Sorted.{IsPermutation, IsSortedByKey}
use Rattle.std.specs.Ordering.{int_cmp, is_lt, ordering_then}
use Rattle.std.specs.Io.KnownBytes.{Appends}
use Rattle.std.proofs.lemmas.Int.{ints}
use Rattle.std.proofs.lemmas.List.Elements.{All-nil, All-cons, All-head, All-tail}
use Rattle.std.proofs.lemmas.List.Sorted.{All-permutation, sum_by-IsPermutation}
use Rattle.std.proofs.lemmas.List.Sums.{length-filter}
use Rattle.plan_model.specs.declared.spec.Pane.{Pane}
use Rattle.plan_model.specs.declared.spec.Row.{Row}
use Rattle.plan_model.specs.Rows.{pane_of, pane_cmp, row_is_at, AreRowsOf}
use Rattle.stream_model.specs.PlanRows.{plan_rows}
use Rattle.input_parts.specs.Parts.{part_of_input}
use Rattle.input_parts.specs.Laws.{AreRowsOfParts, RowsOfPartsAreAll}
use Rattle.job_texts.specs.Text.{IsTextOf, TextIsDetermined}
use Rattle.row_lines.specs.Rows.{IsRow}
use Rattle.row_lines.specs.Text.{text_of_rows}
use Rattle.row_lines.specs.Sequences.{AreRows}
use Rattle.row_merges.specs.Merges.{IsRowsText, rows_in}
use Rattle.part_laws.specs.Laws.{MergedPartsAreTheWhole}
use Rattle.part_laws.proofs.Reading.{rows_read}

are_rows : (width : Option ℕ) (last : Option Pane) (rows : List Row) → AreRows width last rows → AllByRecursion IsRow rows
are_rows width last [] h = tt
are_rows width last (row ∷ rows) h = (h.0, are_rows (Some (length row.values)) (Some (pane_of row)) rows h.3)

-- ---- the order

backward : (a b c d : ℤ) → is_lt (ordering_then (int_cmp a b) (int_cmp c d)) ≡ true → is_lt (ordering_then (int_cmp b a) (int_cmp d c)) ≡ false
backward a b c d h = grind (arith, ints)

behind : (row : Row) (rows : List Row) → AreRows (Some (length row.values)) (Some (pane_of row)) rows → IsSortedByKey pane_of pane_cmp (row ∷ rows)
behind row [] h k d low high = absurd (omega arith)
behind row (next ∷ rows) h zero d low high = backward row.start next.start row.key next.key h.2
behind row (next ∷ rows) h (suc k) d low high =
    let e : suc k + 1 ≡ suc (k + 1) = omega arith in
    rw e (behind next rows h.3 k d (omega arith) (omega arith))

in_order : (rows : List Row) → AreRows None None rows → IsSortedByKey pane_of pane_cmp rows
in_order [] h = λ k d low high. absurd (omega arith)
in_order (row ∷ rows) h = behind row rows h.3

-- ---- what stands at one pane

module _ (p : Row → Bool) where
  abbrev IsOnly : Row → Row → Type 0
  IsOnly r x = p x ≡ true → x ≡ r

  passes_not : (r x : Row) → p x ≡ false → IsOnly r x
  passes_not r x out there = absurd cc

  kept : (r x : Row) (rest : List Row) (b : Bool) → p x ≡ b → All (λ y. y ≡ r) (cond b (x ∷ rest) rest) → IsOnly r x × All (λ y. y ≡ r) rest
  kept r x rest true is h = (λ there. All-head (λ y. y ≡ r) x rest h, All-tail (λ y. y ≡ r) x rest h)
  kept r x rest false is h = (passes_not r x is, h)

  only : (r : Row) (xs : List Row) → All (λ y. y ≡ r) (filter p xs) → All (IsOnly r) xs
  only r [] h = All-nil (IsOnly r)
  only r (x ∷ xs) h =
      let parts = kept r x (filter p xs) (p x) refl h in
      All-cons (IsOnly r) x xs parts.0 (only r xs parts.1)

  keeps : (r x : Row) (rest : List Row) (b : Bool) → p x ≡ b → IsOnly r x → All (λ y. y ≡ r) rest → All (λ y. y ≡ r) (cond b (x ∷ rest) rest)
  keeps r x rest true is alone h = All-cons (λ y. y ≡ r) x rest (alone is) h
  keeps r x rest false is alone h = h

  only_kept : (r : Row) (xs : List Row) → All (IsOnly r) xs → All (λ y. y ≡ r) (filter p xs)
  only_kept r [] h = All-nil (λ y. y ≡ r)
  only_kept r (x ∷ xs) h = keeps r x (filter p xs) (p x) refl (All-head (IsOnly r) x xs h) (only_kept r xs (All-tail (IsOnly r) x xs h))

  same_length : (xs ys : List Row) → IsPermutation xs ys → length (filter p ys) ≡ length (filter p xs)
  same_length xs ys h = length-filter p ys ∙ sum_by-IsPermutation (λ x. cond (p x) 1 0) xs ys h ∙ sym (length-filter p xs)

  none : (l : List Row) → length l ≡ 0 → l ≡ []
  none [] h = refl
  none (x ∷ l) h = absurd (omega arith)

  one : (r : Row) (l : List Row) → All (λ y. y ≡ r) l → length l ≡ 1 → l ≡ r ∷ []
  one r [] h k = absurd (omega arith)
  one r (x ∷ y ∷ l) h k = absurd (omega arith)
  one r (x ∷ []) h k = ap (λ y. y ∷ []) (All-head (λ y. y ≡ r) x [] h)

  -- of rows in any other order as well
  still : (o : Option Row) (xs ys : List Row) → IsPermutation xs ys → filter p xs ≡ option_to_list o → filter p ys ≡ option_to_list o
  still None xs ys h e = none (filter p ys) (same_length xs ys h ∙ ap length e)
  still (Some r) xs ys h e =
      let alone : All (λ y. y ≡ r) (filter p xs) = subst (λ l. All (λ y. y ≡ r) l) (sym e) (All-cons (λ y. y ≡ r) r [] refl (All-nil (λ y. y ≡ r))) in
      one r (filter p ys) (only_kept r ys (All-permutation (IsOnly r) xs ys h (only r xs alone))) (same_length xs ys h ∙ ap length e)

-- ---- the texts

count_of : (texts : List (List ℕ)) (lists : List (List Row)) → AllZip IsRowsText (map Some texts) lists → length lists ≡ length texts
count_of [] [] h = refl
count_of [] (rows ∷ lists) h = absurd h
count_of (text ∷ texts) [] h = absurd h
count_of (text ∷ texts) (rows ∷ lists) h = ap suc (count_of texts lists h.1)

text_at : (texts : List (List ℕ)) (lists : List (List Row)) → AllZip IsRowsText (map Some texts) lists
    → (i : ℕ) → i < length texts → IsRowsText (Some (get_or texts i [])) (get_or lists i [])
text_at [] lists h i lt = absurd (omega arith)
text_at (text ∷ texts) [] h i lt = absurd h
text_at (text ∷ texts) (rows ∷ lists) h zero lt = h.0
text_at (text ∷ texts) (rows ∷ lists) h (suc i) lt = text_at texts lists h.1 i (omega arith)

-- the rows that were read of a text are those that it is of
rows_of_text : (f : Pane → Option Row) (text : List ℕ) (rows : List Row) → IsTextOf f text → IsRowsText (Some text) rows → AreRowsOf f rows
rows_of_text f text rows is h = subst (AreRowsOf f) (sym (rows_read rows is.rows (are_rows None None rows h.0) (sym h.1 ∙ is.lines))) is.are

pub merged_parts_are_the_whole : RowsOfPartsAreAll → TextIsDetermined → MergedPartsAreTheWhole
merged_parts_are_the_whole all determined plan parts input texts whole before after sound some count are is merges =
    let f = plan_rows plan input.sources in
    let lists = merges.lists in
    let of_parts : AreRowsOfParts plan parts input lists = λ i i_in.
    rows_of_text (plan_rows plan (part_of_input plan parts i input).sources) (get_or texts i []) (get_or lists i []) (are i i_in)
    (text_at texts lists merges.of_texts i (omega (arith, count, i_in))) in
    let together : AreRowsOf f (rows_in lists) = all plan parts input lists sound some (count_of texts lists merges.of_texts ∙ count) of_parts in
    let there : AreRowsOf f merges.rows = λ q. still (row_is_at q) (f q) (rows_in lists) merges.rows merges.all (together q) in
    let text : IsTextOf f (text_of_rows merges.rows) = record { rows = merges.rows; are = there; ordered = in_order merges.rows merges.ordered; lines = refl } in
    subst (Appends before after) (determined f (text_of_rows merges.rows) whole text is) merges.written
