-- Rows brought in at places, one after the other.
use Rattle.std.proofs.Common.{◌≡◌, ◌≢◌, inl, inr, ℕ, suc, ℤ, unsigned_abs, FitsSigned, Bool, true, false, ◌+◌, ◌+ℤ◌, ◌*◌, ◌^◌, ◌<◌, ◌≤◌, ◌==◌, List, [], ◌∷◌, map, drop, length, get_or, set, refl, sym, ap, ◌∙◌, arith, pos, if◌then◌else◌}
use Rattle.std.specs.Int.{w64}
use Rattle.std.proofs.lemmas.Int.{ints}
use Rattle.std.proofs.lemmas.Bool.{eqb-true, eqb-false, eq-eqb, leb-true, cases_lt}
use Rattle.std.proofs.lemmas.List.{drop_more, get_or-set_same, get_or-set_other, get_or-map}
use Rattle.byte_fields.specs.Fields.{is_i64}
use Rattle.plan_model.specs.declared.spec.Aggregate.{Aggregate}
use Rattle.plan_model.specs.declared.spec.Aggregate.TheVariants as aggregate
use Rattle.plan_model.specs.Aggregates.{number_of}
use Rattle.aggregates.specs.declared.kind.Kind.{Kind}
use Rattle.aggregates.specs.declared.kind.Kind.TheVariants.{Count, Sum}
use Rattle.aggregates.specs.Kinds.{kind_of, is_number, merge_by}
use Rattle.place_words.specs.declared.words.PlacedRow.{PlacedRow}
use Rattle.place_words.specs.Words.{word, width_of, number_at, IsWritten}
use Rattle.place_words.specs.PlacedRows.{rows_to, merged_to, AreApart}
use Rattle.place_words.proofs.Numbers.{number-same}

abbrev pub row_at : List PlacedRow → ℕ → PlacedRow
row_at rows i = get_or rows i (record { row = 0; at = 0 })

-- a number with the next row brought in, or as it was where the row goes elsewhere
pub merged_next : (k : Kind) (f : PlacedRow → ℤ) (x : ℕ) (rows : List PlacedRow) (i : ℕ) (before after : ℤ) → i < length rows
    → ((row_at rows i).at ≡ x → after ≡ merge_by k before (f (row_at rows i))) → ((row_at rows i).at ≢ x → after ≡ before)
    → merged_to k f x (drop (i + 1) rows) after ≡ merged_to k f x (drop i rows) before
merged_next k f x rows i before after low here there = by_case ((row_at rows i).at == x) refl
    ∙ sym (ap (λ l. merged_to k f x l before) (drop_more rows i (record { row = 0; at = 0 }) low))
  where
    either : Bool → ℤ
    either b = if b then merged_to k f x (drop (i + 1) rows) (merge_by k before (f (row_at rows i))) else merged_to k f x (drop (i + 1) rows) before

    by_case : (b : Bool) → (row_at rows i).at == x ≡ b
        → merged_to k f x (drop (i + 1) rows) after ≡ merged_to k f x (row_at rows i ∷ drop (i + 1) rows) before
    by_case true is = ap (merged_to k f x (drop (i + 1) rows)) (here (eqb-true (row_at rows i).at x is))
        ∙ sym (ap either is)
    by_case false is = ap (merged_to k f x (drop (i + 1) rows)) (there (eqb-false (row_at rows i).at x is))
        ∙ sym (ap either is)

-- the same of one word
pub put_next : (k : Kind) (f : PlacedRow → ℤ) (ws : List ℤ) (offset x : ℕ) (rows : List PlacedRow) (i : ℕ) (z : ℤ) → i < length rows
    → (row_at rows i).at + offset < length ws
    → z ≡ merge_by k (word ws ((row_at rows i).at + offset)) (f (row_at rows i))
    → merged_to k f x (drop (i + 1) rows) (word (set ws ((row_at rows i).at + offset) z) (x + offset))
    ≡ merged_to k f x (drop i rows) (word ws (x + offset))
put_next k f ws offset x rows i z low room is =
    merged_next k f x rows i (word ws (x + offset)) (word (set ws ((row_at rows i).at + offset) z) (x + offset)) low here there
  where
    here : (row_at rows i).at ≡ x → word (set ws ((row_at rows i).at + offset) z) (x + offset) ≡ merge_by k (word ws (x + offset)) (f (row_at rows i))
    here e = ap (λ y. word (set ws ((row_at rows i).at + offset) z) (y + offset)) (sym e) ∙ get_or-set_same ws ((row_at rows i).at + offset) z (pos 0) room
        ∙ is ∙ ap (λ y. merge_by k (word ws (y + offset)) (f (row_at rows i))) e

    there : (row_at rows i).at ≢ x → word (set ws ((row_at rows i).at + offset) z) (x + offset) ≡ word ws (x + offset)
    there e = get_or-set_other ws ((row_at rows i).at + offset) (x + offset) z (pos 0) (omega (arith, e))

pub elsewhere : (x y : ℕ) → (x ≤ y → x + 1 ≤ y) → x ≢ y
elsewhere x y apart e = omega (arith, e, apart (omega (arith, e)))

-- a word outside of those that are written
pub outside : (a b y : ℕ) (ws vs : List ℤ) → IsWritten a b ws vs → (a ≤ y → b ≤ y) → word vs y ≡ word ws y
outside a b y ws vs written apart = elim (cases_lt y a) [
  | inl below ↦ written.below y below
  | inr above ↦ written.above y (apart above)
]

-- a number whose words are apart from those that are written
pub number_apart : (n : ℕ) (k : Kind) (x y offset : ℕ) (ws vs : List ℤ) → IsWritten (y + offset) (y + offset + width_of k) ws vs → AreApart (width_of k) x y
    → y ≢ x
    → number_at n k vs (x + offset) ≡ number_at n k ws (x + offset)
number_apart n k x y offset ws vs written apart other =
    number-same n k ws vs (x + offset) (x + offset)
    (λ j low. outside (y + offset) (y + offset + width_of k) (x + offset + j) ws vs written (beyond x y (width_of k) offset j apart other low))
  where
    beyond : (x y width offset j : ℕ) → AreApart width x y → y ≢ x → j < width → y + offset ≤ x + offset + j → y + offset + width ≤ x + offset + j
    beyond x y width offset j apart other low h = elim (cases_lt x y) [
      | inl below ↦ omega (arith, apart.before below, low, h)
      | inr above ↦ omega (arith, apart.after (omega (arith, above, other)))
    ]

-- the rows that are left to come to a place, with the next of them
pub small_next : (x : ℕ) (rows : List PlacedRow) (i : ℕ) (before after : ℤ) → i < length rows
    → ((row_at rows i).at ≡ x → unsigned_abs after ≤ unsigned_abs before + 2 ^ 63)
    → ((row_at rows i).at ≢ x → after ≡ before) → unsigned_abs before + rows_to x (drop i rows) * 2 ^ 63 ≤ 2 ^ 104
    → unsigned_abs after + rows_to x (drop (i + 1) rows) * 2 ^ 63 ≤ 2 ^ 104
small_next x rows i before after low here there small = by_case ((row_at rows i).at == x) refl
  where
    next : rows_to x (drop i rows) ≡ rows_to x (row_at rows i ∷ drop (i + 1) rows)
    next = ap (rows_to x) (drop_more rows i (record { row = 0; at = 0 }) low)

    by_case : (b : Bool) → (row_at rows i).at == x ≡ b → unsigned_abs after + rows_to x (drop (i + 1) rows) * 2 ^ 63 ≤ 2 ^ 104
    by_case true is =
        let more : rows_to x (drop i rows) ≡ 1 + rows_to x (drop (i + 1) rows) = next
        ∙ ap (λ b. if b then 1 + rows_to x (drop (i + 1) rows) else rows_to x (drop (i + 1) rows)) is in
        omega (arith, more, here (eqb-true (row_at rows i).at x is), small)
    by_case false is =
        let more : rows_to x (drop i rows) ≡ rows_to x (drop (i + 1) rows) = next
        ∙ ap (λ b. if b then 1 + rows_to x (drop (i + 1) rows) else rows_to x (drop (i + 1) rows)) is in
        let same : unsigned_abs after ≡ unsigned_abs before = ap unsigned_abs (there (eqb-false (row_at rows i).at x is)) in
        omega (arith, more, same, small)

pub one_more : (rows : List PlacedRow) (i : ℕ) → i < length rows
    → rows_to (row_at rows i).at (drop i rows) ≡ 1 + rows_to (row_at rows i).at (drop (i + 1) rows)
one_more rows i low =
    ap (rows_to (row_at rows i).at) (drop_more rows i (record { row = 0; at = 0 }) low)
    ∙ ap (λ b. if b then 1 + rows_to (row_at rows i).at (drop (i + 1) rows) else rows_to (row_at rows i).at (drop (i + 1) rows))
    (eq-eqb (row_at rows i).at (row_at rows i).at refl)

pub sum_grows : (a b : ℤ) → FitsSigned w64 b → unsigned_abs (a +ℤ b) ≤ unsigned_abs a + 2 ^ 63
sum_grows a b fits = grind (arith, ints)

-- ---- the column that an aggregate is of

-- the rows after the first
abbrev pub AllRows : (PlacedRow → Type 0) → List PlacedRow → Type 0
AllRows P rows = (k : ℕ) (d : PlacedRow) → k < length rows → P (get_or rows k d)

pub merged_same : (k : Kind) (f g : PlacedRow → ℤ) (x : ℕ) (rows : List PlacedRow) (z : ℤ) → AllRows (λ r. f r ≡ g r) rows
    → merged_to k f x rows z ≡ merged_to k g x rows z
merged_same k f g x [] z h = refl
merged_same k f g x (r ∷ rs) z h =
    let rest = λ (y : ℤ). merged_same k f g x rs y (λ j d low. h (suc j) d (omega (arith, low))) in
    λ i. if r.at == x then (ap (λ w. merged_to k f x rs (merge_by k z w)) (h 0 r (omega arith)) ∙ rest (merge_by k z (g r))) i else rest z i

pub merged_count : (f : PlacedRow → ℤ) (x : ℕ) (rows : List PlacedRow) (n : ℕ) → ((r : PlacedRow) → f r ≡ pos 1)
    → merged_to Count f x rows (pos n) ≡ pos (n + rows_to x rows)
merged_count f x [] n one = ap pos (omega arith)
merged_count f x (r ∷ rs) n one =
    by_case (r.at == x) (ap (λ w. merged_to Count f x rs (pos n +ℤ w)) (one r) ∙ merged_count f x rs (n + 1) one) (merged_count f x rs n one)
  where
    by_case : (b : Bool) → merged_to Count f x rs (pos n +ℤ f r) ≡ pos (n + 1 + rows_to x rs) → merged_to Count f x rs (pos n) ≡ pos (n + rows_to x rs)
        → (if b then merged_to Count f x rs (pos n +ℤ f r) else merged_to Count f x rs (pos n)) ≡ pos (n + (if b then 1 + rows_to x rs else rows_to x rs))
    by_case true here there = here ∙ ap pos (omega arith)
    by_case false here there = there

-- what the numbers of so many records come to, of one aggregate
abbrev pub IsMerged : List (List ℤ) → List PlacedRow → ℕ → List ℤ → List ℤ → Aggregate → Type 0
IsMerged records rows offset old new a = (n x : ℕ) → AllRows (λ r. AreApart (width_of (kind_of a)) x r.at) rows
    → number_at (n + rows_to x rows) (kind_of a) new (x + offset)
    ≡ merged_to (kind_of a) (λ r. number_of a (get_or records r.row []) []) x rows (number_at n (kind_of a) old (x + offset))

abbrev pub HaveFew : List PlacedRow → ℕ → List ℤ → Aggregate → Type 0
HaveFew rows offset ws a = AllRows
    (λ r. (n : ℕ) × (n + rows_to r.at rows ≤ 2 ^ 41) × (is_number n (kind_of a) (number_at n (kind_of a) ws (r.at + offset)) ≡ true)) rows

abbrev pub in_place : ℕ → List ℤ → ℤ
in_place c record_ = get_or record_ c (pos 0)

abbrev pub HaveFit : List (List ℤ) → List PlacedRow → Aggregate → Type 0
HaveFit records rows a = AllRows (λ r. is_i64 (number_of a (get_or records r.row []) []) ≡ true) rows

-- the numbers of a column
abbrev pub in_column : List ℤ → PlacedRow → ℤ
in_column numbers r = get_or numbers r.row (pos 0)

pub column_same : (c : ℕ) (records : List (List ℤ)) (numbers : List ℤ) (rows : List PlacedRow) → numbers ≡ map (in_place c) records
    → AllRows (λ r. r.row < length records) rows
    → AllRows (λ r. in_column numbers r ≡ in_place c (get_or records r.row [])) rows
column_same c records numbers rows is inside k d low =
    ap (λ (l : List ℤ). get_or l (get_or rows k d).row (pos 0)) is ∙ get_or-map (in_place c) records (get_or rows k d).row [] (pos 0) (inside k d low)

pub column_sum : (c : ℕ) (records : List (List ℤ)) (numbers : List ℤ) (rows : List PlacedRow) → numbers ≡ map (in_place c) records
    → AllRows (λ r. r.row < length records) rows
    → AllRows (λ r. in_column numbers r ≡ number_of (aggregate.Sum c) (get_or records r.row []) []) rows
column_sum c records numbers rows is inside k d low = column_same c records numbers rows is inside k d low ∙ omega (arith, ints)

pub small_sum : (n m : ℕ) (z : ℤ) → n + m ≤ 2 ^ 41 → is_number n Sum z ≡ true → unsigned_abs z + m * 2 ^ 63 ≤ 2 ^ 104
small_sum n m z few is = omega (arith, few, leb-true (unsigned_abs z) (n * 2 ^ 63) is)
