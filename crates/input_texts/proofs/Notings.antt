-- What is noted of a list, part by part.
use Rattle.std.proofs.Common.{◌≡◌, ℕ, zero, suc, ◌-◌, ◌<◌, ◌==◌, ◌&&◌, ◌||◌, ℤ, Bool, true, false, cond, map, List, [], ◌∷◌, ◌++◌, length, Option, Some, None, is_some, option_map, option_and_then, Result, Ok, Err, refl, sym, ap, ◌∙◌, arith}
use Rattle.std.proofs.lemmas.Bool.{ne_eqb}
use Rattle.std.proofs.lemmas.List.{length-map, map-append}
use Rattle.std.proofs.lemmas.List.Sums.{fold-append}
use Rattle.std.proofs.Math.Dec.{eqb-suc-suc}
use Rattle.std.proofs.lemmas.List.Folds.{list_all-append, list_any-append}
use Rattle.stream_model.specs.Late.{is_late_time}
use Rattle.std.specs.Int.{int_max}
use Rattle.std.specs.List.{list_all, list_any}
use Rattle.std.specs.Result.{IfErr, IsErrAnd}
use Rattle.json.specs.Token.{Token, begin_array}
use Rattle.json.specs.Json.{value}
use Rattle.serde_json.specs.Data.{Data}
use Rattle.serde_json.specs.Find.{as_array}
use Rattle.serde_json.specs.Read.{of_json, converted}
use Rattle.json_parts.specs.Parts.{whole, list_of, each, list_text, cell_text}
use Rattle.json_tokens.specs.Ahead.{parts}
use Rattle.json_tokens.specs.Passed.{Passes}
use Rattle.json_tokens.proofs.Facts.{converted_some, list_opens}
use Rattle.lane_kernels.specs.Compare.{greatest_of}
use Rattle.plain_data.specs.Record.{at, column_of}
use Rattle.plain_data.specs.Times.{lowest}
use Rattle.input_texts.specs.InputText.{rows, watermark}
use Rattle.input_texts.specs.Said.{number_of, record_of, marked_of}
use Rattle.input_texts.specs.Seen.{RowSeen, Notes, all_met, brought, greater, joined, met_by_row, row_seen, rows_seen, with_row, of_rows}
use Rattle.input_texts.proofs.Pairs.{and_then_parts, same_some}
use Rattle.plan_model.proofs.Facts.{and_true, or_false}

pub all_more : {X : Type 0} (p : X → Bool) (xs : List X) (x : X) → list_all p (xs ++ x ∷ []) ≡ (list_all p xs && p x)
all_more p xs x = list_all-append p xs (x ∷ []) ∙ ap (λ b. list_all p xs && b) (and_true (p x))

any_more : {X : Type 0} (p : X → Bool) (xs : List X) (x : X) → list_any p (xs ++ x ∷ []) ≡ (list_any p xs || p x)
any_more p xs x = list_any-append p xs (x ∷ []) ∙ ap (λ b. list_any p xs || b) (or_false (p x))

any_map : {A B : Type 0} (p : B → Bool) (f : A → B) (xs : List A) → list_any p (map f xs) ≡ list_any (λ x. p (f x)) xs
any_map p f [] = refl
any_map p f (x ∷ xs) = ap (λ b. p (f x) || b) (any_map p f xs)

-- each of them passes a test that all pass
pub all_true : {X : Type 0} (xs : List X) → list_all (λ x. true) xs ≡ true
all_true [] = refl
all_true (x ∷ xs) = all_true xs

-- the greatest number, with one more
greatest_more : (xs : List ℤ) (x : ℤ) → greatest_of (xs ++ x ∷ []) ≡ greater (greatest_of xs) (Some x)
greatest_more [] x = refl
greatest_more (y ∷ ys) x = ap (λ z. Some z) (fold-append int_max y ys (x ∷ []))

greatest_row : (time : ℕ) (found : List (List (Option ℤ))) (row : List (Option ℤ))
    → greatest_of (column_of time (map record_of (found ++ row ∷ []))) ≡ greater (greatest_of (column_of time (map record_of found))) (Some (at time (record_of row)))
greatest_row time found row =
    ap (λ rs. greatest_of (column_of time rs)) (map-append record_of found (row ∷ [])) ∙ ap greatest_of (map-append (at time) (map record_of found) (record_of row ∷ []))
    ∙ greatest_more (column_of time (map record_of found)) (at time (record_of row))

-- the number in a column, with one more cell
pub at_more : (c : ℕ) (cells : List (Option ℤ)) (cell : Option ℤ) → at c (record_of (cells ++ cell ∷ [])) ≡ cond (length cells == c) (number_of cell) (at c (record_of cells))
at_more zero [] cell = refl
at_more (suc c) [] cell = rw (ne_eqb 0 (suc c) (λ e. omega (arith, e))) refl
at_more zero (x ∷ xs) cell = rw (ne_eqb (suc (length xs)) 0 (λ e. omega (arith, e))) refl
at_more (suc c) (x ∷ xs) cell = at_more c xs cell ∙ ap (λ b. cond b (number_of cell) (at c (record_of xs))) (sym (eqb-suc-suc (length xs) c))

-- a fault that was passed on
pub passed_on : {T E : Type 0} {R Q : E → Type 0} (r : Result T E) → IsErrAnd r R → ((e : E) → R e → Q e) → IfErr r Q
passed_on (Ok x) is then = absurd is
passed_on (Err e) is then = then e is

pub err_weaker : {T E : Type 0} {P Q : E → Type 0} (r : Result T E) → ((e : E) → P e → Q e) → IfErr r P → IfErr r Q
err_weaker (Ok x) then is = tt
err_weaker (Err e) then is = then e is

-- where nothing is noted, nothing is said
pub none_of : {A B C : Type 0} (f : A → B) (g : A → C) (o : Option A) → option_map f o ≡ None → None ≡ option_map g o
none_of f g None h = refl
none_of f g (Some a) h = absurd (cc)

-- ---- the parts of a list

module _ {X : Type 0} (g : Data → Option X) where
  with_last : Option X → Option (List X) → Option (List X)
  with_last x o = option_and_then (λ xs. option_map (λ y. xs ++ y ∷ []) x) o

  each_more : (ds : List Data) (d : Data) → each g (ds ++ d ∷ []) ≡ with_last (g d) (each g ds)
  unfolding with_last
  each_more [] d = one (g d)
    where
      one : (o : Option X) → option_and_then (λ x. option_and_then (λ xs. Some (x ∷ xs)) (each g [])) o ≡ option_map (λ y. [] ++ y ∷ []) o
      one None = refl
      one (Some x) = refl
  each_more (e ∷ ds) d = ap (λ o. option_and_then (λ x. option_and_then (λ xs. Some (x ∷ xs)) o) (g e)) (each_more ds d) ∙ first (g e) (each g ds) (g d)
    where
      first : (x : Option X) (o : Option (List X)) (y : Option X)
          → option_and_then (λ a. option_and_then (λ xs. Some (a ∷ xs)) (option_and_then (λ xs. option_map (λ b. xs ++ b ∷ []) y) o)) x
          ≡ option_and_then (λ xs. option_map (λ b. xs ++ b ∷ []) y) (option_and_then (λ a. option_and_then (λ xs. Some (a ∷ xs)) o) x)
      first None o y = refl
      first (Some a) None y = refl
      first (Some a) (Some xs) None = refl
      first (Some a) (Some xs) (Some b) = refl

  -- one more part was said, if the last says something
  pub each_last : (ds : List Data) (d : Data) (ys : List X) → each g (ds ++ d ∷ []) ≡ Some ys → (xs : List X) × (x : X) × (each g ds ≡ Some xs) × (g d ≡ Some x) × (ys ≡ xs ++ x ∷ [])
  unfolding with_last
  each_last ds d ys e =
      let first = and_then_parts (λ xs. option_map (λ y. xs ++ y ∷ []) (g d)) (each g ds) ys (sym (each_more ds d) ∙ e) in
      last (g d) first.0 ys refl first.1 first.2
    where
      last : (o : Option X) (xs ys : List X) → g d ≡ o → each g ds ≡ Some xs → option_map (λ y. xs ++ y ∷ []) o ≡ Some ys → (zs : List X) × (x : X) × (each g ds ≡ Some zs) × (g d ≡ Some x) × (ys ≡ zs ++ x ∷ [])
      last None xs ys is first h = absurd (cc)
      last (Some x) xs ys is first h = (xs, x, first, is, same_some ys (xs ++ x ∷ []) (sym h))

  module _ {S T : Type 0} (all : List X → S) (see : X → T) (join : S → T → S) where
    joined_by : (o : Option (List X)) (x : Option X) → ((xs : List X) (y : X) → o ≡ Some xs → all (xs ++ y ∷ []) ≡ join (all xs) (see y)) → joined join (option_map all o) (option_map see x) ≡ option_map all (with_last x o)
    unfolding with_last
    joined_by None x more = refl
    joined_by (Some xs) None more = refl
    joined_by (Some xs) (Some x) more = ap (λ s. Some s) (sym (more xs x refl))

    pub noted_more : (ds : List Data) (d : Data) (before : Option S) (next : Option T) → ((xs : List X) (x : X) → each g ds ≡ Some xs → all (xs ++ x ∷ []) ≡ join (all xs) (see x))
        → before ≡ option_map all (each g ds) → next ≡ option_map see (g d) → joined join before next ≡ option_map all (each g (ds ++ d ∷ []))
    noted_more ds d before next more h k = (λ o. joined join (h o) (k o)) ∙ joined_by (each g ds) (g d) more ∙ ap (option_map all) (sym (each_more ds d))

  each_some : (ds : List Data) → each (λ d. Some d) ds ≡ Some ds
  each_some [] = refl
  each_some (d ∷ ds) = ap (option_and_then (λ es. Some (d ∷ es))) (each_some ds)

  -- a list says what its parts say
  list_of_parts : (d : Data) (ds : List Data) → list_text (λ e. Some e) d ≡ Some ds → list_text g d ≡ each g ds
  unfolding list_text
  list_of_parts d ds e =
      let found = and_then_parts (λ es. each (λ x. Some x) (list_of es)) (as_array d) ds e in
      let same : list_of found.0 ≡ ds = same_some (list_of found.0) ds (sym (each_some (list_of found.0)) ∙ found.2) in
      ap (option_and_then (λ es. each g (list_of es))) found.1 ∙ ap (each g) same

  no_parts : (d : Data) → as_array d ≡ None → list_text g d ≡ None
  unfolding list_text
  no_parts d none = rw none refl

  module _ {S : Type 0} (see : List X → S) (depth : ℕ) (ts r : List Token) where
    pub list_noted : (ds : List Data) (seen : Option S) → 0 < depth → parts (λ e. Some e) (depth - 1) ts ≡ Some (ds, r) → seen ≡ option_map see (each g ds) → Notes (list_text g) see depth (begin_array ∷ ts) seen r
    list_noted ds seen some e h =
        let d = converted_some (list_text (λ x. Some x)) (converted of_json (value depth (begin_array ∷ ts))) ds r (list_opens (λ x. Some x) depth ts some ∙ e) in
        (d.0, d.1, h ∙ ap (option_map see) (sym (list_of_parts d.0 ds d.2)))

    pub other_noted : (d : Data) → Passes depth ts d r → as_array d ≡ None → Notes (list_text g) see depth ts None r
    other_noted d passed none = (d, passed, sym (ap (option_map see) (no_parts d none)))

  with_length : (ds : List Data) (xs : List X) → each g ds ≡ Some xs → length xs ≡ length ds
  with_length [] xs e = ap (length {A = X}) (sym (same_some [] xs e))
  with_length (d ∷ ds) xs e =
      let first = and_then_parts (λ x. option_and_then (λ ys. Some (x ∷ ys)) (each g ds)) (g d) xs e in
      let others = and_then_parts (λ ys. Some (first.0 ∷ ys)) (each g ds) xs first.2 in
      ap (length {A = X}) (sym (same_some (first.0 ∷ others.0) xs others.2)) ∙ ap suc (with_length ds others.0 others.1)

  pub each_length : (ds : List Data) (xs : List X) → each g ds ≡ Some xs → length xs ≡ length ds
  each_length ds xs e = with_length ds xs e

-- ---- lists of which each part says something

pub any_parts : (ds : List Data) → is_some (each (λ d. Some d) ds) ≡ true
any_parts [] = refl
any_parts (d ∷ ds) = more (each (λ e. Some e) ds) (any_parts ds)
  where
    more : (o : Option (List Data)) → is_some o ≡ true → is_some (option_and_then (λ es. Some (d ∷ es)) o) ≡ true
    more None h = h
    more (Some es) h = refl

pub any_cells : (ds : List Data) → is_some (each cell_text ds) ≡ true
any_cells [] = refl
any_cells (d ∷ ds) = more (each cell_text ds) (any_cells ds)
  where
    more : (o : Option (List (Option ℤ))) → is_some o ≡ true → is_some (option_and_then (λ cs. Some (whole d ∷ cs)) o) ≡ true
    more None h = h
    more (Some cs) h = refl

-- ---- rows

module _ (columns time : ℕ) (w : ℤ) where
  pub row_noted : (depth : ℕ) (ts r : List Token) (cells : List (Option ℤ)) (row : RowSeen) → 0 < depth → parts cell_text (depth - 1) ts ≡ Some (cells, r) → row ≡ row_seen columns time w cells
      → Notes (list_text cell_text) (row_seen columns time w) depth (begin_array ∷ ts) (Some row) r
  row_noted depth ts r cells row some e h =
      let d = converted_some (list_text cell_text) (converted of_json (value depth (begin_array ∷ ts))) cells r (list_opens cell_text depth ts some ∙ e) in
      (d.0, d.1, ap (λ s. Some s) h ∙ sym (ap (option_map (row_seen columns time w)) d.2))

  -- of rows that have the form
  pub rows_so_far : List (List (Option ℤ)) → RowSeen
  rows_so_far found = record { met = all_met (met_by_row columns time) found; is_late = list_any (λ row. is_late_time w (at time (record_of row))) found; greatest = greatest_of (column_of time (map record_of found)) }

  pub rows_more : (found : List (List (Option ℤ))) (row : List (Option ℤ)) → rows_so_far (found ++ row ∷ []) ≡ with_row (rows_so_far found) (row_seen columns time w row)
  unfolding rows_so_far
  rows_more found row = λ o. record {
    met = record {
      is_wide = all_more (λ y. (met_by_row columns time y).is_wide) found row o;
      is_whole = all_more (λ y. (met_by_row columns time y).is_whole) found row o;
      is_sized = all_more (λ y. (met_by_row columns time y).is_sized) found row o;
      is_timely = all_more (λ y. (met_by_row columns time y).is_timely) found row o;
      is_kind = all_more (λ y. (met_by_row columns time y).is_kind) found row o;
    };
    is_late = any_more (λ y. is_late_time w (at time (record_of y))) found row o;
    greatest = greatest_row time found row o;
  }

  pub no_rows : rows_so_far [] ≡ record { met = record { is_wide = true; is_whole = true; is_sized = true; is_timely = true; is_kind = true }; is_late = false; greatest = None }
  unfolding rows_so_far
  no_rows = refl

  -- what the rows bring
  rows_bring : (bound : Option ℤ) (found : List (List (Option ℤ))) → brought bound (greatest_of (column_of time (map record_of found))) ≡ (marked_of bound columns time (rows found)).mark
  rows_bring None found = refl
  rows_bring (Some b) found = refl

  -- and what a watermark brings
  pub watermark_brings : (bound : Option ℤ) (cell : Option ℤ) → cond (is_some bound) lowest (number_of cell) ≡ (marked_of bound columns time (watermark cell)).mark
  watermark_brings None cell = refl
  watermark_brings (Some b) cell = refl

  abbrev behind : Option ℤ → RowSeen → ℤ
  behind bound all = int_max w (brought bound all.greatest)

  rows_by : (bound : Option ℤ) (count : ℕ) (ds : List Data) (all : RowSeen) (o : Option (List (List (Option ℤ)))) → each (list_text cell_text) ds ≡ o → count ≡ length ds → Some all ≡ option_map rows_so_far o
      → Some (of_rows all count (behind bound all)) ≡ option_map (rows_seen bound columns time w) o
  unfolding rows_so_far
  rows_by bound count ds all None is counted h = absurd (cc)
  rows_by bound count ds all (Some found) is counted h =
      let all_is : all ≡ rows_so_far found = same_some all (rows_so_far found) h in
      let long : count ≡ length found = counted ∙ sym (each_length (list_text cell_text) ds found is) in
      ap (λ s. Some s) (ap (λ a. of_rows a count (behind bound a)) all_is ∙ ap (λ n. of_rows (rows_so_far found) n (behind bound (rows_so_far found))) long ∙ (λ o. record {
        met = record { is_wide = (rows_seen bound columns time w found).met.is_wide; is_whole = (rows_seen bound columns time w found).met.is_whole; is_sized = (rows_seen bound columns time w found).met.is_sized; is_timely = (rows_seen bound columns time w found).met.is_timely; is_kind = all_true found o };
        is_late = sym (any_map (λ r. is_late_time w (at time r)) record_of found) o;
        watermark = ap (int_max w) (rows_bring bound found) o;
        records = sym (length-map found record_of) o;
      }))

  pub rows_over : (bound : Option ℤ) (count : ℕ) (ds : List Data) (all : RowSeen) → count ≡ length ds → Some all ≡ option_map rows_so_far (each (list_text cell_text) ds)
      → Some (of_rows all count (behind bound all)) ≡ option_map (rows_seen bound columns time w) (each (list_text cell_text) ds)
  rows_over bound count ds all counted h = rows_by bound count ds all (each (list_text cell_text) ds) refl counted h
