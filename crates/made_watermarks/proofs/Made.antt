-- The greatest mark so far is made of the greatest time so far.
use Rattle.std.proofs.Common.{◌≡◌, ◌==◌, ℕ, ℤ, pos, ◌-ℤ◌, false, List, [], ◌∷◌, ◌++◌, map, take, length, Option, Some, None, refl, sym, ap, ◌∙◌, arith}
use Rattle.std.specs.Int.{int_max}
use Rattle.std.specs.List.{All, fold}
use Rattle.std.proofs.lemmas.Bool.{ne_eqb}
use Rattle.std.proofs.lemmas.Int.{ints, clamps}
use Rattle.std.proofs.lemmas.List.{map-append}
use Rattle.std.proofs.lemmas.List.Elements.{All-head, All-tail, All-take}
use Rattle.lane_kernels.specs.Compare.{greatest_of}
use Rattle.plain_data.specs.Record.{Record, at, column_of}
use Rattle.plain_data.specs.Times.{lowest}
use Rattle.plan_model.specs.PlanData.{IsBound}
use Rattle.plan_model.specs.Windows.{IsTime}
use Rattle.stream_model.specs.declared.entry.Entry.{Entry}
use Rattle.stream_model.specs.declared.entry.Entry.TheVariants.{Rows, Watermark}
use Rattle.stream_model.specs.declared.entry.Marked.{Marked}
use Rattle.stream_model.specs.InputData.{IsEntry, IsEntryOf, records_of_entry, records_in}
use Rattle.stream_model.specs.Marks.{IsMarked, rows_in, greatest_time, made}
use Rattle.stream_model.specs.Watermarks.{watermark_of_entry, partition_watermark}
use Rattle.stream_model.proofs.Facts.{keeps, fold_within}
use Rattle.made_watermarks.specs.Laws.{WatermarkIsMade}

-- ---- the greatest of two lists

max_turns : (a b c : ℤ) → int_max (int_max a b) c ≡ int_max a (int_max b c)
max_turns a b c = omega (arith, ints, clamps)

fold_from : (a b : ℤ) (xs : List ℤ) → fold int_max (int_max a b) xs ≡ int_max a (fold int_max b xs)
fold_from a b [] = refl
fold_from a b (x ∷ xs) = ap (λ w. fold int_max w xs) (max_turns a b x) ∙ fold_from a (int_max b x) xs

-- the greater of two numbers, where they are there
abbrev greater : Option ℤ → Option ℤ → Option ℤ
greater None b = b
greater (Some a) None = Some a
greater (Some a) (Some b) = Some (int_max a b)

brought_in : (a : ℤ) (xs ys : List ℤ) → Some (fold int_max a (xs ++ ys)) ≡ greater (Some (fold int_max a xs)) (greatest_of ys)
brought_in a [] [] = refl
brought_in a [] (y ∷ ys) = ap Some (fold_from a y ys)
brought_in a (x ∷ xs) ys = brought_in (int_max a x) xs ys

greatest_of_both : (xs ys : List ℤ) → greatest_of (xs ++ ys) ≡ greater (greatest_of xs) (greatest_of ys)
greatest_of_both [] ys = refl
greatest_of_both (x ∷ xs) ys = brought_in x xs ys

-- ---- the watermark of the greater of two times

abbrev pub IsTimely : Option ℤ → Type 0
IsTimely None = Unit {0}
IsTimely (Some t) = IsTime t

module _ (bound : ℤ) (bounded : IsBound (Some bound)) where
  first_alone : (t : ℤ) → IsTime t → int_max (t -ℤ bound -ℤ pos 1) lowest ≡ t -ℤ bound -ℤ pos 1
  first_alone t h = let most = bounded.1 in grind (arith, ints, clamps)

  second_alone : (t : ℤ) → IsTime t → int_max lowest (t -ℤ bound -ℤ pos 1) ≡ t -ℤ bound -ℤ pos 1
  second_alone t h = let most = bounded.1 in grind (arith, ints, clamps)

  neither : int_max lowest lowest ≡ lowest
  neither = omega (arith, ints, clamps)

  both_there : (s t : ℤ) → int_max (s -ℤ bound -ℤ pos 1) (t -ℤ bound -ℤ pos 1) ≡ int_max s t -ℤ bound -ℤ pos 1
  both_there s t = omega (arith, ints, clamps)

  made_of_greater : (a b : Option ℤ) → IsTimely a → IsTimely b → int_max (made bound a) (made bound b) ≡ made bound (greater a b)
  made_of_greater None None h k = neither
  made_of_greater None (Some t) h k = second_alone t k
  made_of_greater (Some s) None h k = first_alone s h
  made_of_greater (Some s) (Some t) h k = both_there s t

-- ---- times are in range

pub timely_rows : (time : ℕ) (rows : List Record) → All (λ r. IsTime (at time r)) rows → IsTimely (greatest_of (column_of time rows))
timely_rows time [] all = tt
timely_rows time (r ∷ rows) all = fold_within IsTime time rows (at time r) (All-head (λ x. IsTime (at time x)) r rows all) (All-tail (λ x. IsTime (at time x)) r rows all)

timely_entry : (columns time : ℕ) (e : Entry) → IsEntryOf columns time e → IsTimely (greatest_time time e)
timely_entry columns time (Rows batch) h = timely_rows time batch.rows h.1
timely_entry columns time (Watermark t) h = tt

timely_greater : (a b : Option ℤ) → IsTimely a → IsTimely b → IsTimely (greater a b)
timely_greater None b h k = k
timely_greater (Some s) None h k = h
timely_greater (Some s) (Some t) h k = keeps IsTime s t h k

-- ---- entry by entry

module _ (bound : ℤ) (bounded : IsBound (Some bound)) (columns time : ℕ) where
  abbrev raised : ℤ → Marked → ℤ
  raised w e = int_max w (watermark_of_entry e)

  abbrev of_entries : List Marked → Option ℤ
  of_entries es = greatest_of (column_of time (records_in es))

  with_one : (e : Marked) (es : List Marked) → of_entries (e ∷ es) ≡ greater (greatest_time time e.entry) (of_entries es)
  with_one e es = ap greatest_of (map-append (at time) (rows_in e.entry) (records_in es)) ∙ greatest_of_both (column_of time (rows_in e.entry)) (column_of time (records_in es))

  greater_turns : (a b c : Option ℤ) → greater (greater a b) c ≡ greater a (greater b c)
  greater_turns None b c = refl
  greater_turns (Some a) None c = refl
  greater_turns (Some a) (Some b) None = refl
  greater_turns (Some a) (Some b) (Some c) = ap Some (max_turns a b c)

  so_far : (es : List Marked) (o : Option ℤ) → IsTimely o → All (IsEntry columns time) es → All (IsMarked (Some bound) time) es → fold raised (made bound o) es ≡ made bound (greater o (of_entries es))
  so_far [] o h sound marked = ap (made bound) (sym (alone o))
    where
      alone : (a : Option ℤ) → greater a None ≡ a
      alone None = refl
      alone (Some a) = refl
  so_far (e ∷ es) o h sound marked =
      let mine = timely_entry columns time e.entry (All-head (IsEntry columns time) e es sound).0 in
      let here : raised (made bound o) e ≡ made bound (greater o (greatest_time time e.entry)) =
      ap (int_max (made bound o)) (All-head (IsMarked (Some bound) time) e es marked) ∙ made_of_greater bound bounded o (greatest_time time e.entry) h mine in
      ap (λ w. fold raised w es) here
      ∙ so_far es (greater o (greatest_time time e.entry)) (timely_greater o (greatest_time time e.entry) h mine) (All-tail (IsEntry columns time) e es sound) (All-tail (IsMarked (Some bound) time) e es marked)
      ∙ ap (made bound) (greater_turns o (greatest_time time e.entry) (of_entries es) ∙ ap (greater o) (sym (with_one e es)))

pub watermark_is_made : WatermarkIsMade
watermark_is_made bound columns time p n bounded sound marked short =
    let here : (n == length p) ≡ false = ne_eqb n (length p) short in
    rw here (so_far bound bounded columns time (take n p) None tt (All-take (IsEntry columns time) n p sound) (All-take (IsMarked (Some bound) time) n p marked))
