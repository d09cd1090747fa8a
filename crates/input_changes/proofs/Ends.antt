-- A partition that was read to its end has the greatest watermark, and has it no longer once it goes on.
use Rattle.std.proofs.Common.{◌≡◌, ◌∙◌, ℕ, zero, suc, ◌≤◌, ◌<◌, ◌==◌, ℤ, ◌<ℤ◌, false, true, List, [], ◌∷◌, inl, inr, take, length, slice_index_or, refl, sym, subst, arith}
use Rattle.std.specs.Int.{int_max}
use Rattle.std.specs.List.{All, AllZip, fold}
use Rattle.std.proofs.lemmas.Bool.{cases_lt, eq-eqb, ne_eqb}
use Rattle.std.proofs.lemmas.Int.{ints, clamps}
use Rattle.std.proofs.lemmas.List.{take_all}
use Rattle.std.proofs.lemmas.List.Elements.{All-head, All-tail, All-take, All-weaker}
use Rattle.plain_data.specs.Times.{highest, lowest}
use Rattle.stream_model.specs.declared.entry.Marked.{Marked}
use Rattle.stream_model.specs.InputData.{IsEntry, partition_at}
use Rattle.stream_model.specs.Watermarks.{IsCut, partition_watermark, watermark_of_entry}
use Rattle.input_changes.specs.Agreement.{entries_before, entries_before_in, watermarks_at, watermarks_at_in}
use Rattle.input_changes.specs.Laws.{EndedStay}

is_low : (columns time : ℕ) (m : Marked) → IsEntry columns time m → watermark_of_entry m <ℤ highest
is_low columns time m h = let l = h.1.1 in omega (arith, ints, l)

max_low : (a b c : ℤ) → a <ℤ c → b <ℤ c → int_max a b <ℤ c
max_low a b c h k = omega (arith, ints, clamps)

fold_low : (c a : ℤ) (xs : List Marked) → a <ℤ c → All (λ e. watermark_of_entry e <ℤ c) xs → fold (λ w e. int_max w (watermark_of_entry e)) a xs <ℤ c
fold_low c a [] h all = h
fold_low c a (x ∷ xs) h all =
    fold_low c (int_max a (watermark_of_entry x)) xs (max_low a (watermark_of_entry x) c h (All-head (λ e. watermark_of_entry e <ℤ c) x xs all)) (All-tail (λ e. watermark_of_entry e <ℤ c) x xs all)

lowest_low : lowest <ℤ highest
lowest_low = omega (arith, ints)

not_below : (a : ℤ) → a <ℤ a → ⊥
not_below a h = omega (arith, ints)

module _ (columns time : ℕ) where
  -- short of its end, a partition's watermark is below the greatest
  short_of_end : (r : List Marked) (n : ℕ) → All (IsEntry columns time) r → n < length r → partition_watermark r n <ℤ highest
  short_of_end r n all short =
      let open_still : (n == length r) ≡ false = ne_eqb n (length r) (λ e. omega arith) in
      rw open_still (fold_low highest lowest (take n r) lowest_low (All-take (λ e. watermark_of_entry e <ℤ highest) n r (All-weaker (IsEntry columns time) (λ e. watermark_of_entry e <ℤ highest) (is_low columns time) r all)))

  stays : (p r : List Marked) (n : ℕ) → All (IsEntry columns time) r → n ≤ length r → take n p ≡ take n r → partition_watermark p n ≡ partition_watermark r n → n ≡ length p → r ≡ p
  stays p r n all within same mark ended = elim (cases_lt n (length r)) [
    | inl short ↦
        let greatest : partition_watermark p n ≡ highest = let e : (n == length p) ≡ true = eq-eqb n (length p) ended in rw e refl in
        absurd (not_below highest (subst (λ w. w <ℤ highest) (sym mark ∙ greatest) (short_of_end r n all short)))
    | inr whole ↦ sym (take_all n r whole) ∙ sym same ∙ take_all n p (omega (arith, ended))
  ]

  stays_in : (ps rs : List (List Marked)) (ns : List ℕ) (k : ℕ) → All (All (IsEntry columns time)) rs → AllZip (λ p n. n ≤ length p) ps ns → AllZip (λ p n. n ≤ length p) rs ns → entries_before_in ps ns ≡ entries_before_in rs ns → watermarks_at_in ps ns ≡ watermarks_at_in rs ns
      → slice_index_or ns k 0 ≡ length (slice_index_or ps k []) → slice_index_or rs k [] ≡ slice_index_or ps k []
  stays_in [] [] [] k all here there same marks ended = refl
  stays_in (p ∷ ps) (r ∷ rs) (n ∷ ns) zero all here there same marks ended =
      stays p r n (All-head (All (IsEntry columns time)) r rs all) there.0 (let e : take n p ≡ take n r = cc in e) (let e : partition_watermark p n ≡ partition_watermark r n = cc in e) ended
  stays_in (p ∷ ps) (r ∷ rs) (n ∷ ns) (suc k) all here there same marks ended =
      stays_in ps rs ns k (All-tail (All (IsEntry columns time)) r rs all) here.1 there.1 (let e : entries_before_in ps ns ≡ entries_before_in rs ns = cc in e) (let e : watermarks_at_in ps ns ≡ watermarks_at_in rs ns = cc in e) ended
  stays_in [] rs (n ∷ ns) k all here there same marks ended = absurd here
  stays_in (p ∷ ps) rs [] k all here there same marks ended = absurd here
  stays_in (p ∷ ps) [] (n ∷ ns) k all here there same marks ended = absurd there
  stays_in [] (r ∷ rs) [] k all here there same marks ended = absurd there

  stays_all : (ss rs : List (List (List Marked))) (cs : List (List ℕ)) (j k : ℕ) → All (All (All (IsEntry columns time))) rs → IsCut ss cs → IsCut rs cs → entries_before ss cs ≡ entries_before rs cs → watermarks_at ss cs ≡ watermarks_at rs cs
      → slice_index_or (slice_index_or cs j []) k 0 ≡ length (partition_at ss j k) → partition_at rs j k ≡ partition_at ss j k
  stays_all [] [] [] j k all here there same marks ended = refl
  stays_all (s ∷ ss) (r ∷ rs) (c ∷ cs) zero k all here there same marks ended =
      stays_in s r c k (All-head (All (All (IsEntry columns time))) r rs all) here.0 there.0 (let e : entries_before_in s c ≡ entries_before_in r c = cc in e) (let e : watermarks_at_in s c ≡ watermarks_at_in r c = cc in e) ended
  stays_all (s ∷ ss) (r ∷ rs) (c ∷ cs) (suc j) k all here there same marks ended =
      stays_all ss rs cs j k (All-tail (All (All (IsEntry columns time))) r rs all) here.1 there.1 (let e : entries_before ss cs ≡ entries_before rs cs = cc in e) (let e : watermarks_at ss cs ≡ watermarks_at rs cs = cc in e) ended
  stays_all [] rs (c ∷ cs) j k all here there same marks ended = absurd here
  stays_all (s ∷ ss) rs [] j k all here there same marks ended = absurd here
  stays_all (s ∷ ss) [] (c ∷ cs) j k all here there same marks ended = absurd there
  stays_all [] (r ∷ rs) [] j k all here there same marks ended = absurd there

pub ended_stay : EndedStay
ended_stay old new cut source partition input agree ended = stays_all new.columns new.time old.sources new.sources cut source partition input.entries agree.of_old agree.of_new agree.entries agree.watermarks ended
