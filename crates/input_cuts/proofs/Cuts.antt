-- The first cut, of the first counts of all partitions.
use Rattle.std.proofs.Common.{ℕ, ◌≤◌, ℤ, pos, ◌+ℤ◌, ◌-ℤ◌, ◌≤ℤ◌, ◌<ℤ◌, List, [], ◌∷◌, map, length, inl, inr, arith}
use Rattle.std.proofs.lemmas.Int.{ints, clamps}
use Rattle.std.proofs.lemmas.Bool.{cases_lt}
use Rattle.std.specs.Int.{int_min}
use Rattle.std.specs.List.{AllZip}
use Rattle.plain_data.specs.Times.{highest}
use Rattle.stream_model.specs.declared.entry.Marked.{Marked}
use Rattle.stream_model.specs.Watermarks.{partition_watermark, source_watermark, merged_watermark, IsCut, IsBefore}
use Rattle.input_cuts.specs.Cuts.{first_count, first_cut}
use Rattle.input_cuts.specs.Laws.{FirstCutIsFirst, FirstCutIsDue}
use Rattle.plan_model.proofs.Facts.{test_from_le}
use Rattle.input_cuts.proofs.First.{is_first}

module _ (w : ℤ) (low : w ≤ℤ highest) where
  both : (a b : ℤ) → w ≤ℤ a → w ≤ℤ b → w ≤ℤ int_min a b
  both a b h k = omega (arith, ints, clamps)

  one : (a b : ℤ) → w ≤ℤ int_min a b → w ≤ℤ a
  one a b h = omega (arith, ints, clamps)

  other : (a b : ℤ) → w ≤ℤ int_min a b → w ≤ℤ b
  other a b h = omega (arith, ints, clamps)

  not_reached : (a : ℤ) → a <ℤ w → w ≤ℤ a → ⊥
  not_reached a h k = omega (arith, ints)

  -- no count at which the watermark is reached is below the first
  no_later : (p : List Marked) (n : ℕ) → w ≤ℤ partition_watermark p n → first_count w p ≤ n
  no_later p n reached = elim (cases_lt n (first_count w p)) [
    | inl l ↦ absurd (not_reached (partition_watermark p n) ((is_first w p low).first n l) reached)
    | inr past ↦ omega arith
  ]

  cut_in : (ps : List (List Marked)) → AllZip (λ p n. n ≤ length p) ps (map (first_count w) ps)
  cut_in [] = tt
  cut_in (p ∷ ps) = ((is_first w p low).within, cut_in ps)

  cut : (ss : List (List (List Marked))) → IsCut ss (first_cut w ss)
  cut [] = tt
  cut (s ∷ ss) = (cut_in s, cut ss)

  reached_in : (ps : List (List Marked)) → w ≤ℤ source_watermark ps (map (first_count w) ps)
  reached_in [] = low
  reached_in (p ∷ ps) = both (partition_watermark p (first_count w p)) (source_watermark ps (map (first_count w) ps)) (is_first w p low).reached (reached_in ps)

  reached : (ss : List (List (List Marked))) → w ≤ℤ merged_watermark ss (first_cut w ss)
  reached [] = low
  reached (s ∷ ss) = both (source_watermark s (map (first_count w) s)) (merged_watermark ss (first_cut w ss)) (reached_in s) (reached ss)

  first_in : (ps : List (List Marked)) (ns : List ℕ) → AllZip (λ p n. n ≤ length p) ps ns → w ≤ℤ source_watermark ps ns → AllZip (λ m n. m ≤ n) (map (first_count w) ps) ns
  first_in [] [] is h = tt
  first_in [] (n ∷ ns) is h = absurd is
  first_in (p ∷ ps) [] is h = absurd is
  first_in (p ∷ ps) (n ∷ ns) is h =
      let a = partition_watermark p n in
      let b = source_watermark ps ns in
      (no_later p n (one a b h), first_in ps ns is.1 (other a b h))

  first : (ss : List (List (List Marked))) (b : List (List ℕ)) → IsCut ss b → w ≤ℤ merged_watermark ss b → IsBefore (first_cut w ss) b
  first [] [] is h = tt
  first [] (c ∷ cs) is h = absurd is
  first (s ∷ ss) [] is h = absurd is
  first (s ∷ ss) (c ∷ cs) is h =
      let a = source_watermark s c in
      let b = merged_watermark ss cs in
      (first_in s c is.0 (one a b h), first ss cs is.1 (other a b h))

pub first_cut_is_first : FirstCutIsFirst
first_cut_is_first w sources low = record { is = cut w low sources; reached = reached w low sources; first = first w low sources }

due : (e t m : ℤ) → e ≤ℤ t → (t -ℤ pos 1) ≤ℤ m → (e -ℤ pos 1) ≤ℤ m
due e t m h k = omega (arith, ints)

pub first_cut_is_due : FirstCutIsDue
first_cut_is_due o t s sources low ends =
    let w = t -ℤ pos 1 in
    let m = merged_watermark sources (first_cut w sources) in
    test_from_le ((s +ℤ o.size) -ℤ pos 1) m (due (s +ℤ o.size) t m ends (reached w low sources))
