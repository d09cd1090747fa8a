-- The merged watermark of a cut is the least of all partitions' there.
use Rattle.std.proofs.Common.{ℕ, zero, suc, ◌<◌, ◌≤◌, ℤ, ◌≤ℤ◌, List, [], ◌∷◌, length, get_or, slice_index, arith}
use Rattle.std.specs.Int.{int_min}
use Rattle.std.specs.List.{AllZip}
use Rattle.std.proofs.lemmas.Int.{ints, clamps}
use Rattle.std.specs.Int.Signed.{≤ℤ_refl}
use Rattle.plain_data.specs.Times.{highest}
use Rattle.stream_model.specs.declared.entry.Marked.{Marked}
use Rattle.stream_model.specs.Watermarks.{IsCut, partition_watermark, source_watermark, merged_watermark}
use Rattle.dataflow_model.specs.Leg.{count_at}

min_top : (a b c : ℤ) → b ≤ℤ c → int_min a b ≤ℤ c
min_top a b c h = omega (arith, ints, clamps, h)

min_first : (a b c : ℤ) → a ≤ℤ c → int_min a b ≤ℤ c
min_first a b c h = omega (arith, ints, clamps, h)

min_both : (a b v : ℤ) → v ≤ℤ a → v ≤ℤ b → v ≤ℤ int_min a b
min_both a b v h k = omega (arith, ints, clamps, h, k)

pub merged_bound : (ss : List (List (List Marked))) (cs : List (List ℕ)) → merged_watermark ss cs ≤ℤ highest
merged_bound [] cs = ≤ℤ_refl highest
merged_bound (s ∷ ss) [] = ≤ℤ_refl highest
merged_bound (s ∷ ss) (c ∷ cs) = min_top (source_watermark s c) (merged_watermark ss cs) highest (merged_bound ss cs)

source_below : (ps : List (List Marked)) (ns : List ℕ) (k : ℕ) → AllZip (λ p n. n ≤ length p) ps ns → k < length ps → source_watermark ps ns ≤ℤ partition_watermark (get_or ps k []) (slice_index ns k)
source_below [] ns k cut l = absurd (omega (arith, l))
source_below (p ∷ ps) [] k cut l = absurd cut
source_below (p ∷ ps) (n ∷ ns) zero cut l = min_first (partition_watermark p n) (source_watermark ps ns) _ (≤ℤ_refl (partition_watermark p n))
source_below (p ∷ ps) (n ∷ ns) (suc k) cut l = min_top (partition_watermark p n) (source_watermark ps ns) _ (source_below ps ns k cut.1 (omega (arith, l)))

pub merged_below : (ss : List (List (List Marked))) (cs : List (List ℕ)) (x k : ℕ) → IsCut ss cs → x < length ss → k < length (get_or ss x []) → merged_watermark ss cs ≤ℤ partition_watermark (get_or (get_or ss x []) k []) (count_at cs x k)
merged_below [] cs x k cut l m = absurd (omega (arith, l))
merged_below (s ∷ ss) [] x k cut l m = absurd cut
merged_below (s ∷ ss) (c ∷ cs) zero k cut l m = min_first (source_watermark s c) (merged_watermark ss cs) _ (source_below s c k cut.0 m)
merged_below (s ∷ ss) (c ∷ cs) (suc x) k cut l m = min_top (source_watermark s c) (merged_watermark ss cs) _ (merged_below ss cs x k cut.1 (omega (arith, l)) m)

source_greatest : (ps : List (List Marked)) (ns : List ℕ) (v : ℤ) → v ≤ℤ highest → ((k : ℕ) → k < length ps → v ≤ℤ partition_watermark (get_or ps k []) (slice_index ns k)) → v ≤ℤ source_watermark ps ns
source_greatest [] ns v top h = top
source_greatest (p ∷ ps) [] v top h = top
source_greatest (p ∷ ps) (n ∷ ns) v top h =
    min_both (partition_watermark p n) (source_watermark ps ns) v (h 0 (omega arith))
    (source_greatest ps ns v top (λ k l. h (suc k) (omega (arith, l))))

pub merged_greatest : (ss : List (List (List Marked))) (cs : List (List ℕ)) (v : ℤ) → v ≤ℤ highest
    → ((x k : ℕ) → x < length ss → k < length (get_or ss x []) → v ≤ℤ partition_watermark (get_or (get_or ss x []) k []) (count_at cs x k)) → v ≤ℤ merged_watermark ss cs
merged_greatest [] cs v top h = top
merged_greatest (s ∷ ss) [] v top h = top
merged_greatest (s ∷ ss) (c ∷ cs) v top h =
    min_both (source_watermark s c) (merged_watermark ss cs) v
    (source_greatest s c v top (λ k l. h 0 k (omega arith) l))
    (merged_greatest ss cs v top (λ x k l m. h (suc x) k (omega (arith, l)) m))
