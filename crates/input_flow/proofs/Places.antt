-- Partitions by their source and their number there, and by their number through all sources.
use Rattle.std.proofs.Common.{◌≡◌, ℕ, ◌<◌, [], length, get_or, slice_index, sym, ap, ◌∙◌, arith}
use Rattle.std.proofs.lemmas.List.{length-map}
use Rattle.std.proofs.Math.ListN.{get_or-map}
use Rattle.plan_model.specs.PlanData.{PlanData}
use Rattle.stream_model.specs.InputData.{InputData, BelongsTo}
use Rattle.layout_rules.specs.Below.{sum_below}
use Rattle.layout_rules.specs.Layouts.{partition_counts, source_at, number_at, through_all}
use Rattle.layout_rules.proofs.Facts.{row_is, row_at}

module _ (p : PlanData) (i : InputData) (belongs : BelongsTo p i) where
  -- the plan has the input's sources, and of each its partitions
  pub same_sources : length p.sources ≡ length i.sources
  same_sources =
      sym (length-map p.sources (λ s. s.partitions))
      ∙ sym (ap length belongs.partitions)
      ∙ length-map i.sources (λ ps. length ps)

  pub same_partitions : (x : ℕ) → slice_index (partition_counts p) x ≡ length (get_or i.sources x [])
  same_partitions x = ap (λ l. slice_index l x) (sym belongs.partitions) ∙ get_or-map (λ ps. length ps) i.sources x []

  -- the partition with a number through all sources is one of its source
  pub there : (q : ℕ) → q < sum_below (slice_index (partition_counts p)) (length p.sources) → (source_at p q < length i.sources) × (number_at p q < length (get_or i.sources (source_at p q) []))
  there q l =
      let r = row_is (slice_index (partition_counts p)) (length p.sources) q l in
      let n = same_sources in
      let m = same_partitions (source_at p q) in
      (omega (arith, r.0, n), omega (arith, r.1, r.2, m))

  -- and back
  pub back : (x k : ℕ) → x < length i.sources → k < length (get_or i.sources x []) → (source_at p (through_all p x k) ≡ x) × (number_at p (through_all p x k) ≡ k) × (through_all p x k < sum_below (slice_index (partition_counts p)) (length p.sources))
  back x k l m =
      let n = same_sources in
      let s = same_partitions x in
      let r = row_at (slice_index (partition_counts p)) (length p.sources) x k (omega (arith, l, n)) (omega (arith, m, s)) in
      let e : sum_below (slice_index (partition_counts p)) (source_at p (through_all p x k)) ≡ sum_below (slice_index (partition_counts p)) x = ap (sum_below (slice_index (partition_counts p))) r.0 in
      (r.0, omega (arith, e), r.1)
