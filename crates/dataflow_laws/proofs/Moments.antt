-- What is so at every moment of a leg on a compiled layout.
use Rattle.std.proofs.Common.{◌≡◌, ℕ, zero, suc, ◌/◌, ◌%◌, ◌+◌, ◌<◌, ◌≤◌, List, [], ◌∷◌, length, get_or, slice_index, cond, eqb, option_to_list, refl, sym, ap, subst, ◌∙◌, arith}
use Rattle.std.specs.List.{AllZip, filter}
use Rattle.plan_model.specs.declared.spec.Pane.{Pane}
use Rattle.plan_model.specs.PlanData.{PlanData, IsPlan}
use Rattle.plan_model.specs.Windows.{passes}
use Rattle.plan_model.specs.Rows.{aggregate_at, row_is_at}
use Rattle.stream_model.specs.declared.entry.Marked.{Marked}
use Rattle.stream_model.specs.InputData.{InputData, IsInput, BelongsTo}
use Rattle.stream_model.specs.Watermarks.{IsOrderly, IsCut, full_cut, records_before, merged_watermark}
use Rattle.stream_model.specs.PlanRows.{plan_aggregate}
use Rattle.dataflow_model.specs.declared.role.Role.TheVariants.{Source}
use Rattle.dataflow_model.specs.Leg.{Leg, Until, leg_of, count_at}
use Rattle.dataflow_model.specs.AbstractLayout.{AbstractLayout, AbstractInput, IsLayout, Deals, partition_read}
use Rattle.dataflow_model.specs.State.{State}
use Rattle.dataflow_model.specs.Runs.{given}
use Rattle.dataflow_model.specs.Cuts.{cut_of, aggregate_until, row_between}
use Rattle.dataflow_model.specs.InputCuts.{IsOrderlyInput, records_up_to}
use Rattle.dataflow_model.specs.Start.{IsLegStart, IsStart}
use Rattle.dataflow_model.specs.History.{History}
use Rattle.layout_rules.specs.declared.stage.Stage.{Stage}
use Rattle.layout_rules.specs.Rules.{IsCompiled}
use Rattle.layout_rules.specs.Scale.{ScaleData, IsScale}
use Rattle.layout_rules.specs.Layouts.{source_at, number_at, through_all}
use Rattle.layout_rules.proofs.Facts.{compiled_is_layout}
use Rattle.input_flow.specs.InputEntries.{entries_of, input_of, counts_at}
use Rattle.input_flow.proofs.Facts.{there, back, input_is_orderly, watermark_at_cut, records_dealt, full_is_cut, full_counts}
use Rattle.dataflow_laws.specs.Legs.{AreAt}
use Rattle.dataflow_laws.specs.Inputs.{HaveCut}
use Rattle.dataflow_laws.specs.Compiled.{layout_to}
use Rattle.dataflow_laws.specs.Edges.{task_watermark}
use Rattle.dataflow_laws.specs.Firing.{rows_given}
use Rattle.dataflow_laws.specs.Moments.{CompiledLegIsAtACut, CompiledEdgesKeepWatermarks, CompiledWindowsHaveTheWatermark, CompiledWindowsFireOnce}
use Rattle.dataflow_laws.proofs.Dealing.{orderly_of, merged_of, same_up_to}
use Rattle.dataflow_laws.proofs.Lineage.{starts_at}
use Rattle.dataflow_laws.proofs.Counts.{reading_at}
use Rattle.dataflow_laws.proofs.Edges.{edges_keep_watermarks, windows_have_the_watermark}
use Rattle.dataflow_laws.proofs.Firing.{windows_fire_once}
use Rattle.dataflow_laws.proofs.Delivered.{had}

-- ---- a cut with the counts that a function gives

abbrev counts_from : (ℕ → ℕ) → List (List Marked) → List ℕ
counts_from f [] = []
counts_from f (p ∷ ps) = f 0 ∷ counts_from (λ k. f (suc k)) ps

abbrev cut_from : (ℕ → ℕ → ℕ) → List (List (List Marked)) → List (List ℕ)
cut_from f [] = []
cut_from f (s ∷ ss) = counts_from (f 0) s ∷ cut_from (λ x. f (suc x)) ss

count_is : (f : ℕ → ℕ) (ps : List (List Marked)) (k : ℕ) → k < length ps → slice_index (counts_from f ps) k ≡ f k
count_is f [] k l = absurd (omega (arith, l))
count_is f (p ∷ ps) zero l = refl
count_is f (p ∷ ps) (suc k) l = count_is (λ n. f (suc n)) ps k (omega (arith, l))

cut_is : (f : ℕ → ℕ → ℕ) (ss : List (List (List Marked))) (x k : ℕ) → x < length ss → k < length (get_or ss x []) → count_at (cut_from f ss) x k ≡ f x k
cut_is f [] x k l m = absurd (omega (arith, l))
cut_is f (s ∷ ss) zero k l m = count_is (f 0) s k m
cut_is f (s ∷ ss) (suc x) k l m = cut_is (λ y. f (suc y)) ss x k (omega (arith, l)) m

counts_within : (f : ℕ → ℕ) (ps : List (List Marked)) → ((k : ℕ) → k < length ps → f k ≤ length (get_or ps k [])) → AllZip (λ p n. n ≤ length p) ps (counts_from f ps)
counts_within f [] h = tt
counts_within f (p ∷ ps) h = (h 0 (omega arith), counts_within (λ k. f (suc k)) ps (λ k l. h (suc k) (omega (arith, l))))

cut_within : (f : ℕ → ℕ → ℕ) (ss : List (List (List Marked))) → ((x k : ℕ) → x < length ss → k < length (get_or ss x []) → f x k ≤ length (get_or (get_or ss x []) k [])) → IsCut ss (cut_from f ss)
cut_within f [] h = tt
cut_within f (s ∷ ss) h = (counts_within (f 0) s (λ k m. h 0 k (omega arith) m), cut_within (λ x. f (suc x)) ss (λ x k l m. h (suc x) k (omega (arith, l)) m))

-- ---- a leg on a compiled layout

module _ (p : PlanData) (c : ScaleData) (i : InputData) (n : ℕ) (saves : List (List (List ℕ))) (until : Until) (stages : List Stage) (start : ℕ → State) (ip : IsPlan p) (sc : IsScale p c) (is : IsCompiled p c stages) (belongs : BelongsTo p i) (opens : IsLegStart p (layout_to p i n saves until stages) start) (h : History p (layout_to p i n saves until stages) start) where
  abbrev L : AbstractLayout
  L = layout_to p i n saves until stages

  abbrev X : AbstractInput
  X = input_of p i

  abbrev G : Leg
  G = leg_of n saves until (entries_of i).size

  laid : IsLayout L × Deals X G L
  laid = compiled_is_layout p c (entries_of i) G stages ip sc is

  -- how many entries of partition k of source x were read
  abbrev read : ℕ → ℕ → ℕ
  read x k = cut_of h.end (L.first_task x + k % L.parallelism x) (k / L.parallelism x)

  read_within : (x k : ℕ) → x < length i.sources → k < length (get_or i.sources x []) → read x k ≤ length (get_or (get_or i.sources x []) k [])
  read_within x k l m =
      let b = back p i belongs x k l m in
      let q = through_all p x k in
      let d = laid.1.dealt q b.2 in
      let t = L.first_task (source_at p q) + number_at p q % L.parallelism (source_at p q) in
      let e = number_at p q / L.parallelism (source_at p q) in
      let r = (reading_at p L start laid.0 opens t d.reads.early d.reads.role (h.run t)).size e d.place in
      let s = (laid.1.there t e d.reads.early d.reads.role d.place).size ∙ ap X.size d.back in
      subst (λ y. read y k ≤ length (get_or (get_or i.sources y []) k [])) b.0
      (subst (λ z. read (source_at p q) z ≤ length (get_or (get_or i.sources (source_at p q) []) z [])) b.1 (subst (λ z. cut_of h.end t e ≤ z) s r))

  came : AreAt X L h.end (counts_at p (cut_from read i.sources))
  came t k b a kl =
      let d = laid.1.there t k b a kl in
      let q = partition_read X L t k in
      let w = there p i belongs q d.some in
      (λ j. cut_of h.end (sym d.task j) (sym d.place j)) ∙ sym (cut_is read i.sources (source_at p q) (number_at p q) w.0 w.1)

  at_cut : (cut : List (List ℕ)) × IsCut i.sources cut × AreAt X L h.end (counts_at p cut)
  at_cut = (cut_from read i.sources, cut_within read i.sources read_within, came)

pub compiled_leg_is_at_a_cut : CompiledLegIsAtACut
compiled_leg_is_at_a_cut p c i n saves until stages start ip sc is belongs opens h = at_cut p c i n saves until stages start ip sc is belongs opens h

pub compiled_edges_keep_watermarks : CompiledEdgesKeepWatermarks
compiled_edges_keep_watermarks p c i n saves until stages start ip sc is input orderly belongs opens h cut comes =
    let l = layout_to p i n saves until stages in
    let x = input_of p i in
    let leg = leg_of n saves until (entries_of i).size in
    let laid : IsLayout l × Deals x leg l = compiled_is_layout p c (entries_of i) leg stages ip sc is in
    let o = orderly_of x leg l laid.1 p (input_is_orderly p i input orderly belongs) in
    let kept = edges_keep_watermarks p l start laid.0 o opens.leg opens.opens h in
    (λ t k d b a kl. kept.0 t k d b a kl ∙ (laid.1.there t k b a kl).watermark (cut_of h.end t k) ∙ ap (x.watermark (partition_read x l t k)) (comes t k b a kl), kept.1)

module _ (p : PlanData) (c : ScaleData) (i : InputData) (n : ℕ) (b : List (List ℕ)) (saves : List (List (List ℕ))) (until : Until) (stages : List Stage) (start : ℕ → State) (ip : IsPlan p) (sc : IsScale p c) (is : IsCompiled p c stages) (input : IsInput i) (orderly : IsOrderly i.time i.sources) (belongs : BelongsTo p i) (b_cut : IsCut i.sources b) (opens : IsLegStart p (layout_to p i n saves until stages) start) (has : HaveCut p i (layout_to p i n saves until stages) start b) (h : History p (layout_to p i n saves until stages) start) where
  abbrev l : AbstractLayout
  l = layout_to p i n saves until stages

  abbrev x : AbstractInput
  x = input_of p i

  abbrev leg : Leg
  leg = leg_of n saves until (entries_of i).size

  dealt : IsLayout l × Deals x leg l
  dealt = compiled_is_layout p c (entries_of i) leg stages ip sc is

  o : IsOrderlyInput p x
  o = input_is_orderly p i input orderly belongs

  starts : IsStart p l start (merged_watermark i.sources b)
  starts = starts_at p x o leg l dealt.1 start (counts_at p b) (merged_watermark i.sources b) opens.opens has.offsets (had p i l start b belongs b_cut has.windows) (watermark_at_cut p i b belongs b_cut)

  -- each partition as far as it goes
  abbrev whole : ℕ → ℕ → ℕ
  whole t k = (l.task t).size k

  read_so_far : (t k : ℕ) → t < l.before → (l.task t).role ≡ Source → k < (l.task t).inputs → (cut_of h.end t k ≤ whole t k) × (whole t k ≤ whole t k)
  read_so_far t k m a kl = ((reading_at p l start dealt.0 opens t m a (h.run t)).size k kl, omega arith)

  aggregates : (q : Pane) → aggregate_until p l whole q ≡ plan_aggregate p (records_before i.sources (full_cut i.sources)) q
  aggregates q =
      same_up_to x leg l dealt.1 p whole x.size (λ t k m a kl. (dealt.1.there t k m a kl).size) q
      ∙ ap (λ rs. aggregate_at p.window rs q) (sym (ap (records_up_to x) (full_counts p i)) ∙ records_dealt p i (full_cut i.sources) (passes p.filters) belongs (full_is_cut i.sources))

  fires : (u : ℕ) → l.before ≤ u → u < l.sink → (q : Pane) → filter (row_is_at q) (rows_given (given 0 (h.steps u) (h.end u)))
      ≡ cond (eqb (l.owner q.key) u) (option_to_list (row_between p (merged_watermark i.sources b) (task_watermark (h.end u)) q (plan_aggregate p (records_before i.sources (full_cut i.sources)) q))) []
  fires u lo hi q =
      windows_fire_once p l start (merged_watermark i.sources b) dealt.0 (orderly_of x leg l dealt.1 p o) opens.leg starts h whole read_so_far u lo hi q
      ∙ ap (λ a. cond (eqb (l.owner q.key) u) (option_to_list (row_between p (merged_watermark i.sources b) (task_watermark (h.end u)) q a)) []) (aggregates q)

pub compiled_windows_have_the_watermark : CompiledWindowsHaveTheWatermark
compiled_windows_have_the_watermark p c i n b saves until stages start ip sc is input orderly belongs b_cut opens has h cut is_cut comes =
    let l = layout_to p i n saves until stages in
    let x = input_of p i in
    let leg = leg_of n saves until (entries_of i).size in
    let laid = dealt p c i n b saves until stages start ip sc is input orderly belongs b_cut opens has h in
    windows_have_the_watermark p l start (merged_watermark i.sources b) (merged_watermark i.sources cut) laid.0 (orderly_of x leg l laid.1 p (input_is_orderly p i input orderly belongs)) opens.leg
    (starts p c i n b saves until stages start ip sc is input orderly belongs b_cut opens has h) h
    (merged_of x leg l laid.1 (cut_of h.end) (counts_at p cut) (merged_watermark i.sources cut) comes (watermark_at_cut p i cut belongs is_cut))

pub compiled_windows_fire_once : CompiledWindowsFireOnce
compiled_windows_fire_once p c i n b saves until stages start ip sc is input orderly belongs b_cut opens has h u lo hi q =
    fires p c i n b saves until stages start ip sc is input orderly belongs b_cut opens has h u lo hi q
