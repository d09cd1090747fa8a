-- A leg on a compiled layout has come to a cut, and has stopped there or not.
use Rattle.std.proofs.Common.{◌≡◌, ℕ, suc, ◌<◌, ◌≤◌, List, [], ◌∷◌, Bool, true, false, length, get_or, slice_index, refl, sym, ap, subst, ◌∙◌, inl, inr, arith}
use Rattle.std.specs.Prelude.{nat_lt}
use Rattle.std.specs.List.{AllZip}
use Rattle.std.proofs.lemmas.Bool.{cases_Bool, ltb-true, ltb-false, false≢true}
use Rattle.plan_model.specs.PlanData.{PlanData, IsPlan}
use Rattle.stream_model.specs.declared.entry.Marked.{Marked}
use Rattle.stream_model.specs.InputData.{InputData, IsInput, BelongsTo}
use Rattle.stream_model.specs.Watermarks.{IsOrderly, IsCut, IsBefore, full_cut}
use Rattle.dataflow_model.specs.declared.ending.Ending.TheVariants.{AtCut}
use Rattle.dataflow_model.specs.Ending.{may_stop}
use Rattle.dataflow_model.specs.Leg.{Leg, Until, leg_of, count_at, ending_of}
use Rattle.dataflow_model.specs.Leg.Until.{ToEnd, ToCut, TillAsked}
use Rattle.dataflow_model.specs.AbstractLayout.{AbstractLayout, AbstractInput, IsLayout, Deals, reader_of, place_in_reader}
use Rattle.dataflow_model.specs.State.{State}
use Rattle.dataflow_model.specs.Start.{IsLegStart}
use Rattle.dataflow_model.specs.History.{History, IsComplete}
use Rattle.layout_rules.specs.declared.stage.Stage.{Stage}
use Rattle.layout_rules.specs.Rules.{IsCompiled}
use Rattle.layout_rules.specs.Scale.{ScaleData, IsScale}
use Rattle.layout_rules.specs.Layouts.{through_all}
use Rattle.layout_rules.proofs.Facts.{compiled_is_layout}
use Rattle.input_flow.specs.InputEntries.{entries_of, input_of, counts_at}
use Rattle.input_flow.proofs.Facts.{back, input_is_orderly}
use Rattle.dataflow_laws.specs.Legs.{AreAt}
use Rattle.dataflow_laws.specs.Compiled.{cut_to, layout_to}
use Rattle.dataflow_laws.specs.Stopped.{ComesTo, CompiledLegComes}
use Rattle.dataflow_laws.proofs.Dealing.{orderly_of}
use Rattle.dataflow_laws.proofs.Openings.{opened}
use Rattle.dataflow_laws.proofs.Complete.{flow_of, drained}
use Rattle.dataflow_laws.proofs.Owned.{later}
use Rattle.dataflow_laws.proofs.Compiled.{comes, goes}
use Rattle.dataflow_laws.proofs.Moments.{compiled_leg_is_at_a_cut}
use Rattle.dataflow_laws.proofs.Halting.{sink_tells_stops}

-- ---- cuts of one input, by their counts

same_counts : (ps : List (List Marked)) (ms ns : List ℕ) → AllZip (λ p n. n ≤ length p) ps ms → AllZip (λ p n. n ≤ length p) ps ns → ((k : ℕ) → k < length ps → slice_index ms k ≡ slice_index ns k) → ms ≡ ns
same_counts [] [] [] a b h = refl
same_counts [] [] (n ∷ ns) a b h = absurd b
same_counts [] (m ∷ ms) ns a b h = absurd a
same_counts (p ∷ ps) [] ns a b h = absurd a
same_counts (p ∷ ps) (m ∷ ms) [] a b h = absurd b
same_counts (p ∷ ps) (m ∷ ms) (n ∷ ns) a b h = λ i. h 0 (omega arith) i ∷ same_counts ps ms ns a.1 b.1 (λ k l. h (suc k) (omega (arith, l))) i

same_cut : (ss : List (List (List Marked))) (c d : List (List ℕ)) → IsCut ss c → IsCut ss d → ((x k : ℕ) → x < length ss → k < length (get_or ss x []) → count_at c x k ≡ count_at d x k) → c ≡ d
same_cut [] [] [] a b h = refl
same_cut [] [] (n ∷ ns) a b h = absurd b
same_cut [] (m ∷ ms) ns a b h = absurd a
same_cut (s ∷ ss) [] d a b h = absurd a
same_cut (s ∷ ss) (m ∷ c) [] a b h = absurd b
same_cut (s ∷ ss) (m ∷ c) (n ∷ d) a b h = λ i. same_counts s m n a.0 b.0 (λ k l. h 0 k (omega arith) l) i ∷ same_cut ss c d a.1 b.1 (λ x k l q. h (suc x) k (omega (arith, l)) q) i

counts_up : (ps : List (List Marked)) (ms ns : List ℕ) → AllZip (λ p n. n ≤ length p) ps ms → AllZip (λ p n. n ≤ length p) ps ns → ((k : ℕ) → k < length ps → slice_index ms k ≤ slice_index ns k) → AllZip (λ m n. m ≤ n) ms ns
counts_up [] [] [] a b h = tt
counts_up [] [] (n ∷ ns) a b h = absurd b
counts_up [] (m ∷ ms) ns a b h = absurd a
counts_up (p ∷ ps) [] ns a b h = absurd a
counts_up (p ∷ ps) (m ∷ ms) [] a b h = absurd b
counts_up (p ∷ ps) (m ∷ ms) (n ∷ ns) a b h = (h 0 (omega arith), counts_up ps ms ns a.1 b.1 (λ k l. h (suc k) (omega (arith, l))))

before_by : (ss : List (List (List Marked))) (c d : List (List ℕ)) → IsCut ss c → IsCut ss d → ((x k : ℕ) → x < length ss → k < length (get_or ss x []) → count_at c x k ≤ count_at d x k) → IsBefore c d
before_by [] [] [] a b h = tt
before_by [] [] (n ∷ ns) a b h = absurd b
before_by [] (m ∷ ms) ns a b h = absurd a
before_by (s ∷ ss) [] d a b h = absurd a
before_by (s ∷ ss) (m ∷ c) [] a b h = absurd b
before_by (s ∷ ss) (m ∷ c) (n ∷ d) a b h = (counts_up s m n a.0 b.0 (λ k l. h 0 k (omega arith) l), before_by ss c d a.1 b.1 (λ x k l q. h (suc x) k (omega (arith, l)) q))

-- ---- a leg

module _ (p : PlanData) (c : ScaleData) (i : InputData) (n : ℕ) (b : List (List ℕ)) (saves : List (List (List ℕ))) (until : Until) (stages : List Stage) (start : ℕ → State) (ip : IsPlan p) (sc : IsScale p c) (is : IsCompiled p c stages) (input : IsInput i) (orderly : IsOrderly i.time i.sources) (belongs : BelongsTo p i) (b_cut : IsCut i.sources b) (to_cut : IsCut i.sources (cut_to i until)) (opens : IsLegStart p (layout_to p i n saves until stages) start) (begins : AreAt (input_of p i) (layout_to p i n saves until stages) start (counts_at p b)) (h : History p (layout_to p i n saves until stages) start) (done : IsComplete h) where
  abbrev pub L : AbstractLayout
  L = layout_to p i n saves until stages

  abbrev pub X : AbstractInput
  X = input_of p i

  abbrev G : Leg
  G = leg_of n saves until (entries_of i).size

  laid : IsLayout L × Deals X G L
  laid = compiled_is_layout p c (entries_of i) G stages ip sc is

  pub came : (cut : List (List ℕ)) × IsCut i.sources cut × AreAt X L h.end (counts_at p cut)
  came = compiled_leg_is_at_a_cut p c i n saves until stages start ip sc is belongs opens h

  -- what has the same counts as what was read is the cut that was come to
  is_at : (to : List (List ℕ)) → IsCut i.sources to → AreAt X L h.end (counts_at p to) → came.0 ≡ to
  is_at to to_is at = same_cut i.sources came.0 to came.1 to_is (λ x k l m.
      let q = back p i belongs x k l m in
      let d = laid.1.dealt (through_all p x k) q.2 in
      let t = reader_of X L (through_all p x k) in
      let e = place_in_reader X L (through_all p x k) in
      let here : counts_at p came.0 (through_all p x k) ≡ counts_at p to (through_all p x k) =
      ap (counts_at p came.0) (sym d.back) ∙ sym (came.2 t e d.reads.early d.reads.role d.place) ∙ at t e d.reads.early d.reads.role d.place ∙ ap (counts_at p to) d.back in
      (λ j. count_at came.0 (sym q.0 j) (sym q.1 j)) ∙ here ∙ (λ j. count_at to (q.0 j) (q.1 j)))

  rises : IsBefore b came.0
  rises =
      let o = orderly_of X G L laid.1 p (input_is_orderly p i input orderly belongs) in
      let op = opened p L start laid.0 o opens.leg opens.opens in
      let up = later p X G L laid.0 laid.1 start op (flow_of h) (drained p L laid.0 start opens.leg opens.opens h done) (counts_at p b) (counts_at p came.0) begins came.2 in
      before_by i.sources b came.0 b_cut came.1 (λ x k l m.
      let q = back p i belongs x k l m in
      let here = up (through_all p x k) q.2 in
      let one : counts_at p b (through_all p x k) ≡ count_at b x k = (λ j. count_at b (q.0 j) (q.1 j)) in
      let two : counts_at p came.0 (through_all p x k) ≡ count_at came.0 x k = (λ j. count_at came.0 (q.0 j) (q.1 j)) in
      omega (arith, here, one, two))

  abbrev pub passed : Bool
  passed = nat_lt (length saves) (h.end L.sink).next

  -- where it did not stop it is where it was to go, and that is no cut
  closed : passed ≡ false → (ending_of until ≡ AtCut → ⊥) × (came.0 ≡ cut_to i until)
  closed e =
      let all = (sink_tells_stops p L start laid.0 opens h done).1 (ltb-false (length saves) (h.end L.sink).next e) in
      (all.ending, is_at (cut_to i until) to_cut (λ t k early a kl. all.read t k early a kl ∙ goes p i n saves until stages laid.1 t k early a kl))

  ended : (u : Until) → until ≡ u → passed ≡ false → came.0 ≡ full_cut i.sources
  ended ToEnd same e = (closed e).1 ∙ ap (cut_to i) same
  ended (ToCut end) same e = absurd ((closed e).0 (ap ending_of same))
  ended TillAsked same e = (closed e).1 ∙ ap (cut_to i) same

  to_end : until ≡ ToEnd → passed ≡ false
  to_end same = elim (cases_Bool passed) [
    | inr e ↦ e
    | inl e ↦ absurd (false≢true (sym (ap (λ u. may_stop (ending_of u)) same) ∙ (sink_tells_stops p L start laid.0 opens h done).0 (ltb-true (length saves) (h.end L.sink).next e)))
  ]

  to_the_cut : (end : List (List ℕ)) → until ≡ ToCut end → (passed ≡ true) × (came.0 ≡ end)
  to_the_cut end same = (
    elim (cases_Bool passed) [ inl e ↦ e | inr e ↦ absurd ((closed e).0 (ap ending_of same)) ],
    is_at end (at_cut end same) (at_end end same),
  )
    where
      at_cut : (end : List (List ℕ)) → until ≡ ToCut end → IsCut i.sources end
      at_cut end same = subst (IsCut i.sources) (ap (cut_to i) same) to_cut

      at_end : (end : List (List ℕ)) → until ≡ ToCut end → AreAt X L h.end (counts_at p end)
      at_end end same = subst (λ to. AreAt X L h.end (counts_at p to)) (ap (cut_to i) same) (comes p c i n saves until stages ip sc is (λ e. (let z : ToCut end ≡ TillAsked = sym same ∙ e in cc)) start opens h done)

  pub it_comes : ComesTo i b until passed came.0
  it_comes = record { is_cut = came.1; no_earlier = rises; ended = ended until refl; to_end = to_end; to_cut = to_the_cut }

pub compiled_leg_comes : CompiledLegComes
compiled_leg_comes p c i n b saves until stages start ip sc is input orderly belongs b_cut to_cut opens begins h done =
    let at = came p c i n b saves until stages start ip sc is input orderly belongs b_cut to_cut opens begins h done in
    (at.0, it_comes p c i n b saves until stages start ip sc is input orderly belongs b_cut to_cut opens begins h done, at.2)
