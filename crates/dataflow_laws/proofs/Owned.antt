-- Whatever a leg begins with, what stands in its windows is of their own keys, and has no more records than were read.
use Rattle.std.proofs.Common.{◌≡◌, ℕ, zero, suc, ◌+◌, ◌-◌, ◌<◌, ◌≤◌, List, [], ◌∷◌, Bool, cond, length, refl, sym, ap, ◌∙◌, ◌⊎◌, inl, inr, arith, Option, Some, None, pos}
use Rattle.std.proofs.lemmas.Bool.{cases_eq, cases_Bool}
use Rattle.std.proofs.lemmas.List.{get_or_default}
use Rattle.std.specs.FinMap.{get}
use Rattle.std.specs.List.{filter}
use Rattle.plain_data.specs.Record.{Record}
use Rattle.plan_model.specs.declared.spec.Pane.{Pane}
use Rattle.plan_model.specs.declared.spec.WindowSpec.{WindowSpec}
use Rattle.plan_model.specs.PlanData.{PlanData}
use Rattle.plan_model.specs.Windows.{is_at, is_start}
use Rattle.plan_model.specs.Aggregates.{Aggregated, aggregate_of, merge}
use Rattle.plan_model.specs.Rows.{aggregate_at, is_due}
use Rattle.plan_model.proofs.Facts.{count_of_some, count_merged}
use Rattle.dataflow_model.specs.declared.message.Message.{Message}
use Rattle.dataflow_model.specs.declared.role.Role.TheVariants.{Source}
use Rattle.dataflow_model.specs.Message.{records_of}
use Rattle.dataflow_model.specs.Leg.{Leg, leg_of}
use Rattle.dataflow_model.specs.Sums.{total}
use Rattle.dataflow_model.specs.AbstractLayout.{AbstractLayout, AbstractInput, IsLayout, Deals, reader_of, place_in_reader, partition_read}
use Rattle.dataflow_model.specs.State.{State}
use Rattle.dataflow_model.specs.Cuts.{cut_of}
use Rattle.dataflow_model.specs.InputCuts.{records_up_to}
use Rattle.dataflow_model.specs.Flow.{Flow, IsDrained}
use Rattle.dataflow_model.proofs.Facts.{total_add, total_le}
use Rattle.layout_rules.proofs.Facts.{compiled_is_layout}
use Rattle.input_flow.specs.InputEntries.{entries_of, input_of, counts_at}
use Rattle.input_flow.proofs.Facts.{input_is_orderly}
use Rattle.dataflow_laws.specs.Legs.{AreAt, HaveMarks}
use Rattle.dataflow_laws.specs.Owned.{HaveOwnPanes, CompiledLegKeepsPanes, CompiledLegKeepsPanesAt}
use Rattle.dataflow_laws.specs.Compiled.{cut_to, layout_to}
use Rattle.dataflow_laws.proofs.Streams.{weigh, weigh_log}
use Rattle.dataflow_laws.proofs.Logs.{weigh_of}
use Rattle.dataflow_laws.proofs.Reader.{below}
use Rattle.dataflow_laws.proofs.Windows.{records, content}
use Rattle.dataflow_laws.proofs.Same.{same_aggregate, aggregate_nil}
use Rattle.dataflow_laws.proofs.Graph.{IsOpened, read_at, windows_at, orderly_taken, low, arrives, foreign, rested}
use Rattle.dataflow_laws.proofs.Legs.{apart}
use Rattle.dataflow_laws.proofs.Dealing.{weights, weight_up_to, orderly_of}
use Rattle.dataflow_laws.proofs.Openings.{opened}
use Rattle.dataflow_laws.proofs.Complete.{flow_of, drained}
use Rattle.dataflow_laws.proofs.Admitted.{partitions_before}
use Rattle.dataflow_laws.proofs.Compiled.{comes}

-- ---- how many records a pane has

-- 1 for a record that is in the pane
abbrev there : WindowSpec → Pane → Record → ℕ
there w q r = cond (is_at w q r) 1 0

length_weighs : (test : Record → Bool) (rs : List Record) → length (filter test rs) ≡ weigh (λ r. cond (test r) 1 0) rs
length_weighs test [] = refl
length_weighs test (r ∷ rs) = let h = length_weighs test rs in elim (cases_Bool (test r)) [ inl e ↦ rw e (omega (arith, h)) | inr e ↦ rw e (omega (arith, h)) ]

count_at : (w : WindowSpec) (rs : List Record) (q : Pane) (a : Aggregated) → aggregate_at w rs q ≡ Some a → a.count ≡ weigh (there w q) rs
count_at w rs q a e =
    elim (cases_Bool (is_start w q.start)) [
      | inl s ↦ count_of_some w.aggregates (filter (is_at w q) rs) a (sym (ap (λ t. cond t (aggregate_of w.aggregates (filter (is_at w q) rs)) None) s) ∙ e) ∙ length_weighs (is_at w q) rs
      | inr s ↦ absurd (let z : None ≡ Some a = sym (ap (λ t. cond t (aggregate_of w.aggregates (filter (is_at w q) rs)) None) s) ∙ e in cc)
    ]

cases_option : {X : Type 0} (o : Option X) → (o ≡ None) ⊎ ((x : X) × (o ≡ Some x))
cases_option None = inl refl
cases_option (Some x) = inr (x, refl)

-- ---- weights of at most 1

module _ (g : Record → ℕ) (one : (r : Record) → g r ≤ 1) where
  weigh_few : (rs : List Record) → weigh g rs ≤ length rs
  weigh_few [] = omega arith
  weigh_few (r ∷ rs) = let h = weigh_few rs in let o = one r in omega (arith, h, o)

  -- what more entries weigh is at most their records
  below_few : (entry : ℕ → Message) (a n : ℕ) → below g entry (a + n) + total a (λ k. length (records_of (entry k))) ≤ total (a + n) (λ k. length (records_of (entry k))) + below g entry a
  below_few entry a zero = let e : a + 0 ≡ a = omega arith in rw e (omega arith)
  below_few entry a (suc n) =
      let h = below_few entry a n in
      let f = weigh_few (records_of (entry (a + n))) in
      let s = weigh_of g (entry (a + n)) in
      let e : a + suc n ≡ suc (a + n) = omega arith in
      rw e (omega (arith, h, f, s))

-- what sums come to, where this holds term by term
sums_few : (n : ℕ) (f g f' g' : ℕ → ℕ) → ((k : ℕ) → k < n → f' k + g k ≤ g' k + f k) → total n f' + total n g ≤ total n g' + total n f
sums_few n f g f' g' h =
    let a = total_le n (λ k. f' k + g k) (λ k. g' k + f k) h in
    let b = total_add n f' g in
    let c = total_add n g' f in
    omega (arith, a, b, c)

-- ---- a leg

module _ (p : PlanData) (x : AbstractInput) (leg : Leg) (l : AbstractLayout) (ok : IsLayout l) (d : Deals x leg l) (start : ℕ → State) (op : IsOpened p l start) (H : Flow p l start) (drain : IsDrained H) (b c : ℕ → ℕ) (from : AreAt x l start b) (to : AreAt x l H.end c) where
  -- how many records the entries before a cut have
  abbrev count : (ℕ → ℕ) → ℕ
  count cut = total x.partitions (λ q. total (cut q) (λ n. length (records_of (x.entry q n))))

  pub later : (q : ℕ) → q < x.partitions → b q ≤ c q
  later q k =
      let y = d.dealt q k in
      let r = read_at p l ok start op H (reader_of x l q) y.reads.early y.reads.role in
      let g = r.grows (place_in_reader x l q) in
      let e = from (reader_of x l q) (place_in_reader x l q) y.reads.early y.reads.role y.place ∙ ap b y.back in
      let e' = to (reader_of x l q) (place_in_reader x l q) y.reads.early y.reads.role y.place ∙ ap c y.back in
      omega (arith, g, e, e')

  few_between : (h : Record → ℕ) → ((r : Record) → h r ≤ 1) → weigh h (records_up_to x c) + count b ≤ count c + weigh h (records_up_to x b)
  few_between h one =
      let g : Record → ℕ = λ r. cond (x.pass r) (h r) 0 in
      let g_one : (r : Record) → g r ≤ 1 = λ r. elim (cases_Bool (x.pass r)) [ inl e ↦ rw e (one r) | inr e ↦ rw e (omega arith) ] in
      let s = sums_few x.partitions (λ q. below g (x.entry q) (b q)) (λ q. total (b q) (λ n. length (records_of (x.entry q n)))) (λ q. below g (x.entry q) (c q)) (λ q. total (c q) (λ n. length (records_of (x.entry q n)))) (λ q k.
      let m = later q k in
      let f = below_few g g_one (x.entry q) (b q) (c q - b q) in
      let e : b q + (c q - b q) ≡ c q = omega (arith, m) in
      (rw e at f)) in
      let u = weight_up_to x h b in
      let v = weight_up_to x h c in
      omega (arith, s, u, v)

  module _ (u : ℕ) (lo : l.before ≤ u) (hi : u < l.sink) (q : Pane) where
    -- what stands in a pane at the end is what was there at the start with the records that came
    stands : (a : Aggregated) → get (H.end u).windows q ≡ Some a → content p.window (start u).windows (H.steps u) q ≡ Some a
    stands a e =
        let ns : (l.task u).role ≡ Source → ⊥ = λ z. (let r = ok.roles_window u lo hi in cc) in
        let s = (windows_at p l ok start op H u lo hi).settled (orderly_taken p l ok start op H u hi ns) q in
        let due : Bool = is_due p.window (low p l ok start op H u) q.start in
        let c : Option Aggregated = content p.window (start u).windows (H.steps u) q in
        elim (cases_Bool due) [
          | inl y ↦ absurd (let z : None ≡ Some a = sym (ap (λ t. cond t None c) y) ∙ sym s.has ∙ e in cc)
          | inr y ↦ sym (ap (λ t. cond t None c) y) ∙ sym s.has ∙ e
        ]

    -- of another's keys nothing came
    none_came : (l.owner q.key ≡ u → ⊥) → aggregate_at p.window (records (H.steps u)) q ≡ None
    none_came ne =
        same_aggregate p.window q (records (H.steps u)) [] (λ h support. foreign p l ok start op H u lo hi h (λ r o. support r (apart p.window q r (λ e. ne (ap l.owner (sym e) ∙ o)))))
        ∙ aggregate_nil p.window q

    own : (n : ℕ) → HaveOwnPanes l start n → (a : Aggregated) → get (H.end u).windows q ≡ Some a → l.owner q.key ≡ u
    own n has a e =
        elim (cases_eq (l.owner q.key) u) [
          | inl y ↦ y
          | inr ne ↦ absurd (
              let first : get (start u).windows q ≡ None = elim (cases_option (get (start u).windows q)) [ inl z ↦ z | inr z ↦ absurd (ne (has u lo hi q z.0 z.1).0) ] in
              let none : content p.window (start u).windows (H.steps u) q ≡ None = ap (λ o. merge p.window.aggregates o (aggregate_at p.window (records (H.steps u)) q)) first ∙ none_came ne in
              let z : None ≡ Some a = sym none ∙ stands a e in
              cc)
        ]

    -- of its own keys no more came than were read
    few_came : l.owner q.key ≡ u → weigh (there p.window q) (records (H.steps u)) + count b ≤ count c
    few_came own =
        let h : Record → ℕ = there p.window q in
        let came = arrives p l ok start op H u lo hi h (λ r ne. ap (λ z. cond z 1 0) (apart p.window q r (λ e. ne (ap l.owner e ∙ own)))) (λ s t y z r. ap (weigh_log (rested l s h)) (drain.rings s t r)) in
        let s = weights x leg l d h (cut_of start) b from in
        let t = weights x leg l d h (cut_of H.end) c to in
        let f = few_between h (λ r. elim (cases_Bool (is_at p.window q r)) [ inl e ↦ rw e (omega arith) | inr e ↦ rw e (omega arith) ]) in
        omega (arith, came, s, t, f)

  pub keeps_panes : HaveOwnPanes l start (count b) → HaveOwnPanes l H.end (count c)
  keeps_panes has u lo hi q a e =
      let o = own u lo hi q (count b) has a e in
      let m = count_merged p.window.aggregates (get (start u).windows q) (aggregate_at p.window (records (H.steps u)) q) a (count b) (weigh (there p.window q) (records (H.steps u)))
      (λ y f. (has u lo hi q y f).1)
      (λ y f. let k = count_at p.window (records (H.steps u)) q y f in omega (arith, k))
      (stands u lo hi q a e) in
      let f = few_came u lo hi q o in
      (o, omega (arith, m, f))

  pub keeps_marks : HaveMarks x l H.end c
  keeps_marks t k n m a kl =
      let r = read_at p l ok start op H t m a in
      get_or_default (H.end t).inputs.marks k n (pos 0) (omega (arith, r.length_marks, kl)) ∙ r.marks k kl ∙ (d.there t k m a kl).watermark (cut_of H.end t k) ∙ ap (x.watermark (partition_read x l t k)) (to t k m a kl)

pub compiled_leg_keeps_panes_at : CompiledLegKeepsPanesAt
compiled_leg_keeps_panes_at p c i n b saves until stages start ip sc is input orderly belongs b_cut opens at_start has h done cut is_cut came =
    let x = input_of p i in
    let l = layout_to p i n saves until stages in
    let leg = leg_of n saves until (entries_of i).size in
    let both = compiled_is_layout p c (entries_of i) leg stages ip sc is in
    let o = orderly_of x leg l both.1 p (input_is_orderly p i input orderly belongs) in
    let op = opened p l start both.0 o opens.leg opens.opens in
    let drain = drained p l both.0 start opens.leg opens.opens h done in
    let before = partitions_before p i b belongs b_cut in
    let after = partitions_before p i cut belongs is_cut in
    let kept = keeps_panes p x leg l both.0 both.1 start op (flow_of h) drain (counts_at p b) (counts_at p cut) at_start came (λ u lo hi q a e. let y = has u lo hi q a e in (y.0, omega (arith, y.1, before))) in (
      keeps_marks p x leg l both.0 both.1 start op (flow_of h) drain (counts_at p b) (counts_at p cut) at_start came,
      λ u lo hi q a e. let y = kept u lo hi q a e in (y.0, omega (arith, y.1, after)),
    )

pub compiled_leg_keeps_panes : CompiledLegKeepsPanes
compiled_leg_keeps_panes p c i n b saves until stages start ip sc is input orderly belongs b_cut c_cut ask opens at_start has h done =
    let came = comes p c i n saves until stages ip sc is ask start opens h done in
    let kept = compiled_leg_keeps_panes_at p c i n b saves until stages start ip sc is input orderly belongs b_cut opens at_start has h done (cut_to i until) c_cut came in
    (came, kept.0, kept.1)
