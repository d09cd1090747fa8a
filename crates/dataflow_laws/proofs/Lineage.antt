-- Legs of any layouts deliver together what is due.
use Rattle.std.proofs.Common.{◌≡◌, ℕ, zero, suc, ◌<◌, ◌≤◌, List, [], ◌++◌, Bool, true, false, cond, eqb, get_or, refl, sym, ap, ◌∙◌, inl, inr, arith, append-nil, Option, None, option_to_list, option_and_then, if◌then◌else◌, ℤ, ◌≤ℤ◌}
use Rattle.std.proofs.lemmas.Bool.{cases_Bool, cases_lt, eq-eqb, false≢true}
use Rattle.std.proofs.lemmas.Int.{ints}
use Rattle.std.proofs.lemmas.List.Elements.{filter-append}
use Rattle.std.specs.FinMap.{get}
use Rattle.plain_data.specs.Times.{lowest}
use Rattle.plan_model.specs.Aggregates.{Aggregated}
use Rattle.plan_model.specs.declared.spec.Pane.{Pane}
use Rattle.plan_model.specs.declared.spec.Row.{Row}
use Rattle.plan_model.specs.PlanData.{PlanData}
use Rattle.plan_model.specs.Rows.{aggregate_at, is_due, kept_row, row_is_at, AreRowsOf}
use Rattle.dataflow_model.specs.declared.role.Role.{Role}
use Rattle.dataflow_model.specs.declared.role.Role.TheVariants.{Source, Chain, Window, Sink}
use Rattle.dataflow_model.specs.AbstractTask.{AbstractTask}
use Rattle.dataflow_model.specs.State.{State}
use Rattle.dataflow_model.specs.Opening.{IsOpening, IsUntouched}
use Rattle.dataflow_model.specs.Leg.{Leg}
use Rattle.dataflow_model.specs.AbstractLayout.{AbstractLayout, IsLayout, AbstractInput, Deals, reader_of, place_in_reader, partition_read}
use Rattle.dataflow_model.specs.Cuts.{cut_of, AreOrderlySources, IsMergedWatermark, joined, aggregate_until, row_between}
use Rattle.dataflow_model.specs.InputCuts.{IsOrderlyInput, IsWatermarkAt, aggregate_up_to, snapshot_at, due_row}
use Rattle.dataflow_model.specs.Start.{AreOpenings, IsStart}
use Rattle.dataflow_laws.specs.Laws.{IsExact}
use Rattle.dataflow_laws.specs.Legs.{AreAt, JobLeg, IsBetween, BeginsAnew, GoesOn, leg_rows, cut_left, Legs, HaveSnapshot, LeaveSnapshot, LegBetweenIsExact, LegsAreExact}
use Rattle.dataflow_laws.specs.Legs.Legs.{first, next}
use Rattle.dataflow_laws.proofs.Same.{aggregate_nil}
use Rattle.dataflow_laws.proofs.Windows.{later}
use Rattle.dataflow_laws.proofs.Graph.{read_at}
use Rattle.dataflow_laws.proofs.Legs.{IsBegun, aggregate_between, later_watermark}
use Rattle.dataflow_laws.proofs.Openings.{begun}
use Rattle.dataflow_laws.proofs.Complete.{flow_of, drained}
use Rattle.dataflow_laws.proofs.Dealing.{IsSame, same_up_to, merged_of, orderly_of}
use Rattle.dataflow_laws.proofs.Exact.{leg_is_exact}
use Rattle.dataflow_laws.proofs.Admission.{source_before}

-- a layout that deals the input, and a cut of its tasks that is a cut of the input
module _ (p : PlanData) (i : AbstractInput) (o : IsOrderlyInput p i) (leg : Leg) (l : AbstractLayout) (d : Deals i leg l) where
  -- how many entries the partitions have
  sizes : ℕ → ℕ → ℕ
  sizes t k = (l.task t).size k

  sizes_are : (t k : ℕ) → t < l.before → (l.task t).role ≡ Source → k < (l.task t).inputs → sizes t k ≡ i.size (partition_read i l t k)
  unfolding sizes
  sizes_are t k b a kl = (d.there t k b a kl).size

  -- what a pane that is due comes to is what it comes to on the whole input
  whole_at : (mine : ℕ → ℕ → ℕ) (cut : ℕ → ℕ) (v : ℤ) → IsSame i leg l d mine cut
      → ((t k : ℕ) → t < l.before → (l.task t).role ≡ Source → k < (l.task t).inputs → mine t k ≤ (l.task t).size k) → IsWatermarkAt i cut v
      → (q : Pane) → is_due p.window v q.start ≡ true → aggregate_up_to p i cut q ≡ aggregate_up_to p i i.size q
  unfolding sizes
  whole_at mine cut v same within wt q due =
      let merged = merged_of i leg l d mine cut v same wt in
      sym (same_up_to i leg l d p mine cut same q)
      ∙ aggregate_between p l (orderly_of i leg l d p o) q mine sizes v due (λ t k b a kl. let h = within t k b a kl in (h, omega arith, merged.below t k b a kl))
      ∙ same_up_to i leg l d p sizes i.size sizes_are q

  -- the row of a pane that becomes due
  pub row_at : (mine : ℕ → ℕ → ℕ) (cut : ℕ → ℕ) (w v : ℤ) → IsSame i leg l d mine cut
      → ((t k : ℕ) → t < l.before → (l.task t).role ≡ Source → k < (l.task t).inputs → mine t k ≤ (l.task t).size k) → IsWatermarkAt i cut v
      → (q : Pane) → option_to_list (row_between p w v q (aggregate_until p l mine q)) ≡ option_to_list (if is_due p.window w q.start then None else due_row p i v q)
  row_at mine cut w v same within wt q =
      elim (cases_Bool (is_due p.window v q.start)) [
        | inl e ↦ ap (λ a. option_to_list (row_between p w v q a)) (same_up_to i leg l d p mine cut same q ∙ whole_at mine cut v same within wt q e)
        | inr e ↦ rw e refl
      ]

  -- tasks that open with the snapshot of a cut of the input
  pub starts_at : (start : ℕ → State) (cut : ℕ → ℕ) (w : ℤ) → AreOpenings p l start → AreAt i l start cut → HaveSnapshot p i l start cut w → IsWatermarkAt i cut w → IsStart p l start w
  starts_at start cut w opens begins restored wf = record {
    opens = opens;
    merged = merged_of i leg l d (cut_of start) cut w begins wf;
    windows = λ u b m q. restored u b m q ∙ ap (λ a. cond (eqb (l.owner q.key) u) (cond (is_due p.window w q.start) None a) None) (sym (same_up_to i leg l d p (cut_of start) cut begins q));
  }

module _ (p : PlanData) (i : AbstractInput) (from to : ℕ → ℕ) (w v : ℤ) (o : IsOrderlyInput p i) (wf : IsWatermarkAt i from w) (g : JobLeg p i) (bt : IsBetween p i g from w to) (wt : IsWatermarkAt i to v) where
  orderly : AreOrderlySources p g.layout
  orderly = orderly_of i g.leg g.layout g.deals p o

  starts : IsStart p g.layout g.start w
  starts = starts_at p i o g.leg g.layout g.deals g.start from w bt.opens bt.begins bt.restored wf

  merged_to : IsMergedWatermark g.layout (cut_of g.history.end) v
  merged_to = merged_of i g.leg g.layout g.deals (cut_of g.history.end) to v bt.comes wt

  exact : IsExact p g.layout w v (cut_of g.history.end) g.history.end
  exact = leg_is_exact p g.layout g.start w v g.is_layout orderly g.is_leg starts g.history g.complete merged_to

  known : IsBegun p g.layout g.start w
  known = begun p g.layout g.start w g.is_layout orderly g.is_leg starts

  -- how far a partition was read at the start and at the end, and how many entries it has
  counts : (t k : ℕ) → t < g.layout.before → (g.layout.task t).role ≡ Source → k < (g.layout.task t).inputs → (cut_of g.start t k ≤ cut_of g.history.end t k) × (cut_of g.history.end t k ≤ (g.layout.task t).size k)
  counts t k b a kl =
      let r = read_at p g.layout g.is_layout g.start known.opened (flow_of g.history) t b a in
      let x = r.grows k in
      let y = r.within k kl in
      let z = g.is_leg.within t k b a kl in
      (x, omega (arith, y, z))

  whole_before : (q : Pane) → is_due p.window w q.start ≡ true → aggregate_up_to p i from q ≡ aggregate_up_to p i i.size q
  whole_before = whole_at p i o g.leg g.layout g.deals (cut_of g.start) from w bt.begins (λ t k b a kl. let c = counts t k b a kl in omega (arith, c)) wf

  rises : w ≤ℤ v
  rises = later_watermark p g.layout g.is_layout g.start w known (flow_of g.history) (drained p g.layout g.is_layout g.start g.is_leg bt.opens g.history g.complete) v merged_to

  rows_are : AreRowsOf (λ q. if is_due p.window w q.start then None else due_row p i v q) (leg_rows g)
  rows_are q = exact.rows q ∙ row_at p i o g.leg g.layout g.deals (cut_of g.history.end) to w v bt.comes (λ t k b a kl. (counts t k b a kl).1) wt q

  left_windows : HaveSnapshot p i g.layout g.history.end to v
  left_windows u b m q = exact.windows u b m q ∙ ap (λ a. cond (eqb (g.layout.owner q.key) u) (cond (is_due p.window v q.start) None a) None) (same_up_to i g.leg g.layout g.deals p (cut_of g.history.end) to bt.comes q)

  leaves : LeaveSnapshot p i g.layout g.history.end to v
  leaves = record {
    offsets = bt.comes;
    marks = λ t k d b a kl. exact.marks t k d b a kl ∙ (g.deals.there t k b a kl).watermark (cut_of g.history.end t k) ∙ ap (i.watermark (partition_read i g.layout t k)) (bt.comes t k b a kl);
    windows = left_windows;
  }

pub leg_between_is_exact : LegBetweenIsExact
leg_between_is_exact p i from to w v o wf g bt wt = (rows_are p i from to w v o wf g bt wt, leaves p i from to w v o wf g bt wt)

-- the row that is due, in two parts
parts_by : (dw dv : Bool) (row : Option Row) → (dw ≡ true → dv ≡ true) → option_to_list (if dw then row else None) ++ option_to_list (if dw then None else if dv then row else None) ≡ option_to_list (if dv then row else None)
parts_by true true row up = append-nil (option_to_list row)
parts_by true false row up = absurd (let h = up refl in cc)
parts_by false dv row up = refl

none_by : (dw dv : Bool) (row : Option Row) → (dw ≡ true → row ≡ None) → option_to_list (if dw then None else if dv then row else None) ≡ option_to_list (if dv then row else None)
none_by true true row none = sym (ap option_to_list (none refl))
none_by true false row none = refl
none_by false dv row none = refl

no_records : (n : ℕ) → joined n (λ q. []) ≡ []
no_records zero = refl
no_records (suc n) = ap (λ x. x ++ []) (no_records n)

nothing_yet : (p : PlanData) (i : AbstractInput) (q : Pane) → aggregate_up_to p i (λ n. 0) q ≡ None
nothing_yet p i q = ap (λ rs. aggregate_at p.window rs q) (no_records i.partitions) ∙ aggregate_nil p.window q

came : (p : PlanData) (i : AbstractInput) (g : JobLeg p i) → AreAt i g.layout g.history.end (cut_left g)
came p i g t k b a kl = let pl = g.deals.there t k b a kl in (λ j. cut_of g.history.end (sym pl.task j) (sym pl.place j))

none_of : (own due : Bool) (x : Option Aggregated) → x ≡ None → None ≡ cond own (cond due None x) None
none_of false due x e = refl
none_of true true x e = refl
none_of true false x e = sym e

due_none : (own due : Bool) (x : Option Aggregated) → due ≡ true → cond own (cond due None x) None ≡ None
due_none false due x e = refl
due_none true true x e = refl
due_none true false x e = absurd (false≢true e)

-- the first leg
anew : (p : PlanData) (i : AbstractInput) (w : ℤ) (g : JobLeg p i) → BeginsAnew p i g → IsBetween p i g (λ q. 0) w (cut_left g)
anew p i w g b = record {
  opens = b.opens;
  begins = b.nothing.offsets;
  restored = λ u lo hi q. b.nothing.windows u lo hi q ∙ none_of (eqb (g.layout.owner q.key) u) (is_due p.window w q.start) (aggregate_up_to p i (λ n. 0) q) (nothing_yet p i q);
  comes = came p i g;
}

-- untouched tasks open, where their watermarks are those of their offsets and nothing due stands in windows
opening_of : (p : PlanData) (role : Role) (k : AbstractTask) (s : State) → IsUntouched role k s
    → (role ≡ Source → (q : ℕ) (d : ℤ) → q < k.inputs → get_or s.inputs.marks q d ≡ k.watermark q (get_or s.offsets q 0))
    → (role ≡ Window → (q : Pane) → is_due p.window lowest q.start ≡ true → get s.windows q ≡ None) → IsOpening p role k s
opening_of p Source k s o marked none = record {
  offsets = o.0;
  marks = o.1;
  is = o.2;
  length_offsets = o.3;
  length_marks = o.4;
  marked = λ q d l. ap (λ x. get_or x.inputs.marks q d) (sym o.2) ∙ marked refl q d l ∙ ap (λ x. k.watermark q (get_or x.offsets q 0)) o.2;
}
opening_of p Chain k s o marked none = o
opening_of p Window k s o marked none = (o.0, o.1, λ q d. ap (λ x. get x.windows q) (sym o.1) ∙ none refl q d)
opening_of p Sink k s o marked none = o

window_between : (l : AbstractLayout) → IsLayout l → (t : ℕ) → t ≤ l.sink → (l.task t).role ≡ Window → (l.before ≤ t) × (t < l.sink)
window_between l ok t le a =
    elim (cases_lt t l.before) [
      | inl b ↦ absurd (let r = ok.roles_before t b (λ z. let y = a in cc) in cc)
      | inr b ↦ elim (cases_lt t l.sink) [
        | inl c ↦ (b, c)
        | inr c ↦ absurd (let e : t ≡ l.sink = omega arith in let r : (l.task t).role ≡ Sink = ap (λ x. (l.task x).role) e ∙ ok.role_sink in cc)
      ]
    ]

-- a leg that goes on with a snapshot that was left begins with it
module _ (p : PlanData) (i : AbstractInput) (g g' : JobLeg p i) (w : ℤ) (low : lowest ≤ℤ w) (ls : LeaveSnapshot p i g.layout g.history.end (cut_left g) w) (go : GoesOn p i g g') where
  had : HaveSnapshot p i g'.layout g'.start (cut_left g) w
  had u lo hi q =
      let ow = g.is_layout.owner_window q.key in
      let own = g.layout.owner q.key in
      go.windows u lo hi q
      ∙ ap (λ x. cond (eqb (g'.layout.owner q.key) u) x None)
      (ls.windows own ow.0 ow.1 q ∙ ap (λ t. cond t (snapshot_at p i (cut_left g) w q) None) (eq-eqb own own refl))

  marked : (t k : ℕ) (d : ℤ) → t < g'.layout.before → (g'.layout.task t).role ≡ Source → k < (g'.layout.task t).inputs → get_or (g'.start t).inputs.marks k d ≡ (g'.layout.task t).watermark k (get_or (g'.start t).offsets k 0)
  marked t k d b a kl =
      let pl = g'.deals.there t k b a kl in
      let q = partition_read i g'.layout t k in
      let x = g.deals.dealt q pl.some in
      go.marks t k d b a kl
      ∙ ls.marks (reader_of i g.layout q) (place_in_reader i g.layout q) d x.reads.early x.reads.role x.place
      ∙ ap (λ n. i.watermark n (cut_left g n)) x.back
      ∙ ap (i.watermark q) (sym (go.offsets t k b a kl))
      ∙ sym (pl.watermark (get_or (g'.start t).offsets k 0))

  on : IsBetween p i g' (cut_left g) w (cut_left g')
  on = record {
    opens = λ t le. opening_of p (g'.layout.task t).role (g'.layout.task t) (g'.start t) (go.untouched t le)
        (λ a q d l. marked t q d (source_before g'.layout g'.is_layout t le a) a l)
        (λ a q d. let m = window_between g'.layout g'.is_layout t le a in
        had t m.0 m.1 q ∙ due_none (eqb (g'.layout.owner q.key) t) (is_due p.window w q.start) (aggregate_up_to p i (cut_left g) q) (later _ lowest w low d));
    begins = go.offsets;
    restored = had;
    comes = came p i g';
  }

-- what is known of legs
record IsKnown (p : PlanData) (i : AbstractInput) (g : JobLeg p i) (v : ℤ) (rows : List Row) : Type 0 where
  watermark : IsWatermarkAt i (cut_left g) v
  low : lowest ≤ℤ v
  rows_due : AreRowsOf (due_row p i v) rows
  leaves : LeaveSnapshot p i g.layout g.history.end (cut_left g) v

known_first : (p : PlanData) (i : AbstractInput) (w v : ℤ) (o : IsOrderlyInput p i) (g : JobLeg p i) → BeginsAnew p i g → IsWatermarkAt i (λ q. 0) w → IsWatermarkAt i (cut_left g) v → IsKnown p i g v (leg_rows g)
known_first p i w v o g b a wt =
    let bt = anew p i w g b in
    let lw : lowest ≤ℤ w = a.greatest lowest (omega (arith, ints)) (λ q l. o.bounded q 0 l (omega arith)) in
    let up = rises p i (λ n. 0) (cut_left g) w v o a g bt wt in
    record {
      watermark = wt;
      low = omega (arith, ints, lw, up);
      rows_due = λ q.
          rows_are p i (λ n. 0) (cut_left g) w v o a g bt wt q
          ∙ none_by (is_due p.window w q.start) (is_due p.window v q.start) (option_and_then (kept_row p.window q) (aggregate_up_to p i i.size q))
          (λ e. ap (option_and_then (kept_row p.window q)) (sym (whole_before p i (λ n. 0) (cut_left g) w v o a g bt wt q e) ∙ nothing_yet p i q));
      leaves = leaves p i (λ n. 0) (cut_left g) w v o a g bt wt;
    }

known_next : (p : PlanData) (i : AbstractInput) (w v : ℤ) (o : IsOrderlyInput p i) (g g' : JobLeg p i) (rows : List Row) → IsKnown p i g w rows → GoesOn p i g g' → IsWatermarkAt i (cut_left g') v → IsKnown p i g' v (rows ++ leg_rows g')
known_next p i w v o g g' rows r go wt =
    let bt = on p i g g' w r.low r.leaves go in
    let up = rises p i (cut_left g) (cut_left g') w v o r.watermark g' bt wt in
    let lw = r.low in
    record {
      watermark = wt;
      low = omega (arith, ints, lw, up);
      rows_due = λ q.
          filter-append (row_is_at q) rows (leg_rows g')
          ∙ (λ j. r.rows_due q j ++ rows_are p i (cut_left g) (cut_left g') w v o r.watermark g' bt wt q j)
          ∙ parts_by (is_due p.window w q.start) (is_due p.window v q.start) (option_and_then (kept_row p.window q) (aggregate_up_to p i i.size q)) (later _ w v up);
      leaves = leaves p i (cut_left g) (cut_left g') w v o r.watermark g' bt wt;
    }

known_legs : (p : PlanData) (i : AbstractInput) (o : IsOrderlyInput p i) (g : JobLeg p i) (v : ℤ) (rows : List Row) → Legs p i g v rows → IsKnown p i g v rows
known_legs p i o g v rows (first {w = w} g1 b a wt) = known_first p i w v o g b a wt
known_legs p i o g v rows (next {g = g0} {w = w} {rows = before} ls g1 go wt) = known_next p i w v o g0 g before (known_legs p i o g0 w before ls) go wt

pub legs_are_exact : LegsAreExact
legs_are_exact p i g v rows o ls = let r = known_legs p i o g v rows ls in (r.rows_due, r.leaves)
