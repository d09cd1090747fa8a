-- What legs deliver of an input.
use Rattle.std.proofs.Common.{◌≡◌, ℕ, ℤ, ◌<◌, ◌≤ℤ◌, List, None, option_to_list, cond, eqb, inl, inr, sym, ap, subst, ◌∙◌, arith, if◌then◌else◌}
use Rattle.std.proofs.lemmas.Int.{ints}
use Rattle.plan_model.specs.declared.spec.Pane.{Pane}
use Rattle.plan_model.specs.declared.spec.Row.{Row}
use Rattle.plan_model.specs.PlanData.{PlanData}
use Rattle.plan_model.specs.Rows.{is_due}
use Rattle.stream_model.specs.InputData.{InputData, BelongsTo}
use Rattle.stream_model.specs.Watermarks.{IsCut, full_cut, merged_watermark}
use Rattle.stream_model.specs.PlanRows.{snapshot}
use Rattle.stream_model.proofs.Facts.{end_is_due}
use Rattle.dataflow_model.specs.AbstractLayout.{AbstractLayout, AbstractInput}
use Rattle.dataflow_model.specs.State.{State}
use Rattle.dataflow_model.specs.Cuts.{leg_cut}
use Rattle.dataflow_model.specs.InputCuts.{IsWatermarkAt, due_row}
use Rattle.dataflow_model.specs.Snapshots.{AtOwners}
use Rattle.dataflow_laws.specs.Legs.{HaveSnapshot, IsBetween, JobLeg, Legs, cut_left}
use Rattle.dataflow_laws.specs.Legs.Legs.{first, next}
use Rattle.dataflow_laws.specs.Inputs.{due_between, LegDelivers, SoFarDelivers, LegsDeliverDue, LegsDeliverAll}
use Rattle.dataflow_laws.proofs.Dealing.{merged_of, orderly_of}
use Rattle.dataflow_laws.proofs.Exact.{each_moment}
use Rattle.dataflow_laws.proofs.Lineage.{row_at, starts_at, leg_between_is_exact, legs_are_exact}
use Rattle.input_flow.specs.InputEntries.{input_of, counts_at}
use Rattle.input_flow.proofs.Facts.{input_is_orderly, watermark_at_cut, snapshot_at_cut, due_at_cut, full_is_cut}

-- what tasks have at a cut, as legs have it
pub had : (p : PlanData) (i : InputData) (l : AbstractLayout) (states : ℕ → State) (cut : List (List ℕ)) → BelongsTo p i → IsCut i.sources cut → AtOwners l (λ u. (states u).windows) (snapshot p i.sources cut)
    → HaveSnapshot p (input_of p i) l states (counts_at p cut) (merged_watermark i.sources cut)
had p i l states cut belongs is_cut windows u lo hi q = windows u lo hi q ∙ ap (λ x. cond (eqb (l.owner q.key) u) x None) (sym (snapshot_at_cut p i cut q belongs is_cut))

pub row_due : (p : PlanData) (i : InputData) (b c : List (List ℕ)) (q : Pane) → BelongsTo p i
    → option_to_list (if is_due p.window (merged_watermark i.sources b) q.start then None else due_row p (input_of p i) (merged_watermark i.sources c) q) ≡ option_to_list (due_between p i.sources b c q)
row_due p i b c q belongs = ap (λ x. option_to_list (cond (is_due p.window (merged_watermark i.sources b) q.start) None x)) (due_at_cut p i c q belongs)

pub leg_delivers : LegDelivers
leg_delivers p i b c g input orderly belongs b_cut c_cut opens has comes =
    let x = input_of p i in
    let w = merged_watermark i.sources b in
    let v = merged_watermark i.sources c in
    let bt : IsBetween p x g (counts_at p b) w (counts_at p c) = record { opens = opens; begins = has.offsets; restored = had p i g.layout g.start b belongs b_cut has.windows; comes = comes } in
    let exact = leg_between_is_exact p x (counts_at p b) (counts_at p c) w v (input_is_orderly p i input orderly belongs) (watermark_at_cut p i b belongs b_cut) g bt (watermark_at_cut p i c belongs c_cut) in (
      λ q. exact.0 q ∙ row_due p i b c q belongs,
      record {
        offsets = comes;
        windows = λ u lo hi q. exact.1.windows u lo hi q ∙ ap (λ y. cond (eqb (g.layout.owner q.key) u) y None) (snapshot_at_cut p i c q belongs c_cut);
      },
      exact.1.marks,
    )

pub so_far_delivers : SoFarDelivers
so_far_delivers p i b c leg l start input orderly belongs b_cut c_cut ok d one opens has goes h q =
    let x = input_of p i in
    let w = merged_watermark i.sources b in
    let v = merged_watermark i.sources c in
    let o = input_is_orderly p i input orderly belongs in
    let vt = watermark_at_cut p i c belongs c_cut in
    let st = starts_at p x o leg l d start (counts_at p b) w opens has.offsets (had p i l start b belongs b_cut has.windows) (watermark_at_cut p i b belongs b_cut) in
    let row = row_at p x o leg l d (leg_cut l) (counts_at p c) w v goes one.within vt q ∙ row_due p i b c q belongs in
    elim (each_moment p l start w v ok (orderly_of x leg l d p o) one st h (merged_of x leg l d (leg_cut l) (counts_at p c) v goes vt) q) [
      | inl e ↦ inl e
      | inr e ↦ inr (e ∙ row)
    ]

between : (a b : ℤ) → a ≤ℤ b → b ≤ℤ a → a ≡ b
between a b h k = omega (arith, ints, h, k)

-- a cut has one watermark
one_watermark : (i : AbstractInput) (cut there : ℕ → ℕ) (v w : ℤ) → ((q : ℕ) → q < i.partitions → cut q ≡ there q) → IsWatermarkAt i cut v → IsWatermarkAt i there w → v ≡ w
one_watermark i cut there v w same a b =
    between v w
    (b.greatest v a.bound (λ q l. subst (λ n. v ≤ℤ i.watermark q n) (same q l) (a.below q l)))
    (a.greatest w b.bound (λ q l. subst (λ n. w ≤ℤ i.watermark q n) (sym (same q l)) (b.below q l)))

-- where cuts agree, so do their watermarks
pub same_watermark : (i : AbstractInput) (cut there : ℕ → ℕ) (w : ℤ) → ((q : ℕ) → q < i.partitions → cut q ≡ there q) → IsWatermarkAt i there w → IsWatermarkAt i cut w
same_watermark i cut there w same m = record {
  bound = m.bound;
  below = λ q l. subst (λ n. w ≤ℤ i.watermark q n) (sym (same q l)) (m.below q l);
  greatest = λ v top f. m.greatest v top (λ q l. subst (λ n. v ≤ℤ i.watermark q n) (same q l) (f q l));
}

legs_watermark : (p : PlanData) (i : AbstractInput) (g : JobLeg p i) (w : ℤ) (rows : List Row) → Legs p i g w rows → IsWatermarkAt i (cut_left g) w
legs_watermark p i g w rows (first _ b z x) = x
legs_watermark p i g w rows (next before _ goes x) = x

pub legs_deliver_due : LegsDeliverDue
legs_deliver_due p i g cut w rows input orderly belongs is_cut comes legs q =
    let same : w ≡ merged_watermark i.sources cut = one_watermark (input_of p i) (cut_left g) (counts_at p cut) w (merged_watermark i.sources cut) comes (legs_watermark p (input_of p i) g w rows legs) (watermark_at_cut p i cut belongs is_cut) in
    (legs_are_exact p (input_of p i) g w rows (input_is_orderly p i input orderly belongs) legs).0 q
    ∙ ap (λ v. option_to_list (due_row p (input_of p i) v q)) same
    ∙ ap option_to_list (due_at_cut p i cut q belongs)

pub legs_deliver_all : LegsDeliverAll
legs_deliver_all p i g w rows sound input orderly belongs comes legs q =
    legs_deliver_due p i g (full_cut i.sources) w rows input orderly belongs (full_is_cut i.sources) comes legs q
    ∙ ap option_to_list (end_is_due p i q sound input belongs)
