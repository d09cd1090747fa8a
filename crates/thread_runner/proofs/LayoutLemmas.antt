-- The edges of a layout.
use Rattle.std.proofs.Common.{◌≡◌, ℕ, suc, ◌<◌, pos, List, [], length, refl, sym, ap, subst, ◌∙◌, inl, inr, arith}
use Rattle.std.proofs.lemmas.Bool.{cases_Bool, false≢true}
use Rattle.plan_model.specs.PlanData.{PlanData}
use Rattle.dataflow_model.specs.declared.message.Message.TheVariants.{End}
use Rattle.dataflow_model.specs.declared.role.Role.TheVariants.{Source}
use Rattle.dataflow_model.specs.Role.{is_source}
use Rattle.dataflow_model.specs.Leg.{Leg, leg_of}
use Rattle.dataflow_model.specs.Leg.Until.{ToEnd}
use Rattle.dataflow_model.specs.AbstractLayout.{IsLayout}
use Rattle.dataflow_model.proofs.Facts.{source_yes}
use Rattle.layout_rules.specs.declared.stage.Stage.{Stage}
use Rattle.layout_rules.specs.Rules.{IsCompiled, window_of}
use Rattle.layout_rules.specs.Layouts.{Entries, abstract_layout}
use Rattle.layout_rules.specs.Stages.{task_count, inputs_of}
use Rattle.layout_rules.proofs.Facts.{compiled_ever, compiled_is_layout, sink_is_last}
use Rattle.plan_compiler.specs.LayoutData.{LayoutData}
use Rattle.thread_runner.specs.Edges.{out_to, HasEdges, HasRings}
use Rattle.thread_runner.specs.Laws.{LayoutsHaveEdges}

module _ (p : PlanData) (e : Entries) (leg : Leg) (stages : List Stage) (layout : IsLayout (abstract_layout p e leg stages (window_of stages))) (count : task_count stages ≡ suc (abstract_layout p e leg stages (window_of stages)).sink) where
  -- a task that a ring leads to has its rings for inputs
  many_inputs : (t : ℕ) → (((abstract_layout p e leg stages (window_of stages)).task t).role ≡ Source → ⊥) → ((abstract_layout p e leg stages (window_of stages)).task t).inputs ≡ length (inputs_of stages t)
  many_inputs t not = elim (cases_Bool (is_source ((abstract_layout p e leg stages (window_of stages)).task t).role)) [
    | inl source ↦ absurd (not (source_yes ((abstract_layout p e leg stages (window_of stages)).task t).role source))
    | inr other ↦ rw other refl
  ]

  has_edges : HasEdges stages
  has_edges s o some there =
      let l = abstract_layout p e leg stages (window_of stages) in
      let out = layout.output s o there in
      let t = out_to stages s o in
      let up = layout.forward s t out.0 in
      let in' = layout.ring_in s t out.0 in
      let not : (l.task t).role ≡ Source → ⊥ = λ source. false≢true (sym (layout.no_ring_in s t source) ∙ out.0) in
      let many = many_inputs t not in
      let last = out.2 in record {
        up = up;
        within = omega (arith, last, count);
        input = subst (λ n. l.in_at s t < n) many in'.0;
        from = in'.1;
        ring = out.0;
        unique = λ y small same. (let there' = layout.output s y small in sym there'.1 ∙ (ap (λ x. l.out_at s x) same ∙ out.1));
        only = λ i small same. (
            let at = layout.input t i not (subst (λ n. i < n) (sym many) small) in
            sym at.1 ∙ ap (λ x. l.in_at x t) same);
      }

  has_rings : HasRings stages
  has_rings s t some ring = let out = layout.ring_out s t ring in ((abstract_layout p e leg stages (window_of stages)).out_at s t, out.0, out.1)

-- what wires the rings hangs on no input
no_entries : Entries
no_entries = record { entry = λ x q n. End; brings = λ x q n. pos 0; watermark = λ x q n. pos 0; size = λ x q. 0 }

pub layouts_have_edges : LayoutsHaveEdges
layouts_have_edges p l plan laid =
    let c = laid.scale in
    let compiled : IsCompiled p c l.stages = subst (IsCompiled p c) (sym (ap (λ (x : LayoutData). x.stages) laid.is)) (compiled_ever p c) in
    let leg = leg_of 0 [] ToEnd no_entries.size in
    let layout = (compiled_is_layout p c no_entries leg l.stages plan laid.fits compiled).0 in
    let count = sink_is_last p c l.stages plan laid.fits compiled in
    (has_edges p no_entries leg l.stages layout count, has_rings p no_entries leg l.stages layout count)
