-- Which task besides its own a step may touch.
use Rattle.std.proofs.Common.{◌≡◌, ℕ, ◌<◌, List, [], ◌∷◌, Option, length, get_or, refl, sym, ap, subst, ◌∙◌, arith}
use Rattle.std.specs.Prelude.{Some, None, MatchOption, slice_index, slice_get}
use Rattle.std.proofs.lemmas.Option.{slice_get-get_or}
use Rattle.dataflow_model.specs.Role.{is_source}
use Rattle.dataflow_model.specs.State.{State}
use Rattle.dataflow_model.specs.Steps as event
use Rattle.dataflow_laws.specs.declared.step.Step.{Step}
use Rattle.dataflow_laws.specs.declared.step.Step.TheVariants.{Open, Read, Save, Stop, Close, Take, Put}
use Rattle.dataflow_laws.specs.StepTask.{task_of}
use Rattle.dataflow_laws.specs.World as flow
use Rattle.dataflow_laws.specs.World.{Move}
use Rattle.layout_rules.specs.Layouts.{partition_counts}
use Rattle.layout_rules.specs.Stages.{task_count, inputs_of, outputs_of, partitions_of}
use Rattle.plan_compiler.specs.LayoutData.{LayoutData}
use Rattle.core_steps.specs.Given.{layout_in}
use Rattle.core_steps.specs.World.{WorldData, world_in, IsWorld}
use Rattle.core_steps.specs.Answers.{LeadsTo}
use Rattle.core_steps.specs.RingSteps.{IsPuttable}
use Rattle.core_steps.proofs.Putting.{first_is}
use Rattle.core_steps.proofs.States.{state_here, move_needs, move_task}
use Rattle.core_steps.proofs.Worlds.{inside}
use Rattle.leg_runs.specs.Choosing.{LeavesOthers}
use Rattle.leg_runs.proofs.Frames.{IsOtherEnd, leaves}
use Rattle.leg_runs.proofs.Orders.{can_take, other}

-- a step leaves all alone but its own task and the one at the other end of the ring that its event touches
others_stay : (w : WorldData) (step : Step) (r : Option ℕ) → ((next : flow.World) (leads : LeadsTo w step next) (u : ℕ) → IsOtherEnd (layout_in w.given) (task_of step) leads.event u → r ≡ Some u) → LeavesOthers w step r
others_stay w step r ends next leads u ne nor = leaves w.given.plan (layout_in w.given) w.given.layout.capacity (world_in w) (task_of step) leads.event next leads.move u ne (λ end. nor (ends next leads u end))

element : {X : Type 0} (xs : List X) (t : ℕ) → t < length xs → X
element [] t l = absurd (omega (arith, l))
element (x ∷ xs) t l = x

put_output : (w : WorldData) (t v : ℕ) (next : flow.World) (leads : LeadsTo w (Put t) next) (can : IsPuttable w t v) → can.output ≡ leads.is.0
put_output w t v next leads can =
    let g = w.given in
    let d = element w.tasks t can.task in
    let move = subst (λ e. Move g.plan (layout_in g) g.layout.capacity (world_in w) t e next) leads.is.2 leads.move in
    let needs = move_needs g.plan (layout_in g) g.layout.capacity (world_in w) t (event.Put leads.is.0 leads.is.1) next move in
    first_is can.output (get_or w.tasks t d).state.pending needs.0 (leads.is.0, leads.is.1) (can.first d) (ap (λ (s : State). s.pending) (sym (state_here g w.tasks t d can.task)) ∙ needs.1)

put_is : (w : WorldData) (t : ℕ) (r : Option ℕ) → MatchOption r ((next : flow.World) → LeadsTo w (Put t) next → ⊥) (λ v. IsPuttable w t v) → (next : flow.World) (leads : LeadsTo w (Put t) next) (u : ℕ) → IsOtherEnd (layout_in w.given) t leads.event u → r ≡ Some u
put_is w t None answers next leads u end = absurd (answers next leads)
put_is w t (Some v) answers next leads u end =
    let outputs = outputs_of w.given.layout.stages t in
    let at : u ≡ slice_index outputs leads.is.0 = subst (λ e. IsOtherEnd (layout_in w.given) t e u) leads.is.2 end in
    ap Some (answers.is ∙ ap (slice_index outputs) (put_output w t v next leads answers) ∙ sym at)

pub put_end : (w : WorldData) (t : ℕ) (r : Option ℕ) → MatchOption r ((next : flow.World) → LeadsTo w (Put t) next → ⊥) (λ v. IsPuttable w t v) → LeavesOthers w (Put t) r
put_end w t r answers = others_stay w (Put t) r (put_is w t r answers)

there : (w : WorldData) (step : Step) (next : flow.World) → IsWorld w → LeadsTo w step next → task_of step < task_count w.given.layout.stages
there w step next world leads =
    let g = w.given in
    let within = inside w (task_of step) world (move_task g.plan (layout_in g) g.layout.capacity (world_in w) (task_of step) leads.event next leads.move) in
    let long = world.built.count in
    omega (arith, within, long)

pub take_end : (w : WorldData) (l : LayoutData) (t i : ℕ) (r : Option ℕ) → IsWorld w → l ≡ w.given.layout → (t < task_count l.stages → r ≡ slice_get (inputs_of l.stages t) i) → LeavesOthers w (Take t i) r
take_end w l t i r world same is = others_stay w (Take t i) r
    (λ next leads u end.
    let k = (layout_in w.given).task t in
    let inputs = inputs_of w.given.layout.stages t in
    let mine = partitions_of (partition_counts w.given.plan) w.given.layout.stages t in
    let can = can_take w t i (next, leads) in
    let few : k.inputs ≡ length inputs = other (is_source k.role) (length mine) (length inputs) can.taker in
    let place = can.input in
    let at : u ≡ slice_index inputs i = subst (λ e. IsOtherEnd (layout_in w.given) t e u) leads.is.1 end in
    let within = subst (λ (m : LayoutData). t < task_count m.stages) (sym same) (there w (Take t i) next world leads) in
    is within ∙ ap (λ (m : LayoutData). slice_get (inputs_of m.stages t) i) same ∙ slice_get-get_or inputs i 0 (omega (arith, place, few)) ∙ ap Some (sym at))

-- no other step touches a ring
no_end : (w : WorldData) (step : Step) → ((t : ℕ) → step ≡ Put t → ⊥) → ((t i : ℕ) → step ≡ Take t i → ⊥) → (next : flow.World) (leads : LeadsTo w step next) (u : ℕ) → IsOtherEnd (layout_in w.given) (task_of step) leads.event u → None ≡ Some u
no_end w (Open t) nput ntake next leads u end = absurd (subst (λ e. IsOtherEnd (layout_in w.given) t e u) leads.is end)
no_end w (Read t q) nput ntake next leads u end = absurd (subst (λ e. IsOtherEnd (layout_in w.given) t e u) leads.is end)
no_end w (Save t) nput ntake next leads u end = absurd (subst (λ e. IsOtherEnd (layout_in w.given) t e u) leads.is end)
no_end w (Stop t) nput ntake next leads u end = absurd (subst (λ e. IsOtherEnd (layout_in w.given) t e u) leads.is end)
no_end w (Close t) nput ntake next leads u end = absurd (subst (λ e. IsOtherEnd (layout_in w.given) t e u) leads.is end)
no_end w (Take t i) nput ntake next leads u end = absurd (ntake t i refl)
no_end w (Put t) nput ntake next leads u end = absurd (nput t refl)

pub inner_end : (w : WorldData) (step : Step) → ((t : ℕ) → step ≡ Put t → ⊥) → ((t i : ℕ) → step ≡ Take t i → ⊥) → LeavesOthers w step None
inner_end w step nput ntake = others_stay w step None (no_end w step nput ntake)
