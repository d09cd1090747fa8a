-- Each step that could be made is one that its task may be asked for.
use Rattle.std.proofs.Common.{◌≡◌, ℕ, suc, ◌+◌, ◌-◌, length, refl, sym, ap, ◌∙◌, arith}
use Rattle.std.specs.Prelude.{slice_get, slice_index, Some}
use Rattle.std.proofs.lemmas.Option.{slice_get_within}
use Rattle.dataflow_model.specs.Role.{is_source}
use Rattle.dataflow_laws.specs.declared.step.Step.{Step}
use Rattle.dataflow_laws.specs.declared.step.Step.TheVariants.{Open, Read, Save, Stop, Close, Take, Put}
use Rattle.dataflow_laws.specs.StepTask.{task_of}
use Rattle.layout_rules.specs.Layouts.{partition_counts}
use Rattle.layout_rules.specs.Stages.{task_count, inputs_of, partitions_of}
use Rattle.plan_compiler.specs.LayoutData.{LayoutData}
use Rattle.core_steps.specs.Given.{layout_in}
use Rattle.core_steps.specs.World.{WorldData, world_in, IsSound}
use Rattle.core_steps.specs.Answers.{CanMake}
use Rattle.core_steps.proofs.States.{move_task}
use Rattle.leg_runs.specs.Choosing.{steps_of}
use Rattle.leg_runs.specs.Laws.{StepsAreListed}
use Rattle.leg_runs.proofs.Candidates.{length_is, read_is, save_is, stop_is, close_is, take_is, put_is}
use Rattle.leg_runs.proofs.Orders.{may_read, can_take, chosen, other}
use Rattle.leg_runs.proofs.Selecting.{flat_place}

abbrev IsListed : WorldData → Step → Type 0
IsListed w step = (k : ℕ) × (slice_get (steps_of w.given.layout (task_of step)) k ≡ Some step)

listed_read : (w : WorldData) (t q : ℕ) → IsSound w.given → CanMake w (Read t q) → IsListed w (Read t q)
listed_read w t q sound can =
    let l = w.given.layout in
    let k = (layout_in w.given).task t in
    let may = may_read w t q can in
    let mine = partitions_of (partition_counts w.given.plan) l.stages t in
    let ps = partitions_of l.partitions l.stages t in
    let is : ps ≡ mine = ap (λ xs. partitions_of xs l.stages t) (ap (λ (m : LayoutData). m.partitions) sound.given.laid_out.is) in
    let few : k.inputs ≡ length mine = chosen (is_source k.role) (length mine) (length (inputs_of l.stages t)) (ap is_source may.1.can.can.source) in
    let place = may.1.can.partition in
    let long = ap length is in
    let e : suc may.0 - 1 ≡ may.0 = omega (arith) in
    (suc may.0, read_is l t (suc may.0) q 0 ps refl (omega (arith)) (omega (arith, place, few, long, e)) (sym may.1.number ∙ ap (λ xs. slice_index xs may.0) (sym is) ∙ ap (slice_index ps) (sym e)))

listed_take : (w : WorldData) (t i : ℕ) → CanMake w (Take t i) → IsListed w (Take t i)
listed_take w t i can =
    let l = w.given.layout in
    let k = (layout_in w.given).task t in
    let inputs = inputs_of l.stages t in
    let ps = partitions_of l.partitions l.stages t in
    let mine = partitions_of (partition_counts w.given.plan) l.stages t in
    let takes = can_take w t i can in
    let few : k.inputs ≡ length inputs = other (is_source k.role) (length mine) (length inputs) takes.taker in
    let place = takes.input in
    (4 + length ps + i, take_is l t (4 + length ps + i) i ps inputs refl refl (omega (arith)) (omega (arith)) (omega (arith, place, few)))

listed : (w : WorldData) → IsSound w.given → (step : Step) → CanMake w step → IsListed w step
listed w sound (Open t) can = (0, refl)
listed w sound (Read t q) can = listed_read w t q sound can
listed w sound (Save t) can = (let ps = partitions_of w.given.layout.partitions w.given.layout.stages t in (suc (length ps), save_is w.given.layout t (suc (length ps)) ps refl (omega (arith)) (omega (arith)) (omega (arith))))
listed w sound (Stop t) can = (let ps = partitions_of w.given.layout.partitions w.given.layout.stages t in (2 + length ps, stop_is w.given.layout t (2 + length ps) ps refl (omega (arith)) (omega (arith)) (omega (arith))))
listed w sound (Close t) can = (let ps = partitions_of w.given.layout.partitions w.given.layout.stages t in (3 + length ps, close_is w.given.layout t (3 + length ps) ps refl (omega (arith)) (omega (arith)) (omega (arith))))
listed w sound (Take t i) can = listed_take w t i can
listed w sound (Put t) can =
    let l = w.given.layout in
    let ps = partitions_of l.partitions l.stages t in
    let inputs = inputs_of l.stages t in
    let long = length_is l t ps inputs refl refl in
    (4 + length ps + length inputs, put_is l t (4 + length ps + length inputs) ps inputs refl refl (omega (arith)) (omega (arith, long)))

pub all_listed : StepsAreListed
all_listed w sound step can =
    let l = w.given.layout in
    let g = w.given in
    let t = task_of step in
    let in_leg = move_task g.plan (layout_in g) l.capacity (world_in w) t can.1.event can.0 can.1.move in
    let tasks = sound.count in
    let here = listed w sound step can in
    (_, flat_place (steps_of l) (task_count l.stages) t here.0 (omega (arith, in_leg, tasks)) (slice_get_within (steps_of l t) here.0 step here.1) ∙ here.1)
