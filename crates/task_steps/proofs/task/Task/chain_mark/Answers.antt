use Rattle.std.proofs.Common.{◌≡◌, ◌++◌, [], FitsSigned, to_z, of_z, ap, ◌∙◌}
use Rattle.std.specs.Prelude.{ℤ}
use Rattle.std.specs.Int.{w64}
use Rattle.std.proofs.lemmas.Int.{to_z-of_z}
use Rattle.input_state.specs.Inputs.{inputs_from, raised, rise}
use Rattle.dataflow_model.specs.State.{State}
use Rattle.dataflow_model.specs.Routes.{announce}
use Rattle.dataflow_model.specs.Steps.{with_mark}
use Rattle.task_steps.specs.TaskData.{TaskData, task_view}
use Rattle.task_steps.proofs.Marks.{chain_mark_step}
use Rattle.task_steps.proofs.task.Task.chain_mark.Goals as goal

pub returns-clause-step : goal.returns-clause-step
returns-clause-step c =
    let s = c.self.inside in
    let d = c.args.self.now in
    let i = c.args.i in
    let t : ℤ = c.args.t in
    let inside = task_view s in
    let fits : FitsSigned w64 t = c.ranges.t in
    let same : to_z w64 (of_z w64 t) ≡ t = to_z-of_z w64 t fits in
    let moved : c.watermark-low.new.self ≡ with_mark inside.state i t = c.watermark-low.ensures.moved ∙ (λ j. inputs_from (raised s.inputs.marks i (same j)) s.inputs.shut) in
    let low : c.watermark-low.result ≡ rise s.inputs.marks i t = c.watermark-low.ensures.risen ∙ (λ j. rise s.inputs.marks i (same j)) in
    let idle : s.pending.items ≡ [] = ap (λ (v : TaskData). v.state.pending) c.self.view_is ∙ c.requires.ready.idle in
    let sent : c.announce.new.pending.items ≡ announce s.setup.outputs (rise s.inputs.marks i t) = c.announce.ensures.pending ∙ (λ j. idle j ++ announce s.setup.outputs (low j)) in
    let now : State = record inside.state { inputs = c.watermark-low.new.self; pending = c.announce.new.pending.items } in
    let made : now ≡ record d.state { inputs = with_mark d.state i t; pending = announce d.setup.outputs (rise d.state.inputs.marks i t) } =
    (λ j. record inside.state { inputs = moved j; pending = sent j })
    ∙ ap (λ (v : TaskData). record v.state { inputs = with_mark v.state i t; pending = announce v.setup.outputs (rise v.state.inputs.marks i t) }) c.self.view_is in
    λ p k st. chain_mark_step p k d i t now st c.requires.chain c.requires.ready made
