use Rattle.std.proofs.Common.{FitsSigned, subst}
use Rattle.std.specs.Prelude.{ℤ}
use Rattle.std.specs.Int.{w64}
use Rattle.std.proofs.lemmas.Int.{to_z-of_z}
use Rattle.plan_model.specs.PlanData.{PlanData}
use Rattle.dataflow_model.specs.declared.message.Message.TheVariants.{Watermark}
use Rattle.dataflow_model.specs.AbstractTask.{AbstractTask}
use Rattle.dataflow_model.specs.Steps.{Take, Takes, LocalStep}
use Rattle.task_steps.specs.TaskData.{Stands}
use Rattle.task_steps.specs.Answers.{Answers}
use Rattle.task_steps.proofs.task.Task.take_mark.Goals as goal

pub returns-in-Window : goal.returns-in-Window
returns-in-Window c =
    let d = c.args.self.now in
    let i = c.args.i in
    let t : ℤ = c.args.t in
    let fits : FitsSigned w64 t = c.ranges.t in
    subst (λ (z : ℤ). Answers (λ p k. Stands p k d) (λ p k s. Takes p k s i (Watermark z)) (Take i (Watermark z)) d c.window_mark.new.self c.window_mark.result) (to_z-of_z w64 t fits) c.window_mark.ensures

pub returns-in-Chain : goal.returns-in-Chain
returns-in-Chain c =
    let d = c.args.self.now in
    let i = c.args.i in
    let t : ℤ = c.args.t in
    let fits : FitsSigned w64 t = c.ranges.t in (
      c.requires.going,
      c.chain_mark.ensures.on,
      subst (λ (z : ℤ). (p : PlanData) (k : AbstractTask) → Stands p k d → LocalStep p k d.state (Take i (Watermark z)) c.chain_mark.new.self.state) (to_z-of_z w64 t fits) c.chain_mark.ensures.step,
    )

pub returns-in-Sink : goal.returns-in-Sink
returns-in-Sink c =
    let d = c.args.self.now in
    let i = c.args.i in
    let t : ℤ = c.args.t in
    let fits : FitsSigned w64 t = c.ranges.t in (
      c.requires.going,
      c.sink_mark.ensures.on,
      subst (λ (z : ℤ). (p : PlanData) (k : AbstractTask) → Stands p k d → LocalStep p k d.state (Take i (Watermark z)) c.sink_mark.new.self.state) (to_z-of_z w64 t fits) c.sink_mark.ensures.step,
    )
