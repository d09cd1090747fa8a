use Rattle.std.proofs.Common.{FitsSigned, to_z, of_z, ap, sym, subst, ◌∙◌, rules}
use Rattle.std.specs.Prelude.{◌≡◌, ℤ}
use Rattle.std.specs.Int.{w64}
use Rattle.std.proofs.lemmas.Int.{to_z-of_z}
use Rattle.dataflow_model.specs.declared.message.Message.{Message}
use Rattle.dataflow_model.specs.declared.message.Message.TheVariants.{Watermark}
use Rattle.dataflow_model.specs.Steps.{Take, Takes}
use Rattle.task_steps.specs.TaskData.{Stands}
use Rattle.task_steps.specs.Answers.{Answers}
use Rattle.task_steps.proofs.task.Task.take.Goals as goal

pub returns-in-Rows : goal.returns-in-Rows
returns-in-Rows c =
    let d = c.args.self.now in
    let i = c.args.i in
    subst (λ (m : Message). Answers (λ p k. Stands p k d) (λ p k s. Takes p k s i m) (Take i m) d c.take_rows.new.self c.take_rows.result) (sym c.in-Rows.is) c.take_rows.ensures

pub returns-in-Fired : goal.returns-in-Fired
returns-in-Fired c =
    let d = c.args.self.now in
    let i = c.args.i in
    subst (λ (m : Message). Answers (λ p k. Stands p k d) (λ p k s. Takes p k s i m) (Take i m) d c.take_fired.new.self c.take_fired.result) (sym c.in-Fired.is) c.take_fired.ensures

pub returns-in-Watermark : goal.returns-in-Watermark
returns-in-Watermark c =
    let d = c.args.self.now in
    let i = c.args.i in
    let t : ℤ = c.in-Watermark.t in
    let fits : FitsSigned w64 t = search rules in
    let same : Watermark (to_z w64 (of_z w64 t)) ≡ c.args.message = ap Watermark (to_z-of_z w64 t fits) ∙ sym c.in-Watermark.is in
    subst (λ (m : Message). Answers (λ p k. Stands p k d) (λ p k s. Takes p k s i m) (Take i m) d c.take_mark.new.self c.take_mark.result) same c.take_mark.ensures

pub returns-in-Barrier : goal.returns-in-Barrier
returns-in-Barrier c =
    let d = c.args.self.now in
    let i = c.args.i in
    subst (λ (m : Message). Answers (λ p k. Stands p k d) (λ p k s. Takes p k s i m) (Take i m) d c.take_barrier.new.self c.take_barrier.result) (sym c.in-Barrier.is) c.take_barrier.ensures

pub returns-in-End : goal.returns-in-End
returns-in-End c =
    let d = c.args.self.now in
    let i = c.args.i in
    subst (λ (m : Message). Answers (λ p k. Stands p k d) (λ p k s. Takes p k s i m) (Take i m) d c.take_end.new.self c.take_end.result) (sym c.in-End.is) c.take_end.ensures
