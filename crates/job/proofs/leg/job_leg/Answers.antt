use Rattle.std.proofs.Common.{false, option_map}
use Rattle.job.specs.Asked.{IsEndSo}
use Rattle.job.specs.Ends.{OnThreads}
use Rattle.job.specs.Leg.{LegRuns, leg_said, words}
use Rattle.job.proofs.LegAnswers.{late}
use Rattle.job.proofs.leg.job_leg.Goals as goal

pub returns-in_err-end-clause-answers : goal.returns-in_err-end-clause-answers
returns-in_err-end-clause-answers g c =
    let said = leg_said c.args.plan.now c.args.input.items c.args.scale.now (option_map (λ bytes. bytes.items) c.args.from) (words (option_map (λ word. word.now) c.args.saves) (option_map (λ word. word.now) c.args.stop)) in
    late OnThreads LegRuns (IsEndSo false) _ said c.in_err-end.field-0.0 c.from_residual.result c.from_residual.ensures.0 c.from_residual.ensures.1 c.in_err-end.ensures
