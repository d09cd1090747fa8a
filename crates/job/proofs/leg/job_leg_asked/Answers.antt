use Rattle.std.proofs.Common.{ℕ, List, None, option_map, subst, true}
use Rattle.std.specs.Io.KnownBytes.{Appends}
use Rattle.job.specs.Asked.{IsEndSo}
use Rattle.job.specs.Ends.{OnThreads}
use Rattle.job.specs.Leg.{LegRuns, leg_said, words}
use Rattle.job.proofs.LegAnswers.{late}
use Rattle.job.proofs.LegEnds.{done_asked}
use Rattle.job.proofs.leg.job_leg_asked.Goals as goal

pub returns-clause-answers : goal.returns-clause-answers
returns-clause-answers g c =
    let e = c.in_ok-end.ensures in
    let grown = subst (λ (text : List ℕ). Appends (g.W.Write.contents c.args.out.now) (g.W.Write.contents c.write_text.new.out) text) c.as_str.ensures.value c.in_ok-write_text.ensures in
    (e.0, e.1, e.2, done_asked e.0 c.in_ok-end.end (g.W.Write.contents c.args.out.now) (g.W.Write.contents c.write_text.new.out) grown e.3)

pub returns-in_err-end-clause-answers : goal.returns-in_err-end-clause-answers
returns-in_err-end-clause-answers g c =
    let said = leg_said c.args.plan.now c.args.input.items c.args.scale.now (option_map (λ bytes. bytes.items) c.args.from) (words None None) in
    late OnThreads LegRuns (IsEndSo true) _ said c.in_err-end.field-0.0 c.from_residual.result c.from_residual.ensures.0 c.from_residual.ensures.1 c.in_err-end.ensures
