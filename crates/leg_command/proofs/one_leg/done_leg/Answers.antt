use Rattle.std.proofs.Common.{option_map}
use Rattle.job.specs.Leg.{IsLegDone, left_in, leg_said, words}
use Rattle.leg_command.proofs.Given.{come}
use Rattle.leg_command.proofs.one_leg.done_leg.Goals as goal

pub returns : goal.returns
returns g c =
    let said = leg_said c.args.job.plan.now c.args.bytes.input.items c.args.job.scale.now (option_map (λ bytes. bytes.items) c.args.bytes.from) (words (option_map (λ word. word.now) c.args.saves) (option_map (λ word. word.now) c.args.stop)) in
    come left_in IsLegDone said c.new-rows.result.items c.job_leg-answer.new.out.items c.new-rows.ensures.items c.job_leg-answer.result c.job_leg-answer.ensures.answers c.given.result c.given.ensures
