use Rattle.std.proofs.Common.{◌≡◌, ℕ, List, [], Option, Result, Ok, Err, None, true, ap, option_map}
use Rattle.std.specs.Result.{IsErrAnd}
use Rattle.job_texts.specs.declared.fault.JobFault.{JobFault}
use Rattle.job_texts.specs.declared.fault.JobFault.TheVariants.{Memory}
use Rattle.job.specs.Asked.{EndsSo}
use Rattle.job.specs.Leg.{IsLegDone, LegJob, LegLeft, left_in, leg_said, words}
use Rattle.leg_command.proofs.Given.{come}
use Rattle.leg_command.proofs.one_leg.asked_leg.Goals as goal

-- the leg went to the end, or to some cut
abbrev Done : Option (List ℕ) → Option (List ℕ) → LegJob → LegLeft → Type 0
Done old new job left = EndsSo true (λ leg. IsLegDone old new leg left) job

without_memory : (result : Result (Unit {0}) JobFault) → IsErrAnd result (λ fault. fault ≡ Memory) → result ≡ Err Memory
without_memory (Ok _) is = absurd is
without_memory (Err fault) is = ap Err is

pub returns : goal.returns
returns g c =
    let said = leg_said c.args.job.plan.now c.args.bytes.input.items c.args.job.scale.now (option_map (λ bytes. bytes.items) c.args.bytes.from) (words None None) in
    come left_in Done said c.new-rows.result.items c.job_leg_asked-answer.new.out.items c.new-rows.ensures.items c.job_leg_asked-answer.result c.job_leg_asked-answer.ensures.answers c.given.result c.given.ensures

pub returns-in_err-asked : goal.returns-in_err-asked
returns-in_err-asked g c = ((Err Memory, []), tt, without_memory c.from_residual.result c.from_residual.ensures.1)
