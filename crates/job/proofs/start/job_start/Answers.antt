use Rattle.std.proofs.Common.{None, Ok, ap, option_map}
use Rattle.job.specs.Ends.{and_then, InOneThread}
use Rattle.job.specs.Leg.{LegRuns, aims_said, leg_job, job_with, saves_said, start_said, stop_said, words}
use Rattle.job.proofs.LegAnswers.{passed_on, refused, read}
use Rattle.job.proofs.StartAnswers.{begins, to_stop}
use Rattle.job.proofs.start.job_start.Goals as goal

pub returns-in_err-start : goal.returns-in_err-start
unfolding job_with
returns-in_err-start c =
    let p = c.args.plan.now in
    let i = c.args.input.now in
    refused InOneThread LegRuns (λ job begun. Unit {0}) (λ s. and_then (λ aims. Ok (leg_job p i s aims)) (aims_said (words None (option_map (λ word. word.now) c.args.stop)))) (start_said p i (option_map (λ bytes. bytes.now) c.args.from)) c.in_err-start.field-0.0
    c.from_residual.result c.from_residual.ensures.0 c.from_residual.ensures.1 c.in_err-start.ensures.reads

pub returns-in_err-stop : goal.returns-in_err-stop
unfolding job_with aims_said saves_said
returns-in_err-stop c =
    let p = c.args.plan.now in
    let i = c.args.input.now in
    let s = c.in_ok-start.start in
    let said = stop_said (option_map (λ word. word.now) c.args.stop) in
    read InOneThread LegRuns (λ job begun. Unit {0}) (λ z. and_then (λ aims. Ok (leg_job p i z aims)) (and_then (λ stop. Ok (to_stop stop)) said)) (start_said p i (option_map (λ bytes. bytes.now) c.args.from)) s c.from_residual-in_err-stop.result c.in_ok-start.ensures.reads
    (refused InOneThread LegRuns (λ job begun. Unit {0}) (λ aims. Ok (leg_job p i s aims)) (and_then (λ stop. Ok (to_stop stop)) said) c.in_err-stop.field-0.0 c.from_residual-in_err-stop.result c.from_residual-in_err-stop.ensures.0 c.from_residual-in_err-stop.ensures.1
    (passed_on (λ stop. Ok (to_stop stop)) said c.in_err-stop.field-0.0 c.in_err-stop.ensures))

pub returns : goal.returns
unfolding job_with aims_said saves_said
returns c =
    let p = c.args.plan.now in
    let i = c.args.input.now in
    let s = c.in_ok-start.start in
    let t = c.in_ok-stop.stop in
    let said = stop_said (option_map (λ word. word.now) c.args.stop) in
    read InOneThread LegRuns (λ job begun. Unit {0}) (λ z. and_then (λ aims. Ok (leg_job p i z aims)) (and_then (λ stop. Ok (to_stop stop)) said)) (start_said p i (option_map (λ bytes. bytes.now) c.args.from)) s c.check_stop.result c.in_ok-start.ensures.reads
    (read InOneThread LegRuns (λ job begun. Unit {0}) (λ aims. Ok (leg_job p i s aims)) (and_then (λ stop. Ok (to_stop stop)) said) (to_stop t) c.check_stop.result (ap (and_then (λ stop. Ok (to_stop stop))) c.in_ok-stop.ensures) (begins p i s t c.check_stop.result c.check_stop.ensures))
