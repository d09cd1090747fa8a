use Rattle.std.proofs.Common.{Bool, Ok, option_map, subst}
use Rattle.job.specs.Ends.{and_then, OnThreads}
use Rattle.job.specs.Leg.{LegRuns, aims_said, leg_job, job_with, start_said}
use Rattle.job.specs.Asked.{EndsLeg, IsEndSo, aims_in, is_asked, may_ask, words_of}
use Rattle.job.proofs.LegAnswers.{refused, read, told}
use Rattle.job.proofs.leg.leg_at_scale.Goals as goal

pub returns-in_err-start : goal.returns-in_err-start
unfolding job_with
returns-in_err-start g c =
    let p = c.args.plan.now in
    let i = c.args.input.now in
    refused OnThreads LegRuns (IsEndSo (is_asked c.args.stop)) (λ s. and_then (λ t. Ok (leg_job p i s t)) (aims_said (words_of c.args.stop))) (start_said p i (option_map (λ bytes. bytes.items) c.args.from)) c.in_err-start.field-0.0
    c.from_residual.result c.from_residual.ensures.0 c.from_residual.ensures.1 c.in_err-start.ensures.reads

pub returns-in_err-aims : goal.returns-in_err-aims
unfolding job_with
returns-in_err-aims g c =
    let p = c.args.plan.now in
    let i = c.args.input.now in
    let s = c.in_ok-start.start in
    let said = aims_said (words_of c.args.stop) in
    let Is = IsEndSo (is_asked c.args.stop) in
    read OnThreads LegRuns Is (λ z. and_then (λ t. Ok (leg_job p i z t)) said) (start_said p i (option_map (λ bytes. bytes.items) c.args.from)) s c.from_residual-in_err-aims.result c.in_ok-start.ensures.reads
    (refused OnThreads LegRuns Is (λ t. Ok (leg_job p i s t)) said c.in_err-aims.field-0.0 c.from_residual-in_err-aims.result c.from_residual-in_err-aims.ensures.0 c.from_residual-in_err-aims.ensures.1 c.in_err-aims.ensures.reads)

pub returns : goal.returns
unfolding job_with
returns g c =
    let p = c.args.plan.now in
    let i = c.args.input.now in
    let s = c.in_ok-start.start in
    let t = aims_in c.in_ok-aims.aims in
    let said = aims_said (words_of c.args.stop) in
    let asked = is_asked c.args.stop in
    let ends : EndsLeg asked (Ok (leg_job p i s t)) c.leg_end.result =
    subst (λ (b : Bool). EndsLeg b (Ok (leg_job p i s t)) c.leg_end.result) c.in_ok-aims.ensures.asks (told (may_ask c.in_ok-aims.aims.stop) (leg_job p i s t) c.leg_end.result c.leg_end.ensures) in
    read OnThreads LegRuns (IsEndSo asked) (λ z. and_then (λ u. Ok (leg_job p i z u)) said) (start_said p i (option_map (λ bytes. bytes.items) c.args.from)) s c.leg_end.result c.in_ok-start.ensures.reads
    (read OnThreads LegRuns (IsEndSo asked) (λ u. Ok (leg_job p i s u)) said t c.leg_end.result c.in_ok-aims.ensures.reads ends)
