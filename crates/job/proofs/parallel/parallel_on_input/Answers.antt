use Rattle.std.proofs.Common.{Ok, None, string_bytes}
use Rattle.layout_rules.specs.ScaleData.{ScaleData}
use Rattle.job.specs.Ends.{OnThreads}
use Rattle.job.specs.Parallel.{scale_said, parallel_on}
use Rattle.job.specs.Run.{RunRuns, IsRunText, run_job}
use Rattle.job.proofs.LegAnswers.{refused, read}
use Rattle.job.proofs.RunAnswers.{alone}
use Rattle.job.proofs.parallel.parallel_on_input.Goals as goal

pub returns-in_err-scale : goal.returns-in_err-scale
unfolding parallel_on
returns-in_err-scale g c =
    let p = c.args.plan.now in
    refused OnThreads RunRuns (λ job text. IsRunText job (string_bytes text)) (λ (s : ScaleData). Ok (run_job p c.args.input.now None)) (scale_said p c.args.parallelism.now) c.in_err-scale.field-0.0
    c.from_residual.result c.from_residual.ensures.0 c.from_residual.ensures.1 c.in_err-scale.ensures.reads

pub returns : goal.returns
unfolding parallel_on
returns g c =
    let p = c.args.plan.now in
    let i = c.args.input.now in
    read OnThreads RunRuns (λ job text. IsRunText job (string_bytes text)) (λ (s : ScaleData). Ok (run_job p i None)) (scale_said p c.args.parallelism.now) c.in_ok-scale.scale c.whole_text.result c.in_ok-scale.ensures.reads
    (alone string_bytes p i c.whole_text.result c.whole_text.ensures)
