use Rattle.std.proofs.Common.{None, Ok, option_map, sym, ap, subst}
use Rattle.job.specs.Ends.{OnThreads}
use Rattle.job.specs.Run.{EndsRun, run_said}
use Rattle.job.proofs.Written.{writes_plan_rows}
use Rattle.job.proofs.run.job_run.Goals as goal

pub returns-clause-whole : goal.returns-clause-whole
returns-clause-whole g c = λ none.
    writes_plan_rows c.args.plan.now c.args.input.items (option_map (λ bytes. bytes.now) c.args.legs) c.as_str.result.now (g.W.Write.contents c.args.out.now) (g.W.Write.contents c.write_text.new.out) c.write_text.result
    (ap (option_map (λ bytes. bytes.now)) none)
    (subst (λ text. EndsRun OnThreads (λ bytes. bytes) (run_said c.args.plan.now c.args.input.items (option_map (λ bytes. bytes.now) c.args.legs) None) (Ok text)) (sym c.as_str.ensures.value) c.in_ok-text.ensures)
    c.write_text.ensures
