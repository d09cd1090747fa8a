use Rattle.std.proofs.Common.{sym, subst, string_bytes, option_map, Bor, List, ℕ, None, Option}
use Rattle.job.specs.Ends.{OnThreads}
use Rattle.job.specs.Run.{EndsRun, run_with}
use Rattle.job.proofs.run.run_on_input.Goals as goal

pub returns-in-Some : goal.returns-in-Some
unfolding run_with
returns-in-Some g c = subst (λ (legs : Option (Bor (List ℕ))). EndsRun OnThreads string_bytes (run_with c.args.plan.now c.args.input.now (option_map (λ bytes. bytes.now) legs) None) c.text_of_legs.result) (sym c.in-Some.is) c.text_of_legs.ensures

pub returns-in-None : goal.returns-in-None
unfolding run_with
returns-in-None g c = subst (λ (legs : Option (Bor (List ℕ))). EndsRun OnThreads string_bytes (run_with c.args.plan.now c.args.input.now (option_map (λ bytes. bytes.now) legs) None) c.rows_text.result) (sym c.in-None.is) c.rows_text.ensures
