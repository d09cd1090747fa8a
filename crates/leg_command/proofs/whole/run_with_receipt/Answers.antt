use Rattle.std.proofs.Common.{ℕ, List, Bor, Some, option_map, inr, subst}
use Rattle.job.specs.Ends.{OnThreads}
use Rattle.job.specs.Run.{Answers}
use Rattle.leg_command.specs.Runs.{whole_said}
use Rattle.leg_command.proofs.whole.run_with_receipt.Goals as goal

-- the texts are those of the two files, and the rows those in memory, where nothing stood before
pub returns : goal.returns
returns g c =
    let plan = c.deref-2.result.now in
    let input = c.in_ok-input.input.items in
    let rows = c.write_rows-answer.new.rows.items in
    let said = whole_said plan input (option_map {T = Bor (List ℕ)} (λ word. word.now) c.args.parallelism) in
    inr (plan, input, (c.write_rows-answer.result, rows, subst (λ old. Answers OnThreads said c.write_rows-answer.result (Some old) (Some rows)) c.new-rows.ensures.items c.write_rows-answer.ensures, c.given_rows.ensures))
