use Rattle.std.proofs.Common.{All}
use Rattle.legs.specs.Stops.{until_in}
use Rattle.core_steps.specs.Given.{begun_data}
use Rattle.thread_runner.specs.Jobs.{FindsInput}
use Rattle.thread_runner.proofs.LegLemmas.{finds_all}
use Rattle.thread_runner.proofs.leg.run_begun.Goals as goal

pub run_all-requires-after_bounds : goal.run_all-requires-after_bounds
run_all-requires-after_bounds g c =
    let found : All (FindsInput c.args.given.now.input.now) c.args.jobs.items = finds_all (begun_data c.args.given.now (until_in c.args.until.now)) c.args.jobs.items c.requires.wired in
    λ _ _. found
