use Rattle.legs.specs.Stops.{until_in}
use Rattle.core_steps.specs.Given.{given_data}
use Rattle.thread_runner.proofs.LegLemmas.{finds_all}
use Rattle.thread_tests.proofs.wiring.run_wired.Goals as goal

pub run_all-requires-after_bounds : goal.run_all-requires-after_bounds
run_all-requires-after_bounds g c = λ _ _. finds_all (given_data c.args.given (until_in c.args.leg.now.until)) c.in_ok-jobs.jobs.items c.in_ok-jobs.ensures.wired
