use Rattle.legs.specs.Stops.{until_in}
use Rattle.core_steps.specs.Given.{begun_data}
use Rattle.thread_runner.proofs.LegLemmas.{are_at_end, as_many, are_joined}
use Rattle.thread_runner.proofs.ending.finished.Goals as goal

pub settled-dones-requires-clause-count : goal.settled-dones-requires-clause-count
settled-dones-requires-clause-count c = as_many (begun_data c.args.given.now (until_in c.args.until.now)) c.args.dones.items c.requires.worked

pub settled-dones-requires-clause-edges : goal.settled-dones-requires-clause-edges
settled-dones-requires-clause-edges c = (c.layouts_have_edges-edges.ensures c.args.given.now.plan.now c.args.given.now.layout.now c.requires.sound.given.plan c.requires.sound.given.laid_out).0

pub settled-dones-requires-clause-joined : goal.settled-dones-requires-clause-joined
settled-dones-requires-clause-joined c = are_joined (begun_data c.args.given.now (until_in c.args.until.now)) c.args.dones.items c.requires.worked

pub finish_of-requires : goal.finish_of-requires
finish_of-requires c =
    rw c.in_ok-tasks.ensures (are_at_end (begun_data c.args.given.now (until_in c.args.until.now)) c.args.dones.items c.settled-dones.result.items c.requires.sound c.requires.worked c.requires.fine c.settled-dones.ensures.same c.settled-dones.ensures.left)
