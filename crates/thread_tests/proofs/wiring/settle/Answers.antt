use Rattle.std.proofs.Common.{subst, sym}
use Rattle.legs.specs.Stops.{until_in}
use Rattle.core_steps.specs.Finishing.{AreAtEnd}
use Rattle.core_steps.specs.Given.{GivenData, given_data}
use Rattle.thread_tests.proofs.wiring.settle.Goals as goal

pub settled-dones-requires-clause-count : goal.settled-dones-requires-clause-count
settled-dones-requires-clause-count c = (c.workers_hand_back_rings-rings.ensures (given_data c.args.given (until_in c.args.until.now)) c.args.dones.items c.requires.worked).0

pub settled-dones-requires-clause-edges : goal.settled-dones-requires-clause-edges
settled-dones-requires-clause-edges c = (c.layouts_have_edges-edges.ensures c.args.given.plan.now c.args.given.layout.now c.requires.sound.given.plan c.requires.sound.given.laid_out).0

pub settled-dones-requires-clause-joined : goal.settled-dones-requires-clause-joined
settled-dones-requires-clause-joined c = (c.workers_hand_back_rings-rings.ensures (given_data c.args.given (until_in c.args.until.now)) c.args.dones.items c.requires.worked).1

pub finish_of-requires : goal.finish_of-requires
finish_of-requires c =
    let g = given_data c.args.given (until_in c.args.until.now) in
    let end : AreAtEnd g c.in_ok-tasks.tasks.items = rw c.in_ok-tasks.ensures (c.workers_are_at_end-end.ensures (given_data c.args.given (until_in c.args.until.now)) c.args.dones.items c.settled-dones.result.0.items c.requires.sound c.requires.worked c.requires.fine c.settled-dones.ensures.same c.settled-dones.ensures.left) in
    subst (λ (x : GivenData). AreAtEnd x c.in_ok-tasks.tasks.items) (sym (c.begun.ensures (until_in c.args.until.now))) end
