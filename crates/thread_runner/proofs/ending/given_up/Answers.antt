use Rattle.std.proofs.Common.{subst, arith}
use Rattle.std.specs.Prelude.{IfSome}
use Rattle.std.proofs.lemmas.List.{length-map}
use Rattle.legs.specs.declared.cut.Cut.{Cut}
use Rattle.legs.specs.Stops.{until_in}
use Rattle.core_steps.specs.Given.{begun_data}
use Rattle.core_steps.specs.World.{state_at}
use Rattle.core_steps.specs.Sealing.{IsSealOf}
use Rattle.core_steps.proofs.OnWay.{on_way}
use Rattle.thread_runner.proofs.LegLemmas.{are_on_the_way, as_many, are_joined}
use Rattle.thread_runner.proofs.ending.given_up.Goals as goal

pub settled-dones-requires-clause-count : goal.settled-dones-requires-clause-count
settled-dones-requires-clause-count c = as_many (begun_data c.args.given.now (until_in c.args.until.now)) c.args.dones.items c.requires.worked

pub settled-dones-requires-clause-edges : goal.settled-dones-requires-clause-edges
settled-dones-requires-clause-edges c = (c.layouts_have_edges-edges.ensures c.args.given.now.plan.now c.args.given.now.layout.now c.requires.sound.given.plan c.requires.sound.given.laid_out).0

pub settled-dones-requires-clause-joined : goal.settled-dones-requires-clause-joined
settled-dones-requires-clause-joined c = are_joined (begun_data c.args.given.now (until_in c.args.until.now)) c.args.dones.items c.requires.worked

pub sealed_of-requires : goal.sealed_of-requires
sealed_of-requires c =
    rw (c.as_slice.ensures.value, c.in_ok-tasks.ensures) (are_on_the_way (begun_data c.args.given.now (until_in c.args.until.now)) c.args.dones.items c.settled-dones.result.items c.requires.sound c.requires.worked c.settled-dones.ensures.same c.settled-dones.ensures.left)

pub returns-in-Some-clause-ends : goal.returns-in-Some-clause-ends
returns-in-Some-clause-ends c =
    let g = begun_data c.args.given.now (until_in c.args.until.now) in
    let states = state_at g c.as_slice.result.now in
    let sealed = subst (λ o. IfSome o (IsSealOf g states)) c.in-Some.is c.in_ok-sealed.ensures.exact in
    let many = length-map c.args.given.now.saves.now (λ (cut : Cut). cut.counts) in
    let at = sealed.barrier in
    on_way g states c.in-Some.sealed sealed (omega (arith, c.if-branch-given.true, many, at))
