use Rattle.std.proofs.Common.{◌≡◌, inr, true}
use Rattle.leg_runs.specs.Choosing.{FailsBehind, GivesUp, MakesSteps, MakesThen}
use Rattle.leg_runs.proofs.Chosen.{fails_so, so_far, so_refused}
use Rattle.leg_runs.proofs.Tries.{on_err}
use Rattle.leg_runs.proofs.leg.make_steps.Goals as goal

pub returns-clause-chosen : goal.returns-clause-chosen
returns-clause-chosen c =
    so_far c.run.result (MakesSteps c.follow.new.world c.run.new.world) (MakesThen c.args.choices.now c.args.world.now c.run.new.world)
    (λ steps. record { next = c.follow.new.world; follows = c.in_ok-follow.ensures.follows c.requires.same; steps = steps }) c.run.ensures.steps

pub returns-in_err-follow-clause-gives_up : goal.returns-in_err-follow-clause-gives_up
returns-in_err-follow-clause-gives_up c =
    let old = c.args.world.now in
    let new = c.follow.new.world in
    on_err c.from_residual.result (new.has_failed ≡ true → GivesUp c.args.choices.now old new) (fails_so c.args.choices.now old new c.requires.going (c.in_err-follow.ensures.fails c.requires.same))

pub returns-clause-gives_up : goal.returns-clause-gives_up
returns-clause-gives_up c =
    let next = c.follow.new.world in
    let new = c.run.new.world in
    so_refused c.run.result (new.has_failed ≡ true → FailsBehind next new) (new.has_failed ≡ true → GivesUp c.args.choices.now c.args.world.now new)
    (λ fails failed. inr (next, c.in_ok-follow.ensures.follows c.requires.same, fails failed)) c.run.ensures.fails
