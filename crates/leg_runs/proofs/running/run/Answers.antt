use Rattle.std.proofs.Common.{◌≡◌, true, inl, inr, rules, refl, sym, subst, ◌∙◌}
use Rattle.std.proofs.lemmas.Bool.{cases_Bool}
use Rattle.core_steps.specs.World.{WorldData}
use Rattle.core_steps.specs.Answers.{CanMake}
use Rattle.leg_runs.specs.Choosing.{FailsBehind, MakesSteps}
use Rattle.leg_runs.specs.Choosing.MakesSteps.{stay, one}
use Rattle.leg_runs.proofs.Falling.{step_falls}
use Rattle.leg_runs.proofs.Tries.{on_err}
use Rattle.leg_runs.proofs.running.run.Goals as goal

pub loop-hints-smaller : goal.loop-hints-smaller
loop-hints-smaller c =
    let moved = c.in_ok-try_any.ensures.tries.moved (search rules) in
    step_falls c.loop-hints.world c.try_any.new.world moved.step c.loop-hints.invariant.sound c.loop-hints.invariant.going c.try_any.ensures.given moved.leads

pub loop-hints-init : goal.loop-hints-init
loop-hints-init c = record { given = refl; going = c.requires.going; sound = c.has_failed-failed.ensures.sound; steps = stay }

pub loop-hints-preserved : goal.loop-hints-preserved
loop-hints-preserved c =
    let moved = c.in_ok-try_any.ensures.tries.moved (search rules) in
    record {
      given = c.try_any.ensures.given ∙ c.loop-hints.invariant.given;
      going = moved.going;
      sound = c.has_failed-failed-in-loop-hints.ensures.sound;
      steps = one c.loop-hints.invariant.steps moved.step moved.leads c.try_any.ensures.given;
    }

pub returns-clause-steps : goal.returns-clause-steps
returns-clause-steps c = subst (MakesSteps c.args.world.now) (sym (c.in_ok-try_any.ensures.tries.kept (search rules))) c.loop-hints.invariant.steps

pub returns-clause-has : goal.returns-clause-has
returns-clause-has c =
    let tries = c.in_ok-try_any.ensures.tries in
    record {
      given = c.try_any.ensures.given ∙ c.loop-hints.invariant.given;
      going = tries.going;
      finished = elim (cases_Bool c.is_finished-finished.result) [
        | inl done ↦ c.is_finished-finished.ensures.done.0 done
        | inr open_still ↦ (let next = c.is_finished-finished.ensures.goes_on open_still tries.going in
            absurd (tries.none (search rules) next.0 (subst (λ (w : WorldData). CanMake w next.0) (tries.kept (search rules)) next.1)))
      ];
    }

pub returns-in_err-try_any-clause-fails : goal.returns-in_err-try_any-clause-fails
returns-in_err-try_any-clause-fails c =
    let new = c.try_any.new.world in
    on_err c.from_residual.result (new.has_failed ≡ true → FailsBehind c.args.world.now new)
    (λ failed. let one = c.in_err-try_any.ensures.refuses failed in record { before = c.loop-hints.world; steps = c.loop-hints.invariant.steps; step = one.0; refused = one.1 })
