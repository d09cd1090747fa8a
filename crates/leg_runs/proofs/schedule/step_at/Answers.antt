use Rattle.std.proofs.Common.{◌≡◌, [], ◌+◌, refl, sym, ap, ◌∙◌, arith}
use Rattle.std.proofs.lemmas.Bool.{false≢true}
use Rattle.std.specs.Prelude.{slice_get}
use Rattle.core_steps.specs.Answers.{CanMake}
use Rattle.leg_runs.specs.Choosing.{steps_of}
use Rattle.leg_runs.specs.Choosing.Selects.{none}
use Rattle.leg_runs.proofs.Selecting.{one_more, none_more, counted_all, next_is, none_behind}
use Rattle.leg_runs.proofs.schedule.step_at.Goals.{then-enabled+else-left-eq0, else-enabled}
use Rattle.leg_runs.proofs.schedule.step_at.Goals as goal

pub loop-number-init : goal.loop-number-init
loop-number-init c = (0, ([], none, refl), omega (arith))

pub returns-then-left-eq0-clause-is : goal.returns-then-left-eq0-clause-is
returns-then-left-eq0-clause-is c full all =
    let long = c.candidate_count-number-end.ensures in
    let within = c.loop-number-test.true in
    let is = c.candidate-step.ensures (omega (arith, long, within)) in
    let seen = c.loop-number.invariant.0 in
    let placed = c.loop-number.invariant.2 in
    let zero = c.if-left-eq0.true in
    let e : c.args.place ≡ seen = omega (arith, placed, zero) in
    ap (slice_get full) e ∙ next_is (CanMake c.args.world.now) (steps_of c.args.layout.now c.args.task) full c.loop-number.number seen c.candidate-step.result is (c.enabled.ensures.0 c.if-enabled.true).1 c.loop-number.invariant.1 all

pub loop-number-preserved : goal.loop-number-preserved
loop-number-preserved c =
    let xs = steps_of c.args.layout.now c.args.task in
    let n = c.loop-number.number in
    let long = c.candidate_count-number-end.ensures in
    let within = c.loop-number-test.true in
    let is = c.candidate-step.ensures (omega (arith, long, within)) in
    let seen = c.loop-number.invariant.0 in
    let placed = c.loop-number.invariant.2 in
    elim c.if-enabled.branch [
      | then-enabled+else-left-eq0 w ↦ (let less = w.left-is in let some = w.if-left-eq0.false in
          (seen + 1, one_more (CanMake c.args.world.now) xs n seen c.candidate-step.result is (c.enabled.ensures.0 w.if-enabled.true).1 c.loop-number.invariant.1, omega (arith, placed, less, some)))
      | else-enabled w ↦ (let same = w.left-is in
          (seen, none_more (CanMake c.args.world.now) xs n seen c.candidate-step.result is (λ can. absurd (false≢true (sym w.if-enabled.false ∙ c.enabled.ensures.1 (c.requires.going, can)))) c.loop-number.invariant.1, omega (arith, placed, same)))
    ]

pub returns-clause-is : goal.returns-clause-is
returns-clause-is c full all =
    let long = c.candidate_count-number-end.ensures in
    let past = c.loop-number-test.false in
    let placed = c.loop-number.invariant.2 in
    let seen = c.loop-number.invariant.0 in
    none_behind (CanMake c.args.world.now) (steps_of c.args.layout.now c.args.task) full seen c.args.place (counted_all (CanMake c.args.world.now) (steps_of c.args.layout.now c.args.task) c.loop-number.number seen (omega (arith, long, past)) c.loop-number.invariant.1) (omega (arith, placed)) all
