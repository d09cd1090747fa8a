use Rattle.std.proofs.Common.{[], ◌+◌, take, refl, sym, subst, ◌∙◌, arith}
use Rattle.std.proofs.lemmas.Bool.{false≢true}
use Rattle.core_steps.specs.Answers.{CanMake}
use Rattle.leg_runs.specs.Choosing.{HasCount, steps_of}
use Rattle.leg_runs.specs.Choosing.Selects.{none}
use Rattle.leg_runs.proofs.Selecting.{one_more, none_more, counted_all}
use Rattle.leg_runs.proofs.schedule.count.Goals.{then-enabled, else-enabled}
use Rattle.leg_runs.proofs.schedule.count.Goals as goal

pub loop-number-init : goal.loop-number-init
loop-number-init c = (([], none, refl), omega (arith))

pub loop-number-preserved : goal.loop-number-preserved
loop-number-preserved c =
    let xs = steps_of c.args.layout.now c.args.task in
    let n = c.loop-number.number in
    let long = c.candidate_count-number-end.ensures in
    let within = c.loop-number-test.true in
    let is = c.candidate.ensures (omega (arith, long, within)) in
    elim c.if-enabled.branch [
      | then-enabled w ↦ (let more = w.count-is in let old = c.loop-number.invariant.1 in (
        subst (HasCount (CanMake c.args.world.now) (take (n + 1) xs)) (sym w.count-is) (one_more (CanMake c.args.world.now) xs n c.loop-number.count c.candidate.result is (c.enabled.ensures.0 w.if-enabled.true).1 c.loop-number.invariant.0),
        omega (arith, more, old),
      ))
      | else-enabled w ↦ (let same = w.count-is in let old = c.loop-number.invariant.1 in (
        subst (HasCount (CanMake c.args.world.now) (take (n + 1) xs)) (sym w.count-is) (none_more (CanMake c.args.world.now) xs n c.loop-number.count c.candidate.result is (λ can. absurd (false≢true (sym w.if-enabled.false ∙ c.enabled.ensures.1 (c.requires.going, can)))) c.loop-number.invariant.0),
        omega (arith, same, old),
      ))
    ]

pub returns : goal.returns
returns c =
    let long = c.candidate_count-number-end.ensures in
    let past = c.loop-number-test.false in
    counted_all (CanMake c.args.world.now) (steps_of c.args.layout.now c.args.task) c.loop-number.number c.loop-number.count (omega (arith, long, past)) c.loop-number.invariant.0
