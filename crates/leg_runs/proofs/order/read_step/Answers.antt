use Rattle.std.proofs.Common.{◌≡◌, ℕ, List, length, sym, ap, subst, ◌∙◌, inl, inr, arith}
use Rattle.std.specs.Prelude.{slice_index}
use Rattle.std.proofs.lemmas.Bool.{cases_lt, false≢true}
use Rattle.dataflow_laws.specs.declared.step.Step.TheVariants.{Read}
use Rattle.core_steps.specs.Answers.{CanMake}
use Rattle.leg_runs.proofs.Orders.{cannot_read}
use Rattle.leg_runs.proofs.order.read_step.Goals as goal

pub returns-then-enabled : goal.returns-then-enabled
returns-then-enabled c = (c.enabled.ensures.0 c.if-enabled.true).1

pub loop-at-preserved : goal.loop-at-preserved
loop-at-preserved c k l can =
    elim (cases_lt k c.loop-at.at) [
      | inl m ↦ c.loop-at.invariant k m can
      | inr m ↦ (let e : k ≡ c.loop-at.at = omega (arith, l, m) in
          absurd (false≢true (sym c.if-enabled.false ∙ c.enabled.ensures.1 (c.requires.going, subst (λ n. CanMake c.args.world.now (Read c.args.task n)) (ap (slice_index c.partitions_of-partitions.result.now) e) can))))
    ]

pub returns : goal.returns
returns c =
    let parts = c.partitions_of-partitions.result.now in
    let here = c.partitions_of-partitions.ensures in
    let long = ap (λ (xs : List ℕ). length xs) here in
    cannot_read c.args.world.now c.args.layout.now c.args.task c.requires.same c.requires.laid_out
    (λ k l can. c.loop-at.invariant k (let past = c.loop-at-test.false in omega (arith, l, long, past)) (subst (λ xs. CanMake c.args.world.now (Read c.args.task (slice_index xs k))) (sym here) can))
