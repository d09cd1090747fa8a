use Rattle.std.proofs.Common.{◌≡◌, ℕ, List, length, sym, ap, subst, ◌∙◌, inl, inr, arith}
use Rattle.std.proofs.lemmas.Bool.{cases_lt, false≢true}
use Rattle.dataflow_laws.specs.declared.step.Step.TheVariants.{Take}
use Rattle.core_steps.specs.Answers.{CanMake}
use Rattle.leg_runs.proofs.Orders.{cannot_take}
use Rattle.leg_runs.proofs.order.take_step.Goals as goal

pub loop-input-preserved : goal.loop-input-preserved
loop-input-preserved c k l can =
    elim (cases_lt k c.loop-input.input) [
      | inl m ↦ c.loop-input.invariant k m can
      | inr m ↦ (let e : k ≡ c.loop-input.input = omega (arith, l, m) in
          absurd (false≢true (sym c.if-enabled.false ∙ c.enabled.ensures.1 (c.requires.going, subst (λ n. CanMake c.args.world.now (Take c.args.task n)) e can))))
    ]

pub returns : goal.returns
returns c =
    let long = ap (λ (xs : List ℕ). length xs) c.inputs_of-input-end.ensures in
    cannot_take c.args.world.now c.args.layout.now c.args.task c.requires.same
    (λ k l can. c.loop-input.invariant k (let past = c.loop-input-test.false in omega (arith, l, long, past)) can)
