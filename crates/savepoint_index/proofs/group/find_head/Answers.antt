use Rattle.std.proofs.Common.{Ok, ap, sym, ◌∙◌}
use Rattle.std.proofs.lemmas.Bool.{eq-eqb, ne_eqb}
use Rattle.savepoint_index.proofs.FindSteps.{one_found, one_passed, none_found, cannot_fail}
use Rattle.savepoint_index.proofs.group.find_head.Goals as goal

pub returns-in_err-head : goal.returns-in_err-head
returns-in_err-head c = λ x e. cannot_fail c.args.group c.args.count c.loop.counter c.in_err-head.field-0.0 c.loop.rest.now c.args.bytes.now c.loop-test.true c.in_err-head.ensures c.loop.invariant x e

pub returns-then-from-group : goal.returns-then-from-group
returns-then-from-group c = λ x e.
    ap (λ h. Ok h) (sym (one_found c.args.group c.args.count c.loop.counter c.in_ok-head.head c.loop.rest.now c.in_ok-head.after.now c.args.bytes.now c.loop-test.true c.in_ok-head.ensures (eq-eqb _ _ (sym c.from.ensures ∙ c.if-from-group.true)) c.loop.invariant x e))

pub loop-preserved : goal.loop-preserved
loop-preserved c =
    one_passed c.args.group c.args.count c.loop.counter c.in_ok-head.head c.loop.rest.now c.in_ok-head.after.now c.args.bytes.now c.loop-test.true c.in_ok-head.ensures (ne_eqb _ _ (λ e. c.if-from-group.false (c.from.ensures ∙ e))) c.loop.invariant

pub returns : goal.returns
returns c = λ x e. ap (λ h. Ok h) (sym (none_found c.args.group c.args.count c.loop.counter c.loop.rest.now c.args.bytes.now c.loop-test.false c.loop.invariant x e))
