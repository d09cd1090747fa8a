use Rattle.std.proofs.Common.{◌≡◌, eqb, sym, ◌∙◌, arith}
use Rattle.row_changes.proofs.Beside.{differ_at, alike_more, alike_all}
use Rattle.row_changes.proofs.numbers.numbers_eq.Goals as goal

pub returns-then-ne : goal.returns-then-ne
returns-then-ne c =
    differ_at c.args.old.now c.args.new.now c.loop-index.index c.get.result c.get-in-loop-index.result c.get.ensures c.get-in-loop-index.ensures (sym c.ne.ensures ∙ c.if-ne.true)

pub loop-index-preserved : goal.loop-index-preserved
loop-index-preserved c =
    let count = c.len-index-end.ensures in
    let more = alike_more c.args.old.now c.args.new.now c.loop-index.index c.get.result c.get-in-loop-index.result c.get.ensures c.get-in-loop-index.ensures (sym c.ne.ensures ∙ c.if-ne.false) (omega arith) c.loop-index.invariant.same in
    record { same = more.0; within = omega arith; beside = more.1 }

pub returns : goal.returns
returns c =
    let count = c.len-index-end.ensures in
    (λ i. eqb (c.len.ensures i) (c.len-2.ensures i))
    ∙ alike_all c.args.old.now c.args.new.now c.loop-index.index (omega arith) c.loop-index.invariant.within c.loop-index.invariant.beside c.loop-index.invariant.same
