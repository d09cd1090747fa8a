use Rattle.std.proofs.Common.{refl}
use Rattle.std.proofs.lemmas.Result.{err_from_is_err_and}
use Rattle.savepoint_index.proofs.ListSteps.{one_read, one_fails, all_read}
use Rattle.savepoint_index.proofs.heads.read_lists.Goals as goal

pub returns-in_err-entries : goal.returns-in_err-entries
returns-in_err-entries c =
    let e = err_from_is_err_and c.from_residual-in_err-entries.result c.from_residual-in_err-entries.ensures.1 in
    rw (e.1, e.2) (one_fails c.args.kinds.now c.args.heads.now c.loop-head.head-index _ _ c.in_err-entries.field-0.0 c.loop-head.groups.items c.loop-head.rest.now c.args.bytes.now c.loop-head-test.true refl c.in_err-entries.ensures c.loop-head.invariant)

pub loop-head-preserved : goal.loop-head-preserved
loop-head-preserved c =
    rw c.in_ok-push.ensures.items (one_read c.args.kinds.now c.args.heads.now c.loop-head.head-index _ _ c.loop-head.groups.items c.loop-head.rest.now c.args.bytes.now c.in_ok-entries.after.now c.in_ok-entries.entries c.loop-head-test.true refl c.in_ok-entries.ensures c.loop-head.invariant)

pub returns : goal.returns
returns c = all_read c.args.kinds.now c.args.heads.now c.loop-head.head-index c.loop-head.groups.items c.loop-head.rest.now c.args.bytes.now c.loop-head-test.false c.loop-head.invariant
