use Rattle.std.proofs.Common.{◌∙◌}
use Rattle.std.proofs.lemmas.Result.{err_from_is_err_and}
use Rattle.savepoint_codec.proofs.EntryFacts.{none_read, entry_comes, entry_fails, entries_done}
use Rattle.savepoint_codec.proofs.groups.read_entry_list.Goals as goal

pub loop-init : goal.loop-init
loop-init c = none_read c.args.kinds.now c.args.count c.reserve.new.self c.args.bytes.now (c.in_ok-reserve.ensures ∙ c.new-entries.ensures)

pub returns-in_err-pane : goal.returns-in_err-pane
returns-in_err-pane c =
    let e = err_from_is_err_and c.from_residual-in_err-pane.result c.from_residual-in_err-pane.ensures.1 in
    rw (e.1, e.2) (entry_fails c.args.kinds.now c.in_err-pane.field-0.0 c.args.count c.loop.counter c.loop.last c.loop.entries c.loop.rest.now c.args.bytes.now c.loop-test.true c.in_err-pane.ensures c.loop.invariant)

pub loop-preserved : goal.loop-preserved
loop-preserved c =
    entry_comes c.args.kinds.now c.args.count c.loop.counter c.loop.last c.loop.entries c.read_entry_onto.new.entries c.loop.rest.now c.args.bytes.now c.in_ok-pane.pane c.in_ok-pane.after.now c.loop-test.true c.in_ok-pane.ensures c.loop.invariant

pub returns : goal.returns
returns c = entries_done c.args.kinds.now c.args.count c.loop.counter c.loop.last c.loop.entries c.loop.rest.now c.args.bytes.now c.loop-test.false c.loop.invariant
