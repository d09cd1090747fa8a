use Rattle.std.proofs.Common.{None}
use Rattle.std.proofs.lemmas.Result.{err_from_is_err_and}
use Rattle.byte_fields.specs.declared.fault.ReadFault.TheVariants.{Bytes}
use Rattle.byte_fields.proofs.Exact.{reads_one, fails_at, reads_all, chain-read-length}
use Rattle.savepoint_codec.specs.Fields.{kind_field}
use Rattle.savepoint_codec.proofs.fields.read_kind_list.Goals as goal

pub returns-in_err-kind-clause-read : goal.returns-in_err-kind-clause-read
returns-in_err-kind-clause-read c =
    let e = err_from_is_err_and c.from_residual.result c.from_residual.ensures.1 in
    rw (e.1, e.2) (fails_at (λ _. kind_field) (Bytes c.in_err-kind.field-0.0) c.args.count c.loop.counter c.loop.kinds.items c.loop.rest.now c.args.bytes.now c.loop-test.true c.in_err-kind.ensures c.loop.invariant)

pub loop-preserved : goal.loop-preserved
loop-preserved c =
    rw c.in_ok-push.ensures.items (reads_one (λ _. kind_field) c.args.count c.loop.counter c.loop.kinds.items c.loop.rest.now c.args.bytes.now c.in_ok-kind.kind c.in_ok-kind.after.now c.loop-test.true c.in_ok-kind.ensures c.loop.invariant)

pub returns-clause-read : goal.returns-clause-read
returns-clause-read c = reads_all (λ _. kind_field) c.args.count c.loop.counter c.loop.kinds.items c.loop.rest.now c.args.bytes.now c.loop-test.false c.loop.invariant

pub returns-clause-counted : goal.returns-clause-counted
returns-clause-counted c =
    let all = reads_all (λ _. kind_field) c.args.count c.loop.counter c.loop.kinds.items c.loop.rest.now c.args.bytes.now c.loop-test.false c.loop.invariant in
    chain-read-length (λ _. kind_field) None c.args.count c.args.bytes.now (c.loop.kinds.items, c.loop.rest.now) all
