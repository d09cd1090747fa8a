use Rattle.std.proofs.lemmas.Result.{err_from_is_err_and}
use Rattle.byte_fields.specs.declared.fault.ReadFault.TheVariants.{Bytes}
use Rattle.byte_fields.proofs.Exact.{reads_one, fails_at, reads_all}
use Rattle.savepoint_codec.specs.Fields.{partition_field}
use Rattle.savepoint_codec.proofs.fields.read_partition_list.Goals as goal

pub returns-in_err-partition : goal.returns-in_err-partition
returns-in_err-partition c =
    let e = err_from_is_err_and c.from_residual.result c.from_residual.ensures.1 in
    rw (e.1, e.2) (fails_at (λ _. partition_field) (Bytes c.in_err-partition.field-0.0) c.args.count c.loop.counter c.loop.partitions.items c.loop.rest.now c.args.bytes.now c.loop-test.true c.in_err-partition.ensures c.loop.invariant)

pub loop-preserved : goal.loop-preserved
loop-preserved c =
    rw c.in_ok-push.ensures.items (reads_one (λ _. partition_field) c.args.count c.loop.counter c.loop.partitions.items c.loop.rest.now c.args.bytes.now c.in_ok-partition.partition c.in_ok-partition.after.now c.loop-test.true c.in_ok-partition.ensures c.loop.invariant)

pub returns : goal.returns
returns c = reads_all (λ _. partition_field) c.args.count c.loop.counter c.loop.partitions.items c.loop.rest.now c.args.bytes.now c.loop-test.false c.loop.invariant
