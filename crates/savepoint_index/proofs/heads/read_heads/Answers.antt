use Rattle.std.proofs.Common.{◌≡◌, List, Ok, subst, ap, ◌∙◌}
use Rattle.std.proofs.lemmas.Result.{err_from_is_err_and}
use Rattle.byte_fields.specs.Lists.{last_of}
use Rattle.byte_fields.specs.declared.fault.ReadFault.TheVariants as read
use Rattle.byte_fields.specs.Reads.{Fails}
use Rattle.byte_fields.proofs.Exact.{reads_one, fails_at, reads_all}
use Rattle.savepoint_index.specs.declared.head.GroupHead.{GroupHead}
use Rattle.savepoint_index.specs.Index.{head_field}
use Rattle.savepoint_index.proofs.heads.read_heads.Goals as goal

pub returns-in_err-head : goal.returns-in_err-head
returns-in_err-head c =
    let item = head_field c.args.max c.args.size c.args.first in
    let last = c.last_head.ensures ∙ ap (λ (hs : List GroupHead). last_of hs) c.deref.ensures.value in
    let e = err_from_is_err_and c.from_residual-in_err-head.result c.from_residual-in_err-head.ensures.1 in
    rw (e.1, e.2) (fails_at item (read.Bytes c.in_err-head.field-0.0) c.args.count c.loop.counter c.loop.heads.items c.loop.rest.now c.args.bytes.now c.loop-test.true (subst (λ last. Fails (read.Bytes c.in_err-head.field-0.0) ((item last).read c.loop.rest.now)) last c.in_err-head.ensures) c.loop.invariant)

pub loop-preserved : goal.loop-preserved
loop-preserved c =
    let item = head_field c.args.max c.args.size c.args.first in
    let last = c.last_head.ensures ∙ ap (λ (hs : List GroupHead). last_of hs) c.deref.ensures.value in
    rw c.in_ok-push.ensures.items (reads_one item c.args.count c.loop.counter c.loop.heads.items c.loop.rest.now c.args.bytes.now c.in_ok-head.head c.in_ok-head.after.now c.loop-test.true (subst (λ last. (item last).read c.loop.rest.now ≡ Ok (c.in_ok-head.head, c.in_ok-head.after.now)) last c.in_ok-head.ensures) c.loop.invariant)

pub returns : goal.returns
returns c = reads_all (head_field c.args.max c.args.size c.args.first) c.args.count c.loop.counter c.loop.heads.items c.loop.rest.now c.args.bytes.now c.loop-test.false c.loop.invariant
