use Rattle.std.proofs.Common.{◌≡◌, List, Ok, subst, ap, ◌∙◌}
use Rattle.std.proofs.lemmas.Result.{err_from_is_err_and}
use Rattle.std.specs.Option.{option_map}
use Rattle.byte_fields.specs.Lists.{last_of}
use Rattle.byte_fields.specs.Reads.{Fails}
use Rattle.savepoint_codec.specs.declared.savepoint.SavedGroup.{SavedGroup}
use Rattle.byte_fields.proofs.Exact.{reads_one, fails_at, reads_all}
use Rattle.savepoint_codec.specs.Fields.{group_after, group_field}
use Rattle.savepoint_codec.proofs.groups.read_group_list.Goals as goal

pub returns-in_err-group : goal.returns-in_err-group
returns-in_err-group c =
    let last = c.last_group.ensures ∙ ap (λ (ss : List SavedGroup). option_map (λ g. g.group) (last_of ss)) c.deref.ensures.value in
    let e = err_from_is_err_and c.from_residual-in_err-group.result c.from_residual-in_err-group.ensures.1 in
    rw (e.1, e.2) (fails_at (group_after c.args.max c.args.kinds.now) c.in_err-group.field-0.0 c.args.count c.loop.counter c.loop.groups.items c.loop.rest.now c.args.bytes.now c.loop-test.true (subst (λ last. Fails c.in_err-group.field-0.0 ((group_field c.args.max c.args.kinds.now last).read c.loop.rest.now)) last c.in_err-group.ensures) c.loop.invariant)

pub loop-preserved : goal.loop-preserved
loop-preserved c =
    let last = c.last_group.ensures ∙ ap (λ (ss : List SavedGroup). option_map (λ g. g.group) (last_of ss)) c.deref.ensures.value in
    rw c.in_ok-push.ensures.items (reads_one (group_after c.args.max c.args.kinds.now) c.args.count c.loop.counter c.loop.groups.items c.loop.rest.now c.args.bytes.now c.in_ok-group.group c.in_ok-group.after.now c.loop-test.true (subst (λ last. (group_field c.args.max c.args.kinds.now last).read c.loop.rest.now ≡ Ok (c.in_ok-group.group, c.in_ok-group.after.now)) last c.in_ok-group.ensures) c.loop.invariant)

pub returns : goal.returns
returns c = reads_all (group_after c.args.max c.args.kinds.now) c.args.count c.loop.counter c.loop.groups.items c.loop.rest.now c.args.bytes.now c.loop-test.false c.loop.invariant
