use Rattle.std.proofs.Common.{◌≡◌, List, Ok, subst, ap, ◌∙◌}
use Rattle.std.proofs.lemmas.Result.{err_from_is_err_and}
use Rattle.std.specs.Option.{option_map}
use Rattle.byte_fields.specs.Lists.{last_of}
use Rattle.byte_fields.specs.Reads.{Fails}
use Rattle.savepoint_codec.specs.declared.savepoint.SavedSource.{SavedSource}
use Rattle.byte_fields.proofs.Exact.{reads_one, fails_at, reads_all}
use Rattle.savepoint_codec.specs.Fields.{source_after, source_field}
use Rattle.savepoint_codec.proofs.fields.read_source_list.Goals as goal

pub returns-in_err-source : goal.returns-in_err-source
returns-in_err-source c =
    let last = c.last_uid.ensures ∙ ap (λ (ss : List SavedSource). option_map (λ s. s.uid) (last_of ss)) c.deref.ensures.value in
    let e = err_from_is_err_and c.from_residual.result c.from_residual.ensures.1 in
    rw (e.1, e.2) (fails_at source_after c.in_err-source.field-0.0 c.args.count c.loop.counter c.loop.sources.items c.loop.rest.now c.args.bytes.now c.loop-test.true (subst (λ last. Fails c.in_err-source.field-0.0 ((source_field last).read c.loop.rest.now)) last c.in_err-source.ensures) c.loop.invariant)

pub loop-preserved : goal.loop-preserved
loop-preserved c =
    let last = c.last_uid.ensures ∙ ap (λ (ss : List SavedSource). option_map (λ s. s.uid) (last_of ss)) c.deref.ensures.value in
    rw c.in_ok-push.ensures.items (reads_one source_after c.args.count c.loop.counter c.loop.sources.items c.loop.rest.now c.args.bytes.now c.in_ok-source.source c.in_ok-source.after.now c.loop-test.true (subst (λ last. (source_field last).read c.loop.rest.now ≡ Ok (c.in_ok-source.source, c.in_ok-source.after.now)) last c.in_ok-source.ensures) c.loop.invariant)

pub returns : goal.returns
returns c = reads_all source_after c.args.count c.loop.counter c.loop.sources.items c.loop.rest.now c.args.bytes.now c.loop-test.false c.loop.invariant
