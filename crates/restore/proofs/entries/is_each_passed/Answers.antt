use Rattle.std.proofs.Common.{◌≡◌, get_or, sym, ap, ◌∙◌}
use Rattle.std.proofs.lemmas.List.Folds.{list_all_more, list_all_at}
use Rattle.std.proofs.lemmas.Option.{get_or_from_slice_get, slice_get_within}
use Rattle.byte_fields.proofs.Exact.{and_true}
use Rattle.savepoint_codec.specs.EntriesView.{entry_data}
use Rattle.restore.specs.EntryTest.{passes}
use Rattle.restore.proofs.entries.is_each_passed.Goals as goal

pub returns-then-not-is_passed : goal.returns-then-not-is_passed
returns-then-not-is_passed c =
    let test = passes c.args.window.now c.args.test.now c.args.group in
    let all = c.args.entries.now.entries in
    let x = entry_data c.entry.result in
    let here : get_or all c.loop-i.i x ≡ x = get_or_from_slice_get all c.loop-i.i x x c.entry.ensures in
    sym (list_all_at test all c.loop-i.i x (slice_get_within all c.loop-i.i x c.entry.ensures) (ap test here ∙ sym c.is_passed.ensures ∙ c.if-not-is_passed.true))

pub loop-i-preserved : goal.loop-i-preserved
loop-i-preserved c =
    let test = passes c.args.window.now c.args.test.now c.args.group in
    let all = c.args.entries.now.entries in
    let x = entry_data c.entry.result in
    let here : get_or all c.loop-i.i x ≡ x = get_or_from_slice_get all c.loop-i.i x x c.entry.ensures in
    list_all_more test all c.loop-i.i x (slice_get_within all c.loop-i.i x c.entry.ensures)
    ∙ and_true _ _ c.loop-i.invariant (ap test here ∙ sym c.is_passed.ensures ∙ c.if-not-is_passed.false)
