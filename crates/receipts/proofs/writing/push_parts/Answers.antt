use Rattle.std.proofs.Common.{string_bytes}
use Rattle.std.proofs.lemmas.Option.{slice_get-get_or}
use Rattle.cut_texts.proofs.Spelled.{part_more}
use Rattle.receipts.specs.ReceiptText.{counted_text}
use Rattle.receipts.proofs.writing.push_parts.Goals as goal

pub loop-place-preserved : goal.loop-place-preserved
loop-place-preserved c =
    let parts = c.args.parts.now in
    let place = c.loop-place.place in
    part_more 44 counted_text parts place _ (string_bytes c.args.text.now) (string_bytes c.loop-place.text) (string_bytes c.push_separator.new.text) (string_bytes c.push_counted.new.text)
    (slice_get-get_or parts place _ c.loop-place-test.true) c.in_ok-push_counted.ensures c.in_ok-push_separator.ensures c.loop-place.invariant
