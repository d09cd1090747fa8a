use Rattle.std.proofs.Common.{string_bytes}
use Rattle.std.proofs.lemmas.Option.{slice_get-get_or}
use Rattle.std.specs.Fmt.{decimal}
use Rattle.cut_texts.proofs.Spelled.{part_more}
use Rattle.cut_texts.proofs.spelling.push_source.Goals as goal

pub loop-place-preserved : goal.loop-place-preserved
loop-place-preserved c =
    let counts = c.args.counts.now in
    let place = c.loop-place.place in
    part_more 44 decimal counts place _ (string_bytes c.args.text.now) (string_bytes c.loop-place.text) (string_bytes c.push_separator.new.text) (string_bytes c.push_decimal.new.text)
    (slice_get-get_or counts place _ c.loop-place-test.true) c.in_ok-push_decimal.ensures c.in_ok-push_separator.ensures c.loop-place.invariant
