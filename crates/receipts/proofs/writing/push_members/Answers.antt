use Rattle.std.proofs.Common.{◌≡◌, ◌∙◌, ◌<◌, ◌≤◌, ◌++◌, Some, map, zip, ap, sym, length, get_or, slice_get, arith, string_bytes}
use Rattle.std.specs.List.{join_with_byte}
use Rattle.std.proofs.lemmas.List.{take_all}
use Rattle.std.proofs.lemmas.Option.{slice_get-get_or}
use Rattle.std.proofs.lemmas.Slice.Zip.{get_or-zip, length-zip}
use Rattle.cut_texts.proofs.Spelled.{part_more}
use Rattle.receipts.specs.ReceiptText.{source_member}
use Rattle.receipts.proofs.writing.push_members.Goals as goal

pub loop-place-preserved : goal.loop-place-preserved
loop-place-preserved c =
    let sources = c.args.sources.now in
    let read = c.args.read.now in
    let place = c.loop-place.place in
    let short = c.loop-place-test.true in
    let same = c.requires in
    let within : place < length (zip sources read) = omega (arith, short, same, length-zip sources read) in
    let long : place < length read = omega (arith, short, same) in
    let x = c.index-sources-place.result in
    let y = c.index-read-place.result in
    let found : get_or (zip sources read) place (x, y) ≡ (x, y) = get_or-zip sources read place (x, y) short long ∙ ap (λ s. (s, get_or read place y)) (sym c.index-sources-place.is) ∙ ap (λ e. (x, e)) (sym c.index-read-place.is) in
    let at : slice_get (zip sources read) place ≡ Some (x, y) = slice_get-get_or (zip sources read) place (x, y) within ∙ ap (λ z. Some z) found in
    let step = c.in_ok-push_source.ensures ∙ ap (λ parts. string_bytes c.push_separator.new.text ++ source_member (x, parts)) c.as_slice.ensures in
    part_more 44 source_member (zip sources read) place (x, y) (string_bytes c.args.text.now) (string_bytes c.loop-place.text) (string_bytes c.push_separator.new.text) (string_bytes c.push_source.new.text)
    at step c.in_ok-push_separator.ensures c.loop-place.invariant

pub returns : goal.returns
returns c =
    let pairs = zip c.args.sources.now c.args.read.now in
    let past = c.loop-place-test.false in
    let all : length pairs ≤ c.loop-place.place = omega (arith, past, length-zip c.args.sources.now c.args.read.now) in
    c.loop-place.invariant ∙ ap (λ some. string_bytes c.args.text.now ++ join_with_byte 44 (map source_member some)) (take_all c.loop-place.place pairs all)
