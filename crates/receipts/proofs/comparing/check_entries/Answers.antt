use Rattle.std.proofs.Common.{◌<◌, length, get_or, sym, ap, ◌∙◌, arith}
use Rattle.std.proofs.lemmas.List.{get_or-map, length-map}
use Rattle.receipts.proofs.comparing.check_entries.Goals as goal

-- at each place there are as many partitions
pub check_source-requires : goal.check_source-requires
check_source-requires c =
    let told = c.args.told.now in
    let read = c.args.read.now in
    let place = c.loop-place.place in
    let t = c.index-told-place.result in
    let r = c.index-read-place.result in
    let as_many = ap (λ ns. length ns) c.requires.partitions in
    let in_told : place < length told = omega (arith, c.loop-place-test.true, c.requires.sources) in
    let in_read : place < length read = omega (arith, in_told, as_many, length-map told (λ counted. length counted), length-map read (λ counted. length counted)) in
    ap (λ counted. length counted) (c.as_slice-told.ensures ∙ c.index-told-place.is) ∙ sym (get_or-map (λ counted. length counted) told place t 0 in_told) ∙ ap (λ ns. get_or ns place 0) c.requires.partitions
    ∙ get_or-map (λ counted. length counted) read place r 0 in_read ∙ sym (ap (λ counted. length counted) (c.as_slice.ensures ∙ c.index-read-place.is))
