use Rattle.std.proofs.Common.{◌≡◌, ◌∙◌, ◌<◌, ◌≤◌, [], Some, ap, sym, length, get_or, slice_get, arith, string_bytes}
use Rattle.std.proofs.lemmas.List.{take_all}
use Rattle.std.proofs.lemmas.Option.{slice_get-get_or}
use Rattle.std.proofs.lemmas.Slice.Zip.{get_or-zip, length-zip}
use Rattle.std.specs.List.{flat_map, zip}
use Rattle.job_texts.proofs.Facts.{item_more}
use Rattle.cut_texts.specs.Extents.{source_lines}
use Rattle.cut_texts.proofs.extents.text_of_extents.Goals as goal

pub loop-place-preserved : goal.loop-place-preserved
loop-place-preserved c =
    let sources = c.args.sources.now in
    let extents = c.args.extents.now in
    let place = c.loop-place.place in
    let short = c.loop-place-test.true in
    let same = c.requires in
    let within : place < length (zip sources extents) = omega (arith, short, same, length-zip sources extents) in
    let long : place < length extents = omega (arith, short, same) in
    let x = c.index-sources-place.result in
    let y = c.index-extents-place.result in
    let found : get_or (zip sources extents) place (x, y) ≡ (x, y) = get_or-zip sources extents place (x, y) short long ∙ ap (λ s. (s, get_or extents place y)) (sym c.index-sources-place.is) ∙ ap (λ e. (x, e)) (sym c.index-extents-place.is) in
    let at : slice_get (zip sources extents) place ≡ Some (x, y) = slice_get-get_or (zip sources extents) place (x, y) within ∙ ap (λ z. Some z) found in
    item_more source_lines (zip sources extents) place (x, y) [] (string_bytes c.loop-place.text) (string_bytes c.push_source.new.text) at c.in_ok-push_source.ensures c.loop-place.invariant

pub returns : goal.returns
returns c =
    let pairs = zip c.args.sources.now c.args.extents.now in
    let past = c.loop-place-test.false in
    let all : length pairs ≤ c.loop-place.place = omega (arith, past, length-zip c.args.sources.now c.args.extents.now) in
    c.loop-place.invariant ∙ ap (flat_map source_lines) (take_all c.loop-place.place pairs all)
