use Rattle.std.proofs.Common.{◌≡◌, ◌∙◌, ◌++◌, [], Some, ap, sym, slice_get, string_bytes}
use Rattle.std.proofs.lemmas.Option.{slice_get-get_or}
use Rattle.cut_texts.specs.Words.{source_text}
use Rattle.cut_texts.proofs.Spelled.{part_more}
use Rattle.cut_texts.proofs.spelling.text_of_sources.Goals as goal

pub loop-place-preserved : goal.loop-place-preserved
loop-place-preserved c =
    let sources = c.args.sources.now in
    let place = c.loop-place.place in
    let here = c.index-sources-place.result in
    let at : slice_get sources place ≡ Some here = slice_get-get_or sources place here c.loop-place-test.true ∙ ap (λ x. Some x) (sym c.index-sources-place.is) in
    let step = c.in_ok-push_source.ensures ∙ ap (λ counts. string_bytes c.push_separator.new.text ++ source_text counts) c.as_slice.ensures in
    part_more 47 source_text sources place here [] (string_bytes c.loop-place.text) (string_bytes c.push_separator.new.text) (string_bytes c.push_source.new.text)
    at step c.in_ok-push_separator.ensures c.loop-place.invariant
