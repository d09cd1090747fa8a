use Rattle.std.proofs.Common.{◌≡◌, ap, sym, refl, get_or, ◌∙◌, arith}
use Rattle.std.proofs.lemmas.List.{get_or_read_under}
use Rattle.dealt_texts.specs.Parts.{nothing, whole}
use Rattle.dealt_texts.proofs.OneByOne.{none_done, one_done, all_done}
use Rattle.dealt_texts.proofs.each.end_all.Goals as goal

pub loop-place-init : goal.loop-place-init
loop-place-init c = none_done (λ i p. whole p) c.args.texts.now

pub loop-place-preserved : goal.loop-place-preserved
loop-place-preserved c =
    let texts = c.loop-place.texts in
    let place = c.loop-place.place in
    let x = c.index-texts-place.result in
    let here : get_or texts place x ≡ get_or texts place nothing = sym c.index-texts-place.is ∙ get_or_read_under texts place _ x nothing c.index-texts-place.is (omega arith) refl in
    one_done (λ i p. whole p) place c.args.texts.now texts c.end.new.self (omega arith) (c.in_ok-end.ensures ∙ ap whole here) c.loop-place.invariant

pub returns : goal.returns
returns c = all_done (λ i p. whole p) c.loop-place.place c.args.texts.now c.loop-place.texts (omega arith) c.loop-place.invariant
