use Rattle.std.proofs.Common.{◌≡◌, ◌∙◌, ◌<◌, ◌≤◌, ◌∷◌, List, [], map, zip, Some, ap, sym, refl, length, get_or, slice_get, take, subst, arith}
use Rattle.std.specs.List.{join_with_byte}
use Rattle.std.proofs.lemmas.List.{take_all}
use Rattle.std.proofs.lemmas.Option.{slice_get-get_or}
use Rattle.std.proofs.lemmas.Slice.Zip.{get_or-zip, length-zip}
use Rattle.std.proofs.lemmas.Simd.{map-map}
use Rattle.plan_model.specs.declared.spec.SourceSpec.{SourceSpec}
use Rattle.stream_model.specs.declared.entry.Marked.{Marked}
use Rattle.input_parts.specs.Parts.{is_in_part, entries_left}
use Rattle.part_texts.specs.InputTexts.{source_text, sources_text}
use Rattle.part_texts.specs.PartTexts.{Grow}
use Rattle.part_texts.specs.Streams.{states_of}
use Rattle.part_texts.proofs.Steps.{nothing_grown, part_grown, grow_is}
use Rattle.part_texts.proofs.parts.push_sources.Goals as goal

zip_map : {X Y Z : Type 0} (f : Y → Z) (xs : List X) (ys : List Y) → zip xs (map f ys) ≡ map (λ (p : X × Y). (p.0, f p.1)) (zip xs ys)
zip_map f [] ys = refl
zip_map f (x ∷ xs) [] = refl
zip_map f (x ∷ xs) (y ∷ ys) = ap (λ l. (x, f y) ∷ l) (zip_map f xs ys)

pub loop-place-init : goal.loop-place-init
loop-place-init g c = nothing_grown (λ i. []) (states_of g.W.Write.contents c.args.texts.now) (λ i. refl)

pub loop-place-preserved : goal.loop-place-preserved
loop-place-preserved g c =
    let keep = is_in_part c.args.plan.now c.args.parts in
    let specs = c.args.specs.now in
    let sources = c.args.sources.now in
    let place = c.loop-place.place in
    let short = c.loop-place-test.true in
    let same = c.requires.alike in
    let within : place < length (zip specs sources) = omega (arith, short, same, length-zip specs sources) in
    let long : place < length sources = omega (arith, short, same) in
    let x = c.index-specs-place.result in
    let y = c.index-sources-place.result in
    let found : get_or (zip specs sources) place (x, y) ≡ (x, y) = get_or-zip specs sources place (x, y) short long ∙ ap (λ s. (s, get_or sources place y)) (sym c.index-specs-place.is) ∙ ap (λ e. (x, e)) (sym c.index-sources-place.is) in
    let at : slice_get (zip specs sources) place ≡ Some (x, y) = slice_get-get_or (zip specs sources) place (x, y) within ∙ ap (λ z. Some z) found in
    let step : Grow (λ i. source_text (x, map (entries_left (keep i)) y)) (states_of g.W.Write.contents c.separate_all.new.texts) (states_of g.W.Write.contents c.push_source.new.texts) =
    subst (λ (ps : List (List Marked)). Grow (λ i. source_text (x, map (entries_left (keep i)) ps)) (states_of g.W.Write.contents c.separate_all.new.texts) (states_of g.W.Write.contents c.push_source.new.texts)) c.as_slice.ensures c.in_ok-push_source.ensures in
    part_grown (λ i (s : SourceSpec × List (List Marked)). source_text (s.0, map (entries_left (keep i)) s.1)) (zip specs sources) place (x, y) (states_of g.W.Write.contents c.args.texts.now) (states_of g.W.Write.contents c.loop-place.texts) (states_of g.W.Write.contents c.separate_all.new.texts) (states_of g.W.Write.contents c.push_source.new.texts)
    at c.loop-place.invariant c.in_ok-separate_all.ensures step

pub returns : goal.returns
returns g c =
    let keep = is_in_part c.args.plan.now c.args.parts in
    let specs = c.args.specs.now in
    let sources = c.args.sources.now in
    let pairs = zip specs sources in
    let all : length pairs ≤ c.loop-place.place = omega (arith, c.loop-place-test.false, length-zip specs sources) in
    grow_is (λ i. join_with_byte 44 (map (λ (s : SourceSpec × List (List Marked)). source_text (s.0, map (entries_left (keep i)) s.1)) (take c.loop-place.place pairs)))
    (λ i. sources_text (zip specs (map (map (entries_left (keep i))) sources))) (states_of g.W.Write.contents c.args.texts.now) (states_of g.W.Write.contents c.loop-place.texts)
    (λ i. ap (λ ps. join_with_byte 44 (map (λ (s : SourceSpec × List (List Marked)). source_text (s.0, map (entries_left (keep i)) s.1)) ps)) (take_all c.loop-place.place pairs all)
    ∙ ap (join_with_byte 44) (sym (map-map source_text (λ (s : SourceSpec × List (List Marked)). (s.0, map (entries_left (keep i)) s.1)) pairs))
    ∙ ap sources_text (sym (zip_map (map (entries_left (keep i))) specs sources)))
    c.loop-place.invariant
