use Rattle.std.proofs.Common.{◌≡◌, ◌∙◌, List, [], map, Some, ap, sym, refl, slice_get, take, subst, arith}
use Rattle.std.specs.List.{join_with_byte}
use Rattle.std.proofs.lemmas.List.{take_all}
use Rattle.std.proofs.lemmas.Option.{slice_get-get_or}
use Rattle.std.proofs.lemmas.Simd.{map-map}
use Rattle.stream_model.specs.declared.entry.Marked.{Marked}
use Rattle.input_parts.specs.Parts.{is_in_part, entries_left}
use Rattle.part_texts.specs.InputTexts.{partition_text, partitions_text}
use Rattle.part_texts.specs.PartTexts.{Grow}
use Rattle.part_texts.specs.Streams.{states_of}
use Rattle.part_texts.proofs.Steps.{nothing_grown, part_grown, grow_is}
use Rattle.part_texts.proofs.parts.push_partitions.Goals as goal

pub loop-place-init : goal.loop-place-init
loop-place-init g c = nothing_grown (λ i. []) (states_of g.W.Write.contents c.args.texts.now) (λ i. refl)

pub loop-place-preserved : goal.loop-place-preserved
loop-place-preserved g c =
    let keep = is_in_part c.args.plan.now c.args.parts in
    let partitions = c.args.partitions.now in
    let place = c.loop-place.place in
    let here = c.index-partitions-place.result in
    let at : slice_get partitions place ≡ Some here = slice_get-get_or partitions place here c.loop-place-test.true ∙ ap (λ x. Some x) (sym c.index-partitions-place.is) in
    let step : Grow (λ i. partition_text (entries_left (keep i) here)) (states_of g.W.Write.contents c.separate_all.new.texts) (states_of g.W.Write.contents c.push_partition.new.texts) =
    subst (λ (es : List Marked). Grow (λ i. partition_text (entries_left (keep i) es)) (states_of g.W.Write.contents c.separate_all.new.texts) (states_of g.W.Write.contents c.push_partition.new.texts)) c.as_slice.ensures c.in_ok-push_partition.ensures in
    part_grown (λ i es. partition_text (entries_left (keep i) es)) partitions place here (states_of g.W.Write.contents c.args.texts.now) (states_of g.W.Write.contents c.loop-place.texts) (states_of g.W.Write.contents c.separate_all.new.texts) (states_of g.W.Write.contents c.push_partition.new.texts)
    at c.loop-place.invariant c.in_ok-separate_all.ensures step

pub returns : goal.returns
returns g c =
    let keep = is_in_part c.args.plan.now c.args.parts in
    let partitions = c.args.partitions.now in
    grow_is (λ i. join_with_byte 44 (map (λ (es : List Marked). partition_text (entries_left (keep i) es)) (take c.loop-place.place partitions))) (λ i. partitions_text (map (entries_left (keep i)) partitions))
    (states_of g.W.Write.contents c.args.texts.now) (states_of g.W.Write.contents c.loop-place.texts)
    (λ i. ap (λ ps. join_with_byte 44 (map (λ (es : List Marked). partition_text (entries_left (keep i) es)) ps)) (take_all c.loop-place.place partitions (omega (arith, c.loop-place-test.false)))
    ∙ ap (join_with_byte 44) (sym (map-map partition_text (entries_left (keep i)) partitions)))
    c.loop-place.invariant
