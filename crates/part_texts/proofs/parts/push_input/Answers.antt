use Rattle.std.specs.Prelude.{codes}
use Rattle.std.proofs.Common.{◌≡◌, ℕ, List, ◌∙◌, ◌++◌, ap, sym, length, map, zip}
use Rattle.std.proofs.lemmas.List.{length-map}
use Rattle.std.proofs.lemmas.Result.{on_ok_weaker}
use Rattle.plan_model.specs.declared.spec.SourceSpec.{SourceSpec}
use Rattle.stream_model.specs.declared.entry.Marked.{Marked}
use Rattle.input_parts.specs.Parts.{is_in_part, entries_left, part_of_input, unmarked}
use Rattle.part_texts.specs.InputTexts.{sources_text}
use Rattle.part_texts.specs.Streams.{states_of}
use Rattle.part_texts.proofs.Steps.{words_more, then_more, grow_is}
use Rattle.part_texts.proofs.Unmarked.{in_sources}
use Rattle.part_texts.proofs.parts.push_input.Goals as goal

pub push_sources-requires-clause-alike : goal.push_sources-requires-clause-alike
push_sources-requires-clause-alike g c =
    let specs = c.args.plan.now.sources in
    let sources = c.args.input.now.sources in
    ap length c.sources.ensures.says
    ∙ sym (length-map specs (λ (s : SourceSpec). s.partitions))
    ∙ ap (length {A = ℕ}) (sym c.requires.belongs.partitions)
    ∙ length-map sources (λ (ps : List (List Marked)). length ps)
    ∙ ap length (sym c.sources-2.ensures.says)

pub returns : goal.returns
returns g c =
    let keep = is_in_part c.args.plan.now c.args.parts in
    let a = states_of g.W.Write.contents c.args.texts.now in
    let b = states_of g.W.Write.contents c.push_all.new.texts in
    let d = states_of g.W.Write.contents c.push_sources.new.texts in
    let e = states_of g.W.Write.contents c.push_all-2.new.texts in
    let text : List SourceSpec → List (List (List Marked)) → ℕ → List ℕ = λ specs sources i. sources_text (zip specs (map (map (entries_left (keep i))) sources)) in
    let plan = c.args.plan.now in
    let input = c.args.input.now in
    let part : ℕ → List ℕ = λ i. sources_text (zip plan.sources (map (map unmarked) (part_of_input plan c.args.parts i input).sources)) in
    let is : (i : ℕ) → text c.sources.result.now c.sources-2.result.now i ≡ part i =
    λ i. (λ j. text (c.sources.ensures.says j) (c.sources-2.ensures.says j) i) ∙ ap (λ ss. sources_text (zip plan.sources ss)) (sym (in_sources (keep i) input.time plan.sources input.sources)) in
    let filled = grow_is (text c.sources.result.now c.sources-2.result.now) part b d is c.in_ok-push_sources.ensures in
    on_ok_weaker c.push_all-2.result
    (λ h.
    then_more (λ i. codes "{") (λ i. part i ++ codes "}\n") a b e (words_more (codes "{") a b c.in_ok-push_all.ensures)
    (then_more part (λ i. codes "}\n") b d e filled (words_more (codes "}\n") d e h)))
    c.push_all-2.ensures
