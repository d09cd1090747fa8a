use Rattle.std.proofs.Common.{◌≡◌, ◌<◌, get_or, List, ◌∷◌, [], ◌++◌, map, take, length, ap, sym, ◌∙◌, arith}
use Rattle.std.proofs.lemmas.List.{take_all, map_more}
use Rattle.stream_model.specs.declared.entry.Marked.{Marked}
use Rattle.input_texts.specs.Said.{marked_of, partitions_under}
use Rattle.plan_model.specs.declared.spec.SourceSpec.{SourceSpec}
use Rattle.stream_input.proofs.building.sources_of.Goals as goal

pub loop-spec-preserved : goal.loop-spec-preserved
loop-spec-preserved c =
    let plan = c.args.plan.now in
    let f : SourceSpec → List (List Marked) = λ s. map (map (marked_of s.bound plan.columns plan.window.time)) (partitions_under s.uid c.args.text.now) in
    let i = c.loop-spec.spec-index in
    let spec = c.spec-item.result in
    let same = c.sources-spec-items.ensures.says in
    let here : spec ≡ get_or plan.sources i spec = rw same at c.spec-item.is in
    let within : i < length plan.sources = rw same at c.loop-spec-test.true in
    c.in_ok-push.ensures.items ∙ ap (λ xs. xs ++ c.in_ok-source_under.field-0 ∷ []) c.loop-spec.invariant
    ∙ ap (λ x. map f (take i plan.sources) ++ x ∷ []) (c.in_ok-source_under.ensures ∙ ap f here) ∙ sym (map_more f plan.sources i spec within)

pub returns : goal.returns
returns c =
    let all : take c.loop-spec.spec-index c.args.plan.now.sources ≡ c.args.plan.now.sources = take_all c.loop-spec.spec-index c.args.plan.now.sources (omega (arith, ap (length {A = SourceSpec}) c.sources-spec-items.ensures.says)) in
    c.from_vec.ensures ∙ (rw all at c.loop-spec.invariant)
