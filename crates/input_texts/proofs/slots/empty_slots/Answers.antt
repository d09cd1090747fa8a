use Rattle.std.proofs.Common.{None, [], ◌∷◌, ◌++◌, ap, sym, ◌∙◌}
use Rattle.std.proofs.lemmas.List.{map_more}
use Rattle.plan_model.specs.declared.spec.SourceSpec.{SourceSpec}
use Rattle.input_texts.proofs.slots.empty_slots.Goals as goal

pub loop-spec-preserved : goal.loop-spec-preserved
loop-spec-preserved g c =
    let any : SourceSpec = record { uid = []; partitions = 0; bound = None } in
    c.in_ok-push.ensures.items ∙ ap (λ slots. slots ++ None ∷ []) c.loop-spec.invariant
    ∙ sym (map_more (λ (spec : SourceSpec). None) c.args.specs.now c.loop-spec._spec-index any c.loop-spec-test.true)
