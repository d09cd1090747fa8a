use Rattle.std.proofs.Common.{[], ◌∷◌, ◌++◌, sym, ap, subst, ◌∙◌, arith}
use Rattle.std.specs.List.{All}
use Rattle.std.proofs.lemmas.List.Elements.{All-push}
use Rattle.std.proofs.lemmas.List.FromFn.{map-range_with_len_more}
use Rattle.gather.specs.Parts.{source_in}
use Rattle.gather.specs.Sources.{AreTyped}
use Rattle.gather.proofs.sources.sources_in.Goals as goal

pub loop-source-preserved : goal.loop-source-preserved
loop-source-preserved c =
    let f = source_in c.args.plan.now c.args.layout.now.stages c.args.parts.now in
    let x = c.loop-source.source in
    let old = c.loop-source.saved.items in
    let one = c.in_ok-source_in.field-0 in
    record {
      says = c.in_ok-push.ensures.items ∙ ap (λ y. old ++ y ∷ []) c.in_ok-source_in.ensures.says ∙ ap (λ ys. ys ++ f x ∷ []) c.loop-source.invariant.says ∙ sym (map-range_with_len_more f 0 x x (omega arith));
      typed = subst (All AreTyped) (sym c.in_ok-push.ensures.items) (All-push AreTyped old one c.loop-source.invariant.typed c.in_ok-source_in.ensures.typed);
    }
