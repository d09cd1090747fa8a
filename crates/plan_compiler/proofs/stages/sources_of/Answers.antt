use Rattle.std.proofs.Common.{◌∷◌, [], ◌++◌, ap, sym, ◌∙◌, arith}
use Rattle.std.proofs.lemmas.List.FromFn.{map-range_with_len_more}
use Rattle.layout_rules.specs.declared.stage.Operator.TheVariants.{Source}
use Rattle.plan_compiler.proofs.stages.sources_of.Goals as goal

pub loop-source-preserved : goal.loop-source-preserved
loop-source-preserved c = c.in_ok-push.ensures.items ∙ ap (λ xs. xs ++ Source c.loop-source.source ∷ []) c.loop-source.invariant ∙ sym (map-range_with_len_more Source 0 c.loop-source.source c.loop-source.source (omega arith))
