use Rattle.std.proofs.Common.{◌≡◌, ◌∷◌, [], ◌++◌, map, length, ap, sym, ◌∙◌, append_assoc, arith}
use Rattle.std.specs.List.{range_with_len}
use Rattle.std.proofs.lemmas.List.FromFn.{map-range_with_len_more}
use Rattle.layout_rules.specs.declared.stage.Operator.TheVariants.{Source, Filter, Window, Sink}
use Rattle.plan_compiler.proofs.Staged.{in_order_ranges}
use Rattle.plan_compiler.proofs.stages.in_order.Goals as goal

pub loop-filter-preserved : goal.loop-filter-preserved
loop-filter-preserved c =
    let n = c.loop-filter.filter in
    let sources = map Source (range_with_len 0 (length c.args.plan.now.sources)) in
    c.in_ok-push.ensures.items ∙ ap (λ xs. xs ++ Filter n ∷ []) c.loop-filter.invariant
    ∙ append_assoc sources (map Filter (range_with_len 0 n)) (Filter n ∷ [])
    ∙ ap (λ xs. sources ++ xs) (sym (map-range_with_len_more Filter 0 n n (omega arith)))

pub returns : goal.returns
returns c =
    let n = c.loop-filter.filter in
    let sources = map Source (range_with_len 0 (length c.args.plan.now.sources)) in
    let z : length c.filters.result.now ≡ length c.args.plan.now.filters = ap length c.filters.ensures.says in
    let q : n ≡ length c.args.plan.now.filters = omega (arith, c.loop-filter-test.false, c.loop-filter.auto.filter-end, z) in
    c.in_ok-push-3.ensures.items ∙ ap (λ xs. xs ++ Sink ∷ []) c.in_ok-push-2.ensures.items
    ∙ ap (λ xs. (xs ++ Window ∷ []) ++ Sink ∷ []) c.loop-filter.invariant
    ∙ append_assoc (sources ++ map Filter (range_with_len 0 n)) (Window ∷ []) (Sink ∷ [])
    ∙ ap (λ k. (sources ++ map Filter (range_with_len 0 k)) ++ (Window ∷ Sink ∷ [])) q
    ∙ in_order_ranges c.args.plan.now
