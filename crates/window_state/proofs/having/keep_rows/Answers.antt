use Rattle.std.proofs.Common.{◌≡◌, Option, Some, None, true, false, cond, List, [], ◌∷◌, ap, refl, rules, sym, subst, ◌∙◌, if◌then◌else◌}
use Rattle.std.specs.List.{filter}
use Rattle.std.specs.Option.{option_to_list}
use Rattle.std.specs.List.Sorted.{IsSortedByKey}
use Rattle.std.specs.Ordering.{is_lt}
use Rattle.std.proofs.lemmas.Fn.{filter_same}
use Rattle.std.proofs.lemmas.List.Kept.{IsSortedBy-filter}
use Rattle.std.proofs.lemmas.List.MinMax.{ranks_by}
use Rattle.plain_data.proofs.Facts.{filter_turned}
use Rattle.plan_model.specs.declared.spec.Having.{Having}
use Rattle.plan_model.specs.declared.spec.Row.{Row}
use Rattle.plan_model.specs.Rows.{keeps, pane_of, pane_cmp, row_is_at}
use Rattle.plan_model.proofs.Facts.{pane_cmp_total}
use Rattle.window_state.specs.Firing.{kept_where}
use Rattle.window_state.proofs.having.keep_rows.Goals as goal

pub returns-clause-kept : goal.returns-clause-kept
returns-clause-kept c = filter_same _ _ _ (λ x b f' k. search rules) _ _ c.retain.ensures.filtered

one_kept : (having : List Having) (o : Option Row) → filter (λ row. keeps having row.values) (option_to_list o) ≡ option_to_list (kept_where having o)
one_kept having None = refl
one_kept having (Some row) = elim (keeps having row.values) as (λ b. cond b (row ∷ []) [] ≡ option_to_list (if b then Some row else None)) [ true ↦ refl | false ↦ refl ]

pub returns-clause-at_panes : goal.returns-clause-at_panes
returns-clause-at_panes c = λ f are q.
    let keep = λ (row : Row). keeps c.args.having.now row.values in
    ap (filter (row_is_at q)) (returns-clause-kept c) ∙ filter_turned (row_is_at q) keep c.args.rows.now.items ∙ ap (filter keep) (are q) ∙ one_kept c.args.having.now (f q)

pub returns-clause-ordered : goal.returns-clause-ordered
returns-clause-ordered c = λ ordered.
    let keep = λ (row : Row). keeps c.args.having.now row.values in
    subst (IsSortedByKey pane_of pane_cmp) (sym (returns-clause-kept c))
    (IsSortedBy-filter (λ (x : Row) (y : Row). is_lt (pane_cmp (pane_of x) (pane_of y))) (ranks_by pane_cmp_total pane_of) keep c.args.rows.now.items ordered)
