use Rattle.std.proofs.Common.{rules, tests, ◌≡◌, Some, None, cond, ltb, length, ap, ◌∙◌}
use Rattle.std.specs.List.{position_or_len}
use Rattle.std.specs.Option.{unwrap_or}
use Rattle.std.proofs.lemmas.Iterator.{YieldsList-from_slice}
use Rattle.std.proofs.lemmas.Iterator.Search.{position_from_yields_List}
use Rattle.decimal_texts.specs.Products.{is_times}
use Rattle.field_values.proofs.Numbers.{place_or_end}
use Rattle.decimal_texts.proofs.products.times_of.Goals as goal

pub returns-clause-place : goal.returns-clause-place
returns-clause-place c =
    let text = c.args.text.now in
    let found : c.position.result ≡ cond (ltb (position_or_len is_times text) (length text)) (Some (position_or_len is_times text)) None
    = position_from_yields_List is_times _ _ c.position.result c.position.ensures.ran (YieldsList-from_slice text cc) (λ x b q k. search (rules, tests)) in
    c.unwrap_or.ensures ∙ ap (λ o. unwrap_or o (length text)) found ∙ place_or_end is_times text
