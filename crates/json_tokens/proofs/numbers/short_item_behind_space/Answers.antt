use Rattle.std.proofs.lemmas.Option.{IfSome_then}
use Rattle.json_tokens.proofs.Lexemes.{item_behind_space}
use Rattle.json_tokens.proofs.numbers.short_item_behind_space.Goals as goal

pub returns-clause-said : goal.returns-clause-said
returns-clause-said c =
    IfSome_then c.short_item_at.result c.short_item_at.ensures.said
    (λ found said. item_behind_space c.args.text.now c.in_ok-behind.field-0.now c.args.mark found.0 found.1.now c.in_ok-behind.ensures said)
