use Rattle.std.proofs.Common.{sym, ◌∙◌}
use Rattle.json_tokens.proofs.Starts.{text_ends}
use Rattle.json_tokens.proofs.scanner.Scanner.end.Goals as goal

pub returns-then-is_empty : goal.returns-then-is_empty
returns-then-is_empty c =
    let a = c.self.inside in
    sym c.self.view_is ∙ text_ends a.behind_value a.rest.now c.behind_spaces.result.now c.behind_spaces.ensures (sym c.is_empty.ensures ∙ c.if-is_empty.true)
