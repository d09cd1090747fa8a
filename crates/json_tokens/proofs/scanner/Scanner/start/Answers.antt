use Rattle.std.proofs.Common.{◌≡◌, true, false, sym, ap, ◌∙◌, subst}
use Rattle.json_tokens.specs.Lexemes.{Begins, tokens_from}
use Rattle.json_tokens.proofs.Starts.{starts, starts_over_comma}
use Rattle.json_tokens.proofs.scanner.Scanner.start.Goals as goal

pub returns-then-not-self : goal.returns-then-not-self
returns-then-not-self c =
    let a = c.self.inside in
    let text = c.behind_spaces-text.result.now in
    let same : tokens_from false a.rest.now ≡ c.args.self.now = ap (λ b. tokens_from b a.rest.now) (sym c.if-not-self.true) ∙ c.self.view_is in
    subst (λ ts. Begins ts text) same (starts a.rest.now text c.behind_spaces-text.ensures)

pub returns : goal.returns
returns c =
    let a = c.self.inside in
    let text = c.behind_spaces.result.now in
    let same : tokens_from true a.rest.now ≡ c.args.self.now = ap (λ b. tokens_from b a.rest.now) (sym c.if-not-self.false) ∙ c.self.view_is in
    subst (λ ts. Begins ts text) same (starts_over_comma a.rest.now c.behind_spaces-text.result.now c.in_ok-item.item.now text c.behind_spaces-text.ensures c.in_ok-item.ensures c.behind_spaces.ensures)
