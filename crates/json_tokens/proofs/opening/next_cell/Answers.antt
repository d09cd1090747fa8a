use Rattle.std.proofs.Common.{◌≡◌, ◌∷◌, [], false, None, Some, sym, ap, ◌∙◌, arith}
use Rattle.json.specs.Token as token
use Rattle.json.specs.Reads.{token_of}
use Rattle.serde_json.specs.Read.{number_of}
use Rattle.serde_json.specs.View.{number_view}
use Rattle.json_parts.specs.Parts.{cell_text}
use Rattle.json_tokens.specs.Ahead.{part}
use Rattle.json_tokens.specs.Passed.{is_number}
use Rattle.json_tokens.proofs.FirstTokens.{other_cell, number_cell}
use Rattle.json_tokens.proofs.Refusals.{no_token, too_large}
use Rattle.json_tokens.specs.Passed.{IsNoValue}
use Rattle.json_tokens.proofs.opening.next_cell.Goals as goal

pub returns-then-not-is_number-clause-said : goal.returns-then-not-is_number-clause-said
returns-then-not-is_number-clause-said c =
    let first : c.args.reader.now ≡ token_of c.in_ok-token.token ∷ c.next.new.self = grind arith in
    let d = c.in_ok-pass_rest.ensures.value in
    let other : is_number (token_of c.in_ok-token.token) ≡ false = sym c.if-not-is_number.ensures in
    ap (part cell_text c.args.depth) first ∙ other_cell c.args.depth (token_of c.in_ok-token.token) c.next.new.self c.pass_rest.new.reader d.0 other d.1

pub returns-clause-said : goal.returns-clause-said
returns-clause-said c =
    let first : c.args.reader.now ≡ token_of c.in_ok-token.token ∷ c.next.new.self = grind arith in
    let is : c.args.reader.now ≡ token.number c.in-Number.text.now ∷ c.next.new.self = grind (arith, first) in
    let found : number_of c.in-Number.text.now ≡ Some (number_view c.in_ok-number.number) = grind arith in
    ap (part cell_text c.args.depth) is ∙ number_cell c.args.depth c.in-Number.text.now c.next.new.self (number_view c.in_ok-number.number) found ∙ ap (λ cell. Some (cell, c.next.new.self)) (sym c.as_i64.ensures)

pub returns-in_err-token-clause-refused : goal.returns-in_err-token-clause-refused
returns-in_err-token-clause-refused c =
    let empty : c.args.reader.now ≡ [] = grind arith in
    let none = no_token c.args.depth c.args.reader.now empty in
    grind (arith, none)

pub returns-in_err-number-clause-refused : goal.returns-in_err-number-clause-refused
returns-in_err-number-clause-refused c =
    let first : c.args.reader.now ≡ token_of c.in_ok-token.token ∷ c.next.new.self = grind arith in
    let is : c.args.reader.now ≡ token.number c.in-Number.text.now ∷ c.next.new.self = grind (arith, first) in
    let none : number_of c.in-Number.text.now ≡ None = grind arith in
    let refused : IsNoValue c.args.depth c.args.reader.now = rw is (too_large c.args.depth c.in-Number.text.now c.next.new.self none) in
    grind (arith, refused)
