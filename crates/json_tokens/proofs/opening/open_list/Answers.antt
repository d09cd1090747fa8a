use Rattle.std.proofs.Common.{◌≡◌, ◌∷◌, [], true, false, sym, ◌∙◌, arith}
use Rattle.json.specs.Reads.{token_of}
use Rattle.json_tokens.specs.Passed.{opens_list}
use Rattle.json_tokens.proofs.FirstTokens.{no_list}
use Rattle.json_tokens.proofs.Refusals.{no_token, too_deep_list}
use Rattle.json_tokens.proofs.opening.open_list.Goals as goal

pub returns-then-not-is_list_start-clause-opened : goal.returns-then-not-is_list_start-clause-opened
returns-then-not-is_list_start-clause-opened c =
    let first : c.args.reader.now ≡ token_of c.in_ok-token.token ∷ c.next.new.self = grind arith in
    let d = c.in_ok-pass_rest.ensures.value in
    let other : opens_list (token_of c.in_ok-token.token) ≡ false = sym c.if-not-is_list_start.ensures in
    (d.0, rw first d.1, no_list c.args.depth (token_of c.in_ok-token.token) c.next.new.self c.pass_rest.new.reader d.0 other d.1)

pub returns-in_err-token-clause-refused : goal.returns-in_err-token-clause-refused
returns-in_err-token-clause-refused c =
    let empty : c.args.reader.now ≡ [] = grind arith in
    let none = no_token c.args.depth c.args.reader.now empty in
    grind (arith, none)

pub returns-then-depth-eq0-clause-refused : goal.returns-then-depth-eq0-clause-refused
returns-then-depth-eq0-clause-refused c =
    let first : c.args.reader.now ≡ token_of c.in_ok-token.token ∷ c.next.new.self = grind arith in
    let opens : opens_list (token_of c.in_ok-token.token) ≡ true = sym c.is_list_start.ensures ∙ c.if-not-is_list_start.false in
    too_deep_list c.args.depth (token_of c.in_ok-token.token) c.next.new.self c.args.reader.now first opens (omega arith)
