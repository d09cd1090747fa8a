use Rattle.std.proofs.Common.{arith, ◌≡◌, true, get_or, sym, ap, ◌∙◌, drop, length-drop}
use Rattle.std.proofs.lemmas.List.{take_all}
use Rattle.json.specs.Word.{is_space}
use Rattle.json.specs.Lex.{between, lex}
use Rattle.json_tokens.proofs.Lexemes.{space_over}
use Rattle.json_tokens.proofs.bytes.behind_spaces.Goals as goal

pub spaces-preserved : goal.spaces-preserved
spaces-preserved c =
    let t = c.args.text.now in
    let i = c.spaces.at in
    let space : is_space (get_or t i 0) ≡ true = sym c.is_space.ensures ∙ c.if-is_space.true in
    (space_over t i (omega arith) space ∙ c.spaces.invariant.0, omega arith)

pub returns : goal.returns
returns c =
    let t = c.args.text.now in
    let i = c.spaces.at in
    ap (lex between) (take_all _ (drop i t) (omega (arith, length-drop i t))) ∙ c.spaces.invariant.0
