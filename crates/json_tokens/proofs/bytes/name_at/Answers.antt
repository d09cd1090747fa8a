use Rattle.std.proofs.Common.{arith, ◌≡◌, ◌-◌, ◌∷◌, length, take, drop, sym, ◌∙◌, length-drop}
use Rattle.std.proofs.lemmas.List.{take_all}
use Rattle.json_tokens.proofs.Names.{name_lexed}
use Rattle.json_tokens.proofs.bytes.name_at.Goals as goal

pub returns : goal.returns
returns c =
    let u = c.in_ok-quoted.quoted.now in
    let n = c.plain_end-end.result in
    let rest : take (length u - n) (drop n u) ≡ drop n u = take_all _ (drop n u) (omega (arith, length-drop n u)) in
    let closed : drop n u ≡ 34 ∷ c.in_ok-closed.closed.now = sym rest ∙ c.in_ok-closed.ensures in
    name_lexed c.args.text.now u c.in_ok-closed.closed.now c.behind_spaces-spaced.result.now c.in_ok-rest.rest.now n c.in_ok-quoted.ensures c.plain_end-end.ensures.value closed c.behind_spaces-spaced.ensures c.in_ok-rest.ensures
