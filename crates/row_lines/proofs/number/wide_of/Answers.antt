use Rattle.std.proofs.Common.{◌≡◌, List, ℕ, true, to_z, of_z, ap, sym, subst, ◌∙◌}
use mir.Syntax.{w128}
use Rattle.std.specs.Fmt.{signed_decimal}
use Rattle.std.specs.Str.{bytes_eq}
use Rattle.std.specs.Str.Parse.{ParsesSigned}
use Rattle.std.proofs.lemmas.Int.{to_z-of_z}
use Rattle.row_lines.proofs.Parses.{parse_wide, bytes_same}
use Rattle.row_lines.proofs.number.wide_of.Goals as goal

pub returns-in_default : goal.returns-in_default
returns-in_default c = λ z fits is.
    let parsed = parse_wide z c.parse.result fits (subst (λ (t : List ℕ). ParsesSigned w128 10 t c.parse.result) is c.parse.ensures.value.0) in
    cc

pub returns-else-eq : goal.returns-else-eq
returns-else-eq c = λ z fits is.
    let parsed = parse_wide z c.parse.result fits (subst (λ (t : List ℕ). ParsesSigned w128 10 t c.parse.result) is c.parse.ensures.value.0) in
    let number : c.in-Ok.number ≡ z = cc in
    let back = to_z-of_z w128 z fits in
    let printed : c.format.result.now ≡ c.args.text.now = c.format.ensures.text ∙ ap (λ y. signed_decimal (to_z w128 (of_z w128 y))) number ∙ ap signed_decimal back ∙ sym is in
    let equal : bytes_eq c.format.result.now c.args.text.now ≡ true = bytes_same c.format.result.now c.args.text.now printed in
    cc
