use Rattle.std.proofs.Common.{ℤ, ◌∷◌, w64, to_z-of_z, refl, sym, subst}
use Rattle.json_tokens.specs.Lexemes.{BeginsWhole}
use Rattle.json_tokens.proofs.Lexemes.{negative_whole}
use Rattle.json_tokens.proofs.numbers.short_item_below_zero.Goals as goal

pub returns-clause-said : goal.returns-clause-said
returns-clause-said c =
    let n = c.in_ok-number.number in
    let said = c.in_ok-number.ensures.said in
    let behind = c.args.mark ∷ c.in_ok-size.rest.now in
    let unsigned = c.in_ok-unsigned.unsigned.now in
    let below : BeginsWhole c.args.text.now n behind =
    subst (λ t. BeginsWhole t n behind) (sym c.in_ok-unsigned.ensures) (subst (λ (z : ℤ). BeginsWhole (45 ∷ unsigned) z behind) (sym said.2) (negative_whole unsigned c.in_ok-size.size behind c.in_ok-size.ensures said.0 said.1)) in
    (behind, rw (to_z-of_z {w = w64} {z = n} c.in_ok-number.ensures.fits) below, refl)
