use Rattle.std.proofs.Common.{ℤ, ◌∷◌, w64, to_z-of_z, sym, subst}
use Rattle.json_tokens.specs.Lexemes.{BeginsWhole}
use Rattle.json_tokens.proofs.Lexemes.{unsigned_whole, negative_whole}
use Rattle.json_tokens.proofs.numbers.signed_at.Goals as goal

pub returns-in-Some-clause-said : goal.returns-in-Some-clause-said
returns-in-Some-clause-said c =
    let n = c.in_ok-number.number in
    let said = c.in_ok-number.ensures.said in
    let rest = c.in_ok-size.rest.now in
    let below : BeginsWhole c.args.text.now n rest =
    subst (λ t. BeginsWhole t n rest) (sym c.in-Some.ensures) (subst (λ (z : ℤ). BeginsWhole (45 ∷ c.in-Some.unsigned.now) z rest) (sym said.2) (negative_whole c.in-Some.unsigned.now c.in_ok-size.size rest c.in_ok-size.ensures said.0 said.1)) in
    rw (to_z-of_z {w = w64} {z = n} c.in_ok-number.ensures.fits) below

pub returns-clause-said : goal.returns-clause-said
returns-clause-said c =
    let n = c.in_ok-number-2.number in
    rw (to_z-of_z {w = w64} {z = n} c.in_ok-number-2.ensures.fits) (unsigned_whole c.args.text.now c.in_ok-size-2.size c.in_ok-size-2.rest.now n c.in_ok-size-2.ensures c.in_ok-number-2.ensures.said)
