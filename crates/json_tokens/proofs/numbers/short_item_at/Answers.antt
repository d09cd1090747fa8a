use Rattle.std.proofs.Common.{◌∷◌, w64, to_z-of_z, refl}
use Rattle.json_tokens.proofs.Lexemes.{unsigned_whole}
use Rattle.json_tokens.proofs.numbers.short_item_at.Goals as goal

pub returns-clause-said : goal.returns-clause-said
returns-clause-said c =
    let n = c.in_ok-number.number in
    let behind = c.args.mark ∷ c.in_ok-size.rest.now in
    (behind, rw (to_z-of_z {w = w64} {z = n} c.in_ok-number.ensures.fits) (unsigned_whole c.args.text.now c.in_ok-size.size behind n c.in_ok-size.ensures c.in_ok-number.ensures.said), refl)
