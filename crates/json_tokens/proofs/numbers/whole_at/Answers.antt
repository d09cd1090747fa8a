use Rattle.std.proofs.Common.{w64, to_z-of_z}
use Rattle.json_tokens.proofs.Lexemes.{unsigned_whole}
use Rattle.json_tokens.proofs.numbers.whole_at.Goals as goal

pub returns-in-Some-clause-said : goal.returns-in-Some-clause-said
returns-in-Some-clause-said c =
    let n = c.in_ok-number.number in
    rw (to_z-of_z {w = w64} {z = n} c.in_ok-number.ensures.fits) (unsigned_whole c.args.text.now c.in-Some.size c.in-Some.rest.now n c.in-Some.ensures c.in_ok-number.ensures.said)
