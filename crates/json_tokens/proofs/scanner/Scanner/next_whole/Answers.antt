use Rattle.std.proofs.Common.{w64, to_z-of_z}
use Rattle.json_tokens.proofs.Starts.{whole_said, whole_shorter}
use Rattle.json_tokens.proofs.scanner.Scanner.next_whole.Goals as goal

pub returns-clause-said : goal.returns-clause-said
returns-clause-said c = λ depth.
    let n = c.in-Some-whole_at.number in
    rw (to_z-of_z {w = w64} {z = n} c.in-Some-whole_at.ensures.fits) (whole_said c.args.self.now c.in-Some.text.now n c.in-Some-whole_at.rest.now c.in-Some.ensures c.in-Some-whole_at.ensures.said depth)

pub returns-clause-shorter : goal.returns-clause-shorter
returns-clause-shorter c = whole_shorter c.args.self.now c.in-Some.text.now c.in-Some-whole_at.number c.in-Some-whole_at.rest.now c.in-Some.ensures c.in-Some-whole_at.ensures.said
