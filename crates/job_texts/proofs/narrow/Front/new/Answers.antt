use Rattle.std.proofs.Common.{◌++◌, ◌∙◌, append-nil, ap, arith, to_z, of_z}
use Rattle.std.specs.Int.{w64}
use Rattle.std.proofs.lemmas.Str.{IsAscii-append}
use Rattle.job_texts.specs.Text.{spaced}
use Rattle.job_texts.proofs.narrow.Front.new.Goals as goal

pub returns-clause-front : goal.returns-clause-front
returns-clause-front c =
    let start = to_z w64 (of_z w64 c.args.start) in
    let end = to_z w64 (of_z w64 c.args.end) in
    let last = c.put_number-from.ensures.written ∙ append-nil (spaced end) in
    record {
      inside = omega arith;
      says = c.put_number-from-2.ensures.written ∙ ap (λ l. spaced start ++ l) last;
      ascii = IsAscii-append (spaced start) (spaced end) c.put_number-from-2.ensures.ascii c.put_number-from.ensures.ascii;
    }
