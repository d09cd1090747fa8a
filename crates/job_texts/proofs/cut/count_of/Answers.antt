use Rattle.std.proofs.Common.{◌≡◌, true, rules}
use Rattle.job_texts.specs.Group.{are_digits}
use Rattle.job_texts.proofs.Numerals.{parsed_count, said_other}
use Rattle.job_texts.proofs.cut.count_of.Goals as goal

pub returns-then-not-are_digits : goal.returns-then-not-are_digits
returns-then-not-are_digits c = search (rules, said_other)

pub returns : goal.returns
returns c =
    let digits : are_digits 20 c.args.text.now ≡ true = search rules in
    rw (c.ok.ensures.value) (parsed_count c.args.text.now c.parse.result c.parse.ensures.value.0 digits)
