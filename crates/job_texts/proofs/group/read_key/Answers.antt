use Rattle.std.proofs.Common.{◌≡◌, true, rules}
use Rattle.job_texts.specs.Group.{are_digits, without_hyphen}
use Rattle.job_texts.proofs.Numerals.{parsed_key, said_no_key}
use Rattle.job_texts.proofs.group.read_key.Goals as goal

pub returns-then-not-are_digits : goal.returns-then-not-are_digits
returns-then-not-are_digits c = search (rules, said_no_key)

pub returns : goal.returns
returns c =
    let digits : are_digits 19 (without_hyphen c.args.text.now) ≡ true = search rules in
    rw (c.ok.ensures.value) (parsed_key c.args.text.now c.parse.result c.parse.ensures.value.0 digits)
