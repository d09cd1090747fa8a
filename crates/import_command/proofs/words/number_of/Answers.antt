use Rattle.std.proofs.Common.{◌≡◌, true, rules}
use Rattle.field_values.specs.Digits.{are_digits}
use Rattle.import_command.proofs.Numerals.{parsed_number, said_other}
use Rattle.import_command.proofs.words.number_of.Goals as goal

pub returns-then-not-are_digits : goal.returns-then-not-are_digits
returns-then-not-are_digits c = search (rules, said_other)

pub returns : goal.returns
returns c =
    let digits : are_digits c.args.word.now ≡ true = search rules in
    rw (c.ok.ensures.value) (parsed_number c.args.word.now c.parse.result c.parse.ensures.value.0 digits)
