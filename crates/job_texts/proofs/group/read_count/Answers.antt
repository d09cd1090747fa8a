use Rattle.std.proofs.Common.{◌≡◌, ◌^◌, ◌≤◌, true, rules}
use Rattle.std.specs.Str.Parse.{digits_value}
use Rattle.job_texts.specs.Group.{are_digits}
use Rattle.job_texts.proofs.Numerals.{said_within, said_below, said_above, said_other, parsed_value, unparsed_value}
use Rattle.job_texts.proofs.group.read_count.Goals as goal

pub returns-then-not-are_digits : goal.returns-then-not-are_digits
returns-then-not-are_digits c = search (rules, said_other)

pub returns-in-Ok : goal.returns-in-Ok
returns-in-Ok c =
    let digits : are_digits 5 c.args.text.now ≡ true = search rules in
    let value : digits_value 10 c.args.text.now ≡ c.in-Ok.count = parsed_value 32 5 c.args.text.now c.parse.result _ c.parse.ensures.value.0 (search rules) digits in
    search (rules, said_within)

pub returns-in_default : goal.returns-in_default
returns-in_default c =
    let digits : are_digits 5 c.args.text.now ≡ true = search rules in
    let value : digits_value 10 c.args.text.now ≡ c.in-Ok.count = parsed_value 32 5 c.args.text.now c.parse.result _ c.parse.ensures.value.0 (search rules) digits in
    search (rules, said_above)

pub returns-in_default-2 : goal.returns-in_default-2
returns-in_default-2 c =
    let digits : are_digits 5 c.args.text.now ≡ true = search rules in
    let value : digits_value 10 c.args.text.now ≡ c.in-Ok.count = parsed_value 32 5 c.args.text.now c.parse.result _ c.parse.ensures.value.0 (search rules) digits in
    search (rules, said_below)

pub returns-in_default-3 : goal.returns-in_default-3
returns-in_default-3 c =
    let digits : are_digits 5 c.args.text.now ≡ true = search rules in
    let value : 2 ^ 32 ≤ digits_value 10 c.args.text.now = unparsed_value 32 5 c.args.text.now c.parse.result _ c.parse.ensures.value.0 c.in_default.is digits in
    search (rules, said_above)
