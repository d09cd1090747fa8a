use Rattle.std.proofs.Common.{◌≡◌, true, rules, take, drop}
use Rattle.field_values.specs.Clocks.{has_numbers}
use Rattle.field_values.proofs.Forms.{all_digits, numbers_in}
use Rattle.field_values.proofs.clock.clock_of.Goals as goal

pub number_of-requires-clause-digits : goal.number_of-requires-clause-digits
number_of-requires-clause-digits c =
    let numbers : has_numbers c.args.text.now ≡ true = search rules in
    all_digits (take 4 c.args.text.now) (numbers_in c.args.text.now numbers).0

pub number_of-requires-2-clause-digits : goal.number_of-requires-2-clause-digits
number_of-requires-2-clause-digits c =
    let numbers : has_numbers c.args.text.now ≡ true = search rules in
    all_digits (take 2 (drop 5 c.args.text.now)) (numbers_in c.args.text.now numbers).1

pub number_of-requires-3-clause-digits : goal.number_of-requires-3-clause-digits
number_of-requires-3-clause-digits c =
    let numbers : has_numbers c.args.text.now ≡ true = search rules in
    all_digits (take 2 (drop 8 c.args.text.now)) (numbers_in c.args.text.now numbers).2

pub number_of-requires-4-clause-digits : goal.number_of-requires-4-clause-digits
number_of-requires-4-clause-digits c =
    let numbers : has_numbers c.args.text.now ≡ true = search rules in
    all_digits (take 2 (drop 11 c.args.text.now)) (numbers_in c.args.text.now numbers).3

pub number_of-requires-5-clause-digits : goal.number_of-requires-5-clause-digits
number_of-requires-5-clause-digits c =
    let numbers : has_numbers c.args.text.now ≡ true = search rules in
    all_digits (take 2 (drop 14 c.args.text.now)) (numbers_in c.args.text.now numbers).4

pub number_of-requires-6-clause-digits : goal.number_of-requires-6-clause-digits
number_of-requires-6-clause-digits c =
    let numbers : has_numbers c.args.text.now ≡ true = search rules in
    all_digits (take 2 (drop 17 c.args.text.now)) (numbers_in c.args.text.now numbers).5
