use Rattle.std.proofs.Common.{◌≡◌, true, rules, arith}
use Rattle.aggregates.specs.Kinds.{are_numbers}
use Rattle.aggregates.proofs.acc.Acc.from_parts.Goals as goal

pub of-requires : goal.of-requires
of-requires c =
    let told : are_numbers c.args.count c.args.kinds.now c.args.numbers.now ≡ true = search rules in
    record {
      some = omega arith;
      few = omega arith;
      counted = omega arith;
      bounded = omega arith;
      numbers = told;
    }
