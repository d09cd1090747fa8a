use Rattle.std.proofs.Common.{◌<◌, ◌^◌, length, sym, subst, arith}
use Rattle.savepoint_codec.specs.Answer.{Gives}
use Rattle.savepoint_index.proofs.Said.{indexed_said, unindexed_said, spells_said, spelled_by}
use Rattle.savepoint_index.proofs.decoding.decode.Goals as goal

pub returns-then-is_indexed-clause-exact : goal.returns-then-is_indexed-clause-exact
returns-then-is_indexed-clause-exact c = subst (Gives c.decode_indexed.result) (sym (indexed_said c.args.bytes.now (sym c.if-is_indexed.ensures))) c.decode_indexed.ensures

pub returns-then-is_indexed-clause-spelled : goal.returns-then-is_indexed-clause-spelled
returns-then-is_indexed-clause-spelled c = spelled_by c.decode_indexed.result c.args.bytes.now (λ i. omega (arith, c.type_inv.bytes i)) (returns-then-is_indexed-clause-exact c)

pub returns-then-is_indexed-clause-read : goal.returns-then-is_indexed-clause-read
returns-then-is_indexed-clause-read c = λ s sound spelled.
    let short : length c.args.bytes.now < 2 ^ 64 = omega arith in
    subst (Gives c.decode_indexed.result) (spells_said s c.args.bytes.now sound spelled short) (returns-then-is_indexed-clause-exact c)

pub returns-else-is_indexed-clause-exact : goal.returns-else-is_indexed-clause-exact
returns-else-is_indexed-clause-exact c = subst (Gives c.decode.result) (sym (unindexed_said c.args.bytes.now (sym c.if-is_indexed.ensures))) c.decode.ensures.exact

pub returns-else-is_indexed-clause-spelled : goal.returns-else-is_indexed-clause-spelled
returns-else-is_indexed-clause-spelled c = spelled_by c.decode.result c.args.bytes.now (λ i. omega (arith, c.type_inv.bytes i)) (returns-else-is_indexed-clause-exact c)

pub returns-else-is_indexed-clause-read : goal.returns-else-is_indexed-clause-read
returns-else-is_indexed-clause-read c = λ s sound spelled.
    let short : length c.args.bytes.now < 2 ^ 64 = omega arith in
    subst (Gives c.decode.result) (spells_said s c.args.bytes.now sound spelled short) (returns-else-is_indexed-clause-exact c)
