use Rattle.std.proofs.Common.{ℕ, ◌%◌, arith}
use Rattle.key_groups.proofs.Each.{each}
use Rattle.key_groups.proofs.group.divided.Goals as goal

pub returns : goal.returns
returns c = each (λ (hash : ℕ). hash % c.args.groups) c.args.hashes.now c.loop-hash.hashes (omega arith) (λ k h. c.loop-hash.invariant.done k (omega arith))
