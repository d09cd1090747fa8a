use Rattle.std.proofs.Common.{ℕ, ◌*◌, ◌/◌, arith}
use Rattle.key_groups.proofs.Each.{each}
use Rattle.key_groups.proofs.ranges.owners_by_division.Goals as goal

pub returns : goal.returns
returns c = each (λ (group : ℕ). group * c.args.par / c.args.max) c.args.groups.now c.loop-group.groups (omega arith) (λ k h. c.loop-group.invariant.done k (omega arith))
