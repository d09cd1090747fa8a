use Rattle.std.proofs.Common.{◌≡◌, map, sym, ◌∙◌, arith}
use Rattle.std.proofs.lemmas.Grind.{common_steps}
use Rattle.redistribute.specs.Snapshots.{saved_partition}
use Rattle.redistribute.proofs.Unread.{unread_partitions}
use Rattle.redistribute.proofs.start.unread_source.Goals as goal

pub returns : goal.returns
returns c =
    let all : c.loop-entries.saved.items ≡ map (λ p. saved_partition p 0) c.args.partitions.now = grind (arith, common_steps) in
    c.from_vec.ensures ∙ all ∙ sym (unread_partitions c.args.partitions.now)
