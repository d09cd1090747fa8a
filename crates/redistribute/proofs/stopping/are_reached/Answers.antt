use Rattle.std.proofs.Common.{◌≤◌, ℕ, ◌<◌, length, get_or, sym, arith, rules}
use Rattle.std.proofs.lemmas.Grind.{common_steps}
use Rattle.std.proofs.lemmas.Slice.Zip.{AllZip-long}
use Rattle.savepoint_codec.specs.declared.savepoint.SavedPartition.{SavedPartition}
use Rattle.legs.proofs.Facts.{all_zip, at_each}
use Rattle.redistribute.proofs.Reached.{mapped, unmapped}
use Rattle.redistribute.proofs.stopping.are_reached.Goals as goal

pub returns-then-partitions-counts : goal.returns-then-partitions-counts
returns-then-partitions-counts c = (
  λ h. mapped (λ p. p.offset) (λ m n. m ≤ n) _ _ (all_zip _ _ _ c.if-partitions-counts.true (λ k d e l. grind (arith, common_steps))),
  λ h. let each : (k : ℕ) (d : SavedPartition) → k < length c.args.partitions.now → (get_or c.args.partitions.now k d).offset ≤ get_or c.args.counts.now k 0 = λ k d l. at_each _ _ _ k d 0 (unmapped (λ p. p.offset) (λ m n. m ≤ n) c.args.partitions.now c.args.counts.now h) l in grind (arith, common_steps),
)

pub returns-else-partitions-counts : goal.returns-else-partitions-counts
returns-else-partitions-counts c = (
  λ h. absurd (search rules),
  λ h. absurd (c.if-partitions-counts.false (sym (AllZip-long _ _ _ (unmapped (λ p. p.offset) (λ m n. m ≤ n) c.args.partitions.now c.args.counts.now h)))),
)
