use Rattle.std.proofs.Common.{◌≤◌, ℕ, ◌<◌, length, get_or, sym, arith, rules}
use Rattle.std.specs.Prelude.{List}
use Rattle.std.proofs.lemmas.Grind.{common_steps}
use Rattle.std.proofs.lemmas.Slice.Zip.{AllZip-long}
use Rattle.stream_model.specs.declared.entry.Marked.{Marked}
use Rattle.legs.proofs.Zipped.{all_zip, at_each}
use Rattle.legs.proofs.cut.are_within.Goals as goal

pub returns-then-partitions-counts : goal.returns-then-partitions-counts
returns-then-partitions-counts c = (
  λ h. all_zip _ _ _ c.if-partitions-counts.true (λ k d e l. grind (arith, common_steps)),
  λ h. let each : (k : ℕ) (d : List Marked) → k < length c.args.partitions.now → get_or c.args.counts.now k 0 ≤ length (get_or c.args.partitions.now k d) = λ k d l. at_each _ _ _ k d 0 h l in grind (arith, common_steps),
)

pub returns-else-partitions-counts : goal.returns-else-partitions-counts
returns-else-partitions-counts c = (λ h. absurd (search rules), λ h. absurd (c.if-partitions-counts.false (sym (AllZip-long _ _ _ h))))
