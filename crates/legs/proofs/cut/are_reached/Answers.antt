use Rattle.std.proofs.Common.{◌≤◌, ℕ, ◌<◌, length, get_or, sym, arith, rules}
use Rattle.std.proofs.lemmas.Grind.{common_steps}
use Rattle.std.proofs.lemmas.Slice.Zip.{AllZip-long}
use Rattle.legs.proofs.Zipped.{all_zip, at_each}
use Rattle.legs.proofs.cut.are_reached.Goals as goal

pub returns-then-counts-others : goal.returns-then-counts-others
returns-then-counts-others c = (
  λ h. all_zip _ _ _ c.if-counts-others.true (λ k d e l. grind (arith, common_steps)),
  λ h. let each : (k : ℕ) → k < length c.args.counts.now → get_or c.args.counts.now k 0 ≤ get_or c.args.others.now k 0 = λ k l. at_each _ _ _ k 0 0 h l in grind (arith, common_steps),
)

pub returns-else-counts-others : goal.returns-else-counts-others
returns-else-counts-others c = (λ h. absurd (search rules), λ h. absurd (c.if-counts-others.false (sym (AllZip-long _ _ _ h))))
