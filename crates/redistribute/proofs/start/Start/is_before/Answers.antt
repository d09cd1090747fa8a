use Rattle.std.proofs.Common.{◌≡◌, ◌≤◌, ℕ, ◌<◌, length, get_or, List, map, sym, ap, ◌∙◌, arith, rules}
use Rattle.std.specs.List.{AllZip}
use Rattle.std.proofs.lemmas.Grind.{common_steps}
use Rattle.std.proofs.lemmas.Slice.Zip.{AllZip-long}
use Rattle.savepoint_codec.specs.declared.savepoint.SavedPartition.{SavedPartition}
use Rattle.legs.proofs.Facts.{all_zip, at_each}
use Rattle.redistribute.proofs.Reached.{mapped, unmapped}
use Rattle.redistribute.proofs.start.Start.is_before.Goals as goal

pub returns-then-sources-cut : goal.returns-then-sources-cut
returns-then-sources-cut c =
    let same : length c.args.self.now.sources ≡ length c.args.cut.now.counts = ap length (sym c.sources-sources.ensures) ∙ c.if-sources-cut.true ∙ ap length c.as_slice-cut.ensures in (
      λ h. mapped (map (λ p. p.offset)) (AllZip (λ m n. m ≤ n)) _ _ (all_zip _ _ _ same (λ k d e l. grind (arith, common_steps))),
      λ h. let each : (k : ℕ) (d : List SavedPartition) (e : List ℕ) → k < length c.args.self.now.sources → AllZip (λ m n. m ≤ n) (map (λ p. p.offset) (get_or c.args.self.now.sources k d)) (get_or c.args.cut.now.counts k e) = λ k d e l. at_each _ _ _ k d e (unmapped (map (λ p. p.offset)) (AllZip (λ m n. m ≤ n)) c.args.self.now.sources c.args.cut.now.counts h) l in grind (arith, common_steps),
    )

pub returns-else-sources-cut : goal.returns-else-sources-cut
returns-else-sources-cut c = (
  λ h. absurd (search rules),
  λ h. absurd (c.if-sources-cut.false (ap length c.sources-sources.ensures ∙ sym (AllZip-long _ _ _ (unmapped (map (λ p. p.offset)) (AllZip (λ m n. m ≤ n)) c.args.self.now.sources c.args.cut.now.counts h)) ∙ ap length (sym c.as_slice-cut.ensures))),
)
