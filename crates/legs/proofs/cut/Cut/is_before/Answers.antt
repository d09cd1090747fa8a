use Rattle.std.proofs.Common.{◌≡◌, ◌≤◌, ℕ, ◌<◌, length, get_or, List, sym, ap, ◌∙◌, arith, rules}
use Rattle.std.specs.List.{AllZip}
use Rattle.std.proofs.lemmas.Grind.{common_steps}
use Rattle.std.proofs.lemmas.Slice.Zip.{AllZip-long}
use Rattle.legs.proofs.Zipped.{all_zip, at_each}
use Rattle.legs.proofs.cut.Cut.is_before.Goals as goal

pub returns-then-cut-later : goal.returns-then-cut-later
returns-then-cut-later c =
    let same : length c.args.self.now.counts ≡ length c.args.later.now.counts = ap length (sym c.as_slice-cut.ensures) ∙ c.if-cut-later.true ∙ ap length c.as_slice-later.ensures in (
      λ h. all_zip _ _ _ same (λ k d e l. grind (arith, common_steps)),
      λ h. let each : (k : ℕ) (d e : List ℕ) → k < length c.args.self.now.counts → AllZip (λ m n. m ≤ n) (get_or c.args.self.now.counts k d) (get_or c.args.later.now.counts k e) = λ k d e l. at_each _ _ _ k d e h l in grind (arith, common_steps),
    )

pub returns-else-cut-later : goal.returns-else-cut-later
returns-else-cut-later c = (
  λ h. absurd (search rules),
  λ h. absurd (c.if-cut-later.false (ap length c.as_slice-cut.ensures ∙ sym (AllZip-long _ _ _ h) ∙ ap length (sym c.as_slice-later.ensures))),
)
