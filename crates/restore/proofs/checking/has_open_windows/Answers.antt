use Rattle.std.proofs.Common.{◌≡◌, ◌∙◌, to_z, of_z, w64, rules}
use Rattle.restore.specs.declared.entries.EntryTest.TheVariants.{Open}
use Rattle.restore.specs.EntryTest.{passes}
use Rattle.restore.specs.Requirements.{every_entry, has_open_windows}
use Rattle.restore.proofs.checking.has_open_windows.Goals as goal

pub returns : goal.returns
unfolding has_open_windows
returns c =
    let plain : to_z w64 (of_z w64 c.args.reached.now.watermark) ≡ c.args.reached.now.watermark = search rules in
    let watermark = plain ∙ c.requires in
    c.every_entry.ensures ∙ (λ i. every_entry (passes (c.window.ensures.says i) (Open (watermark i))) (c.as_slice.ensures i))
