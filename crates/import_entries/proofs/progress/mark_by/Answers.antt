use Rattle.std.proofs.Common.{◌≡◌, w64, sym}
use Rattle.std.proofs.lemmas.Int.{to_z-of_z}
use Rattle.import_entries.proofs.Aligned.{untimely}
use Rattle.import_entries.proofs.progress.mark_by.Goals as goal

pub returns-in-None : goal.returns-in-None
returns-in-None c =
    let over = rw (to_z-of_z w64 c.args.latest c.ranges.latest) at c.in-None.ensures in
    sym (untimely c.args.rule.ends _ over)
