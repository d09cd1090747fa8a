use Rattle.row_commands.proofs.Kept.{merged_kept}
use Rattle.row_commands.proofs.merging.merge.Goals as goal

pub returns : goal.returns
returns g c =
    let held = c.in_ok-texts.ensures in
    (held.0, held.1, merged_kept held.0 (g.W.Write.contents c.args.out.now) (g.W.Write.contents c.write.new.out) (g.W.Write.contents c.flush.new.self) (c.in_default.ensures.rows held.0 held.2) c.flush.ensures.bytes)
