use Rattle.std.proofs.Common.{◌∙◌, to_z-of_z, w64}
use Rattle.plain_data.specs.Record.{at}
use Rattle.stream_model.specs.Late.{is_late_time}
use Rattle.plain_data.proofs.Facts.{list_any_map}
use Rattle.stream_model.proofs.late.is_late.Goals as goal

pub returns-in-Rows : goal.returns-in-Rows
returns-in-Rows c =
    let found = rw (to_z-of_z {w = w64} {z = c.args.watermark} c.ranges.watermark, c.column.ensures) at c.has_late_time.ensures in
    rw c.in-Rows.is (found ∙ list_any_map (is_late_time c.args.watermark) (at c.args.time) c.in-Rows.batch.rows)
