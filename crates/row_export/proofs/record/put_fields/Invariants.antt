use Rattle.std.proofs.Common.{map, take, string_bytes}
use Rattle.row_lines.specs.Rows.{numbers_in}
use Rattle.row_export.specs.Records.{HasFields}
use Rattle.row_export.proofs.record.put_fields.Given as goal

abbrev pub invariant-loop-place : goal.invariant-loop-place
invariant-loop-place l = HasFields (take l.place l.kinds) (map string_bytes l.names) (take l.place (numbers_in l.row)) l.fn.line.items l.line.items
