use Rattle.std.proofs.Common.{map, take, string_bytes}
use Rattle.row_lines.specs.Rows.{numbers_in}
use Rattle.row_export.specs.Objects.{HasMembers}
use Rattle.row_export.proofs.objects.put_members.Given as goal

abbrev pub invariant-loop-place : goal.invariant-loop-place
invariant-loop-place l = HasMembers (take l.place (map string_bytes l.table.names.items)) (take l.place l.table.kinds.items) (map string_bytes l.names) (take l.place (numbers_in l.row)) l.fn.line.items l.line.items
