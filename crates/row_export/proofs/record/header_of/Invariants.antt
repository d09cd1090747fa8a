use Rattle.std.proofs.Common.{◌≡◌, map, take, string_bytes}
use Rattle.csv.specs.Records.{fields_of}
use Rattle.row_export.proofs.record.header_of.Given as goal

abbrev pub invariant-loop-name : goal.invariant-loop-name
invariant-loop-name l = fields_of l.titles ≡ map string_bytes (take l.name-index l.names)
