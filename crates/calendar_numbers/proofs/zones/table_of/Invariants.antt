use Rattle.std.proofs.Common.{◌≢◌, take, Some}
use Rattle.std.specs.List.{All}
use Rattle.jiff_tz.specs.Tzif.{tzif_name}
use Rattle.calendar_numbers.proofs.zones.table_of.Given as goal

abbrev pub invariant-loop-table : goal.invariant-loop-table
invariant-loop-table l = All (λ table. tzif_name table ≢ Some l.name) (take l.table-index l.tables)
