-- Why a table is not written.
use Rattle.std.specs.Prelude.{◌≢◌, ◌<◌, List, length}
use Rattle.row_lines.specs.declared.rows.RowsFault.TheVariants as rows
use Rattle.row_tables.specs.declared.fault.CellFault.TheVariants as cell
use Rattle.row_tables.specs.declared.kind.CellKind.{CellKind}
use Rattle.row_export.specs.declared.fault.ExportFault.{ExportFault}
use Rattle.row_export.specs.declared.fault.ExportFault.TheVariants.{Rows, Cell, Write, Memory}

-- the place of a cell is that of a number which is shown, and want of memory is told as such alone
abbrev pub IsTableFault : List CellKind → ExportFault → Type 0
IsTableFault kinds (Rows fault) = fault ≢ rows.Memory
IsTableFault kinds (Cell place fault) = (place < length kinds) × (fault ≢ cell.Memory)
IsTableFault kinds Write = Unit {0}
IsTableFault kinds Memory = Unit {0}
