-- The status of a refusal.
use Rattle.std.specs.Prelude.{ℕ}
use Rattle.import_words.specs.Status as imports
use Rattle.row_commands.specs.declared.refusal.RowsCode.{RowsCode}
use Rattle.row_commands.specs.declared.refusal.RowsCode.TheVariants.{Rows, Order, Cell, Word, Read}
use Rattle.row_commands.specs.declared.refusal.RowsRefusal.{RowsRefusal}
use Rattle.row_commands.specs.declared.refusal.RowsRefusal.TheVariants.{Refused, Import, Write, Memory}

-- 2 where a word is refused, and 3 where a file is
abbrev pub code_status : RowsCode → ℕ
code_status Word = 2
code_status Rows = 3
code_status Order = 3
code_status Cell = 3
code_status Read = 3

abbrev pub status : RowsRefusal → ℕ
status (Refused code sentence) = code_status code
status (Import fault) = imports.status fault
status Write = 3
status Memory = 4
