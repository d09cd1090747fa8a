-- The status that the program ends with where a command is not done.
use Rattle.std.specs.Prelude.{ℕ}
use Rattle.import_words.specs.Status as import_words
use Rattle.job_texts.specs.FaultText.{status}
use Rattle.receipts.specs.FaultLine.{receipt_status}
use Rattle.row_commands.specs.Refusals.{status as rows_status}
use Rattle.commands.specs.declared.fault.CommandFault.{CommandFault}
use Rattle.commands.specs.declared.fault.CommandFault.TheVariants.{Job, Receipt, Import, Rows, NoPage}

abbrev pub command_status : CommandFault → ℕ
command_status (Job fault) = status fault
command_status (Receipt fault) = receipt_status fault
command_status (Import fault) = import_words.status fault
command_status (Rows fault) = rows_status fault
command_status NoPage = 2
