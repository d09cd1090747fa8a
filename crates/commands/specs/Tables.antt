-- What the commands on texts of rows answer.
use Rattle.std.specs.Prelude.{◌≡◌, ◌⊎◌, Result, Ok, Err}
use Rattle.job_texts.specs.declared.fault.JobFault.{JobFault}
use Rattle.row_commands.specs.declared.refusal.RowsRefusal.{RowsRefusal}
use Rattle.commands.specs.Importing.{HasNoPlan}
use Rattle.commands.specs.declared.fault.CommandFault.{CommandFault}
use Rattle.commands.specs.declared.fault.CommandFault.TheVariants.{Job, Rows}

-- what comes of a command on rows
abbrev pub after_rows : Result (Unit {0}) RowsRefusal → Result (Unit {0}) CommandFault
after_rows (Ok _) = Ok tt
after_rows (Err fault) = Err (Rows fault)

-- there is no plan, or this is what comes of some export
abbrev pub AnswersExport : Result (Unit {0}) CommandFault → Type 0
AnswersExport result =
    ((fault : JobFault) × HasNoPlan fault × (result ≡ Err (Job fault))) ⊎ ((answer : Result (Unit {0}) RowsRefusal) × (result ≡ after_rows answer))

-- this is what comes of some comparison
abbrev pub AnswersDiff : Result (Unit {0}) CommandFault → Type 0
AnswersDiff result = (answer : Result (Unit {0}) RowsRefusal) × (result ≡ after_rows answer)

-- this is what comes of some merge
abbrev pub AnswersMerge : Result (Unit {0}) CommandFault → Type 0
AnswersMerge result = (answer : Result (Unit {0}) RowsRefusal) × (result ≡ after_rows answer)
