-- What comes of a command.
use Rattle.std.specs.Prelude.{◌≡◌, Result, Ok, Err, IfErr, option_map}
use Rattle.job_texts.specs.declared.fault.JobFault.{JobFault}
use Rattle.job_texts.specs.declared.fault.JobFault.TheVariants.{Write as WriteFault}
use Rattle.user_texts.specs.declared.writing.TextFault.{TextFault}
use Rattle.user_texts.specs.declared.writing.TextFault.TheVariants as text
use Rattle.leg_command.specs.Answers.{AnswersLeg}
use Rattle.leg_command.specs.declared.fault.LegRefusal.{LegRefusal}
use Rattle.leg_command.specs.declared.fault.LegRefusal.TheVariants as refusal
use Rattle.commands.specs.Running.{AnswersRun}
use Rattle.commands.specs.Answers.{AnswersSimulate, AnswersCuts, AnswersLayout, AnswersShow, AnswersGroup, AnswersExplain}
use Rattle.commands.specs.Checking.{AnswersCheck}
use Rattle.commands.specs.Importing.{AnswersImport}
use Rattle.commands.specs.Tables.{AnswersDiff, AnswersExport, AnswersMerge}
use Rattle.part_command.specs.Splitting.{AnswersSplit}
use Rattle.commands.specs.declared.command.Command.{Command}
use Rattle.commands.specs.declared.command.Command.TheVariants.{Run, Simulate, Leg, Cuts, Layout, Check, Import, Split, Export, Diff, Merge, Show, Group, Explain, Version}
use Rattle.commands.specs.declared.fault.CommandFault.{CommandFault}
use Rattle.commands.specs.declared.fault.CommandFault.TheVariants.{Job, Receipt, NoPage}

-- what comes of a command on a job
abbrev pub after_command : Result (Unit {0}) JobFault → Result (Unit {0}) CommandFault
after_command (Ok _) = Ok tt
after_command (Err fault) = Err (Job fault)

-- what comes of the command `leg`
abbrev pub after_leg : Result (Unit {0}) LegRefusal → Result (Unit {0}) CommandFault
after_leg (Ok _) = Ok tt
after_leg (Err (refusal.Job fault)) = Err (Job fault)
after_leg (Err (refusal.Receipt fault)) = Err (Receipt fault)

-- what comes of a command on a text of the program's own
abbrev pub after_text : Result (Unit {0}) TextFault → Result (Unit {0}) CommandFault
after_text (Ok _) = Ok tt
after_text (Err text.NoPage) = Err NoPage
after_text (Err text.Write) = Err (Job WriteFault)

-- the outcome is what comes of some answer
abbrev pub Comes : {F : Type 0} → (Result (Unit {0}) F → Result (Unit {0}) CommandFault) → (Result (Unit {0}) F → Type 0) → Result (Unit {0}) CommandFault → Type 0
Comes {F} after answers result = (answer : Result (Unit {0}) F) × answers answer × (result ≡ after answer)

abbrev pub AnswersVersion : Result (Unit {0}) TextFault → Type 0
AnswersVersion result = IfErr result (λ fault. fault ≡ text.Write)

-- the outcome is that of the command, on the files that it names
abbrev pub Performs : Command → Result (Unit {0}) CommandFault → Type 0
Performs (Run words) result = Comes after_command (AnswersRun words) result
Performs (Simulate plan input legs choices) result = Comes after_command AnswersSimulate result
Performs (Leg words) result = Comes after_leg (AnswersLeg words) result
Performs (Cuts plan input until stays_open) result = Comes after_command (AnswersCuts (option_map (λ word. word.now) until) stays_open) result
Performs (Layout plan scale) result = Comes after_command AnswersLayout result
Performs (Check words) result = Comes after_command (AnswersCheck words) result
Performs (Import words) result = AnswersImport result
Performs (Split words) result = Comes after_command (AnswersSplit words.parts.now) result
Performs (Export plan words) result = AnswersExport result
Performs (Diff words) result = AnswersDiff result
Performs (Merge words) result = AnswersMerge result
Performs (Show savepoint group) result = Comes after_command (AnswersShow (option_map (λ word. word.now) group)) result
Performs (Group key max par) result = Comes after_command (AnswersGroup key.now max.now par.now) result
Performs (Explain code) result = Comes after_text (AnswersExplain code.now) result
Performs Version result = Comes after_text AnswersVersion result
