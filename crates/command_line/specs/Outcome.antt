-- What the program answers before its status.
use Rattle.std.specs.Prelude.{◌≡◌, ◌⊎◌, ℕ, List, true, false, Option, Some, None, Result, Ok, Err, bytes_eq}
use Rattle.std.specs.declared.io.Error as io
use Rattle.clap.specs.Words.{HasMatchesOf, kind_of, subcommand_name_of, takes}
use Rattle.clap.specs.declared.error.Error.{Error}
use Rattle.clap.specs.declared.error.kind.ErrorKind.TheVariants.{OutOfMemory}
use Rattle.clap.specs.declared.parser.matches.ArgMatches.{ArgMatches}
use Rattle.job_texts.specs.declared.fault.JobFault.TheVariants.{Memory, Number}
use Rattle.commands.specs.Outcome.{Performs}
use Rattle.commands.specs.declared.command.Command.{Command}
use Rattle.commands.specs.declared.fault.CommandFault.{CommandFault}
use Rattle.commands.specs.declared.fault.CommandFault.TheVariants.{Job}
use Rattle.command_line.specs.Reading.{is_command, name_of}
use Rattle.command_line.specs.Words.{program}
use Rattle.command_line.specs.declared.outcomes.Refusal.{Refusal}
use Rattle.command_line.specs.declared.outcomes.Refusal.TheVariants.{Unread, Words, Fault}

-- what comes of what a command does
abbrev pub after_performed : Result (Unit {0}) CommandFault → Result (Unit {0}) Refusal
after_performed (Ok _) = Ok tt
after_performed (Err fault) = Err (Fault fault)

-- what comes of a command
abbrev pub Comes : Command → Result (Unit {0}) Refusal → Type 0
Comes command result = (answer : Result (Unit {0}) CommandFault) × Performs command answer × (result ≡ after_performed answer)

-- the answer is that of the command with a name; no other name has one
abbrev pub AnswersCommand : List ℕ → Result (Unit {0}) Refusal → Type 0
AnswersCommand name result =
    ((command : Command) × (bytes_eq name (name_of command) ≡ true) × Comes command result) ⊎ ((is_command name ≡ false) × (result ≡ Err (Fault (Job Number))))

abbrev pub AnswersNamed : Option (List ℕ) → Result (Unit {0}) Refusal → Type 0
AnswersNamed (Some name) result = AnswersCommand name result
AnswersNamed None result = result ≡ Err (Fault (Job Number))

-- the answer is that of the command that clap finds in words
abbrev pub AnswersFound : List (List ℕ) → Result (Unit {0}) Refusal → Type 0
AnswersFound words result = (matches : ArgMatches) × HasMatchesOf program words matches × AnswersNamed (subcommand_name_of matches) result

-- clap refuses the words, and where it would take them for want of memory alone
abbrev pub AreRefused : List (List ℕ) → Result (Unit {0}) Refusal → Type 0
AreRefused words result = (error : Error) × (result ≡ Err (Words error)) × (takes program words ≡ true → kind_of error ≡ OutOfMemory)

abbrev pub AnswersWords : List (List ℕ) → Result (Unit {0}) Refusal → Type 0
AnswersWords words result = AnswersFound words result ⊎ (AreRefused words result ⊎ (result ≡ Err (Fault (Job Memory))))

-- what comes of some words, or they were not read
abbrev pub AnswersProgram : Result (Unit {0}) Refusal → Type 0
AnswersProgram result = ((error : io.Error) × (result ≡ Err (Unread error))) ⊎ ((words : List (List ℕ)) × AnswersWords words result)
