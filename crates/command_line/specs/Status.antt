-- The status that the program ends with.
use Rattle.std.specs.Prelude.{ℕ, Result, Ok, Err}
use Rattle.std.specs.IoError.{error_kind}
use Rattle.std.specs.declared.io.ErrorKind.{ErrorKind}
use Rattle.std.specs.declared.io.ErrorKind.TheVariants as io
use Rattle.clap.specs.Words.{kind_of}
use Rattle.clap.specs.declared.error.kind.ErrorKind.{ErrorKind as Mistake}
use Rattle.clap.specs.declared.error.kind.ErrorKind.TheVariants as clap
use Rattle.commands.specs.Status.{command_status}
use Rattle.command_line.specs.declared.outcomes.Refusal.{Refusal}
use Rattle.command_line.specs.declared.outcomes.Refusal.TheVariants.{Unread, Words, Fault}

-- of words that are no text
abbrev pub unread_status : ErrorKind → ℕ
unread_status io.OutOfMemory = 4
unread_status _ = 2

-- of words that are not understood, or ask for help
abbrev pub words_status : Mistake → ℕ
words_status clap.OutOfMemory = 4
words_status _ = 2

abbrev pub refusal_status : Refusal → ℕ
refusal_status (Unread error) = unread_status (error_kind error)
refusal_status (Words error) = words_status (kind_of error)
refusal_status (Fault fault) = command_status fault

-- 0 for a command that is done, and else the refusal's
abbrev pub status : Result (Unit {0}) Refusal → ℕ
status (Ok _) = 0
status (Err refusal) = refusal_status refusal
