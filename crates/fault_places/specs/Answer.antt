-- What checking a text answers.
use Rattle.std.specs.Prelude.{Bool, Result, Ok, Err, IsOk}
use Rattle.answers.specs.Answer.{Fails}

-- Ok for a text that meets every requirement, and else its first fault, unless memory ran out
abbrev pub AnswersCheck : {F Y : Type 0} → (F → Bool) → Result Y F → Result (Unit {0}) F → Type 0
AnswersCheck is_memory said (Ok _) = IsOk said
AnswersCheck is_memory said (Err fault) = Fails is_memory fault said
