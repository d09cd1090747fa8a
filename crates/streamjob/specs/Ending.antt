-- The status that the program ends with.
use Rattle.std.specs.Prelude.{◌≡◌, ℕ, Result}
use Rattle.command_line.specs.Outcome.{AnswersProgram}
use Rattle.command_line.specs.Status.{status}
use Rattle.command_line.specs.declared.outcomes.Refusal.{Refusal}

-- it is that of an outcome that the program's words may have
abbrev pub EndsWith : ℕ → Type 0
EndsWith code = (outcome : Result (Unit {0}) Refusal) × AnswersProgram outcome × (code ≡ status outcome)
