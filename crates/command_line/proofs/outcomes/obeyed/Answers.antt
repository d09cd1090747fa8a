use Rattle.std.proofs.Common.{◌≡◌, ◌∙◌, ℕ, List, map, string_bytes, true, Result, Ok, Err, IsErr, IsErrAnd, ap, subst, inl, inr}
use Rattle.clap.specs.Words.{App, HasMatchesOf, kind_of, takes}
use Rattle.clap.specs.declared.error.Error.{Error}
use Rattle.clap.specs.declared.error.kind.ErrorKind.TheVariants.{OutOfMemory}
use Rattle.command_line.specs.Outcome.{AnswersWords}
use Rattle.command_line.specs.Words.{program}
use Rattle.command_line.specs.declared.outcomes.Refusal.{Refusal}
use Rattle.command_line.specs.declared.outcomes.Refusal.TheVariants.{Words}
use Rattle.command_line.proofs.outcomes.obeyed.Goals as goal

refused : (words : List (List ℕ)) (app : App) (error : Error) (result : Result (Unit {0}) Refusal) → IsErr result → IsErrAnd result (λ refusal. refusal ≡ Words error)
    → app ≡ program → (takes app words ≡ true → kind_of error ≡ OutOfMemory) → AnswersWords words result
refused words app error (Ok _) fails is same passes = absurd cc
refused words app error (Err refusal) fails is same passes = inr (inl (error, ap Err is, λ taken. passes (ap (λ (a : App). takes a words) same ∙ taken)))

-- clap refuses the words
pub returns-in_err-matches : goal.returns-in_err-matches
returns-in_err-matches g c =
    refused (map string_bytes c.args.words.now) _ _ _ c.from_residual-in_err-matches.ensures.0 c.from_residual-in_err-matches.ensures.1 c.in_ok-command.ensures c.in_err-matches.ensures.passes

-- or finds a command in them
pub returns : goal.returns
returns g c =
    inl (c.in_ok-matches.matches, subst (λ (app : App). HasMatchesOf app (map string_bytes c.args.words.now) c.in_ok-matches.matches) c.in_ok-command.ensures c.in_ok-matches.ensures.matches, c.chosen.ensures)
