-- What the program answers, by the command that is found.
use Rattle.std.proofs.Common.{◌≡◌, ℕ, List, Option, Some, None, Result, Err, inl, inr}
use Rattle.job_texts.specs.declared.fault.JobFault.TheVariants.{Number}
use Rattle.commands.specs.Outcome.{Performs}
use Rattle.commands.specs.declared.command.Command.{Command}
use Rattle.commands.specs.declared.fault.CommandFault.{CommandFault}
use Rattle.commands.specs.declared.fault.CommandFault.TheVariants.{Job}
use Rattle.command_line.specs.Outcome.{after_performed, AnswersNamed}
use Rattle.command_line.specs.Reading.{IsFound}
use Rattle.command_line.specs.declared.outcomes.Refusal.{Refusal}
use Rattle.command_line.specs.declared.outcomes.Refusal.TheVariants.{Fault}

pub done : (name : Option (List ℕ)) (command : Command) (answer : Result (Unit {0}) CommandFault) (result : Result (Unit {0}) Refusal) → IsFound name (Some command) → Performs command answer
    → result ≡ after_performed answer → AnswersNamed name result
done (Some name) command answer result found performs is = inl (command, found.1.0, (answer, performs, is))
done None command answer result found performs is = absurd cc

pub none : (name : Option (List ℕ)) (result : Result (Unit {0}) Refusal) → IsFound name None → result ≡ Err (Fault (Job Number)) → AnswersNamed name result
none (Some name) result found is = inr (found.1, is)
none None result found is = is
