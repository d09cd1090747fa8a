-- A command with one argument more.
use Rattle.std.proofs.Common.{◌≡◌, ◌∙◌, ◌||◌, ◌++◌, ◌∷◌, [], ap, false, Result, Ok, Err, IfOk}
use Rattle.clap.specs.Words.{App, Rule, Shape, AddsArg, rule_of, with_rule}
use Rattle.clap.specs.declared.builder.arg.Arg.{Arg}
use Rattle.clap.specs.declared.builder.command.Command.{Command}
use Rattle.command_line.specs.Words.{AddsRule, IsCommand}

-- an argument, of this command alone, added to a command whose shape is known
added : (old new : Command) (arg : Arg) (rule : Rule) → AddsArg old arg new → rule_of arg ≡ rule → arg.global ≡ false → AddsRule rule old new
added old new arg rule adds is local shape command = record {
  app = adds.shape local ∙ ap (λ (app : App). with_rule app (rule_of arg)) command.app ∙ ap (λ (r : Rule). with_rule (record { top = shape; subs = [] }) r) is;
  globals = adds.globals ∙ ap (λ b. b || arg.global) command.globals ∙ local;
}

pub adds_rule : {E : Type 0} (old : Command) (result : Result Command E) (arg : Arg) (rule : Rule) → IfOk result (λ new. AddsArg old arg new) → rule_of arg ≡ rule → arg.global ≡ false → IfOk result (λ new. AddsRule rule old new)
adds_rule old (Ok new) arg rule adds is local = added old new arg rule adds is local
adds_rule old (Err e) arg rule adds is local = tt

-- and so of a command that may be made
pub last : {E : Type 0} (rule : Rule) (old : Command) (result : Result Command E) (shape : Shape) → IfOk result (λ new. AddsRule rule old new) → IsCommand shape old → IfOk result (λ new. IsCommand (record shape { rules = shape.rules ++ rule ∷ [] }) new)
last rule old (Ok new) shape adds command = adds shape command
last rule old (Err e) shape adds command = tt
