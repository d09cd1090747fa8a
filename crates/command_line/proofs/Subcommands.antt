-- Commands put below another.
use Rattle.std.proofs.Common.{◌≡◌, ◌∙◌, ap, Result, Ok, Err, IfOk}
use Rattle.clap.specs.Words.{App, Shape, AddsSubcommand, app_of, shape_of, with_subcommand}
use Rattle.clap.specs.declared.builder.command.Command.{Command}
use Rattle.command_line.specs.Words.{IsCommand}

-- a command added to one whose shape is known
pub added : (old sub new : Command) (app : App) (shape : Shape) → AddsSubcommand old sub new → app_of old ≡ app → IsCommand shape sub → app_of new ≡ with_subcommand app shape
added old sub new app shape adds is command =
    adds.shape command.globals ∙ ap (λ a. with_subcommand a (shape_of sub)) is ∙ ap (λ s. with_subcommand app s) (ap (λ (a : App). a.top) command.app)

pub added_last : {E : Type 0} (old sub : Command) (result : Result Command E) (app : App) (shape : Shape) → IfOk result (λ new. AddsSubcommand old sub new) → app_of old ≡ app → IsCommand shape sub
    → IfOk result (λ new. app_of new ≡ with_subcommand app shape)
added_last old sub (Ok new) app shape adds is command = added old sub new app shape adds is command
added_last old sub (Err e) app shape adds is command = tt
