use Rattle.std.proofs.Common.{◌∙◌, ℕ, List, Bor, option_map, inr}
use Rattle.leg_command.proofs.Facts.{some_map}
use Rattle.commands.proofs.actions.run_in_legs.Goals as goal

-- the texts are those of the files, a list of legs just where one is named
pub returns : goal.returns
returns g c =
    let now = λ (text : Bor (List ℕ)). text.now in
    let given = some_map now c.as_deref-legs.result ∙ c.as_deref-legs.ensures.variant ∙ c.in_ok-list.ensures.given in
    inr (c.deref.result.now, c.in_ok-input.input.items, option_map now c.as_deref-legs.result, given, c.job_run.ensures.answers)
