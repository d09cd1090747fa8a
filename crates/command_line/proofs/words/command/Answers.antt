use Rattle.command_line.specs.Words.{explain_shape, version_shape}
use Rattle.command_line.proofs.Subcommands.{added, added_last}
use Rattle.command_line.proofs.words.command.Goals as goal

pub returns : goal.returns
returns c =
    let first = added _ _ _ _ explain_shape c.in_ok-subcommand.ensures c.in_ok-with_views.ensures c.in_ok-explain_words.ensures in
    added_last _ _ _ _ version_shape c.subcommand-2.ensures first c.version_words.ensures
