use Rattle.command_line.specs.Words.{show_shape, group_shape}
use Rattle.command_line.proofs.words.with_views.Goals as goal

pub returns : goal.returns
returns c =
    let first = c.with-command.ensures _ show_shape c.with_tables.ensures c.show_words.ensures in
    c.with.ensures _ group_shape first c.group_words.ensures
