use Rattle.command_line.specs.Words.{import_shape, split_shape, cuts_shape, layout_shape, check_shape}
use Rattle.command_line.proofs.words.with_texts.Goals as goal

pub returns : goal.returns
returns c =
    let first = c.with-command.ensures _ import_shape c.with_jobs.ensures c.import_words.ensures in
    let second = c.with-command-2.ensures _ split_shape first c.split_words.ensures in
    let third = c.with-command-3.ensures _ cuts_shape second c.cuts_words.ensures in
    let fourth = c.with-command-4.ensures _ layout_shape third c.layout_words.ensures in
    c.with.ensures _ check_shape fourth c.check_words.ensures
