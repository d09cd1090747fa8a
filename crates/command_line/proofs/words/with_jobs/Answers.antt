use Rattle.command_line.specs.Words.{run_shape, simulate_shape, leg_shape}
use Rattle.command_line.proofs.words.with_jobs.Goals as goal

pub returns : goal.returns
returns c =
    let first = c.with-command.ensures _ run_shape c.program_words.ensures c.run_words.ensures in
    let second = c.with-command-2.ensures _ simulate_shape first c.simulate_words.ensures in
    c.with.ensures _ leg_shape second c.leg_words.ensures
