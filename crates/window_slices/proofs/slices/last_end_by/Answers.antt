use Rattle.window_slices.proofs.Fits.{last_end_is}
use Rattle.window_slices.proofs.slices.last_end_by.Goals as goal

pub returns-clause-value : goal.returns-clause-value
returns-clause-value c =
    let start = c.last_start_by.ensures in
    last_end_is c.args.window.now c.args.number c.requires.window c.requires.above c.requires.below c.last_start_by.result start.value start.behind start.reached
