use Rattle.window_slices.proofs.Fits.{slice_end_is}
use Rattle.window_slices.proofs.slices.slice_end.Goals as goal

pub returns : goal.returns
returns c =
    let start = c.last_start_by.ensures in
    let end = c.last_end_by.ensures in
    slice_end_is c.args.window.now c.args.start c.requires.window c.requires.start c.min.result c.last_start_by.result c.last_end_by.result start.value end.value c.min.ensures.value
    start.behind start.reached end.behind end.reached
