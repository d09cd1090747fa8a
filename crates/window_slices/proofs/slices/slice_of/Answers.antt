use Rattle.window_slices.proofs.Fits.{slice_start_near, slice_start_is}
use Rattle.window_slices.proofs.slices.slice_of.Goals as goal

pub returns-clause-value : goal.returns-clause-value
returns-clause-value c =
    let start = c.last_start_by.ensures in
    let end = c.last_end_by.ensures in
    slice_start_is c.args.time c.max.result c.last_start_by.result c.last_end_by.result c.requires.time c.max.ensures.value start.behind start.reached end.behind end.reached
    c.args.window.now start.value end.value

pub returns-clause-start : goal.returns-clause-start
returns-clause-start c =
    let start = c.last_start_by.ensures in
    let end = c.last_end_by.ensures in
    slice_start_near c.args.time c.max.result c.last_start_by.result c.last_end_by.result c.requires.time c.max.ensures.value start.behind start.reached end.behind end.reached
