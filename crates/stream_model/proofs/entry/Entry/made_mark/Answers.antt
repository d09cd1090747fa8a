use Rattle.std.proofs.Common.{sym, ap, ◌∙◌}
use Rattle.lane_kernels.specs.Compare.{greatest_of}
use Rattle.plan_model.specs.Windows.{IsTime}
use Rattle.stream_model.proofs.MadeMarks.{greatest_within, time_kept}
use Rattle.stream_model.proofs.entry.Entry.made_mark.Goals as goal

pub behind-requires-clause-in_time : goal.behind-requires-clause-in_time
behind-requires-clause-in_time c =
    let sound = rw c.in-Rows.is at c.requires.sound in
    time_kept c.in-Some.time (greatest_within IsTime c.args.time c.in-Rows.batch.rows _ (sym (c.greatest.ensures ∙ ap greatest_of c.column.ensures) ∙ c.in-Some.is) sound.1)
