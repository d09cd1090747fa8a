use Rattle.input_texts.specs.Requirements.{is_wide, is_sized, is_timely, has_width, has_rows, has_times}
use Rattle.stream_input.proofs.Tables.{each_passes}
use Rattle.stream_input.proofs.building.source_under.Goals as goal

pub source_of-requires-clause-wide : goal.source_of-requires-clause-wide
unfolding has_width
source_of-requires-clause-wide c =
    rw c.columns.ensures.says
    (rw c.partitions_of.ensures (each_passes (is_wide c.args.plan.now.columns) c.as_str.result.now c.args.text.now c.requires.wide))

pub source_of-requires-clause-sized : goal.source_of-requires-clause-sized
unfolding has_rows
source_of-requires-clause-sized c =
    rw c.partitions_of.ensures (each_passes is_sized c.as_str.result.now c.args.text.now c.requires.sized)

pub source_of-requires-clause-timely : goal.source_of-requires-clause-timely
unfolding has_times
source_of-requires-clause-timely c =
    rw c.window.ensures.says
    (rw c.partitions_of.ensures (each_passes (is_timely c.args.plan.now.window.time) c.as_str.result.now c.args.text.now c.requires.timely))
