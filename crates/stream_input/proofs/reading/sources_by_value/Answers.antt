use Rattle.std.proofs.Common.{◌∙◌, Ok, sym, ap}
use Rattle.stream_model.specs.InputData.{input_data_of}
use Rattle.stream_input.proofs.Sound.{faultless}
use Rattle.stream_input.proofs.reading.sources_by_value.Goals as goal

pub sources_of-requires-clause-wide : goal.sources_of-requires-clause-wide
sources_of-requires-clause-wide c =
    rw c.as_slice.ensures (faultless c.args.plan.now c.args.bytes.now c.in_ok-text.text c.in_ok-check_bytes.ensures c.in_ok-text.ensures).wide

pub sources_of-requires-clause-sized : goal.sources_of-requires-clause-sized
sources_of-requires-clause-sized c =
    rw c.as_slice.ensures (faultless c.args.plan.now c.args.bytes.now c.in_ok-text.text c.in_ok-check_bytes.ensures c.in_ok-text.ensures).sized

pub sources_of-requires-clause-timely : goal.sources_of-requires-clause-timely
sources_of-requires-clause-timely c =
    rw c.as_slice.ensures (faultless c.args.plan.now c.args.bytes.now c.in_ok-text.text c.in_ok-check_bytes.ensures c.in_ok-text.ensures).timely

pub returns : goal.returns
returns c =
    let plan = c.args.plan.now in
    let found = rw c.as_slice.ensures at c.in_ok-sources_of.ensures in
    (faultless plan c.args.bytes.now c.in_ok-text.text c.in_ok-check_bytes.ensures c.in_ok-text.ensures).said ∙ ap (λ sources. Ok (input_data_of plan.columns plan.window.time sources)) (sym found)
