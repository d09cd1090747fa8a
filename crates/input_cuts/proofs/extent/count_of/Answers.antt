use Rattle.std.proofs.Common.{length, ap, arith}
use Rattle.std.proofs.lemmas.List.Folds.{length-flat_map-take}
use Rattle.stream_model.specs.InputData.{records_of_entry}
use Rattle.input_cuts.proofs.extent.count_of.Goals as goal

pub overflow_add-count : goal.overflow_add-count
overflow_add-count c =
    let within = length-flat_map-take records_of_entry c.args.entries.now c.loop-entry.entry-index c.entry-item.result c.loop-entry-test.true in
    let same = ap (λ e. length (records_of_entry e)) c.entry-item.is in
    let more = c.records_of-count.ensures in
    let so_far = c.loop-entry.invariant in
    let few = c.requires in
    omega (arith, within, same, more, so_far, few)
