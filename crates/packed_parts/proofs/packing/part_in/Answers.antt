use Rattle.std.proofs.Common.{length, sym, ◌∙◌}
use Rattle.std.proofs.lemmas.List.{length-take-le}
use Rattle.aggregates.proofs.Accs.{length-numbers}
use Rattle.savepoint_codec.specs.EntriesView.{entry_data}
use Rattle.packed_parts.proofs.packing.part_in.Goals as goal

pub copy_to-requires : goal.copy_to-requires
copy_to-requires c =
    let total = (entry_data c.args.entry).total in
    length-take-le (length c.args.kinds.now) _ c.requires.few ∙ sym (length-numbers total.count c.args.kinds.now total.numbers c.requires.numbers)
