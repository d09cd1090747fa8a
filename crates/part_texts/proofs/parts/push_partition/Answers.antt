use Rattle.std.proofs.lemmas.Result.{on_ok_weaker}
use Rattle.input_parts.specs.Parts.{is_in_part}
use Rattle.part_texts.specs.Streams.{states_of}
use Rattle.part_texts.proofs.Steps.{partition_more}
use Rattle.part_texts.proofs.parts.push_partition.Goals as goal

pub returns : goal.returns
returns g c =
    on_ok_weaker c.push_all-2.result
    (partition_more (is_in_part c.args.plan.now c.args.parts) c.args.entries.now (states_of g.W.Write.contents c.args.texts.now) (states_of g.W.Write.contents c.push_all.new.texts) (states_of g.W.Write.contents c.push_entries.new.texts) (states_of g.W.Write.contents c.push_all-2.new.texts) c.in_ok-push_all.ensures c.in_ok-push_entries.ensures)
    c.push_all-2.ensures
