use Rattle.part_laws.proofs.Merged.{merged_parts_are_the_whole}
use Rattle.part_laws.proofs.laws.merged_parts_are_the_whole.Goals as goal

pub returns : goal.returns
returns c = merged_parts_are_the_whole c.rows_of_parts_are_all-all.ensures c.text_is_determined-one.ensures
