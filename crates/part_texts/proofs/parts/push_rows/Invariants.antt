use Rattle.input_parts.specs.Parts.{entry_of_rows}
use Rattle.key_dealing.specs.Dealing.{rows_at}
use Rattle.part_texts.specs.PartTexts.{with_entries}
use Rattle.part_texts.specs.Streams.{states_of, places_at}
use Rattle.part_texts.proofs.Steps.{Done}
use Rattle.part_texts.proofs.parts.push_rows.Given as goal

abbrev pub invariant-loop-place : goal.invariant-loop-place
invariant-loop-place g l = Done (λ i p. with_entries p (entry_of_rows l.batch.width (rows_at l.batch.rows (places_at l.lists i)))) l.place (states_of g.W.Write.contents l.fn.texts) (states_of g.W.Write.contents l.texts)
