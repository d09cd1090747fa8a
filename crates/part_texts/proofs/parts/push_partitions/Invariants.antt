use Rattle.std.proofs.Common.{map, take}
use Rattle.std.specs.List.{join_with_byte}
use Rattle.input_parts.specs.Parts.{is_in_part, entries_left}
use Rattle.part_texts.specs.InputTexts.{partition_text}
use Rattle.part_texts.specs.PartTexts.{Grow}
use Rattle.part_texts.specs.Streams.{states_of}
use Rattle.part_texts.proofs.parts.push_partitions.Given as goal

abbrev pub invariant-loop-place : goal.invariant-loop-place
invariant-loop-place g l = Grow (λ i. join_with_byte 44 (map (λ es. partition_text (entries_left (is_in_part l.plan l.parts i) es)) (take l.place l.partitions))) (states_of g.W.Write.contents l.fn.texts) (states_of g.W.Write.contents l.texts)
