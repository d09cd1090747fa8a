use Rattle.std.proofs.Common.{List, map, take, zip}
use Rattle.std.specs.List.{join_with_byte}
use Rattle.plan_model.specs.declared.spec.SourceSpec.{SourceSpec}
use Rattle.stream_model.specs.declared.entry.Marked.{Marked}
use Rattle.input_parts.specs.Parts.{is_in_part, entries_left}
use Rattle.part_texts.specs.InputTexts.{source_text}
use Rattle.part_texts.specs.PartTexts.{Grow}
use Rattle.part_texts.specs.Streams.{states_of}
use Rattle.part_texts.proofs.parts.push_sources.Given as goal

abbrev pub invariant-loop-place : goal.invariant-loop-place
invariant-loop-place g l = Grow (λ i. join_with_byte 44 (map (λ (s : SourceSpec × List (List Marked)). source_text (s.0, map (entries_left (is_in_part l.plan l.parts i)) s.1)) (take l.place (zip l.specs l.sources)))) (states_of g.W.Write.contents l.fn.texts) (states_of g.W.Write.contents l.texts)
