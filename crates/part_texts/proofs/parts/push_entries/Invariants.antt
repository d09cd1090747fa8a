use Rattle.std.proofs.Common.{take}
use Rattle.input_parts.specs.Parts.{is_in_part}
use Rattle.part_texts.specs.PartTexts.{Each}
use Rattle.part_texts.specs.Streams.{states_of}
use Rattle.part_texts.proofs.Steps.{kept_of}
use Rattle.part_texts.proofs.parts.push_entries.Given as goal

abbrev pub invariant-loop-marked : goal.invariant-loop-marked
invariant-loop-marked g l = Each (kept_of (is_in_part l.plan l.parts) (take l.marked-index l.entries)) (states_of g.W.Write.contents l.fn.texts) (states_of g.W.Write.contents l.texts)
