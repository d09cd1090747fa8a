use Rattle.std.proofs.Common.{◌-◌, length}
use Rattle.json_parts.specs.Parts.{list_text}
use Rattle.json_tokens.proofs.Facts.{ItemsRead}
use Rattle.stream_input.specs.Fit.{own_entry}
use Rattle.stream_input.proofs.tokens.next_source.Given as goal

abbrev pub invariant-partitions : goal.invariant-partitions
invariant-partitions l = ItemsRead (list_text (own_entry l.bound l.plan.columns l.plan.window.time)) (l.depth - 1) l.initial.reader l.partitions.items l.reader

abbrev pub decreases-partitions : goal.decreases-partitions
decreases-partitions l = length l.reader
