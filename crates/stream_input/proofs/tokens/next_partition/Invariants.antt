use Rattle.std.proofs.Common.{◌-◌, length}
use Rattle.json_tokens.proofs.Facts.{ItemsRead}
use Rattle.stream_input.specs.Fit.{own_entry}
use Rattle.stream_input.proofs.tokens.next_partition.Given as goal

abbrev pub invariant-entries : goal.invariant-entries
invariant-entries l = ItemsRead (own_entry l.bound l.plan.columns l.plan.window.time) (l.depth - 1) l.initial.reader l.entries.items l.reader

abbrev pub decreases-entries : goal.decreases-entries
decreases-entries l = length l.reader
