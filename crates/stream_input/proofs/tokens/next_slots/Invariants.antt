use Rattle.std.proofs.Common.{◌-◌, length}
use Rattle.serde_json.specs.Data.{Members}
use Rattle.json_tokens.specs.Passed.{MembersRead}
use Rattle.stream_input.specs.Fit.{IsSlots}
use Rattle.stream_input.proofs.tokens.next_slots.Given as goal

abbrev pub invariant-members : goal.invariant-members
invariant-members l = (ms : Members) × MembersRead (l.depth - 1) l.initial.reader ms l.reader × IsSlots l.plan ms l.slots.items

abbrev pub decreases-members : goal.decreases-members
decreases-members l = length l.reader
