use Rattle.std.proofs.Common.{length}
use Rattle.serde_json.specs.Data.{Members}
use Rattle.json_tokens.specs.Passed.{MembersRead}
use Rattle.input_texts.proofs.EntryNotings.{MembersNoted}
use Rattle.input_texts.proofs.noting.members_noted.Given as goal

abbrev pub invariant-members : goal.invariant-members
invariant-members l = (ms : Members) × MembersRead l.depth l.initial.reader ms l.reader × MembersNoted l.bound l.plan.columns l.plan.window.time l.watermark l.named ms l.entry

abbrev pub decreases-members : goal.decreases-members
decreases-members l = length l.reader
