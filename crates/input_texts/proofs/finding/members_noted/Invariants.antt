use Rattle.std.proofs.Common.{length}
use Rattle.serde_json.specs.Data.{Members}
use Rattle.json_tokens.specs.Passed.{MembersRead}
use Rattle.input_texts.specs.Document.{IsNoted}
use Rattle.input_texts.proofs.finding.members_noted.Given as goal

abbrev pub invariant-members : goal.invariant-members
invariant-members l = (ms : Members) × MembersRead l.depth l.initial.reader ms l.reader × IsNoted l.plan l.most ms l.document

abbrev pub decreases-members : goal.decreases-members
decreases-members l = length l.reader
