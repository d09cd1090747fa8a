use Rattle.std.proofs.Common.{◌≡◌}
use Rattle.serde_json.specs.View.{members_view}
use Rattle.json_parts.specs.Members.{each_member}
use Rattle.json_parts.proofs.Each.{with_front}
use Rattle.json_parts.proofs.members.each_of.Given as goal

abbrev pub invariant-loop-key : goal.invariant-loop-key
invariant-loop-key g l =
    with_front l.found.items (each_member g.T.FromValue.text_of (members_view l.key-iterator)) ≡ each_member g.T.FromValue.text_of (members_view l.members.entries)
