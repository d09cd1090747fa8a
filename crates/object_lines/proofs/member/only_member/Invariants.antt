use Rattle.std.proofs.Common.{◌≡◌, drop}
use Rattle.json.specs.Value.{members_view}
use Rattle.object_lines.specs.Members.{values_of}
use Rattle.object_lines.proofs.Values.{with_found}
use Rattle.object_lines.proofs.member.only_member.Given as goal

abbrev pub invariant-loop-member : goal.invariant-loop-member
invariant-loop-member l = values_of l.name (members_view l.members.items) ≡ with_found l.found (values_of l.name (members_view (drop l.member-index l.members.items)))
