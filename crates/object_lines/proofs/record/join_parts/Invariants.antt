use Rattle.std.proofs.Common.{◌≡◌, ℕ, List, map, take, Ok}
use Rattle.std.specs.List.{flat_map}
use Rattle.asked_fields.specs.Asked.{part_names}
use Rattle.asked_fields.specs.Joined.{byte_of, joint_text}
use Rattle.json.specs.Value.{members_view}
use Rattle.object_lines.specs.Members.{member_text}
use Rattle.object_lines.proofs.record.join_parts.Given as goal

abbrev pub invariant-loop-part : goal.invariant-loop-part
invariant-loop-part l = (texts : List (List ℕ))
    × (map (member_text (members_view l.members.items)) (take l.part-index (part_names l.asked)) ≡ map Ok texts)
    × (l.joined.items ≡ flat_map (joint_text (byte_of l.asked.joint)) texts)
