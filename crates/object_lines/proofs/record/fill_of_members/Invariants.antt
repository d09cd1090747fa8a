use Rattle.std.proofs.Common.{◌≡◌, [], take}
use Rattle.csv.specs.Records.{fields_of, partial_of}
use Rattle.json.specs.Value.{members_view}
use Rattle.object_lines.specs.Records.{AreTexts}
use Rattle.object_lines.proofs.record.fill_of_members.Given as goal

abbrev pub invariant-loop-i : goal.invariant-loop-i
invariant-loop-i l = record {
  texts : AreTexts (members_view l.members.items) (take l.i l.asked) (fields_of l.record);
  whole : partial_of l.record ≡ [];
}
