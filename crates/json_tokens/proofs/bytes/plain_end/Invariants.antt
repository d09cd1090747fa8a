use Rattle.std.proofs.Common.{◌≡◌, ◌+◌, ◌-◌, ◌≤◌, length, drop}
use Rattle.std.specs.List.{prefix_len}
use Rattle.json.specs.Run.{is_plain}
use Rattle.json_tokens.proofs.bytes.plain_end.Given as goal

abbrev pub invariant-plain : goal.invariant-plain
invariant-plain l = (prefix_len is_plain l.text ≡ l.end + prefix_len is_plain (drop l.end l.text)) × (l.end ≤ length l.text)

abbrev pub decreases-plain : goal.decreases-plain
decreases-plain l = length l.text - l.end
