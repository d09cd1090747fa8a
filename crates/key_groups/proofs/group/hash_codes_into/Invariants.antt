use Rattle.std.proofs.Common.{◌≡◌, take, map}
use Rattle.key_groups.specs.Groups.{hash_code}
use Rattle.key_groups.proofs.group.hash_codes_into.Given as goal

abbrev pub invariant-loop-i : goal.invariant-loop-i
invariant-loop-i l = take l.i l.codes ≡ map hash_code (take l.i l.keys)
