use Rattle.std.proofs.Common.{◌≡◌, true, take}
use Rattle.std.specs.List.{list_all}
use Rattle.restore.specs.EntryTest.{passes}
use Rattle.restore.proofs.entries.is_each_passed.Given as goal

abbrev pub invariant-loop-i : goal.invariant-loop-i
invariant-loop-i l = list_all (passes l.window l.test l.group) (take l.i l.entries.entries) ≡ true
