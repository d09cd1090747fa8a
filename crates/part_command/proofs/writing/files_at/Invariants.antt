use Rattle.std.proofs.Common.{◌≡◌, length}
use Rattle.part_command.proofs.writing.files_at.Given as goal

abbrev pub invariant-loop-place : goal.invariant-loop-place
invariant-loop-place g l = length l.files.items ≡ l.place
