use Rattle.std.proofs.Common.{◌≡◌, ◌≤◌, length, take}
use Rattle.row_changes.proofs.numbers.numbers_eq.Given as goal

abbrev pub invariant-loop-index : goal.invariant-loop-index
invariant-loop-index l = record { same : take l.index l.old ≡ take l.index l.new; within : l.index ≤ length l.old; beside : l.index ≤ length l.new }
