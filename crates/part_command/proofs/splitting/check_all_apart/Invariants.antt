use Rattle.std.proofs.Common.{ℕ, ◌<◌}
use Rattle.part_command.specs.Apart.{path_of_part, IsTaken}
use Rattle.part_command.proofs.splitting.check_all_apart.Given as goal

abbrev pub invariant-loop-place : goal.invariant-loop-place
invariant-loop-place g l = (k : ℕ) → k < l.place → IsTaken l.words.plan.now l.words.input.now (path_of_part l.words.out.now k) → ⊥
