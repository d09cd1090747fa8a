use Rattle.std.proofs.Common.{◌≡◌, length}
use Rattle.std.specs.List.{All}
use Rattle.state_tests.proofs.entries.made.Given as goal

abbrev pub invariant-loop-pair : goal.invariant-loop-pair
invariant-loop-pair l = (l.entries.width ≡ 2) × All (λ e. length e.total.numbers ≡ 2) l.entries.entries
