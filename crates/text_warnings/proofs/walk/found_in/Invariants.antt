use Rattle.std.proofs.Common.{◌≡◌, length}
use Rattle.text_warnings.proofs.walk.found_in.Given as goal

abbrev pub invariant-tokens : goal.invariant-tokens
invariant-tokens l = l.walk.found.end ≡ length l.text

abbrev pub decreases-tokens : goal.decreases-tokens
decreases-tokens l = length l.reader
