use Rattle.std.proofs.Common.{ℕ, ◌%◌, ◌≤◌, length, get_or, []}
use Rattle.std.specs.Prelude.{bytes_eq}
use Rattle.twice_table.specs.Linked.{codes_of, IsLast}
use Rattle.twice_table.proofs.Links.{Passed}
use Rattle.twice_table.proofs.chains.find_linked.Given as goal

-- the texts of this code from a place on are others, and before it the next one is the last of its chain
abbrev pub invariant-loop-next : goal.invariant-loop-next
invariant-loop-next l = (count : ℕ) × (count ≤ length (codes_of l.links))
    × IsLast (length l.lasts) (l.code % length l.lasts) (codes_of l.links) count l.next
    × Passed (codes_of l.links) l.code (λ i. bytes_eq l.text (get_or l.texts i [])) count

abbrev pub decreases-loop-next : goal.decreases-loop-next
decreases-loop-next l = l.next
