use Rattle.std.proofs.Common.{◌≡◌, ℕ, List, length, Option}
use Rattle.row_merges.specs.Merges.{HoldsTexts}
use Rattle.row_merges.proofs.Passing.{Continues}
use Rattle.row_merges.proofs.merge.Merge.write.Given as goal

abbrev pub invariant-loop : goal.invariant-loop
invariant-loop g l = record {
  continues : (texts : List (Option (List ℕ))) → HoldsTexts g.R.Read.remaining texts l.fn.self → Continues g.R.Read.remaining texts (g.W.Write.contents l.fn.out) l.merge (g.W.Write.contents l.out) l.text.items;
  count : length l.merge.heads.items ≡ length l.fn.self.heads.items;
}
