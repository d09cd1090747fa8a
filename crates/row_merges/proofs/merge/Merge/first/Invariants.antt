use Rattle.std.proofs.Common.{◌≡◌, ℕ, ◌<◌, None, IfSome, get_or}
use Rattle.row_merges.specs.Merges.{HasRowAt}
use Rattle.row_merges.specs.declared.head.Head.{Head}
use Rattle.row_merges.proofs.Firsts.{IsAt, IsLeast}
use Rattle.row_merges.proofs.merge.Merge.first.Given as goal

abbrev pub invariant-loop-place : goal.invariant-loop-place
invariant-loop-place g l = record {
  some : IfSome l.found (λ at. HasRowAt l.self.heads.items at.0);
  none : l.found ≡ None → (k : ℕ) (d : Head g.row.R.Denot) → k < l.place → (get_or l.self.heads.items k d).row ≡ None;
  at : IsAt l.self.heads.items l.found;
  least : IsLeast l.self.heads.items l.place l.found;
}
