use Rattle.std.proofs.Common.{◌≡◌, ◌≤◌, All}
use Rattle.text_places.specs.Parts.{level_at, IsPartOf}
use Rattle.text_places.proofs.part.Placed.parts.Given as goal

abbrev pub invariant-loop-i : goal.invariant-loop-i
invariant-loop-i l = record {
  level : l.depth ≡ level_at l.i l.spots;
  low : l.depth ≤ l.i;
  parts : All (IsPartOf l.spots) l.parts.items;
}
