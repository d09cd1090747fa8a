use Rattle.std.proofs.Common.{◌≡◌, ◌==◌, ℕ, ◌-◌, ◌<◌, ◌≤◌, [], map, take, length, get_or}
use Rattle.std.specs.List.{All, range_with_len}
use Rattle.columns.specs.Parts.{kept}
use Rattle.columns.proofs.parts.places_by_target.Given as goal

abbrev pub invariant-loop-alloc : goal.invariant-loop-alloc
invariant-loop-alloc l = record {
  few : length l.lists.items ≤ l.n;
  empty : All (λ places. places ≡ []) (map (λ places. places.items) l.lists.items);
}

abbrev pub decreases-loop-alloc : goal.decreases-loop-alloc
decreases-loop-alloc l = l.n - length l.lists.items

abbrev pub invariant-loop-place : goal.invariant-loop-place
invariant-loop-place l = record {
  long : length l.lists.items ≡ l.n;
  each : (t : ℕ) → t < l.n → get_or (map (λ places. places.items) l.lists.items) t [] ≡ kept (map (λ target. target == t) (take l.place l.targets)) (range_with_len 0 l.place);
}
