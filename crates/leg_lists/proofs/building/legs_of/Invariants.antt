use Rattle.std.proofs.Common.{◌≡◌, map, length}
use Rattle.std.specs.List.{All}
use Rattle.std.specs.Vec.Iter.{into_iter_items}
use Rattle.layout_rules.specs.Scale.{IsScale}
use Rattle.leg_lists.specs.LegsText.{leg_said}
use Rattle.leg_lists.specs.Said.{legs_from}
use Rattle.leg_lists.proofs.Scaled.{with_front}
use Rattle.leg_lists.proofs.building.legs_of.Given as goal

abbrev pub invariant-loop-text : goal.invariant-loop-text
invariant-loop-text l = record {
  reads : with_front l.legs.items (legs_from l.plan (length l.legs.items) (map leg_said (into_iter_items l.text-iterator))) ≡ legs_from l.plan 0 (map leg_said l.fn.texts.items);
  belong : All (λ leg. IsScale l.plan leg.scale) l.legs.items;
}
