use Rattle.std.proofs.Common.{◌≡◌, take}
use Rattle.std.specs.List.{flat_map}
use Rattle.packed_parts.specs.Packing.{PackingData}
use Rattle.redistribute.specs.Parts.{parts_in_group}
use Rattle.redistribute.proofs.spreading.parts_within.Given as goal

abbrev pub invariant-loop-group : goal.invariant-loop-group
invariant-loop-group l =
    let before : PackingData = record { kinds = l.start.kinds; parts = flat_map (parts_in_group l.start.kinds l.range) (take l.group-index l.start.groups) } in
    l.found ≡ before
