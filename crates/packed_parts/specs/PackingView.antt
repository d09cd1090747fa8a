-- The fields of parts that are packed, and what they stand for.
use Rattle.std.specs.Prelude.{◌≡◌, length, map}
use Rattle.std.specs.List.{All}
use Rattle.aggregates.specs.Kinds.{IsAcc}
use Rattle.packed_parts.specs.declared.packing.Packing.TheInside.{Inside}
use Rattle.packed_parts.specs.Packing.{PackingData, part_of}

abbrev pub packing_view : Inside → PackingData
packing_view p = record { kinds = p.kinds.items; parts = map (part_of p.kinds.items) p.entries.entries }

-- each entry has a number for each kind, and is what records of these kinds can come to
pub record IsPackingInside (p : Inside) : Type 0 where
  pub wide : p.entries.width ≡ length p.kinds.items
  pub sound : All (λ e. IsAcc (part_of p.kinds.items e).acc) p.entries.entries
