-- The part that stands packed at a place.
use Rattle.std.proofs.Common.{◌≡◌, ℕ, zero, suc, List, [], ◌∷◌, Some, map, get_or, refl}
use Rattle.std.specs.Prelude.{slice_get}
use Rattle.std.proofs.lemmas.Option.{none-some, same_Some}
use Rattle.savepoint_codec.specs.EntriesData.{EntryData}
use Rattle.packed_parts.specs.declared.part.Part.{Part}
use Rattle.packed_parts.specs.Packing.{entry_of}

pub part_at : (parts : List Part) (i : ℕ) (e : EntryData) → slice_get (map entry_of parts) i ≡ Some e → (p : Part) × (p ≡ get_or parts i p) × (entry_of p ≡ e)
part_at [] i e is = absurd (none-some e is)
part_at (p ∷ parts) zero e is = (p, refl, same_Some (entry_of p) e is)
part_at (p ∷ parts) (suc i) e is = part_at parts i e is
