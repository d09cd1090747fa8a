use Rattle.std.proofs.Common.{◌≡◌, map, slice_get, Some, ◌∙◌, ap, subst}
use Rattle.std.specs.Option.{option_map}
use Rattle.std.specs.List.{All}
use Rattle.std.proofs.lemmas.Option.{slice_get-map}
use Rattle.std.proofs.lemmas.List.Elements.{All-map}
use Rattle.aggregates.specs.Kinds.{IsAcc}
use Rattle.packed_parts.specs.declared.part.Part.{Part}
use Rattle.packed_parts.specs.Packing.{PackingData, entry_of, part_of}
use Rattle.savepoint_codec.specs.EntriesView.{entry_data}
use Rattle.packed_parts.proofs.packing.Packing.entry.Goals as goal

pub returns-clause-is : goal.returns-clause-is
returns-clause-is c =
    let kinds = c.self.inside.kinds.items in
    let entries = c.self.inside.entries.entries in
    subst (λ (p : PackingData). slice_get (map entry_of p.parts) c.args.i ≡ Some (entry_data c.entry.result)) c.self.view_is
    (slice_get-map entry_of (map (part_of kinds) entries) c.args.i ∙ ap (option_map entry_of) (slice_get-map (part_of kinds) entries c.args.i ∙ ap (option_map (part_of kinds)) c.entry.ensures))

pub returns-clause-sound : goal.returns-clause-sound
returns-clause-sound c = subst (λ (p : PackingData). All (λ (part : Part). IsAcc part.acc) p.parts) c.self.view_is (All-map (λ (part : Part). IsAcc part.acc) (part_of c.self.inside.kinds.items) c.self.inside.entries.entries c.self.invariant.sound)
