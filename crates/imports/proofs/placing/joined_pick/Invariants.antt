use Rattle.std.proofs.Common.{◌≡◌, Ok, map, take}
use Rattle.asked_fields.specs.Asked.{part_names}
use Rattle.csv.specs.Records.{fields_of}
use Rattle.imports.specs.Placing.{once_at, places_of}
use Rattle.imports.proofs.placing.joined_pick.Given as goal

abbrev pub invariant-loop-part : goal.invariant-loop-part
invariant-loop-part l = take l.part-index (map (λ name. once_at l.column (places_of (fields_of l.header) name)) (part_names l.field)) ≡ map Ok l.places.items
