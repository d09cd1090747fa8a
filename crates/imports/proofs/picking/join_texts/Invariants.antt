use Rattle.std.proofs.Common.{◌≡◌, map, take}
use Rattle.std.specs.List.{flat_map}
use Rattle.asked_fields.specs.Joined.{byte_of, joint_text}
use Rattle.csv.specs.Records.{fields_of}
use Rattle.imports.specs.Picks.{text_at}
use Rattle.imports.proofs.picking.join_texts.Given as goal

abbrev pub invariant-loop-place : goal.invariant-loop-place
invariant-loop-place l = l.joined.items ≡ flat_map (joint_text (byte_of l.joint)) (map (text_at (fields_of l.row)) (take l.place-index l.places))
