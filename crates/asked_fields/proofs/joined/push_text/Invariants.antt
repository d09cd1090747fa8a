use Rattle.std.proofs.Common.{◌≡◌, ◌++◌, ◌∷◌, [], take}
use Rattle.std.specs.List.{flat_map}
use Rattle.asked_fields.specs.Joined.{byte_of, escaped_byte}
use Rattle.asked_fields.proofs.joined.push_text.Given as goal

abbrev pub invariant-loop-byte : goal.invariant-loop-byte
invariant-loop-byte l = l.joined.items ≡ (l.fn.joined.items ++ (l.joint ∷ [])) ++ flat_map (escaped_byte l.joint) (take l.byte-index l.text)
