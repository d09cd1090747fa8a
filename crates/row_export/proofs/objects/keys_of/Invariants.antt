use Rattle.std.proofs.Common.{◌≡◌, map, take, string_bytes}
use Rattle.row_export.specs.Objects.{key_text}
use Rattle.row_export.proofs.objects.keys_of.Given as goal

abbrev pub invariant-loop-title : goal.invariant-loop-title
invariant-loop-title l = map (λ key. key.items) l.keys.items ≡ map key_text (map string_bytes (take l.title-index l.titles))
