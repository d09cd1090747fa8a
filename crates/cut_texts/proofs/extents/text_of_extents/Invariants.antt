use Rattle.std.proofs.Common.{◌≡◌, take, zip, string_bytes}
use Rattle.std.specs.List.{flat_map}
use Rattle.cut_texts.specs.Extents.{source_lines}
use Rattle.cut_texts.proofs.extents.text_of_extents.Given as goal

abbrev pub invariant-loop-place : goal.invariant-loop-place
invariant-loop-place l = string_bytes l.text ≡ flat_map source_lines (take l.place (zip l.sources l.extents))
