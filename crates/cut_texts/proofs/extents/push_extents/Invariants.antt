use Rattle.std.proofs.Common.{◌≡◌, ◌++◌, take, string_bytes}
use Rattle.std.specs.List.{flat_map, enumerate_from}
use Rattle.cut_texts.specs.Extents.{extent_line}
use Rattle.cut_texts.proofs.extents.push_extents.Given as goal

abbrev pub invariant-loop-number : goal.invariant-loop-number
invariant-loop-number l = string_bytes l.text ≡ string_bytes l.fn.text ++ flat_map (extent_line l.uid) (take l.number (enumerate_from 0 l.extents))
