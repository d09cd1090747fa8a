use Rattle.std.proofs.Common.{◌≡◌, ◌++◌, take, string_bytes}
use Rattle.std.specs.List.{flat_map, zip}
use Rattle.row_changes.specs.Changes.{beside}
use Rattle.row_changes.proofs.numbers.push_all_beside.Given as goal

abbrev pub invariant-loop-index : goal.invariant-loop-index
invariant-loop-index l = string_bytes l.text ≡ string_bytes l.fn.text ++ flat_map beside (take l.index (zip l.old l.new))
