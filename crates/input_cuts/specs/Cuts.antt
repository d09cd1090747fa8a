-- Cuts that are found by watermarks, and the one that leaves an input open.
use Rattle.std.specs.Prelude.{ℕ, ◌-◌, ℤ, int_le, List, map, length}
use Rattle.std.specs.List.{find, range_with_len}
use Rattle.std.specs.Option.{option_map_or}
use Rattle.stream_model.specs.declared.entry.Marked.{Marked}
use Rattle.stream_model.specs.Watermarks.{partition_watermark}

-- the least count of a partition's entries after which its watermark is at least w; all of them, where it is the end
-- alone that brings it
abbrev pub first_count : ℤ → List Marked → ℕ
first_count w entries = option_map_or (λ n. n) (find (λ n. int_le w (partition_watermark entries n)) (range_with_len 0 (length entries))) (length entries)

abbrev pub first_cut : ℤ → List (List (List Marked)) → List (List ℕ)
first_cut w sources = map (map (first_count w)) sources

-- all entries of a partition but its last, and none of an empty one
abbrev pub open_count : List Marked → ℕ
open_count entries = length entries - 1

abbrev pub open_cut : List (List (List Marked)) → List (List ℕ)
open_cut sources = map (map open_count) sources
