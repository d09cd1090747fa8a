-- What a cut leaves of an input's partitions.
use Rattle.std.specs.Prelude.{ℕ, List, map}
use Rattle.std.specs.List.{zip}
use Rattle.stream_model.specs.declared.entry.Marked.{Marked}
use Rattle.stream_model.specs.Watermarks.{partition_watermark}
use Rattle.savepoint_codec.specs.declared.savepoint.SavedPartition.{SavedPartition}
use Rattle.redistribute.specs.StartData.{StartData, start_data_of}

-- a partition of which so many entries were read
abbrev pub saved_partition : List Marked → ℕ → SavedPartition
saved_partition entries n = record { offset = n; watermark = partition_watermark entries n }

-- the partitions of a source, read as far as the counts say
abbrev pub saved_source : List (List Marked) → List ℕ → List SavedPartition
saved_source partitions counts = map (λ p. saved_partition p.0 p.1) (zip partitions counts)

-- the partitions of all sources, read up to a cut
abbrev pub saved_sources : List (List (List Marked)) → List (List ℕ) → List (List SavedPartition)
saved_sources sources cut = map (λ s. saved_source s.0 s.1) (zip sources cut)

-- the start from a savepoint of this number at a cut, with nothing in the windows
abbrev pub start_at : List (List (List Marked)) → List (List ℕ) → ℕ → StartData
start_at sources cut number = start_data_of number (saved_sources sources cut)
