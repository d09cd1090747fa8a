-- Watermarks, cuts and the records before a cut. A cut has one list for each source, with a count of entries for each
-- partition.
use Rattle.std.specs.Prelude.{ℕ, ℤ, ◌-◌, ◌==◌, ◌<ℤ◌, ◌<◌, ◌≤◌, List, [], ◌∷◌, ◌++◌, map, take, drop, length, slice_index_or, if◌then◌else◌}
use Rattle.std.specs.Int.{int_min, int_max}
use Rattle.std.specs.List.{All, AllByRecursion, AllZip, fold}
use Rattle.plain_data.specs.Record.{Record, at}
use Rattle.plain_data.specs.Times.{lowest, highest}
use Rattle.stream_model.specs.declared.entry.Marked.{Marked}
use Rattle.stream_model.specs.InputData.{records_of_entry, records_in}

abbrev pub watermark_of_entry : Marked → ℤ
watermark_of_entry m = m.mark

-- the partition's watermark after n entries: the greatest i64 at its end, else the greatest among them, else the least
-- i64
abbrev pub partition_watermark : List Marked → ℕ → ℤ
partition_watermark entries n = if n == length entries then highest else fold (λ w e. int_max w (watermark_of_entry e)) lowest (take n entries)

-- each record of entry n has a time greater than the watermark before it
abbrev pub IsOrderlyPartition : ℕ → List Marked → Type 0
IsOrderlyPartition time entries = (n : ℕ) → (d : Marked) → n < length entries
    → All (λ r. partition_watermark entries n <ℤ at time r) (records_of_entry (slice_index_or entries n d))

-- every partition of every source is orderly
abbrev pub IsOrderly : ℕ → List (List (List Marked)) → Type 0
IsOrderly time sources = AllByRecursion (AllByRecursion (IsOrderlyPartition time)) sources

-- the records among the first entries of each partition of a source, and of every source, as many as the cut says
abbrev pub records_before_in : List (List Marked) → List ℕ → List Record
records_before_in [] counts = []
records_before_in (p ∷ ps) [] = []
records_before_in (p ∷ ps) (n ∷ ns) = records_in (take n p) ++ records_before_in ps ns

abbrev pub records_before : List (List (List Marked)) → List (List ℕ) → List Record
records_before [] cut = []
records_before (s ∷ ss) [] = []
records_before (s ∷ ss) (c ∷ cs) = records_before_in s c ++ records_before ss cs

-- the cut at every length, and the one at every beginning
abbrev pub full_cut : List (List (List Marked)) → List (List ℕ)
full_cut sources = map (map (λ p. length p)) sources

abbrev pub empty_cut : List (List (List Marked)) → List (List ℕ)
empty_cut sources = map (map (λ p. 0)) sources

-- the least watermark of a source's partitions, and of all sources, at the cut
abbrev pub source_watermark : List (List Marked) → List ℕ → ℤ
source_watermark [] counts = highest
source_watermark (p ∷ ps) [] = highest
source_watermark (p ∷ ps) (n ∷ ns) = int_min (partition_watermark p n) (source_watermark ps ns)

abbrev pub merged_watermark : List (List (List Marked)) → List (List ℕ) → ℤ
merged_watermark [] cut = highest
merged_watermark (s ∷ ss) [] = highest
merged_watermark (s ∷ ss) (c ∷ cs) = int_min (source_watermark s c) (merged_watermark ss cs)

-- the cut has a list for each source with a count for each partition, at most its length
abbrev pub IsCut : List (List (List Marked)) → List (List ℕ) → Type 0
IsCut sources cut = AllZip (AllZip (λ p n. n ≤ length p)) sources cut

-- one cut is no further than another, place by place
abbrev pub IsBefore : List (List ℕ) → List (List ℕ) → Type 0
IsBefore b c = AllZip (AllZip (λ m n. m ≤ n)) b c

-- the records between two cuts
abbrev pub records_between_in : List (List Marked) → List ℕ → List ℕ → List Record
records_between_in (p ∷ ps) (m ∷ ms) (n ∷ ns) = records_in (take (n - m) (drop m p)) ++ records_between_in ps ms ns
records_between_in ps ms ns = []

abbrev pub records_between : List (List (List Marked)) → List (List ℕ) → List (List ℕ) → List Record
records_between (s ∷ ss) (b ∷ bs) (c ∷ cs) = records_between_in s b c ++ records_between ss bs cs
records_between ss bs cs = []
