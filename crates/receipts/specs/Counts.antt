-- How many records stand before a cut, and how many lines a text has.
use Rattle.std.specs.Prelude.{◌==◌, ◌+◌, ◌-◌, ◌^◌, min, ℕ, List, take, length, count_by}
use Rattle.stream_model.specs.declared.entry.Marked.{Marked}
use Rattle.stream_model.specs.InputData.{records_in}

-- so many records, and those of the first entries of a partition, as far as they can be counted
abbrev pub with_partition : ℕ → List Marked × ℕ → ℕ
with_partition n x = min (n + length (records_in (take x.1 x.0))) (2 ^ 64 - 1)

-- each line ends with a line feed
abbrev pub lines_in : List ℕ → ℕ
lines_in bytes = count_by (λ b. b == 10) bytes
