-- What the partitions of an input have.
use Rattle.std.specs.Prelude.{ℕ, ℤ, List, length, Option, Some, None}
use Rattle.std.specs.Int.{int_min, int_max}
use Rattle.std.specs.List.{fold}
use Rattle.plain_data.specs.Record.{column_of}
use Rattle.plain_data.specs.Times.{lowest}
use Rattle.stream_model.specs.declared.entry.Marked.{Marked}
use Rattle.stream_model.specs.InputData.{records_in}
use Rattle.stream_model.specs.Watermarks.{watermark_of_entry}
use Rattle.input_cuts.specs.declared.extent.Extent.{Extent}
use Rattle.input_cuts.specs.declared.extent.Times.{Times}

-- the least and the greatest of some times, with one more
abbrev pub with_time : Option Times → ℤ → Option Times
with_time None t = Some (record { least = t; greatest = t })
with_time (Some r) t = Some (record { least = int_min r.least t; greatest = int_max r.greatest t })

-- the least and the greatest of times, if there are any
abbrev pub times_of : List ℤ → Option Times
times_of ts = fold with_time None ts

-- how many entries and records a partition has, the times of its records, and the greatest of its watermarks
abbrev pub extent_of : ℕ → List Marked → Extent
extent_of time entries = record {
  entries = length entries;
  records = length (records_in entries);
  times = times_of (column_of time (records_in entries));
  watermark = fold (λ w e. int_max w (watermark_of_entry e)) lowest entries;
}
