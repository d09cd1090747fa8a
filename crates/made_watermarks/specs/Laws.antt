-- What the marks of a source that makes its own watermarks come to.
use Rattle.std.specs.Prelude.{◌≡◌, ◌≢◌, ℕ, ℤ, pos, List, Some, length, take}
use Rattle.std.specs.List.{All}
use Rattle.lane_kernels.specs.Compare.{greatest_of}
use Rattle.plain_data.specs.Record.{column_of}
use Rattle.plan_model.specs.PlanData.{IsBound}
use Rattle.stream_model.specs.declared.entry.Marked.{Marked}
use Rattle.stream_model.specs.InputData.{IsEntry, records_in}
use Rattle.stream_model.specs.Marks.{IsMarked, made}
use Rattle.stream_model.specs.Watermarks.{partition_watermark}

-- short of its end, a partition's watermark is made of the greatest time among the records of the entries so far
abbrev pub WatermarkIsMade : Type 0
WatermarkIsMade = (bound : ℤ) (columns time : ℕ) (p : List Marked) (n : ℕ) → IsBound (Some bound) → All (IsEntry columns time) p → All (IsMarked (Some bound) time) p → n ≢ length p
    → partition_watermark p n ≡ made bound (greatest_of (column_of time (records_in (take n p))))
