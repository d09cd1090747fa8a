-- The watermark that an entry brings. A source makes its own, as Flink's bounded out-of-orderness does, or has them in
-- its partitions.
use Rattle.std.specs.Prelude.{◌≡◌, ℕ, ℤ, pos, ◌-ℤ◌, ◌≤ℤ◌, ◌<ℤ◌, List, [], Option, Some, None}
use Rattle.std.specs.List.{All}
use Rattle.lane_kernels.specs.Compare.{greatest_of}
use Rattle.plain_data.specs.Record.{Record, at, column_of}
use Rattle.plain_data.specs.Times.{lowest}
use Rattle.plan_model.specs.declared.limits.TheConstants.{TIME_LIMIT}
use Rattle.plan_model.specs.Windows.{IsTime}
use Rattle.stream_model.specs.declared.entry.Entry.{Entry}
use Rattle.stream_model.specs.declared.entry.Entry.TheVariants.{Rows, Watermark}
use Rattle.stream_model.specs.declared.entry.Marked.{Marked}

-- the records of an entry as it is read
abbrev pub rows_in : Entry → List Record
rows_in (Rows batch) = batch.rows
rows_in (Watermark t) = []

-- rows of the input's width with times in range, or a watermark in range
abbrev pub IsEntryOf : ℕ → ℕ → Entry → Type 0
IsEntryOf columns time (Rows batch) = (batch.width ≡ columns) × All (λ r. IsTime (at time r)) batch.rows
IsEntryOf columns time (Watermark t) = IsTime t

-- the greatest time of an entry's records
abbrev pub greatest_time : ℕ → Entry → Option ℤ
greatest_time time e = greatest_of (column_of time (rows_in e))

-- the watermark that a source makes of the greatest time so far: that time less the bound less 1, or the least i64
-- where there is none
abbrev pub made : ℤ → Option ℤ → ℤ
made bound None = lowest
made bound (Some t) = t -ℤ bound -ℤ pos 1

-- the watermark that stands in the partition: rows have none
abbrev pub own_mark : Entry → ℤ
own_mark (Rows batch) = lowest
own_mark (Watermark t) = t

-- what an entry brings where the source has this bound, or none
abbrev pub mark_of : Option ℤ → ℕ → Entry → ℤ
mark_of None time e = own_mark e
mark_of (Some bound) time e = made bound (greatest_time time e)

-- the mark is the one that the source gives the entry
abbrev pub IsMarked : Option ℤ → ℕ → Marked → Type 0
IsMarked bound time m = m.mark ≡ mark_of bound time m.entry

-- a watermark of an entry: at least the least i64, and less than 2^62
abbrev pub IsMark : ℤ → Type 0
IsMark w = (lowest ≤ℤ w) × (w <ℤ TIME_LIMIT)
