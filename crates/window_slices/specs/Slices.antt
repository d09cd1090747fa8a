-- Slices: time is cut where a window of the plan starts and where one ends, and a slice goes from one cut up to the
-- next.
use Rattle.std.specs.Prelude.{ℤ, neg_ℤ, ◌+ℤ◌, ◌-ℤ◌, ◌≤ℤ◌, ◌<ℤ◌, Bool, ◌&&◌, ◌||◌, List, Option}
use Rattle.std.specs.Int.{int_rem_euclid, int_min, int_max}
use Rattle.std.specs.List.{filter}
use Rattle.std.specs.Ordering.{int_eq}
use Rattle.plain_data.specs.Record.{Record, at}
use Rattle.plan_model.specs.declared.limits.TheConstants.{TIME_LIMIT, LONGEST_WINDOW}
use Rattle.plan_model.specs.declared.spec.WindowSpec.{WindowSpec}
use Rattle.plan_model.specs.Windows.{is_start}
use Rattle.plan_model.specs.Aggregates.{Aggregated, aggregate_of}

-- a window of the plan starts at b, or one ends there
abbrev pub is_boundary : WindowSpec → ℤ → Bool
is_boundary w b = is_start w b || is_start w (b -ℤ w.size)

-- the last start of a window that is at most t
abbrev pub last_start_by : WindowSpec → ℤ → ℤ
last_start_by w t = t -ℤ int_rem_euclid (t -ℤ w.offset) w.slide

-- the last end of a window that is at most t: a size behind the last start that is at most t less a size
abbrev pub last_end_by : WindowSpec → ℤ → ℤ
last_end_by w t = last_start_by w (t -ℤ w.size) +ℤ w.size

-- the start of the slice that the time t lies in: the later of the two, which is the last boundary that is at most t
abbrev pub slice_start : WindowSpec → ℤ → ℤ
slice_start w t = int_max (last_start_by w t) (last_end_by w t)

-- the first boundary behind b: starts and ends come again after a slide, and the earlier of the two comes first
abbrev pub slice_end : WindowSpec → ℤ → ℤ
slice_end w b = int_min (last_start_by w b) (last_end_by w b) +ℤ w.slide

-- the record has the key, and its time lies in the slice that starts at b
abbrev pub is_in_slice : WindowSpec → ℤ → ℤ → Record → Bool
is_in_slice w key b r = int_eq (at w.key r) key && int_eq (slice_start w (at w.time r)) b

-- what the records of a key in the slice that starts at b come to, where there are any
abbrev pub slice_total : WindowSpec → List Record → ℤ → ℤ → Option Aggregated
slice_total w records key b = aggregate_of w.aggregates (filter (is_in_slice w key b) records)

-- a number at which the slice of a time can start: times in range, and so many below them as the longest slide has
pub record IsSliceStart (b : ℤ) : Type 0 where
  pub above : (neg_ℤ TIME_LIMIT -ℤ LONGEST_WINDOW) ≤ℤ b
  pub below : b <ℤ TIME_LIMIT
