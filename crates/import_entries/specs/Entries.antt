-- How the rows of a partition become entries, by their times in order.
use Rattle.std.specs.Prelude.{◌≡◌, ℕ, ◌+◌, ◌-◌, ◌%◌, ◌==◌, Bool, ◌||◌, not, List, [], ◌∷◌, ◌++◌, length, take, ℤ, pos, ◌-ℤ◌, Option, Some, None, Result, Ok, Err, if◌then◌else◌}
use Rattle.lane_kernels.specs.Compare.{greatest_of}
use Rattle.plan_model.specs.Windows.{is_time}
use Rattle.stream_model.specs.Late.{is_late_time}
use Rattle.import_entries.specs.declared.place.Place.{Place}
use Rattle.import_entries.specs.declared.place.Place.TheVariants.{Joins, Begins}
use Rattle.import_entries.specs.declared.place.PlaceFault.{PlaceFault}
use Rattle.import_entries.specs.declared.place.PlaceFault.TheVariants.{Range, Late}
use Rattle.import_entries.specs.declared.progress.Progress.{Progress}
use Rattle.import_entries.specs.declared.ends.WindowEnds.{WindowEnds}
use Rattle.import_entries.specs.declared.rule.Bound.{Bound}
use Rattle.import_entries.specs.Ends.{last_end}

-- how many rows the last entry has, where each has n, and the last 1 to n
unfoldable pub open_rows : ℕ → List ℤ → ℕ
open_rows n times = if length times == 0 then 0 else (length times - 1) % n + 1

-- the rows before the last entry
unfoldable pub closed_times : ℕ → List ℤ → List ℤ
closed_times n times = take (length times - open_rows n times) times

-- what is kept of the rows
unfoldable pub progress_of : ℕ → List ℤ → Progress
progress_of n times = record { rows = open_rows n times; latest = greatest_of times; closed = greatest_of (closed_times n times) }

-- the next row begins an entry
unfoldable pub begins : ℕ → List ℤ → Bool
begins n times = (open_rows n times == 0) || (open_rows n times == n)

-- the rows before the entry that the next row goes into
unfoldable pub settled_times : ℕ → List ℤ → List ℤ
settled_times n times = if begins n times then times else closed_times n times

-- the last time of a window that a watermark has reached, where that is asked for
abbrev pub reached : Option WindowEnds → ℤ → ℤ
reached None mark = mark
reached (Some ends) mark = last_end ends mark

-- a watermark that is a time
abbrev pub timely : ℤ → Option ℤ
timely mark = if is_time mark then Some mark else None

-- the greatest time less the bound less 1
abbrev pub mark_said : Option Bound → Option ℤ → Option ℤ
mark_said (Some rule) (Some latest) = timely (reached rule.ends ((latest -ℤ pos rule.behind) -ℤ pos 1))
mark_said marks latest = None

-- the watermark that stands before the next entry: none does where a source makes its own
abbrev pub standing_said : Option Bound → Option ℤ → Option ℤ
standing_said None mark = None
standing_said (Some rule) mark = if rule.stand then mark else None

-- why a row with this time goes nowhere behind such a watermark, if it is late
abbrev pub late_said : Option ℤ → ℤ → Option PlaceFault
late_said None time = None
late_said (Some mark) time = if is_late_time mark time then Some (Late time mark) else None

-- why the next row goes nowhere, if it does not
unfoldable pub place_fault : ℕ → Option Bound → List ℤ → ℤ → Option PlaceFault
place_fault n marks times time = if not (is_time time) then Some Range else late_said (mark_said marks (greatest_of (settled_times n times))) time

-- where the next row goes
unfoldable pub place_said : ℕ → Option Bound → List ℤ → Place
place_said n marks times = if begins n times then Begins (standing_said marks (mark_said marks (greatest_of times))) else Joins

-- the next row goes where it is said, and is then one of the rows; or it is refused, and nothing changes
abbrev pub IsPlaced : ℕ → Option Bound → List ℤ → ℤ → Progress → Progress → Result Place PlaceFault → Type 0
IsPlaced n marks times time old new (Ok place) = (place_fault n marks times time ≡ None) × (place ≡ place_said n marks times) × (new ≡ progress_of n (times ++ time ∷ []))
IsPlaced n marks times time old new (Err fault) = (place_fault n marks times time ≡ Some fault) × (new ≡ old)
