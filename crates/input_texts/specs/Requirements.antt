-- What an input must meet, and the fault where it does not, in the order in which they are decided.
use Rattle.std.specs.Prelude.{ℕ, ℤ, Bool, true, not, ◌&&◌, ◌==◌, nat_le, List, [], ◌∷◌, length, Option, is_some, bytes_eq}
use Rattle.std.specs.List.{list_all, list_any}
use Rattle.std.specs.Option.{option_map}
use Rattle.answers.specs.Answer.{otherwise}
use Rattle.plain_data.specs.Record.{at}
use Rattle.columns.specs.declared.TheConstants.{MOST_ROWS}
use Rattle.plan_model.specs.PlanData.{PlanData}
use Rattle.plan_model.specs.Windows.{is_time}
use Rattle.plan_model.specs.declared.limits.TheConstants.{MOST_RECORDS}
use Rattle.input_texts.specs.declared.fault.InputFault.{InputFault}
use Rattle.input_texts.specs.declared.fault.InputFault.TheVariants.{Source, Partitions, Width, Number, Rows, TimeRange, Kind, TooMany}
use Rattle.stream_model.specs.InputData.{all_records}
use Rattle.input_texts.specs.InputText.{EntryText, rows, watermark, InputText}
use Rattle.stream_model.specs.Late.{first_late}
use Rattle.input_texts.specs.Fault.{late_fault}
use Rattle.input_texts.specs.Said.{number_of, record_of, partitions_under, sources_of}

-- each member names a source of the plan, and each source of the plan has a member
unfoldable pub has_sources : PlanData → InputText → Bool
has_sources plan text = list_all (λ m. list_any (λ s. bytes_eq s.uid m.0) plan.sources) text && list_all (λ s. list_any (λ m. bytes_eq m.0 s.uid) text) plan.sources

-- each source has as many partitions as the plan says
unfoldable pub has_partitions : PlanData → InputText → Bool
has_partitions plan text = list_all (λ s. length (partitions_under s.uid text) == s.partitions) plan.sources

-- every entry of the document passes a test
abbrev pub every_entry : (EntryText → Bool) → InputText → Bool
every_entry test text = list_all (λ m. list_all (list_all test) m.1) text

-- each row has as many elements as there are columns
abbrev pub is_wide : ℕ → EntryText → Bool
is_wide columns (rows found) = list_all (λ row. length row == columns) found
is_wide columns (watermark t) = true

-- each element, and a watermark, is a whole number
abbrev pub is_whole : EntryText → Bool
is_whole (rows found) = list_all (list_all is_some) found
is_whole (watermark t) = is_some t

-- 1 to 4,096 rows
abbrev pub is_sized : EntryText → Bool
is_sized (rows found) = nat_le 1 (length found) && nat_le (length found) MOST_ROWS
is_sized (watermark t) = true

-- the time of each row, and a watermark, is in range
abbrev pub is_timely : ℕ → EntryText → Bool
is_timely time (rows found) = list_all (λ row. is_time (at time (record_of row))) found
is_timely time (watermark t) = is_time (number_of t)

-- a watermark, only where the source makes none
abbrev pub is_kind : Option ℤ → EntryText → Bool
is_kind bound (rows found) = true
is_kind bound (watermark t) = not (is_some bound)

unfoldable pub has_width : PlanData → InputText → Bool
has_width plan text = every_entry (is_wide plan.columns) text

unfoldable pub has_numbers : PlanData → InputText → Bool
has_numbers plan text = every_entry is_whole text

unfoldable pub has_rows : PlanData → InputText → Bool
has_rows plan text = every_entry is_sized text

unfoldable pub has_times : PlanData → InputText → Bool
has_times plan text = every_entry (is_timely plan.window.time) text

-- each source that makes its own watermarks has none in its partitions
unfoldable pub has_kinds : PlanData → InputText → Bool
has_kinds plan text = list_all (λ s. list_all (list_all (is_kind s.bound)) (partitions_under s.uid text)) plan.sources

-- no record comes too late; the fault is that of the first that does
unfoldable pub late_record : PlanData → InputText → Option InputFault
late_record plan text = option_map late_fault (first_late plan.window.time (sources_of plan text))

-- at most 2^40 records
unfoldable pub is_few : PlanData → InputText → Bool
is_few plan text = nat_le (length (all_records (sources_of plan text))) MOST_RECORDS

unfoldable pub requirements : PlanData → List (InputText → Option InputFault)
requirements plan = otherwise Source (has_sources plan) ∷ otherwise Partitions (has_partitions plan) ∷ otherwise Width (has_width plan) ∷ otherwise Number (has_numbers plan) ∷ otherwise Rows (has_rows plan) ∷ otherwise TimeRange (has_times plan) ∷ otherwise Kind (has_kinds plan) ∷ late_record plan ∷ otherwise TooMany (is_few plan) ∷ []
