-- What is noted of a part of a text, of which nothing is kept. Of a part of another form nothing is noted.
use Rattle.std.specs.Prelude.{◌≡◌, ℕ, ◌+◌, ℤ, true, not, ◌&&◌, ◌||◌, ◌==◌, nat_le, List, length, map, Option, Some, None, option_and_then, is_some, bytes_eq, codes, if◌then◌else◌}
use Rattle.std.specs.Int.{int_max}
use Rattle.std.specs.List.{find, list_all, list_any}
use Rattle.std.specs.Option.{option_map, option_or}
use Rattle.json.specs.Token.{Token}
use Rattle.serde_json.specs.Data.{Data, Members}
use Rattle.serde_json.specs.Find.{get_member}
use Rattle.json_tokens.specs.Passed.{Passes}
use Rattle.json_parts.specs.Parts.{whole, list_text, cell_text}
use Rattle.plain_data.specs.Record.{at}
use Rattle.plain_data.specs.Times.{lowest}
use Rattle.columns.specs.declared.TheConstants.{MOST_ROWS}
use Rattle.plan_model.specs.PlanData.{PlanData}
use Rattle.stream_model.specs.InputData.{records_in, records_in_source}
use Rattle.stream_model.specs.Marks.{made, rows_in}
use Rattle.stream_model.specs.Watermarks.{watermark_of_entry}
use Rattle.stream_model.specs.Late.{is_late_time, first_late_entry, first_at}
use Rattle.input_texts.specs.declared.text.EntryText.{EntryText}
use Rattle.input_texts.specs.declared.text.EntryText.TheVariants.{Rows as rows, Watermark as watermark}
use Rattle.input_texts.specs.InputText.{entry_text}
use Rattle.input_texts.specs.Said.{record_of, entry_of, marked_of}
use Rattle.plan_model.specs.Windows.{is_time}
use Rattle.input_texts.specs.Requirements.{is_wide, is_whole, is_sized, is_timely, is_kind}
pub use Rattle.input_texts.specs.declared.seen.Seen.{Seen}
pub use Rattle.input_texts.specs.declared.seen.RowSeen.{RowSeen}
pub use Rattle.input_texts.specs.declared.seen.EntrySeen.{EntrySeen}
pub use Rattle.input_texts.specs.declared.seen.PartitionSeen.{PartitionSeen}
pub use Rattle.input_texts.specs.declared.seen.SourceSeen.{SourceSeen}
pub use Rattle.input_texts.specs.declared.seen.Named.{Named}
pub use Rattle.input_texts.specs.declared.seen.Named.TheVariants as named

-- ---- which requirements are met

-- by a row of cells
abbrev pub met_by_row : ℕ → ℕ → List (Option ℤ) → Seen
met_by_row columns time row = record { is_wide = length row == columns; is_whole = list_all is_some row; is_sized = true; is_timely = is_time (at time (record_of row)); is_kind = true }

-- by an entry of a source with this bound
abbrev pub met_by_entry : Option ℤ → ℕ → ℕ → EntryText → Seen
met_by_entry bound columns time e = record { is_wide = is_wide columns e; is_whole = is_whole e; is_sized = is_sized e; is_timely = is_timely time e; is_kind = is_kind bound e }

-- by two parts
abbrev pub both : Seen → Seen → Seen
both a b = record { is_wide = a.is_wide && b.is_wide; is_whole = a.is_whole && b.is_whole; is_sized = a.is_sized && b.is_sized; is_timely = a.is_timely && b.is_timely; is_kind = a.is_kind && b.is_kind }

-- by each of the parts, of which `met` tells
abbrev pub all_met : {X : Type 0} → (X → Seen) → List X → Seen
all_met met xs = record { is_wide = list_all (λ x. (met x).is_wide) xs; is_whole = list_all (λ x. (met x).is_whole) xs; is_sized = list_all (λ x. (met x).is_sized) xs; is_timely = list_all (λ x. (met x).is_timely) xs; is_kind = list_all (λ x. (met x).is_kind) xs }

-- ---- what is noted

-- of a row, where w is the watermark before it
abbrev pub row_seen : ℕ → ℕ → ℤ → List (Option ℤ) → RowSeen
row_seen columns time w row = record { met = met_by_row columns time row; is_late = is_late_time w (at time (record_of row)); greatest = Some (at time (record_of row)) }

-- what rows bring, of which this is the greatest time
abbrev pub brought : Option ℤ → Option ℤ → ℤ
brought None greatest = lowest
brought (Some bound) greatest = made bound greatest

-- of an entry behind others of which w is the watermark
abbrev pub entry_seen : Option ℤ → ℕ → ℕ → ℤ → EntryText → EntrySeen
entry_seen bound columns time w e = record {
  met = met_by_entry bound columns time e;
  is_late = list_any (λ r. is_late_time w (at time r)) (rows_in (entry_of columns e));
  watermark = int_max w (watermark_of_entry (marked_of bound columns time e));
  records = length (rows_in (entry_of columns e));
}

-- of the rows of an entry, and of a watermark
abbrev pub rows_seen : Option ℤ → ℕ → ℕ → ℤ → List (List (Option ℤ)) → EntrySeen
rows_seen bound columns time w found = entry_seen bound columns time w (rows found)

abbrev pub watermark_seen : Option ℤ → ℕ → ℕ → ℤ → Option ℤ → EntrySeen
watermark_seen bound columns time w cell = entry_seen bound columns time w (watermark cell)

-- of a partition: its first entry with a record that comes too late, and how many records it has
abbrev pub partition_seen : Option ℤ → ℕ → ℕ → List EntryText → PartitionSeen
partition_seen bound columns time es = record {
  met = all_met (met_by_entry bound columns time) es;
  late = first_late_entry time (map (marked_of bound columns time) es);
  records = length (records_in (map (marked_of bound columns time) es));
}

-- of the partitions of a source
abbrev pub source_seen : Option ℤ → ℕ → ℕ → List (List EntryText) → SourceSeen
source_seen bound columns time ps = record {
  met = all_met (all_met (met_by_entry bound columns time)) ps;
  partitions = length ps;
  late = first_at (first_late_entry time) (map (map (marked_of bound columns time)) ps);
  records = length (records_in_source (map (map (marked_of bound columns time)) ps));
}

-- ---- one part behind others

-- where both have the form that is asked for
abbrev pub joined : {S T : Type 0} → (S → T → S) → Option S → Option T → Option S
joined join before next = option_and_then (λ s. option_map (join s) next) before

abbrev pub greater : Option ℤ → Option ℤ → Option ℤ
greater None b = b
greater (Some a) None = Some a
greater (Some a) (Some b) = Some (int_max a b)

abbrev pub with_row : RowSeen → RowSeen → RowSeen
with_row before row = record { met = both before.met row.met; is_late = before.is_late || row.is_late; greatest = greater before.greatest row.greatest }

-- of an entry with so many rows, of which this is noted, and the watermark behind them
abbrev pub of_rows : RowSeen → ℕ → ℤ → EntrySeen
of_rows all count w = record {
  met = record { is_wide = all.met.is_wide; is_whole = all.met.is_whole; is_sized = nat_le 1 count && nat_le count MOST_ROWS; is_timely = all.met.is_timely; is_kind = all.met.is_kind };
  is_late = all.is_late;
  watermark = w;
  records = count;
}

abbrev pub watermark_behind : Option EntrySeen → ℤ → ℤ
watermark_behind None w = w
watermark_behind (Some e) w = e.watermark

-- the entry has a place in its partition
abbrev pub with_entry : ℕ → PartitionSeen → EntrySeen → PartitionSeen
with_entry place p e = record { met = both p.met e.met; late = option_or p.late (if e.is_late then Some place else None); records = p.records + e.records }

abbrev pub with_partition : SourceSeen → PartitionSeen → SourceSeen
with_partition s p = record {
  met = both s.met p.met;
  partitions = s.partitions + 1;
  late = option_or s.late (option_map (λ e. (s.partitions, e)) p.late);
  records = s.records + p.records;
}

-- ---- members of an entry

-- which member has a name
abbrev pub named_by : List ℕ → Named
named_by name = if bytes_eq name (codes "rows") then named.Rows else (if bytes_eq name (codes "watermark") then named.Watermark else named.Others)

-- once one more member was passed
abbrev pub with_member : Named → Named → Named
with_member named.Nothing next = next
with_member named.Rows named.Rows = named.Rows
with_member named.Watermark named.Watermark = named.Watermark
with_member before next = named.Others

-- of an entry with other members nothing is noted
abbrev pub noted_as : Named → Option EntrySeen → Option EntrySeen
noted_as named.Nothing entry = entry
noted_as named.Rows entry = entry
noted_as named.Watermark entry = entry
noted_as named.Others entry = None

-- what an entry with this member alone says
abbrev pub member_text : Named → Data → Option EntryText
member_text named.Nothing d = None
member_text named.Rows d = option_map rows (list_text (list_text cell_text) d)
member_text named.Watermark d = Some (watermark (whole d))
member_text named.Others d = None

-- ---- parts of a text

-- the next value was passed, and that is noted of what f says of it
abbrev pub Notes : {X S : Type 0} → (Data → Option X) → (X → S) → ℕ → List Token → Option S → List Token → Type 0
Notes f see depth old seen new = (d : Data) × Passes depth old d new × (seen ≡ option_map see (f d))

-- the bound of the source with a name: None where it makes no watermarks, or the plan lacks it
abbrev pub bound_under : PlanData → List ℕ → Option ℤ
bound_under plan name = option_and_then (λ s. s.bound) (find (λ s. bytes_eq s.uid name) plan.sources)

-- what is seen of a source
abbrev pub noted_source : Option ℤ → PlanData → Data → Option SourceSeen
noted_source bound plan d = option_map (source_seen bound plan.columns plan.window.time) (list_text (list_text entry_text) d)

-- what the plan's sources are seen to have under their names: None where no member has the name, Some None where its
-- value has another form
abbrev pub slot_of : PlanData → List ℕ → Data → Option SourceSeen
slot_of plan name d = noted_source (bound_under plan name) plan d

abbrev pub slots_of : PlanData → Members → List (Option (Option SourceSeen))
slots_of plan ms = map (λ s. option_map (slot_of plan s.uid) (get_member s.uid ms)) plan.sources
