-- What the reading token by token answers: entries that meet what the format asks of each, and the sources that they
-- make up.
use Rattle.std.specs.Prelude.{◌≡◌, ℕ, ◌+◌, ◌*◌, ℤ, pos, Bool, true, false, ◌&&◌, List, map, Option, Some, None, bytes_eq, slice_index_or, if◌then◌else◌}
use Rattle.std.specs.List.{list_all, list_any, find, range_with_len}
use Rattle.std.specs.Option.{option_map, option_and_then}
use Rattle.serde_json.specs.Data.{Data, Members}
use Rattle.json_parts.specs.Parts.{list_text}
use Rattle.json_parts.specs.Members.{each_member}
use Rattle.plan_model.specs.PlanData.{PlanData}
use Rattle.stream_model.specs.declared.entry.Entry.{Entry}
use Rattle.stream_model.specs.declared.entry.Entry.TheVariants.{Rows, Watermark}
use Rattle.stream_model.specs.declared.entry.Marked.{Marked}
use Rattle.input_texts.specs.declared.text.EntryText.{EntryText}
use Rattle.input_texts.specs.InputText.{entry_text, InputText}
use Rattle.input_texts.specs.Said.{entry_of, marked_of, sources_of}
use Rattle.input_texts.specs.Requirements.{is_wide, is_whole, is_sized, is_timely, is_kind, has_sources, has_partitions, has_width, has_numbers, has_rows, has_times, has_kinds}
use Rattle.input_texts.specs.Seen.{bound_under}

-- column c of `count` rows whose numbers stand one after another
abbrev pub column_in_cells : ℕ → ℕ → List ℤ → ℕ → List ℤ
column_in_cells width count cells c = map (λ row. slice_index_or cells (row * width + c) (pos 0)) (range_with_len 0 count)

-- what is asked of an entry
abbrev pub is_fit : ℕ → ℕ → EntryText → Bool
is_fit columns time e = is_wide columns e && is_whole e && is_sized e && is_timely time e

-- the entry, where it meets that
abbrev pub if_fit : ℕ → ℕ → EntryText → Option Entry
if_fit columns time e = if is_fit columns time e then Some (entry_of columns e) else None

-- the same of a value
unfoldable pub fit_entry : ℕ → ℕ → Data → Option Entry
fit_entry columns time d = option_and_then (if_fit columns time) (entry_text d)

-- whether an entry is a watermark
abbrev pub is_mark : Entry → Bool
is_mark (Rows batch) = false
is_mark (Watermark t) = true

-- what is asked of an entry in a source with this bound
abbrev pub is_own : Option ℤ → ℕ → ℕ → EntryText → Bool
is_own bound columns time e = is_fit columns time e && is_kind bound e

-- the entry with the watermark that it brings there, where it meets that
abbrev pub if_own : Option ℤ → ℕ → ℕ → EntryText → Option Marked
if_own bound columns time e = if is_own bound columns time e then Some (marked_of bound columns time e) else None

-- the same of a value
unfoldable pub own_entry : Option ℤ → ℕ → ℕ → Data → Option Marked
own_entry bound columns time d = option_and_then (if_own bound columns time) (entry_text d)

-- the partitions under a name, where the text has it
abbrev pub partitions_at : PlanData → InputText → List ℕ → Option (List (List Marked))
partitions_at plan text uid = option_map (map (map (marked_of (bound_under plan uid) plan.columns plan.window.time))) (option_map (λ m. m.1) (find (λ m. bytes_eq m.0 uid) text))

-- an object whose members name sources of the plan, and whose entries are fit there, has for each source these
-- partitions
pub record IsSlots (plan : PlanData) (ms : Members) (slots : List (Option (List (List Marked)))) : Type 0 where
  pub text : InputText
  pub says : each_member (list_text (list_text entry_text)) ms ≡ Some text
  pub planned : list_all (λ m. list_any (λ s. bytes_eq s.uid m.0) plan.sources) text ≡ true
  pub fit : list_all (λ m. list_all (list_all (is_own (bound_under plan m.0) plan.columns plan.window.time)) m.1) text ≡ true
  pub filled : slots ≡ map (λ s. partitions_at plan text s.uid) plan.sources

-- the requirements of a text up to the kinds of its entries
pub record IsFit (plan : PlanData) (text : InputText) : Type 0 where
  pub named : has_sources plan text ≡ true
  pub counted : has_partitions plan text ≡ true
  pub wide : has_width plan text ≡ true
  pub whole : has_numbers plan text ≡ true
  pub sized : has_rows plan text ≡ true
  pub timely : has_times plan text ≡ true
  pub kinds : has_kinds plan text ≡ true

-- the sources are those of a text that meets them
abbrev pub AreOf : PlanData → List (List (List Marked)) → InputText → Type 0
AreOf plan sources text = IsFit plan text × (sources ≡ sources_of plan text)

-- so it is with the text that was said
abbrev pub IsRead : PlanData → Option InputText → List (List (List Marked)) → Type 0
IsRead plan said sources = (text : InputText) × (said ≡ Some text) × AreOf plan sources text
