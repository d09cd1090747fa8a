-- What is asked of an entry makes it one of the input's, with its mark in range.
use Rattle.std.proofs.Common.{◌≡◌, ℕ, ℤ, true, List, Option, Some, None, refl, subst, arith}
use Rattle.std.proofs.lemmas.Int.{ints}
use Rattle.std.proofs.lemmas.List.Elements.{All-map}
use Rattle.std.proofs.lemmas.List.Sums.{AllPass-from_list_all}
use Rattle.std.specs.List.{All}
use Rattle.lane_kernels.specs.Compare.{greatest_of}
use Rattle.plain_data.specs.Record.{Record, at, column_of}
use Rattle.plan_model.specs.PlanData.{IsBound}
use Rattle.plan_model.specs.Windows.{IsTime, is_time}
use Rattle.stream_model.specs.InputData.{IsEntry}
use Rattle.stream_model.specs.Marks.{IsEntryOf, IsMark, made, mark_of}
use Rattle.stream_model.specs.declared.entry.Entry.{Entry}
use Rattle.stream_model.specs.declared.entry.Entry.TheVariants.{Rows, Watermark}
use Rattle.stream_model.proofs.Facts.{lowest_mark, time_mark}
use Rattle.made_watermarks.proofs.Facts.{IsTimely, timely_rows}
use Rattle.input_texts.specs.declared.text.EntryText.{EntryText}
use Rattle.input_texts.specs.declared.text.EntryText.TheVariants.{Rows as rows, Watermark as watermark}
use Rattle.input_texts.specs.Said.{record_of, entry_of, marked_of}
use Rattle.input_texts.specs.Requirements.{is_timely}

pub entry_sound : (columns time : ℕ) (e : EntryText) → is_timely time e ≡ true → IsEntryOf columns time (entry_of columns e)
entry_sound columns time (rows found) timely =
    (refl, All-map (λ r. IsTime (at time r)) record_of found (λ k d h. AllPass-from_list_all (λ row. is_time (at time (record_of row))) found timely k d h))
entry_sound columns time (watermark t) timely = timely

behind_mark : (b t : ℤ) → IsBound (Some b) → IsTime t → IsMark (made b (Some t))
behind_mark b t bounded h = (grind (arith, ints, bounded, h), grind (arith, ints, bounded, h))

made_mark : (b : ℤ) (time : ℕ) (rs : List Record) (o : Option ℤ) → IsBound (Some b) → All (λ r. IsTime (at time r)) rs → greatest_of (column_of time rs) ≡ o → IsMark (made b o)
made_mark b time rs None bounded all is = lowest_mark
made_mark b time rs (Some t) bounded all is = behind_mark b t bounded (subst IsTimely is (timely_rows time rs all))

mark_sound : (bound : Option ℤ) (columns time : ℕ) (e : Entry) → IsBound bound → IsEntryOf columns time e → IsMark (mark_of bound time e)
mark_sound None columns time (Rows batch) bounded sound = lowest_mark
mark_sound None columns time (Watermark t) bounded sound = time_mark t sound
mark_sound (Some b) columns time (Rows batch) bounded sound = made_mark b time batch.rows (greatest_of (column_of time batch.rows)) bounded sound.1 refl
mark_sound (Some b) columns time (Watermark t) bounded sound = lowest_mark

pub marked_sound : (bound : Option ℤ) (columns time : ℕ) (e : EntryText) → IsBound bound → is_timely time e ≡ true → IsEntry columns time (marked_of bound columns time e)
marked_sound bound columns time e bounded timely =
    let sound = entry_sound columns time e timely in
    (sound, mark_sound bound columns time (entry_of columns e) bounded sound)
