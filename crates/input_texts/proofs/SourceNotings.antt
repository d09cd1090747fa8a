-- What is noted of the entries of a partition, and of the partitions of a source, with one more.
use Rattle.std.proofs.Common.{◌≡◌, ℕ, ◌+◌, ℤ, cond, map, List, [], ◌∷◌, ◌++◌, length, append-nil, Option, Some, None, option_map, sym, ap, ◌∙◌}
use Rattle.std.proofs.lemmas.Grind.{flat_map-append}
use Rattle.std.proofs.lemmas.List.{length-append, length-map, map-append}
use Rattle.std.proofs.lemmas.List.Concat.{flat_map-cons}
use Rattle.std.specs.Int.{int_max}
use Rattle.std.specs.List.{list_any, flat_map}
use Rattle.std.specs.Option.{option_or}
use Rattle.serde_json.specs.Data.{Data}
use Rattle.json_parts.specs.Parts.{each, list_text}
use Rattle.plain_data.specs.Record.{at}
use Rattle.stream_model.specs.declared.entry.Marked.{Marked}
use Rattle.stream_model.specs.InputData.{records_of_entry, records_in, records_in_source}
use Rattle.stream_model.specs.Watermarks.{watermark_of_entry}
use Rattle.stream_model.specs.Late.{is_late_time, first_late_entry, first_at}
use Rattle.input_texts.specs.declared.text.EntryText.{EntryText}
use Rattle.input_texts.specs.InputText.{entry_text}
use Rattle.input_texts.specs.Said.{marked_of}
use Rattle.input_texts.specs.Seen.{EntrySeen, PartitionSeen, SourceSeen, all_met, joined, met_by_entry, entry_seen, partition_seen, source_seen, watermark_behind, with_entry, with_partition}
use Rattle.input_texts.proofs.Pairs.{same_some}
use Rattle.input_texts.proofs.Notings.{all_more, each_last, each_length, noted_more}
use Rattle.input_texts.proofs.LateEntries.{watermark_over, watermark_more, late_more, first_more}

-- what lists of records add up to, with one more
counted_more : {A B : Type 0} (f : A → List B) (xs : List A) (x : A) → length (flat_map f (xs ++ x ∷ [])) ≡ length (flat_map f xs) + length (f x)
counted_more f xs x =
    ap (length) (flat_map-append f xs (x ∷ [])) ∙ length-append (flat_map f xs) (flat_map f (x ∷ [])) ∙ ap (λ n. length (flat_map f xs) + n) (ap (length) (flat_map-cons f x []) ∙ last (f x))
  where
    last : {C : Type 0} (zs : List C) → length (zs ++ []) ≡ length zs
    last zs = simp (append-nil)

module _ (bound : Option ℤ) (columns time : ℕ) where
  abbrev entries : List EntryText → List Marked
  entries es = map (marked_of bound columns time) es

  entries_more : (es : List EntryText) (e : EntryText) → entries (es ++ e ∷ []) ≡ entries es ++ marked_of bound columns time e ∷ []
  entries_more es e = map-append (marked_of bound columns time) es (e ∷ [])

  -- ---- a partition

  partition_more : (es : List EntryText) (e : EntryText) (w : ℤ) (place : ℕ) → w ≡ watermark_over (entries es) → place ≡ length es → partition_seen bound columns time (es ++ e ∷ []) ≡ with_entry place (partition_seen bound columns time es) (entry_seen bound columns time w e)
  partition_more es e w place marked placed =
      let long : length (entries es) ≡ place = length-map es (marked_of bound columns time) ∙ sym placed in
      let late : first_late_entry time (entries (es ++ e ∷ [])) ≡ option_or (first_late_entry time (entries es)) (cond (entry_seen bound columns time w e).is_late (Some place) None) =
      ap (first_late_entry time) (entries_more es e) ∙ late_more time (entries es) (marked_of bound columns time e)
      ∙ (λ o. option_or (first_late_entry time (entries es)) (cond (list_any (λ r. is_late_time (sym marked o) (at time r)) (records_of_entry (marked_of bound columns time e))) (Some (long o)) None)) in
      let records = ap (λ xs. length (records_in xs)) (entries_more es e) ∙ counted_more records_of_entry (entries es) (marked_of bound columns time e) in
      λ o. record {
        met = record {
          is_wide = all_more (λ x. (met_by_entry bound columns time x).is_wide) es e o;
          is_whole = all_more (λ x. (met_by_entry bound columns time x).is_whole) es e o;
          is_sized = all_more (λ x. (met_by_entry bound columns time x).is_sized) es e o;
          is_timely = all_more (λ x. (met_by_entry bound columns time x).is_timely) es e o;
          is_kind = all_more (λ x. (met_by_entry bound columns time x).is_kind) es e o;
        };
        late = late o;
        records = records o;
      }

  -- the watermark behind entries that have the form
  abbrev pub IsBehind : ℤ → List Data → Type 0
  IsBehind w ds = (es : List EntryText) → each entry_text ds ≡ Some es → w ≡ watermark_over (entries es)

  pub partition_noted : (ds : List Data) (d : Data) (before : Option PartitionSeen) (next : Option EntrySeen) (w : ℤ) (place : ℕ) → IsBehind w ds → place ≡ length ds
      → before ≡ option_map (partition_seen bound columns time) (each entry_text ds) → next ≡ option_map (entry_seen bound columns time w) (entry_text d)
      → joined (with_entry place) before next ≡ option_map (partition_seen bound columns time) (each entry_text (ds ++ d ∷ []))
  partition_noted ds d before next w place marked placed h k =
      noted_more entry_text (partition_seen bound columns time) (entry_seen bound columns time w) (with_entry place) ds d before next
      (λ es e said. partition_more es e w place (marked es said) (placed ∙ sym (each_length entry_text ds es said))) h k

  pub behind_more : (ds : List Data) (d : Data) (next : Option EntrySeen) (w : ℤ) → IsBehind w ds → next ≡ option_map (entry_seen bound columns time w) (entry_text d) → IsBehind (watermark_behind next w) (ds ++ d ∷ [])
  behind_more ds d next w marked h = λ es said.
      let parts = each_last entry_text ds d es said in
      let is : next ≡ Some (entry_seen bound columns time w parts.1) = h ∙ ap (option_map (entry_seen bound columns time w)) parts.3 in
      ap (λ n. watermark_behind n w) is ∙ ap (λ v. int_max v (watermark_of_entry (marked_of bound columns time parts.1))) (marked parts.0 parts.2)
      ∙ sym (ap (λ xs. watermark_over xs) (ap (entries) parts.4 ∙ entries_more parts.0 parts.1) ∙ watermark_more (entries parts.0) (marked_of bound columns time parts.1))

  pub behind_none : (w : ℤ) → w ≡ watermark_over [] → IsBehind w []
  behind_none w low = λ es said. low ∙ ap (λ xs. watermark_over (entries xs)) (same_some [] es said)

  -- ---- a source

  source_more : (ps : List (List EntryText)) (p : List EntryText) → source_seen bound columns time (ps ++ p ∷ []) ≡ with_partition (source_seen bound columns time ps) (partition_seen bound columns time p)
  source_more ps p =
      let more : map (map (marked_of bound columns time)) (ps ++ p ∷ []) ≡ map (map (marked_of bound columns time)) ps ++ entries p ∷ [] = map-append (map (marked_of bound columns time)) ps (p ∷ []) in
      let long : length (map (map (marked_of bound columns time)) ps) ≡ length ps = length-map ps (map (marked_of bound columns time)) in
      let late : first_at (first_late_entry time) (map (map (marked_of bound columns time)) (ps ++ p ∷ [])) ≡ option_or (first_at (first_late_entry time) (map (map (marked_of bound columns time)) ps)) (option_map (λ e. (length ps, e)) (first_late_entry time (entries p))) =
      ap (first_at (first_late_entry time)) more ∙ first_more (first_late_entry time) (map (map (marked_of bound columns time)) ps) (entries p)
      ∙ ap (λ n. option_or (first_at (first_late_entry time) (map (map (marked_of bound columns time)) ps)) (option_map (λ e. (n, e)) (first_late_entry time (entries p)))) long in
      let records = ap (λ xs. length (records_in_source xs)) more ∙ counted_more records_in (map (map (marked_of bound columns time)) ps) (entries p) in
      λ o. record {
        met = record {
          is_wide = all_more (λ x. (all_met (met_by_entry bound columns time) x).is_wide) ps p o;
          is_whole = all_more (λ x. (all_met (met_by_entry bound columns time) x).is_whole) ps p o;
          is_sized = all_more (λ x. (all_met (met_by_entry bound columns time) x).is_sized) ps p o;
          is_timely = all_more (λ x. (all_met (met_by_entry bound columns time) x).is_timely) ps p o;
          is_kind = all_more (λ x. (all_met (met_by_entry bound columns time) x).is_kind) ps p o;
        };
        partitions = length-append ps (p ∷ []) o;
        late = late o;
        records = records o;
      }

  pub source_noted : (ds : List Data) (d : Data) (before : Option SourceSeen) (next : Option PartitionSeen)
      → before ≡ option_map (source_seen bound columns time) (each (list_text entry_text) ds) → next ≡ option_map (partition_seen bound columns time) (list_text entry_text d)
      → joined with_partition before next ≡ option_map (source_seen bound columns time) (each (list_text entry_text) (ds ++ d ∷ []))
  source_noted ds d before next h k = noted_more (list_text entry_text) (source_seen bound columns time) (partition_seen bound columns time) with_partition ds d before next (λ ps p said. source_more ps p) h k
