-- What an object with one member is as an entry.
use Rattle.std.proofs.Common.{◌≡◌, ◌==◌, ℕ, ℤ, true, List, length, map, Option, Some, option_and_then, is_some, bytes_eq, codes, refl, ap, ◌∙◌}
use Rattle.std.proofs.lemmas.Bool.{and_parts}
use Rattle.std.proofs.lemmas.Slice.Eq.{bytes_eq-Decides}
use Rattle.std.specs.List.{list_all}
use Rattle.serde_json.specs.Data.{Data, object, no_members, member}
use Rattle.json_parts.specs.Parts.{whole, each_at, list_text, cell_text, has_only}
use Rattle.json_tokens.specs.Rows.{row_text}
use Rattle.plain_data.specs.Record.{Record}
use Rattle.stream_model.specs.declared.entry.Entry.{Entry}
use Rattle.stream_model.specs.declared.entry.Entry.TheVariants.{Watermark}
use Rattle.input_texts.specs.declared.text.EntryText.TheVariants.{Rows as rows}
use Rattle.input_texts.specs.InputText.{rows_text, entry_text}
use Rattle.input_texts.specs.Said.{record_of}
use Rattle.plan_model.specs.Windows.{is_time}
use Rattle.input_texts.specs.Requirements.{is_wide, is_whole}
use Rattle.stream_input.specs.Fit.{if_fit, fit_entry}
use Rattle.input_texts.proofs.Facts.{all_weaker, watermark_member}
use Rattle.stream_input.proofs.Refines.{is_row, list_refines, row_refines}

rows_member : (d : Data) (found : List (List (Option ℤ))) → list_text (list_text cell_text) d ≡ Some found → entry_text (object (member (codes "rows") d no_members)) ≡ Some (rows found)
unfolding entry_text has_only rows_text each_at list_text
rows_member d found h = ap (option_and_then (λ (f : List (List (Option ℤ))). Some (rows f))) h

pub rows_fit : (columns time : ℕ) (name : List ℕ) (rs : List Record) (e : Entry) → bytes_eq name (codes "rows") ≡ true
    → ((found : List (List (Option ℤ))) → is_wide columns (rows found) ≡ true → is_whole (rows found) ≡ true → rs ≡ map record_of found → if_fit columns time (rows found) ≡ Some e)
    → (d : Data) → list_text (row_text columns) d ≡ Some rs → fit_entry columns time (object (member name d no_members)) ≡ Some e
unfolding fit_entry
rows_fit columns time name rs e same fits d h =
    let found = list_refines (row_text columns) (list_text cell_text) (is_row columns) record_of (row_refines columns) d rs h in
    let wide = all_weaker (is_row columns) (λ row. length row == columns) (λ row is. (and_parts (length row == columns) (list_all is_some row) is).0) found.0 found.3 in
    let all_whole = all_weaker (is_row columns) (list_all is_some) (λ row is. (and_parts (length row == columns) (list_all is_some row) is).1) found.0 found.3 in
    let named : name ≡ codes "rows" = (bytes_eq-Decides name (codes "rows")).0 same in
    ap (λ k. option_and_then (if_fit columns time) (entry_text (object (member k d no_members)))) named ∙ ap (option_and_then (if_fit columns time)) (rows_member d found.0 found.1) ∙ fits found.0 wide all_whole found.2

pub watermark_fit : (columns time : ℕ) (name : List ℕ) (t : ℤ) → bytes_eq name (codes "watermark") ≡ true → is_time t ≡ true → (d : Data) → whole d ≡ Some t
    → fit_entry columns time (object (member name d no_members)) ≡ Some (Watermark t)
unfolding fit_entry
watermark_fit columns time name t same timely d h =
    let named : name ≡ codes "watermark" = (bytes_eq-Decides name (codes "watermark")).0 same in
    ap (λ k. option_and_then (if_fit columns time) (entry_text (object (member k d no_members)))) named ∙ ap (option_and_then (if_fit columns time)) (watermark_member d) ∙ rw (h, timely) refl
