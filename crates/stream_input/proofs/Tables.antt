-- From rows of cells to tables and entries.
use Rattle.std.proofs.Common.{◌≡◌, ℕ, ℤ, ◌≤◌, ◌==◌, ◌&&◌, nat_le, Bool, true, false, cond, map, length, List, [], ◌∷◌, Option, Some, refl, ◌∙◌}
use Rattle.std.proofs.lemmas.Bool.{and_parts, eqb-true, leb-true}
use Rattle.std.proofs.lemmas.List.{length-map}
use Rattle.std.proofs.lemmas.List.Elements.{All-weaker, All-map}
use Rattle.std.proofs.lemmas.List.Sums.{AllPass-from_list_all}
use Rattle.std.specs.Prelude.{bytes_eq}
use Rattle.std.specs.List.{All, list_all, find}
use Rattle.std.specs.Option.{option_map_or}
use Rattle.plain_data.specs.Record.{Record}
use Rattle.columns.specs.declared.TheConstants.{MOST_ROWS}
use Rattle.input_texts.specs.declared.text.EntryText.{EntryText}
use Rattle.input_texts.specs.InputText.{InputText}
use Rattle.input_texts.specs.Said.{number_of, record_of, partitions_under}
use Rattle.input_texts.specs.Requirements.{every_entry}

-- what the test of the width says of rows
pub wide_all : (columns : ℕ) (rows : List (List (Option ℤ))) → list_all (λ row. length row == columns) rows ≡ true → All (λ row. length row ≡ columns) rows
wide_all columns rows passed =
    All-weaker (λ (row : List (Option ℤ)). (length row == columns) ≡ true) (λ row. length row ≡ columns) (λ row e. eqb-true (length row) columns e) rows
    (AllPass-from_list_all (λ row. length row == columns) rows passed)

-- an entry of 1 to 4,096 rows
pub sized_few : (rows : List (List (Option ℤ))) → (nat_le 1 (length rows) && nat_le (length rows) MOST_ROWS) ≡ true → length rows ≤ MOST_ROWS
sized_few rows sized = leb-true (length rows) MOST_ROWS (and_parts (nat_le 1 (length rows)) (nat_le (length rows) MOST_ROWS) sized).1

chosen_passes : (test : EntryText → Bool) (b : Bool) (m : List ℕ × List (List EntryText)) (rest : Option (List ℕ × List (List EntryText)))
    → list_all (list_all test) m.1 ≡ true → list_all (list_all test) (option_map_or (λ o. o.1) rest []) ≡ true
    → list_all (list_all test) (option_map_or (λ o. o.1) (cond b (Some m) rest) []) ≡ true
chosen_passes test true m rest first others = first
chosen_passes test false m rest first others = others

-- what every entry of the document passes, the entries under a name pass
pub passes_under : (test : EntryText → Bool) (uid : List ℕ) (text : InputText) → every_entry test text ≡ true → list_all (list_all test) (partitions_under uid text) ≡ true
passes_under test uid [] passed = refl
passes_under test uid (m ∷ ms) passed =
    let parts = and_parts (list_all (list_all test) m.1) (every_entry test ms) passed in
    chosen_passes test (bytes_eq m.0 uid) m (find (λ o. bytes_eq o.0 uid) ms) parts.0 (passes_under test uid ms parts.1)

-- the same of each of the partitions under a name
pub each_passes : (test : EntryText → Bool) (uid : List ℕ) (text : InputText) → every_entry test text ≡ true → All (λ p. All (λ e. test e ≡ true) p) (partitions_under uid text)
each_passes test uid text passed =
    All-weaker (λ (p : List EntryText). list_all test p ≡ true) (λ p. All (λ e. test e ≡ true) p) (λ p e. AllPass-from_list_all test p e) (partitions_under uid text)
    (AllPass-from_list_all (list_all test) (partitions_under uid text) (passes_under test uid text passed))

-- a record of each row of cells
pub even_records : (rows : List (List (Option ℤ))) (width : ℕ) → All (λ row. length row ≡ width) rows → All (λ r. length r ≡ width) (map record_of rows)
even_records rows width even =
    All-map (λ (r : Record). length r ≡ width) record_of rows
    (All-weaker (λ (row : List (Option ℤ)). length row ≡ width) (λ row. length (record_of row) ≡ width) (λ row e. length-map row number_of ∙ e) rows even)
