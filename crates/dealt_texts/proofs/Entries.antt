-- The text of a part, entry by entry of the whole.
use Rattle.std.proofs.Common.{◌≡◌, ℕ, ◌==◌, Bool, true, false, List, [], ◌∷◌, ◌++◌, map, Some, None, refl, sym, ap, ◌∙◌, append_assoc, append-nil, if◌then◌else◌}
use Rattle.std.specs.Prelude.{ℤ, codes}
use Rattle.std.specs.List.{filter, fold, flat_map, join_with_byte}
use Rattle.std.proofs.lemmas.List.Elements.{filter-append}
use Rattle.std.proofs.lemmas.List.Sums.{fold-append}
use Rattle.plain_data.specs.Record.{Record, at}
use Rattle.key_groups.specs.Groups.{key_group}
use Rattle.key_groups.specs.Ranges.{group_owner}
use Rattle.stream_model.specs.declared.entry.Entry.{Entry}
use Rattle.stream_model.specs.declared.entry.Entry.TheVariants.{Rows, Watermark}
use Rattle.import_entries.specs.declared.place.Place.{Place}
use Rattle.import_entries.specs.declared.place.Place.TheVariants.{Joins, Begins}
use Rattle.import_entries.specs.declared.rule.EntryRule.{EntryRule}
use Rattle.import_entries.specs.Entries.{place_said}
use Rattle.input_parts.specs.Parts.{entry_of_rows, entries_kept}
use Rattle.entry_texts.specs.Partitions.{Row, times_of}
use Rattle.dealt_texts.specs.Dealing.{owner_of, owner_of_key}
use Rattle.dealt_texts.specs.Entries.{record_of, with_record, entries_of, record_text, entry_text, entries_text, list_text, PartsHaveTheirEntries}
use Rattle.dealt_texts.specs.Parts.{Growing, growing, nothing, closed, separated, with_mark, opened, ended}
use Rattle.dealt_texts.specs.Steps.{placed, dealt}
use Rattle.dealt_texts.specs.Texts.{part_of_rows}
use Rattle.dealt_texts.specs.declared.dealing.Dealing.{Dealing}

-- with a record behind it
abbrev with_one : Growing → Record → Growing
with_one p r = growing ((opened p).text ++ record_text r) (opened p).is_first true

-- the text that entries of the whole come to
abbrev grown : (Record → Bool) → List Entry → Growing
grown keep [] = nothing
grown keep (Watermark mark ∷ before) = with_mark mark (closed (grown keep before))
grown keep (Rows batch ∷ before) = fold with_one (closed (grown keep before)) (filter keep batch.rows)

same_text : (text more : List ℕ) (is_first is_open : Bool) → text ≡ more → growing text is_first is_open ≡ growing more is_first is_open
same_text text more is_first is_open e = ap (λ t. growing t is_first is_open) e

closed_mark : (mark : ℤ) (p : Growing) → closed (with_mark mark (closed p)) ≡ with_mark mark (closed p)
closed_mark mark p = same_text _ _ false false (append-nil (with_mark mark (closed p)).text)

-- a record that is one of the part's or not
one_kept : (keep : Record → Bool) (row : Row) (is : Bool) (p : Growing) → keep (record_of row) ≡ is → fold with_one p (filter keep (record_of row ∷ [])) ≡ dealt is row p
one_kept keep row true p e = ap (λ b. fold with_one p (if b then record_of row ∷ [] else [])) e
one_kept keep row false p e = ap (λ b. fold with_one p (if b then record_of row ∷ [] else [])) e

-- one more row of the whole
put : (keep : Record → Bool) (row : Row) (place : Place) (entries : List Entry) → dealt (keep (record_of row)) row (placed place (grown keep entries)) ≡ grown keep (with_record place (record_of row) entries)
put keep row Joins [] = sym (one_kept keep row _ nothing refl)
put keep row Joins (Watermark mark ∷ before) =
    ap (dealt (keep (record_of row)) row) (sym (closed_mark mark (grown keep before))) ∙ sym (one_kept keep row _ (closed (with_mark mark (closed (grown keep before)))) refl)
put keep row Joins (Rows batch ∷ before) =
    sym (one_kept keep row _ (fold with_one (closed (grown keep before)) (filter keep batch.rows)) refl)
    ∙ sym (fold-append with_one (closed (grown keep before)) (filter keep batch.rows) (filter keep (record_of row ∷ [])))
    ∙ ap (fold with_one (closed (grown keep before))) (sym (filter-append keep batch.rows (record_of row ∷ [])))
put keep row (Begins None) entries = sym (one_kept keep row _ (closed (grown keep entries)) refl)
put keep row (Begins (Some mark)) entries =
    ap (dealt (keep (record_of row)) row) (sym (closed_mark mark (grown keep entries))) ∙ sym (one_kept keep row _ (closed (with_mark mark (closed (grown keep entries)))) refl)

of_rows : (rule : EntryRule) (dealing : Dealing) (i : ℕ) (rows : List Row) → part_of_rows rule dealing i rows ≡ grown (λ r. owner_of_key dealing (at dealing.key r) == i) (entries_of rule rows)
of_rows rule dealing i [] = refl
of_rows rule dealing i (row ∷ before) =
    let place = place_said rule.most_rows rule.bound (times_of before) in
    ap (λ p. dealt (owner_of dealing row.first row.others == i) row (placed place p)) (of_rows rule dealing i before)
    ∙ put (λ r. owner_of_key dealing (at dealing.key r) == i) row place (entries_of rule before)

-- ---- the text of entries that are kept

-- entries behind the bracket of their list, or nothing
abbrev begun : List Entry → Growing
begun [] = nothing
begun (entry ∷ before) = growing (codes "[" ++ entries_text (entry ∷ before)) false false

-- an entry behind others
behind_others : (entry : Entry) (before : List Entry) → (separated (begun before)).text ++ entry_text entry ≡ codes "[" ++ entries_text (entry ∷ before)
behind_others entry [] = refl
behind_others entry (next ∷ before) =
    append_assoc (codes "[" ++ entries_text (next ∷ before)) (codes ",") (entry_text entry) ∙ append_assoc (codes "[") (entries_text (next ∷ before)) (codes "," ++ entry_text entry)

-- records with commas before them
abbrev commas : List Record → List ℕ
commas rs = flat_map (λ r. codes "," ++ record_text r) rs

joined : (r : Record) (rs : List Record) → join_with_byte 44 (map record_text (r ∷ rs)) ≡ record_text r ++ commas rs
joined r [] = sym (append-nil (record_text r))
joined r (next ∷ rs) = ap (λ t. record_text r ++ (44 ∷ t)) (joined next rs)

later : (text : List ℕ) (is_first : Bool) (rs : List Record) → fold with_one (growing text is_first true) rs ≡ growing (text ++ commas rs) is_first true
later text is_first [] = same_text _ _ is_first true (sym (append-nil text))
later text is_first (r ∷ rs) =
    later ((text ++ codes ",") ++ record_text r) is_first rs
    ∙ same_text _ _ is_first true (append_assoc (text ++ codes ",") (record_text r) (commas rs) ∙ append_assoc text (codes ",") (record_text r ++ commas rs))

-- an entry of rows behind others, once it is closed
rows_behind : (width : ℕ) (r : Record) (rs : List Record) (before : List Entry) → closed (fold with_one (begun before) (r ∷ rs)) ≡ begun (Rows (record { width = width; rows = r ∷ rs }) ∷ before)
rows_behind width r rs before =
    ap closed (ap (λ p. fold with_one p rs) first ∙ later (text ++ record_text r) false rs)
    ∙ same_text _ _ false false (joining ∙ behind_others (Rows (record { width = width; rows = r ∷ rs })) before)
  where
    text : List ℕ
    text = (separated (begun before)).text ++ codes "{\"rows\":["

    first : with_one (begun before) r ≡ growing (text ++ record_text r) false true
    first = first_of before
      where
        first_of : (before : List Entry) → with_one (begun before) r ≡ growing (((separated (begun before)).text ++ codes "{\"rows\":[") ++ record_text r) false true
        first_of [] = refl
        first_of (entry ∷ before) = refl

    joining : ((text ++ record_text r) ++ commas rs) ++ codes "]}" ≡ (separated (begun before)).text ++ (codes "{\"rows\":[" ++ (join_with_byte 44 (map record_text (r ∷ rs)) ++ codes "]}"))
    joining =
        ap (λ t. t ++ codes "]}") (append_assoc text (record_text r) (commas rs) ∙ ap (λ t. text ++ t) (sym (joined r rs)))
        ∙ append_assoc text (join_with_byte 44 (map record_text (r ∷ rs))) (codes "]}")
        ∙ append_assoc (separated (begun before)).text (codes "{\"rows\":[") (join_with_byte 44 (map record_text (r ∷ rs)) ++ codes "]}")

mark_behind : (mark : ℤ) (before : List Entry) → closed (with_mark mark (begun before)) ≡ begun (Watermark mark ∷ before)
mark_behind mark [] = same_text _ _ false false (append-nil _ ∙ behind_others (Watermark mark) [])
mark_behind mark (entry ∷ before) = same_text _ _ false false (append-nil _ ∙ behind_others (Watermark mark) (entry ∷ before))

kept_rows : (width : ℕ) (rs : List Record) (before : List Entry) → closed (fold with_one (begun before) rs) ≡ begun (entry_of_rows width rs ++ before)
kept_rows width [] [] = refl
kept_rows width [] (entry ∷ before) = same_text _ _ false false (append-nil _)
kept_rows width (r ∷ rs) before = rows_behind width r rs before

of_entries : (keep : Record → Bool) (entries : List Entry) → closed (grown keep entries) ≡ begun (entries_kept keep entries)
of_entries keep [] = refl
of_entries keep (Watermark mark ∷ before) = ap (λ p. closed (with_mark mark p)) (of_entries keep before) ∙ mark_behind mark (entries_kept keep before)
of_entries keep (Rows batch ∷ before) =
    ap (λ p. closed (fold with_one p (filter keep batch.rows))) (of_entries keep before) ∙ kept_rows batch.width (filter keep batch.rows) (entries_kept keep before)

-- the end of a list
abbrev ended_by : Growing → List ℕ
ended_by p = p.text ++ (if p.is_first then codes "[]" else codes "]")

end_of : (entries : List Entry) → ended_by (begun entries) ≡ list_text entries
end_of [] = refl
end_of (entry ∷ before) = append_assoc (codes "[") (entries_text (entry ∷ before)) (codes "]")

pub parts_have_their_entries : PartsHaveTheirEntries
parts_have_their_entries plan rule dealing rows i same_max same_key within =
    let keep : Record → Bool = λ r. owner_of_key dealing (at dealing.key r) == i in
    ap ended (of_rows rule dealing i rows)
    ∙ ap ended_by (of_entries keep (entries_of rule rows))
    ∙ end_of (entries_kept keep (entries_of rule rows))
    ∙ ap (λ m. list_text (entries_kept (λ r. group_owner m dealing.parts (key_group m (at dealing.key r)) == i) (entries_of rule rows))) same_max
    ∙ ap (λ k. list_text (entries_kept (λ r. group_owner plan.max dealing.parts (key_group plan.max (at k r)) == i) (entries_of rule rows))) same_key
