-- The header of a CSV text, and where the texts of fields stand by it.
use Rattle.std.proofs.Common.{◌≡◌, ◌∙◌, [], ℕ, Bool, true, false, List, Option, Result, IfOk, Ok, Err, Some, ap, if◌then◌else◌, subst, sym}
use Rattle.asked_fields.specs.declared.asked.AskedField.{AskedField}
use Rattle.csv.specs.Records.{fields_of}
use Rattle.imports.specs.Placing.{FindsTexts, IsPlaced, PlacesFields, stands_of}
use Rattle.imports.specs.Reading.{AdvancesRow, Csv, Fields, GivesFields, Lines, Rest, RecordText, RowsStandAt, next_of, taken_in, width_left}
use Rattle.imports.specs.declared.fault.RowFault.{RowFault}
use Rattle.imports.specs.declared.placing.Places.{Places}
use Rattle.imports.specs.declared.records.CsvRows.{CsvRows}

header_read : {R : Type 0} (remaining : R → Option (List ℕ)) (rest more : Rest) (header : List (List ℕ)) (new : CsvRows R) (is_there : Bool) → AdvancesRow remaining [] [] rest new (Ok is_there) → new.is_picked ≡ false
    → next_of rest ≡ Some (Fields header, more) → fields_of new.record ≡ header
header_read remaining rest more header new false h kept at = cc (h, at)
header_read remaining rest more header new true h kept at =
    let both : Some (h.text, h.more) ≡ Some (Fields header, more) = sym h.next ∙ at in
    let pair : (h.text, h.more) ≡ (Fields header, more) = cc both in
    let same : h.text ≡ Fields header = ap (λ (p : RecordText × Rest). p.0) pair in
    let gives = subst (λ text. GivesFields [] [] (width_left rest) text (fields_of (taken_in new)) (Ok tt)) same h.gives in
    let row : taken_in new ≡ new.record = ap (λ is_picked. if is_picked then new.picked else new.record) kept in
    sym (ap fields_of row) ∙ gives.0

-- where they stand by the header that was read
pub places_begun : {R : Type 0} (remaining : R → Option (List ℕ)) (rest : Rest) (fields : List AskedField) (old new : CsvRows R) (is_there : Bool) (answer : Result Places RowFault) → RowsStandAt remaining old rest → AdvancesRow remaining [] [] rest new (Ok is_there)
    → new.is_picked ≡ false → PlacesFields (stands_of (fields_of new.record) fields) answer → IfOk answer (λ places. IsPlaced rest fields places.places.items places.picks.items)
places_begun remaining (Lines lines) fields old new is_there answer stands h kept placed = absurd stands
places_begun remaining (Csv separator width state text) fields old new is_there (Err fault) stands h kept placed = tt
places_begun remaining (Csv separator width state text) fields old new is_there (Ok places) stands h kept placed =
    λ header more at. subst (λ header. FindsTexts (stands_of header fields) places.places.items places.picks.items) (header_read remaining (Csv separator width state text) more header new is_there h kept at) placed
