-- Each record of a file.
use Rattle.std.proofs.Common.{◌≡◌, ◌⊎◌, inl, inr, false, ℕ, List, Option, Result, Ok, Err, IfOk, ap, subst, sym}
use Rattle.asked_fields.specs.declared.asked.AskedField.{AskedField}
use Rattle.csv.specs.Records.{fields_of}
use Rattle.entry_texts.specs.Partitions.{Row}
use Rattle.import_copies.specs.declared.row_texts.RowTexts.{RowTexts}
use Rattle.import_entries.specs.declared.rule.EntryRule.{EntryRule}
use Rattle.import_fates.specs.declared.counts.FateCounts.{FateCounts}
use Rattle.import_fates.specs.Fates.{faulty}
use Rattle.imports.specs.Faults.{is_final}
use Rattle.imports.specs.Placing.{IsPlaced}
use Rattle.imports.specs.Reading.{Rest, StandsAt, IsBegun, IsNext, record_in}
use Rattle.imports.specs.declared.fault.RowFault.{RowFault}
use Rattle.imports.specs.declared.kinds.Records.{Records}
use Rattle.imports.specs.declared.picking.Pick.{Pick}
use Rattle.import_copies.specs.Asking.{asked_of, Asks}
use Rattle.import_copies.specs.Copies.{CopiesFile, CopiesWhole}
use Rattle.import_copies.specs.Files.{Asked, TakesOne}
use Rattle.import_copies.specs.Rows.{rule_in, RefusesRow}
use Rattle.known_records.specs.Known.{columns_in}
use Rattle.import_copies.specs.declared.files.ImportRule.{ImportRule}
use Rattle.known_records.specs.declared.known.KnownRecords.{KnownRecords}
use Rattle.import_copies.specs.declared.taking.Source.{Source}

-- the same is asked where the same columns tell records apart
pub same_asked : (source : Source) (k1 k2 : Option KnownRecords) → columns_in k1 ≡ columns_in k2 → asked_of source k1 ≡ asked_of source k2
same_asked source k1 k2 same = ap (λ (columns : Option (List ℕ)). record (asked_of source k1) { columns = columns }) same

-- a record that gives no row is taken for faulty
pub faulty_taken : {R : Type 0} (remaining : R → Option (List ℕ)) (source : Source) (known : Option KnownRecords) (rest : Rest) (new : Records R) (fault : RowFault) → is_final fault ≡ false
    → IsNext remaining source.fields.now source.picks.now rest new (Err fault)
    ⊎ (IsNext remaining source.fields.now source.picks.now rest new (Ok tt) × RefusesRow (rule_in source) source.time (fields_of (record_in new)) fault)
    → (more : Rest) × TakesOne (asked_of source known) rest faulty more × StandsAt remaining new more
faulty_taken remaining source known rest new fault final (inl next) =
    (next.more, (next.text, next.next, record { fields = fields_of (record_in new); fault = fault; of_record = final; why = inl next.gives }), next.stands)
faulty_taken remaining source known rest new fault final (inr both) =
    (both.0.more, (both.0.text, both.0.next, record { fields = fields_of (record_in new); fault = fault; of_record = final; why = inr (both.0.gives, both.1) }), both.0.stands)

-- a file is copied whole where all behind its header is
pub whole : {R : Type 0} (remaining : R → Option (List ℕ)) (asks : ImportRule) (asked : Asked) (columns : Option (List ℕ)) (old mid : Records R) (rule : EntryRule) (keys : List (List ℕ)) (rows : List Row) (start now : List (Option (List ℕ))) (known : Option KnownRecords) (partition : RowTexts) (answer : Result FateCounts RowFault)
    → Asks asks old columns asked
    → ((rest : Rest) → StandsAt remaining old rest → IsPlaced rest asked.fields asked.rule.places.now asked.picks)
    → ((rest more : Rest) → StandsAt remaining old rest → IsBegun rest more → StandsAt remaining mid more)
    → IfOk answer (λ counts. CopiesFile remaining asked mid rule keys rows start now known partition counts)
    → IfOk answer (λ counts. CopiesWhole remaining asks columns old rule keys rows start now known partition counts)
whole remaining asks asked columns old mid rule keys rows start now known partition (Ok counts) same placed begins copies =
    (copies.0, copies.1, asked, same, placed, λ rest more stands begun. copies.2 more (begins rest more stands begun))
whole remaining asks asked columns old mid rule keys rows start now known partition (Err fault) same placed begins copies = tt

-- where the texts of columns stand, by the same fields, places and picks
pub same_placed : (rest : Rest) (fields more_fields : List AskedField) (places more_places : List ℕ) (picks more_picks : List Pick) → more_fields ≡ fields → more_places ≡ places → more_picks ≡ picks → IsPlaced rest fields places picks → IsPlaced rest more_fields more_places more_picks
same_placed rest fields more_fields places more_places picks more_picks of_fields of_places of_picks is =
    subst (λ fs. IsPlaced rest fs more_places more_picks) (sym of_fields) (subst (λ ps. IsPlaced rest fields ps more_picks) (sym of_places) (subst (λ ks. IsPlaced rest fields places ks) (sym of_picks) is))
