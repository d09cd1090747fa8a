-- Records that go where they have to, one behind the other and file by file.
use Rattle.std.proofs.Common.{◌≡◌, ℕ, List, [], ◌∷◌, ◌++◌, Option, Result, Ok, Err, IfOk, false, ap, subst, sym, ◌∙◌}
use Rattle.import_entries.specs.declared.rule.EntryRule.{EntryRule}
use Rattle.import_entries.specs.Entries.{place_fault}
use Rattle.entry_texts.specs.Partitions.{Row, times_of}
use Rattle.import_copies.specs.declared.row_texts.RowTexts.{RowTexts}
use Rattle.import_fates.specs.Counts.{counts_of}
use Rattle.import_fates.specs.Fates.{Taken, is_known, fate_by_place, fate_said, fates, keys_seen, keys_with, keys_after, rows_put, rows_with, rows_after}
use Rattle.import_fates.specs.declared.counts.FateCounts.{FateCounts}
use Rattle.import_fates.specs.declared.fate.Fate.{Fate}
use Rattle.import_fates.proofs.Behind.{keys_behind, rows_behind}
use Rattle.import_copies.specs.Copies.{Takes, Sorts, CopiesAll, CopiesRows}
use Rattle.import_copies.specs.Streams.{WritesRows, rule_of}
use Rattle.known_records.specs.Known.{keys_in, key_in}
use Rattle.import_copies.specs.Outcomes.{fate_of}
use Rattle.import_copies.specs.Rows.{said_of, good_of}
use Rattle.import_copies.specs.declared.row.GoodRow.{GoodRow}
use Rattle.imports.specs.declared.fault.RowFault.{RowFault}
use Rattle.known_records.specs.declared.known.KnownRecords.{KnownRecords}
use Rattle.import_copies.specs.declared.outcome.Outcome.{Outcome}

-- one more record
pub one_more : (rule : EntryRule) (keys : List (List ℕ)) (before : List Row) (start now : List (Option (List ℕ))) (k1 k2 : Option KnownRecords) (p1 p2 : RowTexts) (c1 c2 : FateCounts) (outcome : Outcome) (records : List Taken) (taken : Taken)
    → Sorts rule keys before start now k1 p1 c1 records
    → Takes (keys_in k1) (rows_after rule keys before records) start now k2 p2 outcome taken
    → rule_of p2 ≡ rule_of p1
    → c2 ≡ counts_of (fate_of outcome ∷ fates rule keys before records)
    → Sorts rule keys before start now k2 p2 c2 (taken ∷ records)
one_more rule keys before start now k1 k2 p1 p2 c1 c2 outcome records taken s takes e count =
    let rows = rows_after rule keys before records in
    let said : fate_of outcome ≡ fate_said rule (keys_after keys records) rows taken =
    takes.0 ∙ ap (λ (r : EntryRule). fate_said r (keys_in k1) rows taken) (e ∙ s.ruled) ∙ ap (λ (ks : List (List ℕ)). fate_said rule ks rows taken) s.seen in
    record {
      ruled = e ∙ s.ruled;
      seen = takes.1 ∙ ap (λ (ks : List (List ℕ)). keys_with ks taken) s.seen;
      counted = count ∙ ap (λ (f : Fate). counts_of (f ∷ fates rule keys before records)) said;
      written = subst (λ (f : Fate). WritesRows (rows_with f taken rows) start now p2) said takes.2;
    }

-- and the text is written
pub written_on : (rule : EntryRule) (keys : List (List ℕ)) (before : List Row) (start mid now : List (Option (List ℕ))) (k : Option KnownRecords) (p q : RowTexts) (c : FateCounts) (records : List Taken)
    → Sorts rule keys before start mid k p c records → rule_of q ≡ rule_of p
    → WritesRows (rows_after rule keys before records) start now q
    → Sorts rule keys before start now k q c records
written_on rule keys before start mid now k p q c records s e writes = record { ruled = e ∙ s.ruled; seen = s.seen; counted = s.counted; written = writes }

-- no further record
pub no_more : (rule : EntryRule) (keys : List (List ℕ)) (before : List Row) (start now : List (Option (List ℕ))) (k1 k2 : Option KnownRecords) (p1 p2 : RowTexts) (c : FateCounts) (records : List Taken)
    → Sorts rule keys before start now k1 p1 c records
    → (keys_in k2 ≡ keys_in k1) × WritesRows (rows_after rule keys before records) start now p2
    → rule_of p2 ≡ rule_of p1
    → Sorts rule keys before start now k2 p2 c records
no_more rule keys before start now k1 k2 p1 p2 c records s same e = record { ruled = e ∙ s.ruled; seen = same.0 ∙ s.seen; counted = s.counted; written = same.1 }

-- one more file
pub one_more_file : (rule : EntryRule) (keys : List (List ℕ)) (start mid now : List (Option (List ℕ))) (k1 k2 : Option KnownRecords) (p1 p2 : RowTexts) (counts : FateCounts)
    → rule_of p1 ≡ rule
    → CopiesRows rule keys start mid k1 p1
    → ((before : List Row) (from : List (Option (List ℕ))) → WritesRows before from mid p1 → CopiesAll (rule_of p1) (keys_in k1) before from now k2 p2 counts)
    → CopiesRows rule keys start now k2 p2
one_more_file rule keys start mid now k1 k2 p1 p2 counts e h step =
    let rows = rows_after rule keys [] h.0 in
    let m = step rows start h.2 in
    let same = subst (λ (ks : List (List ℕ)). Sorts (rule_of p1) ks rows start now k2 p2 counts m.0) h.1 m.1 in
    let s = subst (λ (r : EntryRule). Sorts r (keys_after keys h.0) rows start now k2 p2 counts m.0) e same in
    (m.0 ++ h.0, s.seen ∙ keys_behind keys m.0 h.0, subst (λ (rs : List Row). WritesRows rs start now p2) (rows_behind rule keys [] m.0 h.0) s.written)

-- a row that is no other's goes where its time has it
pub placed : (k1 k2 : Option KnownRecords) (places : List ℕ) (fields : List (List ℕ)) (row : GoodRow) (rows : List Row) (start now : List (Option (List ℕ))) (p1 p2 : RowTexts) (answer : Result Outcome RowFault)
    → is_known (keys_in k1) (key_in k1 places fields) ≡ false
    → keys_in k2 ≡ keys_seen (keys_in k1) (key_in k1 places fields)
    → rule_of p2 ≡ rule_of p1
    → IfOk answer (λ o. fate_of o ≡ fate_by_place (place_fault (rule_of p1).most_rows (rule_of p1).bound (times_of rows) row.time))
    → IfOk answer (λ o. WritesRows (rows_put (fate_of o) (said_of row) rows) start now p2)
    → IfOk answer (λ o. Takes (keys_in k1) rows start now k2 p2 o (good_of k1 places fields row))
placed k1 k2 places fields row rows start now p1 p2 (Ok o) new after e fate puts =
    let said = subst (λ (r : EntryRule). fate_of o ≡ fate_by_place (place_fault r.most_rows r.bound (times_of rows) row.time)) (sym e) fate in
    (rw new said, after, puts)
placed k1 k2 places fields row rows start now p1 p2 (Err fault) new after e fate puts = tt
