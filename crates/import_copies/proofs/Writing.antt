-- What was written of a partition, after a call.
use Rattle.std.proofs.Common.{◌≡◌, ℕ, ◌<◌, ◌==◌, Bool, true, false, List, ◌++◌, Option, Result, Ok, Err, OnOk, length, refl, sym, ap, subst, ◌∙◌, if◌then◌else◌}
use Rattle.std.specs.Io.KnownBytes.{Appends}
use Rattle.std.proofs.KnownBytes.{Appends-trans}
use Rattle.std.proofs.lemmas.Bool.{eqb-true, eqb-false}
use Rattle.dealt_texts.specs.Parts.{ended}
use Rattle.dealt_texts.specs.Steps.{text_at}
use Rattle.dealt_texts.specs.Texts.{HoldsParts, HoldWhole, dealing_of, texts_of, more_at, part_of_rows, rule_of as parts_rule}
use Rattle.dealt_texts.specs.declared.dealing.Dealing.{Dealing}
use Rattle.dealt_texts.specs.declared.texts.PartTexts.{PartTexts}
use Rattle.import_entries.specs.declared.rule.EntryRule.{EntryRule}
use Rattle.entry_texts.specs.EntryTexts.{end_text}
use Rattle.entry_texts.specs.Partitions.{Row, Holds, HoldsWhole, AreTimely, rows_text, is_none, rule_of, text_of}
use Rattle.entry_texts.specs.declared.partition.PartitionText.{PartitionText}
use Rattle.import_copies.specs.Streams.{WritesPartition, WritesParts, DealsPartition, stream_at}

pub on_ok_map : {X E P Q : Type 0} (r : Result X E) → (P → Q) → OnOk r P → OnOk r Q
on_ok_map (Ok x) f p = f p
on_ok_map (Err e) f p = tt

-- the text that is left of an ended partition makes what was written whole
pub whole : (rule : EntryRule) (start now end : Option (List ℕ)) (rows : List Row) (written : List ℕ) (p q : PartitionText)
    → Holds rows written p → Appends start now written → rule_of p ≡ rule → rule_of q ≡ rule → HoldsWhole rows written q → Appends now end (text_of q) → WritesPartition rule rows start end
whole rule start now end rows written p q holds began e f all last =
    let text : written ++ text_of q ≡ rows_text rule.most_rows rule.bound rows ++ end_text (is_none rows) =
    subst (λ (r : EntryRule). written ++ text_of q ≡ rows_text r.most_rows r.bound rows ++ end_text (is_none rows)) f all in
    (subst (λ (r : EntryRule). AreTimely r.most_rows r.bound rows) e holds.timely, subst (λ (t : List ℕ). Appends start end t) text (Appends-trans start now end written (text_of q) began last))

-- the text of one part is written, and taken out
pub one_part : (rows : List Row) (start now end : List (Option (List ℕ))) (place : ℕ) (text : List ℕ) (p q : PartTexts)
    → ((written : ℕ → List ℕ) → HoldsParts rows written p → HoldsParts rows (more_at place text written) q)
    → Appends (stream_at now place) (stream_at end place) text → ((i : ℕ) → (i ≡ place → ⊥) → stream_at end i ≡ stream_at now i)
    → dealing_of q ≡ dealing_of p → WritesParts rows start now p → WritesParts rows start end q
one_part rows start now end place text p q taken here others same h =
    (more_at place text h.0, taken h.0 h.1, λ i within. at i (subst (λ (d : Dealing). i < d.parts) same within))
  where
    by_place : (i : ℕ) → i < p.dealing.parts → (b : Bool) → (place == i) ≡ b → Appends (stream_at start i) (stream_at end i) (if b then h.0 i ++ text else h.0 i)
    by_place i within true is =
        Appends-trans (stream_at start i) (stream_at now i) (stream_at end i) (h.0 i) text (h.2 i within) (subst (λ j. Appends (stream_at now j) (stream_at end j) text) (eqb-true place i is) here)
    by_place i within false is = subst (λ held. Appends (stream_at start i) held (h.0 i)) (sym (others i (λ e. eqb-false place i is (sym e)))) (h.2 i within)

    at : (i : ℕ) → i < p.dealing.parts → Appends (stream_at start i) (stream_at end i) (more_at place text h.0 i)
    at i within = by_place i within (place == i) refl

-- the texts that are left of an ended partition make what was written whole, each at its place
pub all_parts : (rows : List Row) (start now end : List (Option (List ℕ))) (p q : PartTexts)
    → ((written : ℕ → List ℕ) → HoldsParts rows written p → HoldWhole rows written q)
    → parts_rule q ≡ parts_rule p → dealing_of q ≡ dealing_of p
    → ((i : ℕ) → i < length (texts_of q) → Appends (stream_at now i) (stream_at end i) (text_at (texts_of q) i).text)
    → WritesParts rows start now p → DealsPartition (parts_rule p) (dealing_of p) rows start end
all_parts rows start now end p q ends rule dealing written h =
    (h.1.timely, λ i within. at i within)
  where
    at : (i : ℕ) → i < p.dealing.parts → Appends (stream_at start i) (stream_at end i) (ended (part_of_rows p.rule p.dealing i rows))
    at i within =
        let inside : i < q.dealing.parts = subst (λ (d : Dealing). i < d.parts) (sym dealing) within in
        let text = (text_at (texts_of q) i).text in
        let whole : h.0 i ++ text ≡ ended (part_of_rows p.rule p.dealing i rows) = (ends h.0 h.1).1 i inside ∙ ap (λ (r : EntryRule). ended (part_of_rows r q.dealing i rows)) rule ∙ ap (λ (d : Dealing). ended (part_of_rows p.rule d i rows)) dealing in
        subst (Appends (stream_at start i) (stream_at end i)) whole
        (Appends-trans (stream_at start i) (stream_at now i) (stream_at end i) (h.0 i) text (h.2 i within) (written i (subst (λ k. i < k) (sym (ends h.0 h.1).0) inside)))
