-- An entry that is read, with the watermark that it brings.
use Rattle.std.proofs.Common.{◌≡◌, ℕ, ℤ, true, false, ◌&&◌, Option, Some, None, is_some, refl, sym, ap, ◌∙◌}
use Rattle.serde_json.specs.Data.{Data}
use Rattle.stream_model.specs.declared.entry.Entry.{Entry}
use Rattle.stream_model.specs.declared.entry.Marked.{Marked}
use Rattle.stream_model.specs.Marks.{mark_of, IsEntryOf, IsMarked}
use Rattle.input_texts.specs.declared.text.EntryText.{EntryText}
use Rattle.input_texts.specs.declared.text.EntryText.TheVariants.{Rows as rows, Watermark as watermark}
use Rattle.input_texts.specs.Said.{entry_of, marked_of}
use Rattle.input_texts.specs.Requirements.{is_kind}
use Rattle.stream_input.specs.Fit.{fit_entry, is_mark, is_own, own_entry}
use Rattle.stream_input.proofs.Asked.{asked}
use Rattle.stream_input.proofs.Refines.{entry_refines}
use Rattle.stream_input.proofs.Marked.{entry_sound}

kind_of : (bound : Option ℤ) (columns : ℕ) (x : EntryText) → (is_some bound && is_mark (entry_of columns x)) ≡ false → is_kind bound x ≡ true
kind_of bound columns (rows found) h = refl
kind_of None columns (watermark t) h = refl
kind_of (Some b) columns (watermark t) h = absurd (cc)

pub fit_sound : (columns time : ℕ) (d : Data) (e : Entry) → fit_entry columns time d ≡ Some e → IsEntryOf columns time e
fit_sound columns time d e fit =
    let t = entry_refines columns time d e fit in
    rw t.2 (entry_sound columns time t.0 (asked columns time t.0 t.3).timely)

pub own_from : (bound : Option ℤ) (columns time : ℕ) (d : Data) (e : Entry) (m : Marked) → fit_entry columns time d ≡ Some e → (is_some bound && is_mark e) ≡ false → m.entry ≡ e → IsMarked bound time m
    → own_entry bound columns time d ≡ Some m
unfolding own_entry
own_from bound columns time d e m fit none says marked =
    let t = entry_refines columns time d e fit in
    let kind : is_kind bound t.0 ≡ true = kind_of bound columns t.0 (sym (ap (λ x. is_some bound && is_mark x) t.2) ∙ none) in
    let own : is_own bound columns time t.0 ≡ true = rw (t.3, kind) refl in
    let entry : m.entry ≡ entry_of columns t.0 = says ∙ t.2 in
    let mark : m.mark ≡ mark_of bound time (entry_of columns t.0) = marked ∙ ap (mark_of bound time) entry in
    let same : m ≡ marked_of bound columns time t.0 = λ o. record { entry = entry o; mark = mark o } in
    rw (t.1, own) (ap (λ x. Some x) (sym same))
