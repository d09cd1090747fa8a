-- What is said of the bytes of a savepoint, in whichever layout.
use Rattle.std.proofs.Common.{◌≡◌, ℕ, ◌<◌, ◌^◌, Bool, true, false, List, [], ◌++◌, length, Result, Ok, Err, refl, sym, ap, subst, ◌∙◌, inl, inr}
use Rattle.std.specs.Prelude.{IfOk}
use Rattle.std.proofs.lemmas.List.{append-nil}
use Rattle.byte_fields.specs.declared.fault.FieldFault.{FieldFault}
use Rattle.byte_fields.specs.declared.fault.FieldFault.TheVariants.{Trailing}
use Rattle.byte_fields.specs.Format.{whole}
use Rattle.byte_fields.proofs.Exact.{IsBytes, bind_ok, ok_is, pass_ok, whole_again, whole_takes}
use Rattle.savepoint_codec.specs.declared.savepoint.Contents.{Contents}
use Rattle.savepoint_codec.specs.declared.fault.SaveFault.{SaveFault}
use Rattle.savepoint_codec.specs.Answer.{Gives, fault_said, unindexed_of_bytes}
use Rattle.savepoint_codec.specs.Layout.{IsSavepoint, unindexed_bytes, unindexed_format}
use Rattle.savepoint_codec.proofs.Facts.{unindexed_exact}
use Rattle.savepoint_index.specs.Layout.{Spells, has_index, indexed_format, savepoint_bytes}
use Rattle.savepoint_index.specs.Answer.{savepoint_of_bytes}
use Rattle.savepoint_index.proofs.Fits.{is_indexed, is_savepoint}
use Rattle.savepoint_index.proofs.IndexExact.{indexed_exact}
use Rattle.savepoint_index.proofs.Marks.{is_marked, is_unmarked}
use Rattle.savepoint_index.proofs.Sure.{indexed_sure}

field_ok : {X : Type 0} (read : Result X FieldFault) (x : X) → fault_said read ≡ Ok x → read ≡ Ok x
field_ok (Ok y) x e = let same : y ≡ x = cc in ap Ok same
field_ok (Err fault) x e = absurd cc

pub indexed_said : (bytes : List ℕ) → has_index bytes ≡ true → savepoint_of_bytes bytes ≡ fault_said (whole indexed_format bytes)
unfolding savepoint_of_bytes
indexed_said bytes h = rw h refl

pub unindexed_said : (bytes : List ℕ) → has_index bytes ≡ false → savepoint_of_bytes bytes ≡ unindexed_of_bytes bytes
unfolding savepoint_of_bytes
unindexed_said bytes h = rw h refl

pub has_its_index : (s : Contents) → has_index (savepoint_bytes s) ≡ true
unfolding indexed_format
has_its_index s = is_marked _

pub has_no_index : (s : Contents) → has_index (unindexed_bytes s) ≡ false
unfolding unindexed_format
has_no_index s = is_unmarked _

-- what is read is spelled so
pub said_spells : (bytes : List ℕ) (s : Contents) → IsBytes bytes → savepoint_of_bytes bytes ≡ Ok s → IsSavepoint s × Spells bytes s
unfolding unindexed_of_bytes
said_spells bytes s fits e = by_layout (has_index bytes) refl
  where
    by_layout : (layout : Bool) → has_index bytes ≡ layout → IsSavepoint s × Spells bytes s
    by_layout true h =
        let read = whole_takes indexed_format indexed_exact bytes s fits (field_ok (whole indexed_format bytes) s (sym (indexed_said bytes h) ∙ e)) in
        (is_savepoint s read.0, inl read.1)
    by_layout false h =
        let read = whole_takes unindexed_format unindexed_exact bytes s fits (field_ok (whole unindexed_format bytes) s (sym (unindexed_said bytes h) ∙ e)) in
        (read.0, inr read.1)

-- what is spelled so is read, if it is short enough to stand in memory
pub spells_said : (s : Contents) (bytes : List ℕ) → IsSavepoint s → Spells bytes s → length bytes < 2 ^ 64 → savepoint_of_bytes bytes ≡ Ok s
unfolding unindexed_of_bytes
spells_said s bytes h (inl is) short =
    let below : length (savepoint_bytes s) < 2 ^ 64 = subst (λ (xs : List ℕ). length xs < 2 ^ 64) is short in
    ap savepoint_of_bytes is ∙ indexed_said (savepoint_bytes s) (has_its_index s) ∙ ap fault_said (whole_again indexed_format indexed_exact s (is_indexed s h below))
spells_said s bytes h (inr is) short =
    ap savepoint_of_bytes is ∙ unindexed_said (unindexed_bytes s) (has_no_index s) ∙ ap fault_said (whole_again unindexed_format unindexed_exact s h)

whole_sure : (s x : Contents) → IsSavepoint s → whole indexed_format (savepoint_bytes s) ≡ Ok x → x ≡ s
whole_sure s x h e =
    let b = bind_ok (indexed_format.read (savepoint_bytes s)) _ x e in
    let p = pass_ok _ Trailing b.0.0 x b.2 in
    let read : indexed_format.read (savepoint_bytes s ++ []) ≡ Ok b.0 = ap indexed_format.read (append-nil (savepoint_bytes s)) ∙ b.1 in
    sym p.1 ∙ ap (λ (y : Contents × List ℕ). y.0) ((indexed_sure s h).sure [] b.0 read)

-- whatever is read of a spelling is what was spelled
pub spelled_said : (s x : Contents) (bytes : List ℕ) → IsSavepoint s → Spells bytes s → savepoint_of_bytes bytes ≡ Ok x → x ≡ s
unfolding unindexed_of_bytes
spelled_said s x bytes h (inl is) e =
    whole_sure s x h (field_ok (whole indexed_format (savepoint_bytes s)) x (sym (indexed_said (savepoint_bytes s) (has_its_index s)) ∙ ap savepoint_of_bytes (sym is) ∙ e))
spelled_said s x bytes h (inr is) e =
    let read = field_ok (whole unindexed_format (unindexed_bytes s)) x (sym (unindexed_said (unindexed_bytes s) (has_no_index s)) ∙ ap savepoint_of_bytes (sym is) ∙ e) in
    sym (ok_is s x (sym (whole_again unindexed_format unindexed_exact s h) ∙ read))

pub spelled_by : (r : Result Contents SaveFault) (bytes : List ℕ) → IsBytes bytes → Gives r (savepoint_of_bytes bytes) → IfOk r (λ s. Spells bytes s)
spelled_by (Ok s) bytes fits h = (said_spells bytes s fits h).1
spelled_by (Err fault) bytes fits h = tt
