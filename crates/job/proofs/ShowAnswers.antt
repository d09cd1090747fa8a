-- What showing a savepoint answers, or a key group of it.
use Rattle.std.proofs.Common.{◌≡◌, ◌≢◌, ◌∙◌, ℕ, List, Option, Some, None, Result, Ok, Err, IsErr, IsErrAnd, MatchResult, refl, ap, sym, subst}
use Rattle.std.specs.Prelude.{codes}
use Rattle.answers.specs.Answer.{Gives}
use Rattle.byte_fields.specs.declared.fault.FieldFault.{FieldFault}
use Rattle.byte_fields.specs.declared.fault.FieldFault.TheVariants as field
use Rattle.byte_fields.specs.Format.{mark}
use Rattle.savepoint_codec.specs.declared.fault.SaveFault.{SaveFault}
use Rattle.savepoint_codec.specs.declared.fault.SaveFault.TheVariants as save
use Rattle.savepoint_codec.specs.declared.savepoint.Contents.{Contents}
use Rattle.savepoint_codec.specs.Answer as saves
use Rattle.savepoint_codec.specs.EntriesData.{EntriesData}
use Rattle.savepoint_codec.specs.Layout.{IsSavepoint}
use Rattle.savepoint_index.specs.Answer.{entries_of_group}
use Rattle.savepoint_index.specs.Layout.{savepoint_bytes}
use Rattle.job_texts.specs.declared.fault.JobFault.{JobFault}
use Rattle.job_texts.specs.declared.fault.JobFault.TheVariants.{Save, Number, Write, Memory}
use Rattle.job_texts.specs.Fault.{is_memory, save_fault}
use Rattle.job_texts.specs.Group.{group_number_said}
use Rattle.job_texts.specs.ShowText.{entry_lines, group_text}
use Rattle.job.specs.Show.{OfBytes, OfGroup, OfWord, show_said}
use Rattle.job.proofs.LegAnswers.{err_is}
use Rattle.job.proofs.TextAnswers.{show_unwritten}

-- the mark's fault is none of want of memory
of_mark : (fault : FieldFault) → save_fault (saves.save_fault fault) ≡ Save (saves.save_fault fault)
of_mark field.Magic = refl
of_mark field.Truncated = refl
of_mark field.Trailing = refl
of_mark field.Order = refl
of_mark field.Range = refl
of_mark field.Index = refl

no_number : (fault : SaveFault) → save_fault fault ≢ Number
no_number save.Magic e = absurd cc
no_number save.Truncated e = absurd cc
no_number save.Trailing e = absurd cc
no_number save.Order e = absurd cc
no_number save.Range e = absurd cc
no_number save.Index e = absurd cc
no_number save.Memory e = absurd cc

-- a text that is not written refuses no word
pub no_word : (P : Type 0) (result : Result (Unit {0}) JobFault) → MatchResult result (λ _. P) (λ fault. fault ≡ Write) → result ≢ Err Number
no_word P (Ok u) wrote e = absurd cc
no_word P (Err fault) wrote e = absurd cc

module _ {T : Type 0} (view : T → List ℕ) (group : ℕ) (bytes : List ℕ) where
  abbrev Told : Result T JobFault → Type 0
  Told result = OfGroup (λ said r. Gives is_memory view r said) group bytes result

  -- the key group is not read
  pub unread : (fault : SaveFault) (result : Result T JobFault) → IsErr result → IsErrAnd result (λ e. e ≡ save_fault fault)
      → ((s : Contents) → IsSavepoint s → bytes ≡ savepoint_bytes s → fault ≡ save.Memory)
      → ((f : FieldFault) → (mark (codes "WSP2")).read bytes ≡ Err f → fault ≡ saves.save_fault f) → Told result
  unread fault result fails gives read marked =
      let is = err_is result (save_fault fault) fails gives in
      record {
        entries = λ s fits e. subst (λ r. Gives is_memory view r (Ok (group_text group s))) (sym (is ∙ ap (λ f. Err (save_fault f)) (read s fits e))) tt;
        marked = λ f e. is ∙ ap (λ x. Err (save_fault x)) (marked f e) ∙ ap Err (of_mark f);
        accepted = λ e. no_number fault cc;
      }

  -- it is read, and there is no memory for its lines
  pub forgotten : (result : Result T JobFault) → IsErr result → IsErrAnd result (λ e. e ≡ Memory) → ((f : FieldFault) → (mark (codes "WSP2")).read bytes ≡ Err f → ⊥) → Told result
  forgotten result fails gives marked =
      let is = err_is result Memory fails gives in
      record {
        entries = λ s fits e. subst (λ r. Gives is_memory view r (Ok (group_text group s))) (sym is) tt;
        marked = λ f e. absurd (marked f e);
        accepted = λ e. absurd cc;
      }

  -- it is read, and has its lines
  pub shown : (entries : EntriesData) (text : T) → ((s : Contents) → IsSavepoint s → bytes ≡ savepoint_bytes s → entries ≡ entries_of_group group s)
      → ((f : FieldFault) → (mark (codes "WSP2")).read bytes ≡ Err f → ⊥) → view text ≡ entry_lines group entries → Told (Ok text)
  shown entries text read marked lines = record {
    entries = λ s fits e. ap Ok (sym (lines ∙ ap (entry_lines group) (read s fits e)));
    marked = λ f e. absurd (marked f e);
    accepted = λ e. absurd cc;
  }

-- what is answered of a text is told of it, so of all and of a key group
module _ {T U : Type 0} (Answers : Result (List ℕ) JobFault → Result T JobFault → Type 0) (Tells : Result (List ℕ) JobFault → Result U JobFault → Type 0) (old : Result T JobFault) (new : Result U JobFault)
    (told : (said : Result (List ℕ) JobFault) → said ≢ Err Write → Answers said old → Tells said new) (fails : (fault : JobFault) → old ≡ Err fault → new ≡ Err fault) (accepted : new ≡ Err Number → old ≡ Err Number) where
  of_group : (group : ℕ) (bytes : List ℕ) → OfGroup Answers group bytes old → OfGroup Tells group bytes new
  of_group group bytes h = record {
    entries = λ s fits e. told (Ok (group_text group s)) (λ e. absurd cc) (h.entries s fits e);
    marked = λ f e. fails (Save (saves.save_fault f)) (h.marked f e);
    accepted = λ e. h.accepted (accepted e);
  }

  of_word : (said : Option ℕ) (bytes : List ℕ) → OfWord Answers said bytes old → OfWord Tells said bytes new
  of_word (Some group) bytes h = of_group group bytes h
  of_word None bytes h = fails Number h

  pub of_bytes : (bytes : List ℕ) (word : Option (List ℕ)) → OfBytes Answers bytes word old → OfBytes Tells bytes word new
  of_bytes bytes None h = told (show_said bytes) (show_unwritten bytes) h
  of_bytes bytes (Some word) h = of_word (group_number_said word) bytes h
