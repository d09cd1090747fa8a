-- What showing a savepoint answers, or one of its key groups.
use Rattle.std.specs.Prelude.{◌≡◌, ◌≢◌, ℕ, List, Option, Some, None, Result, Ok, Err, codes}
use Rattle.std.specs.Io.KnownBytes.{Appends}
use Rattle.byte_fields.specs.declared.fault.FieldFault.{FieldFault}
use Rattle.byte_fields.specs.Format.{mark}
use Rattle.savepoint_codec.specs.declared.savepoint.Contents.{Contents}
use Rattle.savepoint_codec.specs.Answer as saves
use Rattle.savepoint_codec.specs.Layout.{IsSavepoint}
use Rattle.savepoint_index.specs.Answer.{savepoint_of_bytes}
use Rattle.savepoint_index.specs.Layout.{savepoint_bytes}
use Rattle.job_texts.specs.declared.fault.JobFault.{JobFault}
use Rattle.job_texts.specs.declared.fault.JobFault.TheVariants.{Save, Number}
use Rattle.job_texts.specs.Group.{group_number_said}
use Rattle.job_texts.specs.ShowText.{savepoint_text, group_text}
use Rattle.job_texts.specs.Tells.{Tells}
use Rattle.job.specs.Ends.{and_then, as_job}

-- the text of the savepoint that the bytes spell, or why they spell none
unfoldable pub show_said : List ℕ → Result (List ℕ) JobFault
show_said bytes = and_then (λ s. Ok (savepoint_text s)) (as_job Save (savepoint_of_bytes bytes))

abbrev pub TellsSavepoint : Result (List ℕ) JobFault → Result (Unit {0}) JobFault → Option (List ℕ) → Option (List ℕ) → Type 0
TellsSavepoint said result old new = Tells (λ text. Appends old new text) said result

-- of bytes that spell a savepoint with an index, the lines of a key group; of bytes that do not begin as such, why:
-- also where they spell one without an index. Of other bytes nothing is said but that no word is refused
pub record OfGroup {T : Type 0} (answers : Result (List ℕ) JobFault → Result T JobFault → Type 0) (group : ℕ) (bytes : List ℕ) (result : Result T JobFault) : Type 0 where
  pub entries : (s : Contents) → IsSavepoint s → bytes ≡ savepoint_bytes s → answers (Ok (group_text group s)) result
  pub marked : (fault : FieldFault) → (mark (codes "WSP2")).read bytes ≡ Err fault → result ≡ Err (Save (saves.save_fault fault))
  pub accepted : result ≢ Err Number

-- the same where the word of a key group is one; a word that is none is refused, whatever the bytes are
abbrev pub OfWord : {T : Type 0} → (Result (List ℕ) JobFault → Result T JobFault → Type 0) → Option ℕ → List ℕ → Result T JobFault → Type 0
OfWord answers (Some group) bytes result = OfGroup answers group bytes result
OfWord answers None bytes result = result ≡ Err Number

-- what is shown of bytes: all, or the key group that a word spells
abbrev pub OfBytes : {T : Type 0} → (Result (List ℕ) JobFault → Result T JobFault → Type 0) → List ℕ → Option (List ℕ) → Result T JobFault → Type 0
OfBytes answers bytes None result = answers (show_said bytes) result
OfBytes answers bytes (Some word) result = OfWord answers (group_number_said word) bytes result

abbrev pub TellsShow : List ℕ → Option (List ℕ) → Result (Unit {0}) JobFault → Option (List ℕ) → Option (List ℕ) → Type 0
TellsShow bytes word result old new = OfBytes (λ said result. TellsSavepoint said result old new) bytes word result
