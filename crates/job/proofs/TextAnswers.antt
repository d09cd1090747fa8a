-- What a call answers that reads texts and writes one, from what reading them gives.
use Rattle.std.proofs.Common.{◌≡◌, ◌≢◌, ℕ, List, Option, Result, Ok, Err, IsErr, IsErrAnd, MatchResult, refl, sym, ap, subst}
use Rattle.std.specs.Io.KnownBytes.{Appends}
use Rattle.answers.specs.Answer.{Fails, Gives}
use Rattle.plan_model.specs.PlanData.{PlanData}
use Rattle.logical_plan.specs.Answer.{plan_of_bytes}
use Rattle.plan_scale.specs.Answer.{scale_of_bytes}
use Rattle.savepoint_codec.specs.Answer as saves
use Rattle.savepoint_codec.specs.declared.fault.SaveFault.{SaveFault}
use Rattle.savepoint_codec.specs.declared.fault.SaveFault.TheVariants as save
use Rattle.savepoint_codec.specs.declared.savepoint.Contents.{Contents}
use Rattle.savepoint_index.specs.Answer.{savepoint_of_bytes}
use Rattle.plan_compiler.specs.LayoutData.{layout_of}
use Rattle.job_texts.specs.declared.fault.JobFault.{JobFault}
use Rattle.job_texts.specs.declared.fault.JobFault.TheVariants.{Plan, Input, Scale, Save, Restore, Leg, Cut, Number, Read, Write, Memory}
use Rattle.job_texts.specs.Fault.{save_fault, is_memory}
use Rattle.job_texts.specs.LayoutText.{layout_text}
use Rattle.job_texts.specs.ShowText.{savepoint_text}
use Rattle.job_texts.specs.Tells.{KeepsWriter, Tells}
use Rattle.job.specs.Ends.{and_then, as_job}
use Rattle.job.specs.Layout.{layout_by, layout_said}
use Rattle.job.specs.Show.{show_said}
use Rattle.job.proofs.LegAnswers.{err_is, only}

module _ {Y T : Type 0} (view : T → Y) where
  -- a text is refused
  pub refused : {X : Type 0} (next : X → Result Y JobFault) (said : Result X JobFault) (fault : JobFault) (result : Result T JobFault) → IsErr result → IsErrAnd result (λ e. e ≡ fault) → Fails is_memory fault said
      → Gives is_memory view result (and_then next said)
  refused next said fault result fails gives is = subst (λ r. Gives is_memory view r (and_then next said)) (sym (err_is result fault fails gives)) (only (is_memory fault) (λ e. ap (and_then next) e) is)

  -- it is read, and what follows is answered
  pub read : {X : Type 0} (next : X → Result Y JobFault) (said : Result X JobFault) (x : X) (result : Result T JobFault) → said ≡ Ok x → Gives is_memory view result (next x) → Gives is_memory view result (and_then next said)
  read next said x result is gives = subst (λ z. Gives is_memory view result (and_then next z)) (sym is) gives

  -- where no memory was to be had, nothing is said
  pub forgotten : (said : Result Y JobFault) (result : Result T JobFault) → IsErr result → IsErrAnd result (λ e. e ≡ Memory) → Gives is_memory view result said
  forgotten said result fails gives = subst (λ r. Gives is_memory view r said) (sym (err_is result Memory fails gives)) tt

-- the fault of a savepoint's bytes
pub save_told : (said : Result Contents SaveFault) (fault : SaveFault) → saves.Fails fault said → Fails is_memory (save_fault fault) (as_job Save said)
save_told said save.Memory is = tt
save_told said save.Magic is = ap (as_job Save) is
save_told said save.Truncated is = ap (as_job Save) is
save_told said save.Trailing is = ap (as_job Save) is
save_told said save.Order is = ap (as_job Save) is
save_told said save.Range is = ap (as_job Save) is
save_told said save.Index is = ap (as_job Save) is

-- no text that is read is refused as one that is not written
pub unwritten : {X Y F : Type 0} (fault_of : F → JobFault) (next : X → Result Y JobFault) (said : Result X F) → ((f : F) → fault_of f ≢ Write) → ((x : X) → next x ≢ Err Write) → and_then next (as_job fault_of said) ≢ Err Write
unwritten fault_of next (Ok x) faults rest e = rest x e
unwritten fault_of next (Err f) faults rest e = faults f cc

layout_by_unwritten : (p : PlanData) (scale : List ℕ) → layout_by p scale ≢ Err Write
unfolding layout_by
layout_by_unwritten p scale = unwritten Scale (λ s. Ok (layout_text p (layout_of p s))) (scale_of_bytes p scale) (λ f e. absurd cc) (λ s e. absurd cc)

pub layout_unwritten : (plan scale : List ℕ) → layout_said plan scale ≢ Err Write
unfolding layout_said
layout_unwritten plan scale = unwritten Plan (λ p. layout_by p scale) (plan_of_bytes plan) (λ f e. absurd cc) (λ p. layout_by_unwritten p scale)

pub show_unwritten : (bytes : List ℕ) → show_said bytes ≢ Err Write
unfolding show_said
show_unwritten bytes = unwritten Save (λ s. Ok (savepoint_text s)) (savepoint_of_bytes bytes) (λ f e. absurd cc) (λ s e. absurd cc)

module _ (writes : List ℕ → Type 0) (said : Result (List ℕ) JobFault) where
  by_fault : (fault : JobFault) → said ≢ Err Write → Fails is_memory fault said → Tells writes said (Err fault)
  by_fault Memory fits is = tt
  by_fault Write fits is = absurd (fits is)
  by_fault (Plan f) fits is = is
  by_fault (Input f) fits is = is
  by_fault (Scale f) fits is = is
  by_fault (Save f) fits is = is
  by_fault (Restore f) fits is = is
  by_fault (Leg f) fits is = is
  by_fault Cut fits is = is
  by_fault Number fits is = is
  by_fault Read fits is = is

  -- a refusal is the one that the texts give
  pub tells_refused : (fault : JobFault) (result : Result (Unit {0}) JobFault) → IsErr result → IsErrAnd result (λ e. e ≡ fault) → said ≢ Err Write → Fails is_memory fault said → Tells writes said result
  tells_refused fault result fails gives fits is = subst (λ r. Tells writes said r) (sym (err_is result fault fails gives)) (by_fault fault fits is)

  -- all texts are read, and what they say is written or isn't
  pub tells_written : (text : List ℕ) (result : Result (Unit {0}) JobFault) → said ≡ Ok text → MatchResult result (λ _. writes text) (λ fault. fault ≡ Write) → Tells writes said result
  tells_written text result read wrote = subst (λ s. Tells writes s result) (sym read) (by_case result wrote)
    where
      by_case : (r : Result (Unit {0}) JobFault) → MatchResult r (λ _. writes text) (λ fault. fault ≡ Write) → Tells writes (Ok text) r
      by_case (Ok u) written = written
      by_case (Err fault) failed = subst (λ f. Tells writes (Ok text) (Err f)) (sym failed) refl

-- where the text is not written, it is a failed write
pub kept : (text : List ℕ) (result : Result (Unit {0}) JobFault) (old new : Option (List ℕ)) → MatchResult result (λ _. Appends old new text) (λ fault. fault ≡ Write) → KeepsWriter result old new
kept text (Ok u) old new wrote = tt
kept text (Err fault) old new wrote = λ other. absurd (other wrote)
