-- What the command answers of files, from what its parts answer.
use Rattle.std.proofs.Common.{◌≡◌, ◌⊎◌, ℕ, List, Option, is_some, Result, Ok, Err, IsErr, IsErrAnd, ap, inl, inr, subst, sym}
use Rattle.job_texts.specs.declared.fault.JobFault.{JobFault}
use Rattle.job_texts.specs.declared.fault.JobFault.TheVariants.{Read, Memory}
use Rattle.command_files.specs.Files.{CannotRead}
use Rattle.leg_command.specs.Answers.{AnswersStop, Comes, ComesOfTexts, Then, as_refusal}
use Rattle.leg_command.specs.Receipts.{IsChecked}
use Rattle.leg_command.specs.declared.fault.LegRefusal.{LegRefusal}
use Rattle.leg_command.specs.declared.fault.LegRefusal.TheVariants.{Job}
use Rattle.leg_command.specs.declared.stops.LegStop.{LegStop}
use Rattle.leg_command.specs.declared.words.LegWords.{LegWords}

abbrev Refusals : Type 0
Refusals = Result (Unit {0}) LegRefusal

-- a file was not read
pub unread : (words : LegWords) (stop : LegStop) (fault : JobFault) (result : Refusals) → (fault ≡ Read) ⊎ (fault ≡ Memory) → IsErr result → IsErrAnd result (λ e. e ≡ Job fault) → AnswersStop words stop result
unread words stop fault (Ok _) why fails is = absurd cc
unread words stop fault (Err refusal) (inl read) fails is = inl (Err fault, inl (ap Err read), ap Err is)
unread words stop fault (Err refusal) (inr memory) fails is = inl (Err fault, inr (ap Err memory), ap Err is)

module _ (words : LegWords) (stop : LegStop) (plan input scale : List ℕ) (from since names : Option (List ℕ)) (has_from : is_some from ≡ is_some words.from) (has_since : is_some since ≡ is_some words.since)
    (has_names : is_some names ≡ is_some words.names) (checked : Refusals) (checks : IsChecked plan input from since names checked) where
  -- what they are compared with is something else
  pub refused : (refusal : LegRefusal) (result : Refusals) → checked ≡ Err refusal → IsErr result → IsErrAnd result (λ e. e ≡ refusal) → AnswersStop words stop result
  refused refusal (Ok _) refuses fails is = absurd cc
  refused refusal (Err other) refuses fails is =
      inr (plan, input, scale, from, since, names, has_from, has_since, has_names, (checked, checks, subst (λ c. Then c (Comes (ComesOfTexts stop plan input scale from)) (Err other)) (sym refuses) (ap Err is)))

  -- or the leg is run
  pub run : (passed : Unit {0}) (answer : Result (Unit {0}) JobFault) (result : Refusals) → checked ≡ Ok passed → CannotRead answer ⊎ ComesOfTexts stop plan input scale from answer → result ≡ as_refusal answer → AnswersStop words stop result
  run passed answer result passes (inl cannot) is = inl (answer, cannot, is)
  run passed answer result passes (inr comes) is =
      inr (plan, input, scale, from, since, names, has_from, has_since, has_names, (checked, checks, subst (λ c. Then c (Comes (ComesOfTexts stop plan input scale from)) result) (sym passes) (answer, comes, is)))
