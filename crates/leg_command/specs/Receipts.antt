-- What is asked of receipts before a leg.
use Rattle.std.specs.Prelude.{◌≡◌, ◌&&◌, ◌||◌, ℕ, List, [], ◌∷◌, Bool, false, not, bytes_eq, Option, Some, None, is_some, Result, Ok, Err}
use Rattle.std.specs.Borrow.{Bor}
use Rattle.std.specs.List.{list_any}
use Rattle.job_texts.specs.declared.fault.JobFault.{JobFault}
use Rattle.job_texts.specs.declared.fault.JobFault.TheVariants.{Memory}
use Rattle.receipts.specs.declared.fault.ReceiptFault.{ReceiptFault}
use Rattle.receipts.specs.declared.fault.ReceiptFault.TheVariants as receipt
use Rattle.leg_receipts.specs.Places.{Finds, place_said}
use Rattle.leg_receipts.specs.Since.{IsBySince}
use Rattle.leg_command.specs.declared.fault.LegRefusal.{LegRefusal}
use Rattle.leg_command.specs.declared.fault.LegRefusal.TheVariants.{Job, Receipt}
use Rattle.leg_command.specs.declared.words.LegWords.{LegWords}

-- two words are there, and the same
abbrev pub are_same : Option (Bor (List ℕ)) → Option (Bor (List ℕ)) → Bool
are_same (Some one) (Some other) = bytes_eq one.now other.now
are_same None other = false
are_same (Some one) None = false

-- a word is there, and the same as one of others
abbrev pub is_one_of : Option (Bor (List ℕ)) → List (Option (Bor (List ℕ))) → Bool
is_one_of word others = list_any (λ other. are_same word other) others

-- the savepoint or the receipt would be written over a file that the leg reads, but for the one of its kind that it
-- goes on from
abbrev pub overwrite : LegWords → Bool
overwrite words =
    is_one_of words.save (Some words.plan ∷ Some words.input ∷ Some words.scale ∷ words.names ∷ words.stop_file ∷ words.since ∷ [])
    || is_one_of words.receipt (Some words.plan ∷ Some words.input ∷ Some words.scale ∷ words.names ∷ words.stop_file ∷ words.from ∷ [])

-- a receipt to go on by needs a savepoint to go on from; a table of names is one of a receipt; and a receipt goes to a
-- file of its own
abbrev pub are_wrong : LegWords → Bool
are_wrong words =
    (is_some words.since && not (is_some words.from)) || ((is_some words.names && not (is_some words.since || is_some words.receipt)) || are_same words.save words.receipt)

-- the refusal of what was compared with a receipt
abbrev pub refusal_of : ReceiptFault → LegRefusal
refusal_of receipt.Memory = Job Memory
refusal_of fault = Receipt fault

-- what is refused before a leg by what `check_since` answers: what it refuses of the texts is left to the leg, which
-- refuses it too
abbrev pub before_leg : Result (Result (Unit {0}) ReceiptFault) JobFault → Result (Unit {0}) LegRefusal
before_leg (Ok (Ok _)) = Ok tt
before_leg (Ok (Err fault)) = Err (refusal_of fault)
before_leg (Err Memory) = Err (Job Memory)
before_leg (Err fault) = Ok tt

-- with a savepoint and a receipt to go on by, what comes of comparing them with the texts; else nothing is refused
abbrev pub IsChecked : List ℕ → List ℕ → Option (List ℕ) → Option (List ℕ) → Option (List ℕ) → Result (Unit {0}) LegRefusal → Type 0
IsChecked plan input (Some from) (Some since) names checked =
    (answer : Result (Result (Unit {0}) ReceiptFault) JobFault) × Finds (IsBySince since names) (place_said plan input (Some from)) answer × (checked ≡ before_leg answer)
IsChecked plan input (Some from) None names checked = checked ≡ Ok tt
IsChecked plan input None since names checked = checked ≡ Ok tt
