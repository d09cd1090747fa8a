-- What the command `leg` answers. Nothing can be said of what files hold and of what standard output takes, and so
-- these say which answers the texts of files allow, whatever they are.
use Rattle.std.specs.Prelude.{◌≡◌, ◌⊎◌, ℕ, List, [], Bool, true, false, Option, Some, None, is_some, option_map, Result, Ok, Err, IfErr, IsErrAnd}
use Rattle.std.specs.Option.{option_or}
use Rattle.job_texts.specs.declared.fault.JobFault.{JobFault}
use Rattle.job_texts.specs.declared.fault.JobFault.TheVariants.{Cut, Number, Write, Memory}
use Rattle.job.specs.Asked.{TellsAskedLeg}
use Rattle.job.specs.Leg.{LegJob, LegLeft, TellsLeg, leg_said, words as leg_words}
use Rattle.command_files.specs.Files.{CannotRead}
use Rattle.new_files.specs.Streams.{HasGot}
use Rattle.new_files.specs.declared.stream.NewStream.{NewStream}
use Rattle.leg_receipts.specs.Places.{Finds, place_said}
use Rattle.leg_receipts.specs.Made.{told_of}
use Rattle.leg_receipts.specs.declared.making.Told.{Told}
use Rattle.leg_command.specs.declared.giving.NewReceipt.{NewReceipt}
use Rattle.leg_command.specs.Receipts.{IsChecked, are_wrong, overwrite}
use Rattle.leg_command.specs.declared.fault.LegRefusal.{LegRefusal}
use Rattle.leg_command.specs.declared.fault.LegRefusal.TheVariants.{Job}
use Rattle.leg_command.specs.declared.stops.LegStop.{LegStop}
use Rattle.leg_command.specs.declared.stops.LegStop.TheVariants.{At, Once}
use Rattle.leg_command.specs.declared.words.LegWords.{LegWords}

-- the fault of a call that writes into memory: it takes no more only where there is none left
abbrev pub buffered : JobFault → JobFault
buffered Write = Memory
buffered fault = fault

-- what was made could not be written, or there was no memory
abbrev pub CannotWrite : JobFault → Type 0
CannotWrite fault = (fault ≡ Write) ⊎ (fault ≡ Memory)

-- bytes that there are were written to a file, if one is named for them
abbrev pub IsKept : {R F D : Type 0} → (F → Option (List ℕ)) → Bool → Option (List ℕ) → Option (NewStream R F D) → Type 0
IsKept contents true (Some bytes) (Some stream) = HasGot contents stream bytes
IsKept contents true (Some bytes) None = ⊥
IsKept contents true None kept = kept ≡ None
IsKept contents false saved kept = kept ≡ None

-- the text of a leg's receipt was written: that of the place to which the leg has come, with its rows and its table of
-- names
abbrev pub HasReceipt : {R F D : Type 0} → (F → Option (List ℕ)) → NewReceipt → Option (List ℕ) → List ℕ → NewStream R F D → Type 0
HasReceipt contents receipt saved rows stream =
    (told : Told) × (text : List ℕ) × (told.rows.now ≡ rows) × (told.names ≡ receipt.names)
    × Finds (λ place made. made ≡ told_of (is_some saved) told place) (place_said receipt.plan.now receipt.input.now (option_or saved (option_map (λ bytes. bytes.now) receipt.from))) (Ok text)
    × HasGot contents stream text

-- it was written, if there is to be one
abbrev pub IsReceiptKept : {R F D : Type 0} → (F → Option (List ℕ)) → Option NewReceipt → Option (List ℕ) → List ℕ → Option (NewStream R F D) → Type 0
IsReceiptKept contents (Some receipt) saved rows (Some stream) = HasReceipt contents receipt saved rows stream
IsReceiptKept contents (Some receipt) saved rows None = ⊥
IsReceiptKept contents None saved rows kept = kept ≡ None

-- what comes of what is written into memory: why it was not, or it is given, or it could not be
abbrev pub after_made : {X : Type 0} → Result X JobFault → Result (Unit {0}) JobFault → Type 0
after_made (Ok made) result = IfErr result CannotWrite
after_made (Err fault) result = result ≡ Err (buffered fault)

-- a leg that was given up is never told to be done: once all that it gives is written, memory ran out
abbrev pub after_given : Bool → Result (Unit {0}) JobFault → Type 0
after_given false result = IfErr result CannotWrite
after_given true result = IsErrAnd result CannotWrite

-- what comes of what a leg gives, of which this tells whether it was given up
abbrev pub after_leg : {X : Type 0} → (X → Bool) → Result X JobFault → Result (Unit {0}) JobFault → Type 0
after_leg abandoned (Ok left) result = after_given (abandoned left) result
after_leg abandoned (Err fault) result = result ≡ Err (buffered fault)

-- what a leg leaves, or why there is no leg, and the bytes of its rows
abbrev pub LegAnswer : Type 0
LegAnswer = Result LegLeft JobFault × List ℕ

-- what comes of what `job_leg` answers of the leg that texts say
abbrev pub ComesOfLeg : Result LegJob JobFault → Result (Unit {0}) JobFault → Type 0
ComesOfLeg said result = (given : LegAnswer) × TellsLeg (λ left. left) said given.0 (Some []) (Some given.1) × after_leg (λ left. left.abandoned) given.0 result

-- what comes of what `job_leg_asked` answers of it
abbrev pub ComesOfAskedLeg : Result LegJob JobFault → Result (Unit {0}) JobFault → Type 0
ComesOfAskedLeg said result = (given : LegAnswer) × TellsAskedLeg (λ left. left) said given.0 (Some []) (Some given.1) × after_leg (λ left. left.abandoned) given.0 result

-- of texts: of a leg to the cut of a word, or to the end, or till a file is there
abbrev pub ComesOfTexts : LegStop → List ℕ → List ℕ → List ℕ → Option (List ℕ) → Result (Unit {0}) JobFault → Type 0
ComesOfTexts (At saves stop) plan input scale from result = ComesOfLeg (leg_said plan input scale from (leg_words (option_map (λ w. w.now) saves) (option_map (λ w. w.now) stop))) result
ComesOfTexts (Once file) plan input scale from result = ComesOfAskedLeg (leg_said plan input scale from (leg_words None None)) result

-- what comes of a part of the command
abbrev pub as_refusal : Result (Unit {0}) JobFault → Result (Unit {0}) LegRefusal
as_refusal (Ok _) = Ok tt
as_refusal (Err fault) = Err (Job fault)

abbrev pub Comes : (Result (Unit {0}) JobFault → Type 0) → Result (Unit {0}) LegRefusal → Type 0
Comes answers result = (answer : Result (Unit {0}) JobFault) × answers answer × (result ≡ as_refusal answer)

-- after what was checked before it: what is refused there comes of it, and else what comes of the part itself
abbrev pub Then : Result (Unit {0}) LegRefusal → (Result (Unit {0}) LegRefusal → Type 0) → Result (Unit {0}) LegRefusal → Type 0
Then (Ok _) Of result = Of result
Then (Err refusal) Of result = result ≡ Err refusal

-- what comes of the leg that some plan, input and scale say, with a savepoint, a receipt and a table of names just
-- where they are named
abbrev pub ComesOfFiles : LegWords → LegStop → Result (Unit {0}) LegRefusal → Type 0
ComesOfFiles words stop result =
    (plan : List ℕ) × (input : List ℕ) × (scale : List ℕ) × (from : Option (List ℕ)) × (since : Option (List ℕ)) × (names : Option (List ℕ))
    × (is_some from ≡ is_some words.from) × (is_some since ≡ is_some words.since) × (is_some names ≡ is_some words.names)
    × ((checked : Result (Unit {0}) LegRefusal) × IsChecked plan input from since names checked × Then checked (Comes (ComesOfTexts stop plan input scale from)) result)

-- or one of them was not read
abbrev pub AnswersStop : LegWords → LegStop → Result (Unit {0}) LegRefusal → Type 0
AnswersStop words stop result = Comes CannotRead result ⊎ ComesOfFiles words stop result

-- how a leg is to stop by words and a file, where its savepoint is kept or not; a file beside a cut says nothing, nor
-- where the savepoint would be lost
abbrev pub IsStop : LegWords → Result LegStop JobFault → Type 0
IsStop words (Ok (At saves stop)) = (words.stop_file ≡ None) × (saves ≡ words.saves) × (stop ≡ words.stop)
IsStop words (Ok (Once file)) = (words.stop_file ≡ Some file) × (words.saves ≡ None) × (words.stop ≡ None) × (is_some words.save ≡ true)
IsStop words (Err fault) = (fault ≡ Cut) × (is_some words.stop_file ≡ true) × ((is_some words.saves ≡ true) ⊎ (is_some words.stop ≡ true) ⊎ (is_some words.save ≡ false))

-- of words that go together: how the leg is to stop, or that there is no such cut
abbrev pub AnswersWords : LegWords → Result (Unit {0}) LegRefusal → Type 0
AnswersWords words result = ((stop : LegStop) × IsStop words (Ok stop) × AnswersStop words stop result) ⊎ (IsStop words (Err Cut) × (result ≡ Err (Job Cut)))

-- nothing is written over a file that the leg reads
abbrev pub if_apart : Bool → LegWords → Result (Unit {0}) LegRefusal → Type 0
if_apart true words result = result ≡ Err (Job Write)
if_apart false words result = AnswersWords words result

-- and else that there is no such number
abbrev pub if_right : Bool → LegWords → Result (Unit {0}) LegRefusal → Type 0
if_right true words result = result ≡ Err (Job Number)
if_right false words result = if_apart (overwrite words) words result

abbrev pub AnswersLeg : LegWords → Result (Unit {0}) LegRefusal → Type 0
AnswersLeg words result = if_right (are_wrong words) words result
