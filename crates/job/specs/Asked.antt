-- What running a leg answers that may be asked to stop.
use Rattle.std.specs.Prelude.{◌≡◌, ◌⊎◌, ℕ, Bool, true, false, List, [], Option, None, Result, option_map}
use Rattle.legs.specs.declared.cut.Cut.{Cut}
use Rattle.legs.specs.declared.stop.Stop.{Stop}
use Rattle.legs.specs.declared.stop.Stop.TheVariants.{Never, At}
use Rattle.thread_runner.specs.declared.stop.Stop.{Stop as ThreadStop}
use Rattle.thread_runner.specs.declared.stop.Stop.TheVariants as on_threads
use Rattle.job_texts.specs.declared.fault.JobFault.{JobFault}
use Rattle.job.specs.declared.leg.LegEnd.{LegEnd}
use Rattle.job.specs.declared.leg.LegStop.{LegStop}
use Rattle.job.specs.declared.leg.LegStop.TheVariants.{Spelled, Asked}
use Rattle.job.specs.Ends.{Ends, Does, OnThreads}
use Rattle.job.specs.declared.leg.Aims.{Aims as ThreadAims}
use Rattle.job.specs.Leg.{LegAims, LegJob, LegLeft, LegRuns, LegWords, IsLegEnd, IsLegDone, words}

-- the words that say where a leg takes savepoints and stops, and whether it may be asked to stop; then it takes none on
-- its way
abbrev pub words_of : LegStop → LegWords
words_of (Spelled saves stop) = words (option_map (λ w. w.now) saves) (option_map (λ w. w.now) stop)
words_of (Asked word) = words None None

abbrev pub is_asked : LegStop → Bool
is_asked (Spelled saves stop) = false
is_asked (Asked word) = true

-- where it stops if nobody asks it to, and whether one may
abbrev pub stop_in : ThreadStop → Stop
stop_in on_threads.Never = Never
stop_in (on_threads.At cut) = At cut
stop_in (on_threads.Asked word) = Never

abbrev pub may_ask : ThreadStop → Bool
may_ask on_threads.Never = false
may_ask (on_threads.At cut) = false
may_ask (on_threads.Asked word) = true

-- where a leg takes savepoints on its way, and where it stops if nobody asks it to
abbrev pub aims_in : ThreadAims → LegAims
aims_in aims = record { saves = aims.saves; stop = stop_in aims.stop }

-- one that may be asked to stop takes none
abbrev pub AreAims : ThreadAims → Type 0
AreAims aims = may_ask aims.stop ≡ true → aims.saves ≡ []

-- the leg of the same texts that is to stop at a cut
abbrev pub stopping_at : Cut → LegJob → LegJob
stopping_at cut job = record job { stop = At cut }

-- so ends the leg; where it may be asked to stop, it ends so or as one ends that is to stop at a cut, and can
abbrev pub EndsSo : Bool → (LegJob → Type 0) → LegJob → Type 0
EndsSo false Is job = Is job
EndsSo true Is job = Is job ⊎ ((cut : Cut) × LegRuns (stopping_at cut job) None × Is (stopping_at cut job))

-- what it gives then
abbrev pub IsEndSo : Bool → LegJob → LegEnd → Type 0
IsEndSo asked job end = EndsSo asked (λ leg. IsLegEnd leg end) job

-- what reading the texts of a leg and running it answers, where it may be asked to stop and where not
abbrev pub EndsLeg : Bool → Result LegJob JobFault → Result LegEnd JobFault → Type 0
EndsLeg asked said result = Ends OnThreads LegRuns (IsEndSo asked) said result

-- where the answer is Ok, all is done that a leg does that goes to the end of the input, or all that one does that is
-- to stop at some cut at which it can; else the refusal is the first that the texts give, or one of the job that they
-- say
abbrev pub TellsAskedLeg : {X : Type 0} → (X → LegLeft) → Result LegJob JobFault → Result X JobFault → Option (List ℕ) → Option (List ℕ) → Type 0
TellsAskedLeg view said result old new = Does OnThreads LegRuns (λ job left. EndsSo true (λ leg. IsLegDone old new leg (view left)) job) said result
