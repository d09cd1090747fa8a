-- What running a leg answers.
use Rattle.std.specs.Prelude.{◌≡◌, ◌+◌, ◌<◌, ℕ, suc, Bool, true, false, List, [], ◌∷◌, length, slice_index_or, Option, Some, None, Result, Ok, Err, option_map, string_bytes}
use Rattle.std.specs.Io.KnownBytes.{Appends}
use Rattle.std.specs.Option.{option_map_or}
use Rattle.answers.specs.Answer.{unless}
use Rattle.plan_model.specs.PlanData.{PlanData}
use Rattle.plan_model.specs.declared.spec.Row.{Row}
use Rattle.plan_model.specs.Rows.{AreRowsOf}
use Rattle.logical_plan.specs.Answer.{plan_of_bytes}
use Rattle.stream_model.specs.InputData.{InputData}
use Rattle.stream_model.specs.Watermarks.{empty_cut}
use Rattle.input_texts.specs.Answer.{input_of_bytes}
use Rattle.dataflow_laws.specs.Inputs.{due_between}
use Rattle.dataflow_laws.specs.Compiled.{cut_to}
use Rattle.plan_scale.specs.Answer.{scale_of_bytes}
use Rattle.savepoint_codec.specs.Layout.{IsSavepoint}
use Rattle.savepoint_codec.specs.declared.savepoint.Contents.{Contents}
use Rattle.savepoint_index.specs.Answer.{savepoint_of_bytes}
use Rattle.savepoint_index.specs.Layout.{savepoint_bytes}
use Rattle.legs.specs.declared.cut.Cut.{Cut}
use Rattle.legs.specs.declared.fault.LegFault.{LegFault}
use Rattle.legs.specs.declared.stop.Stop.{Stop}
use Rattle.legs.specs.declared.stop.Stop.TheVariants.{Never, At}
use Rattle.legs.specs.Stops.{counts_of, until_of}
use Rattle.redistribute.specs.StartData.{StartData, offsets_of}
use Rattle.redistribute.specs.Snapshots.{start_at}
use Rattle.redistribute.specs.Begins.{HasSnapshot}
use Rattle.restore.specs.Answer.{start_or_fault}
use Rattle.leg_tasks.specs.Saved.{IsSavedAt}
use Rattle.core_steps.specs.declared.finish.Finish.{Finish}
use Rattle.core_steps.specs.declared.finish.Finish.TheVariants.{Ended, Stopped, Abandoned}
use Rattle.job_legs.specs.Reached.{rows_of}
use Rattle.job_legs.specs.Running.{CanRunFrom, Forbids}
use Rattle.job.specs.declared.leg.LegEnd.{LegEnd}
use Rattle.job.specs.declared.leg.LegOut.{LegOut}
use Rattle.job.specs.declared.leg.LegRows.{LegRows}
use Rattle.job_texts.specs.declared.fault.JobFault.{JobFault}
use Rattle.job_texts.specs.declared.fault.JobFault.TheVariants as fault
use Rattle.job_texts.specs.declared.fault.JobFault.TheVariants.{Plan, Input, Scale, Save, Restore}
use Rattle.job_texts.specs.Cut.{cut_said, cuts_said}
use Rattle.job_texts.specs.Fault.{is_memory}
use Rattle.job_texts.specs.Text.{IsTextOf}
use Rattle.job.specs.Ends.{and_then, as_job, Does, IsHalted, OnThreads}

-- the cuts at which a leg takes savepoints on its way, and where it stops
pub record LegAims : Type 0 where
  pub saves : List Cut
  pub stop : Stop

-- what the texts of a leg say, but for its scale, which changes no row
pub record LegJob : Type 0 where
  pub plan : PlanData
  pub input : InputData
  pub start : StartData
  pub saves : List Cut
  pub stop : Stop

abbrev pub leg_job : PlanData → InputData → StartData → LegAims → LegJob
leg_job p i s aims = record { plan = p; input = i; start = s; saves = aims.saves; stop = aims.stop }

-- the words that say where a leg takes savepoints on its way and where it stops
pub record LegWords : Type 0 where
  pub saves : Option (List ℕ)
  pub stop : Option (List ℕ)

abbrev pub words : Option (List ℕ) → Option (List ℕ) → LegWords
words saves stop = record { saves = saves; stop = stop }

-- where the leg begins: at the savepoint that the bytes spell, or from nothing
unfoldable pub start_said : PlanData → InputData → Option (List ℕ) → Result StartData JobFault
start_said p i None = Ok (start_at i.sources (empty_cut i.sources) 0)
start_said p i (Some bytes) = and_then (λ s. as_job Restore (start_or_fault p i s)) (as_job Save (savepoint_of_bytes bytes))

-- where it takes savepoints on its way: at the cuts that the word spells, or nowhere
unfoldable pub saves_said : Option (List ℕ) → Result (List Cut) JobFault
saves_said None = Ok []
saves_said (Some word) = option_map_or Ok (cuts_said word) (Err fault.Cut)

-- where it stops: at the cut that the word spells, or never
unfoldable pub stop_said : Option (List ℕ) → Result Stop JobFault
stop_said None = Ok Never
stop_said (Some word) = option_map_or (λ cut. Ok (At cut)) (cut_said word) (Err fault.Cut)

unfoldable pub aims_said : LegWords → Result LegAims JobFault
aims_said words = and_then (λ saves. and_then (λ stop. Ok (record { saves = saves; stop = stop })) (stop_said words.stop)) (saves_said words.saves)

-- with a plan and an input that were read
unfoldable pub job_with : PlanData → InputData → Option (List ℕ) → LegWords → Result LegJob JobFault
job_with p i from words = and_then (λ s. and_then (λ aims. Ok (leg_job p i s aims)) (aims_said words)) (start_said p i from)

-- and with a scale, and with a plan
unfoldable pub leg_on : PlanData → InputData → List ℕ → Option (List ℕ) → LegWords → Result LegJob JobFault
leg_on p i scale from words = and_then (λ c. job_with p i from words) (as_job Scale (scale_of_bytes p scale))

unfoldable pub leg_by : PlanData → List ℕ → List ℕ → Option (List ℕ) → LegWords → Result LegJob JobFault
leg_by p input scale from words = and_then (λ i. leg_on p i scale from words) (as_job Input (input_of_bytes p input))

-- what the texts say, or the first refusal: the plan's, the input's, the scale's, the savepoint's, the cuts'
unfoldable pub leg_said : List ℕ → List ℕ → List ℕ → Option (List ℕ) → LegWords → Result LegJob JobFault
leg_said plan input scale from words = and_then (λ p. leg_by p input scale from words) (as_job Plan (plan_of_bytes plan))

-- the leg can stop as it is to, and take its savepoints on the way there, or why it cannot
abbrev pub LegRuns : LegJob → Option LegFault → Type 0
LegRuns job None = CanRunFrom job.input.sources (offsets_of job.start) (counts_of job.saves) job.stop
LegRuns job (Some fault) = Forbids job.input.sources (offsets_of job.start) (counts_of job.saves) job.stop fault

-- rows are those that become due from the leg's start to a cut, each once, if it starts with the snapshot of its cut
abbrev pub AreRowsTo : LegJob → List (List ℕ) → List Row → Type 0
AreRowsTo job cut rows = HasSnapshot job.plan job.input job.start → AreRowsOf (due_between job.plan job.input.sources (offsets_of job.start) cut) rows

-- and a text has their lines, in the order of start and key
abbrev pub IsTextTo : LegJob → List (List ℕ) → List ℕ → Type 0
IsTextTo job cut text = HasSnapshot job.plan job.input job.start → IsTextOf (due_between job.plan job.input.sources (offsets_of job.start) cut) text

-- where the leg comes to
abbrev pub leg_end : LegJob → List (List ℕ)
leg_end job = cut_to job.input (until_of job.stop)

-- a savepoint that the leg leaves at a cut, after so many others: where it starts with the snapshot of its cut, that of
-- the cut, numbered so
pub record IsLegSavepoint (job : LegJob) (cut : List (List ℕ)) (others : ℕ) (s : Contents) : Type 0 where
  pub sound : IsSavepoint s
  pub saved : HasSnapshot job.plan job.input job.start → IsSavedAt job.plan job.input cut (job.start.number + suc others) s

-- it is left, and no other
abbrev pub IsLeft : LegJob → List (List ℕ) → ℕ → Option Contents → Type 0
IsLeft job cut others None = ⊥
IsLeft job cut others (Some s) = IsLegSavepoint job cut others s

-- at the end of the input the leg leaves the last savepoint of those at these cuts on its way, of which so many stand
-- before them
abbrev pub IsLastOf : LegJob → ℕ → List Cut → Option Contents → Type 0
IsLastOf job others [] saved = saved ≡ None
IsLastOf job others (cut ∷ []) saved = IsLeft job cut.counts others saved
IsLastOf job others (cut ∷ next ∷ cuts) saved = IsLastOf job (suc others) (next ∷ cuts) saved

-- and where it stops at a cut that of the cut, after those on its way
abbrev pub IsSavedBy : LegJob → Stop → Option Contents → Type 0
IsSavedBy job Never saved = IsLastOf job 0 job.saves saved
IsSavedBy job (At cut) saved = IsLeft job cut.counts (length job.saves) saved

-- a leg gives rows and a savepoint: of where it comes to, or where it was given up, those of one of its savepoints on
-- the way
abbrev pub AreLegRows : Bool → LegJob → List Row → Option Contents → Type 0
AreLegRows false job rows saved = AreRowsTo job (leg_end job) rows × IsSavedBy job job.stop saved
AreLegRows true job rows saved = (passed : ℕ) × (passed < length job.saves) × AreRowsTo job (slice_index_or (counts_of job.saves) passed []) rows × IsLeft job (slice_index_or (counts_of job.saves) passed []) passed saved

-- what a leg leaves by how it ended, and whether it was given up
abbrev pub last_saved : Finish → Option Contents
last_saved (Ended rows sealed) = option_map (λ x. x.savepoint) sealed
last_saved (Stopped rows s) = Some s
last_saved (Abandoned x) = Some x.savepoint

abbrev pub is_given_up : Finish → Bool
is_given_up (Ended rows sealed) = false
is_given_up (Stopped rows s) = false
is_given_up (Abandoned x) = true

pub record IsGivenBy (finish : Finish) (given : LegRows) : Type 0 where
  pub rows : given.rows.items ≡ rows_of finish
  pub saved : given.savepoint ≡ last_saved finish
  pub given_up : given.abandoned ≡ is_given_up finish

-- bytes are the spelling of such a savepoint
abbrev pub IsSpelled : (Option Contents → Type 0) → Option (List ℕ) → Type 0
IsSpelled Is bytes = (saved : Option Contents) × (bytes ≡ option_map savepoint_bytes saved) × Is saved

-- what it gives as texts
abbrev pub IsLegTold : Bool → LegJob → List ℕ → Option (List ℕ) → Type 0
IsLegTold false job text bytes = IsTextTo job (leg_end job) text × IsSpelled (IsSavedBy job job.stop) bytes
IsLegTold true job text bytes = (passed : ℕ) × (passed < length job.saves) × IsTextTo job (slice_index_or (counts_of job.saves) passed []) text × IsSpelled (IsLeft job (slice_index_or (counts_of job.saves) passed []) passed) bytes

abbrev pub IsLegEnd : LegJob → LegEnd → Type 0
IsLegEnd job end = IsLegTold end.out.abandoned job (string_bytes end.text) (option_map (λ bytes. bytes.items) end.out.savepoint)

-- a leg gives such a thing, or why it gives nothing
abbrev pub GivesLeg : {X : Type 0} → (X → Type 0) → LegJob → Result X JobFault → Type 0
GivesLeg is job (Ok x) = LegRuns job None × is x
GivesLeg is job (Err fault) = unless (is_memory fault) (IsHalted OnThreads LegRuns job fault)

-- what a leg leaves besides its rows: the bytes of a savepoint, and whether it was given up
pub record LegLeft : Type 0 where
  pub savepoint : Option (List ℕ)
  pub abandoned : Bool

abbrev pub left_in : LegOut → LegLeft
left_in out = record { savepoint = option_map (λ bytes. bytes.items) out.savepoint; abandoned = out.abandoned }

-- the leg's text is written, and it leaves just that
abbrev pub IsLegDone : Option (List ℕ) → Option (List ℕ) → LegJob → LegLeft → Type 0
IsLegDone old new job left = (text : List ℕ) × IsLegTold left.abandoned job text left.savepoint × Appends old new text

-- where the answer is Ok, the leg is done; else the refusal is the first that the texts give, or one of the job that
-- they say
abbrev pub TellsLeg : {X : Type 0} → (X → LegLeft) → Result LegJob JobFault → Result X JobFault → Option (List ℕ) → Option (List ℕ) → Type 0
TellsLeg view said result old new = Does OnThreads LegRuns (λ job left. IsLegDone old new job (view left)) said result
