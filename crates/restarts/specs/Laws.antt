-- What a job leaves that is stopped at a cut can be gone on from.
use Rattle.std.specs.Prelude.{◌≡◌, ℕ, ◌<◌, ◌≤◌, ◌^◌, true, List, Result, Ok, Err, FitsSigned}
use Rattle.std.specs.FinMap.{FinMap, get}
use Rattle.std.specs.Int.{w64}
use Rattle.std.specs.List.{All}
use Rattle.plan_model.specs.declared.spec.Pane.{Pane}
use Rattle.plan_model.specs.Aggregates.{Aggregated}
use Rattle.plan_model.specs.PlanData.{PlanData, IsPlan}
use Rattle.plan_model.specs.Rows.{pane_cmp}
use Rattle.savepoint_codec.specs.Layout.{IsSavepoint}
use Rattle.savepoint_codec.specs.declared.savepoint.Contents.{Contents}
use Rattle.stream_model.specs.InputData.{InputData, IsInput, BelongsTo, all_records}
use Rattle.stream_model.specs.Watermarks.{IsCut}
use Rattle.stream_model.specs.PlanRows.{snapshot}
use Rattle.redistribute.specs.StartData.{StartData, offsets_of}
use Rattle.redistribute.specs.Begins.{IsStartIn, HasSnapshot}
use Rattle.redistribute.specs.Snapshots.{saved_sources}
use Rattle.legs.specs.declared.restore_fault.RestoreFault.{RestoreFault}
use Rattle.restore.specs.Answer.{Gives, is_memory, start_of, start_or_fault}
use Rattle.restore.specs.Sound.{IsSoundGroup}
use Rattle.gather.specs.Laws.{HasGroups}
use Rattle.gather.specs.Saved.{savepoint_of}

-- an input of the plan was read up to a cut, and in each pane of the windows stands what the snapshot of the cut has
-- there
pub record IsLeftAt (p : PlanData) (i : InputData) (c : List (List ℕ)) (w : FinMap pane_cmp Aggregated) : Type 0 where
  pub plan : IsPlan p
  pub input : IsInput i
  pub belongs : BelongsTo p i
  pub cut : IsCut i.sources c
  pub windows : (q : Pane) → get w q ≡ snapshot p i.sources c q

-- the savepoint of this number at the cut, with these windows
abbrev pub savepoint_at : PlanData → InputData → List (List ℕ) → FinMap pane_cmp Aggregated → ℕ → Contents
savepoint_at p i cut windows number = savepoint_of p (saved_sources i.sources cut) windows number

-- it meets all that is required of a savepoint that a job of the plan on the input goes on from
abbrev pub SnapshotsPass : Type 0
SnapshotsPass = (p : PlanData) (i : InputData) (cut : List (List ℕ)) (windows : FinMap pane_cmp Aggregated) (number : ℕ) → IsLeftAt p i cut windows → number ≤ 2 ^ 63
    → let s = savepoint_at p i cut windows number in start_or_fault p i s ≡ Ok (start_of p s)

-- a start of the input at the cut, with its snapshot, after the savepoint of this number
pub record IsStartAt (p : PlanData) (i : InputData) (c : List (List ℕ)) (n : ℕ) (d : StartData) : Type 0 where
  pub in_input : IsStartIn p i d
  pub snapshot : HasSnapshot p i d
  pub offsets : offsets_of d ≡ c
  pub number : d.number ≡ n

-- and the start from it is at the cut, with its snapshot
abbrev pub SnapshotsRestart : Type 0
SnapshotsRestart = (p : PlanData) (i : InputData) (cut : List (List ℕ)) (windows : FinMap pane_cmp Aggregated) (number : ℕ) → IsLeftAt p i cut windows → number ≤ 2 ^ 63
    → IsStartAt p i cut number (start_of p (savepoint_at p i cut windows number))

-- what a check may answer from which a job goes on: such a start, or that memory ran out
abbrev pub GoesOn : PlanData → InputData → List (List ℕ) → ℕ → Result StartData RestoreFault → Type 0
GoesOn p i cut number (Ok d) = IsStartAt p i cut number d
GoesOn p i cut number (Err fault) = is_memory fault ≡ true

-- so the check of it answers nothing else
abbrev pub ChecksGoOn : Type 0
ChecksGoOn = (p : PlanData) (i : InputData) (cut : List (List ℕ)) (windows : FinMap pane_cmp Aggregated) (number : ℕ) (answer : Result StartData RestoreFault) → IsLeftAt p i cut windows → number ≤ 2 ^ 63
    → Gives is_memory (λ d. d) answer (start_or_fault p i (savepoint_at p i cut windows number)) → GoesOn p i cut number answer

-- the numbers of an input's records and the counts of a cut have 64 bits, as their types promise
pub record HaveFields (i : InputData) (c : List (List ℕ)) : Type 0 where
  pub numbers : All (λ r. All (FitsSigned w64) r) (all_records i.sources)
  pub counts : All (All (λ n. n < 2 ^ 64)) c

-- and the savepoint has a spelling, so it can be written and read again, and accumulators can be made of its entries
abbrev pub SnapshotsAreSavepoints : Type 0
SnapshotsAreSavepoints = (p : PlanData) (i : InputData) (cut : List (List ℕ)) (windows : FinMap pane_cmp Aggregated) (number : ℕ) → IsLeftAt p i cut windows → HaveFields i cut → 1 ≤ number → number < 2 ^ 64
    → let s = savepoint_at p i cut windows number in IsSavepoint s × All (IsSoundGroup s.kinds) s.groups

-- what stands in the windows of a start that an accepted savepoint gives, whoever made it, can be dealt out and put
-- together again
abbrev pub AcceptedHaveGroups : Type 0
AcceptedHaveGroups = (p : PlanData) (i : InputData) (s : Contents) (d : StartData) → IsSavepoint s → start_or_fault p i s ≡ Ok d → HasGroups p d
