-- The laws of inputs that agree before a cut.
use Rattle.std.specs.Prelude.{◌≡◌, ℕ, List, [], length, map, slice_index_or}
use Rattle.plan_model.specs.PlanData.{PlanData, IsPlan}
use Rattle.stream_model.specs.InputData.{InputData, IsInput, BelongsTo, partition_at}
use Rattle.stream_model.specs.Watermarks.{IsBefore, IsCut, IsOrderly}
use Rattle.input_changes.specs.Agreement.{AgreeBefore, AreSameAt, GoOn, HaveSameEntries, HaveSameWatermarks}

-- where they agree before a cut, all is the same there that a job has come to
abbrev pub AgreeingAreSame : Type 0
AgreeingAreSame = (plan : PlanData) (old new : InputData) (cut : List (List ℕ)) → IsOrderly plan.window.time old.sources → IsOrderly plan.window.time new.sources → AgreeBefore old new cut → AreSameAt plan old new cut

-- they agree before each earlier cut too
abbrev pub AgreeEarlier : Type 0
AgreeEarlier = (old new : InputData) (b c : List (List ℕ)) → IsBefore b c → AgreeBefore old new c → AgreeBefore old new b

-- an input agrees with itself before each of its cuts
abbrev pub AgreeThemselves : Type 0
AgreeThemselves = (i : InputData) (cut : List (List ℕ)) → IsCut i.sources cut → AgreeBefore i i cut

-- and with each that goes on in any way behind the cut, but where a partition ends there
abbrev pub GoingOnAgrees : Type 0
GoingOnAgrees = (old new : InputData) (cut : List (List ℕ)) → old.columns ≡ new.columns → old.time ≡ new.time → GoOn old.sources new.sources cut → AgreeBefore old new cut

-- a partition that ends at a cut goes on in no input that agrees there
abbrev pub EndedStay : Type 0
EndedStay = (old new : InputData) (cut : List (List ℕ)) (source partition : ℕ) → IsInput new → AgreeBefore old new cut → let count = slice_index_or (slice_index_or cut source []) partition 0 in
    count ≡ length (partition_at old.sources source partition) → partition_at new.sources source partition ≡ partition_at old.sources source partition

-- a cut of one input is one of each other with the same entries before it, in as many partitions of as many sources
abbrev pub EntriesKeepTheCut : Type 0
EntriesKeepTheCut = (old new : InputData) (cut : List (List ℕ)) → map (λ s. length s) old.sources ≡ map (λ s. length s) new.sources → IsCut old.sources cut → HaveSameEntries old new cut → IsCut new.sources cut

-- the same entries before a cut do not do, whatever holds of plans and inputs that are read besides: what is due there
-- is not always the same
abbrev pub WatermarksAreNeeded : Type 0
WatermarksAreNeeded = ((plan : PlanData) (old new : InputData) (cut : List (List ℕ)) → IsPlan plan → IsInput old → IsInput new → BelongsTo plan old → BelongsTo plan new → IsOrderly plan.window.time old.sources → IsOrderly plan.window.time new.sources
    → IsCut old.sources cut → IsCut new.sources cut → HaveSameEntries old new cut → AreSameAt plan old new cut) → ⊥

-- nor do the same watermarks there
abbrev pub EntriesAreNeeded : Type 0
EntriesAreNeeded = ((plan : PlanData) (old new : InputData) (cut : List (List ℕ)) → IsPlan plan → IsInput old → IsInput new → BelongsTo plan old → BelongsTo plan new → IsOrderly plan.window.time old.sources → IsOrderly plan.window.time new.sources
    → IsCut old.sources cut → IsCut new.sources cut → HaveSameWatermarks old new cut → AreSameAt plan old new cut) → ⊥
