-- Why legs of a job have no answer, by the way in which they run.
use Rattle.std.proofs.Common.{◌≡◌, ℕ, true, List, [], ◌∷◌, length, Result, Ok, Err, MatchResult, refl, sym, subst, inl, inr}
use Rattle.stream_model.specs.declared.entry.Marked.{Marked}
use Rattle.stream_model.specs.InputData.{InputData}
use Rattle.stream_model.specs.Watermarks.{empty_cut}
use Rattle.dataflow_laws.specs.Compiled.{cut_to}
use Rattle.legs.specs.declared.fault.LegFault.{LegFault}
use Rattle.legs.specs.declared.fault.LegFault.TheVariants as fault
use Rattle.legs.specs.declared.leg.LegSpec.{LegSpec}
use Rattle.legs.specs.declared.stop.Stop.{Stop}
use Rattle.legs.specs.Requirements.{are_legs}
use Rattle.legs.specs.Stops.{counts_of, until_of}
use Rattle.job_legs.specs.Running.{Forbids, ForbidsLegs, IsRunRefusal}
use Rattle.job_legs.specs.Ending.{IsLegsRefusal, IsThreadsRefusal}

-- a fault for which no leg is forbidden to run is none for which legs are
none_so : (i : InputData) (begin : List (List ℕ)) (legs : List LegSpec) (f : LegFault) → ((sources : List (List (List Marked))) (begin : List (List ℕ)) (saves : List (List (List ℕ))) (stop : Stop) → Forbids sources begin saves stop f → ⊥) → ForbidsLegs i begin legs f → ⊥
none_so i begin [] f none forbids = forbids
none_so i begin (leg ∷ legs) f none (inl forbids) = none i.sources begin (counts_of leg.saves) leg.stop forbids
none_so i begin (leg ∷ legs) f none (inr later) = none_so i (cut_to i (until_of leg.stop)) legs f none later.1

-- a list that cannot run is refused as one that cannot
forbidden : (i : InputData) (legs : List LegSpec) (lists : ℕ) (f : LegFault) → are_legs legs ≡ true → lists ≡ length legs → ForbidsLegs i (empty_cut i.sources) legs f → IsLegsRefusal i legs lists f
forbidden i legs lists f list each forbids = by_fault f forbids
  where
    by_fault : (f : LegFault) → ForbidsLegs i (empty_cut i.sources) legs f → IsLegsRefusal i legs lists f
    by_fault fault.StopRange forbids = (list, each, forbids)
    by_fault fault.SaveRange forbids = (list, each, forbids)
    by_fault fault.Memory forbids = absurd (none_so i (empty_cut i.sources) legs fault.Memory (λ sources begin saves stop h. h) forbids)
    by_fault fault.Legs forbids = absurd (none_so i (empty_cut i.sources) legs fault.Legs (λ sources begin saves stop h. h) forbids)
    by_fault fault.NotJson forbids = absurd (none_so i (empty_cut i.sources) legs fault.NotJson (λ sources begin saves stop h. h) forbids)
    by_fault fault.Member forbids = absurd (none_so i (empty_cut i.sources) legs fault.Member (λ sources begin saves stop h. h) forbids)
    by_fault fault.Choices forbids = absurd (none_so i (empty_cut i.sources) legs fault.Choices (λ sources begin saves stop h. h) forbids)
    by_fault fault.Threads forbids = absurd (none_so i (empty_cut i.sources) legs fault.Threads (λ sources begin saves stop h. h) forbids)
    by_fault (fault.Scale place f) forbids = absurd (none_so i (empty_cut i.sources) legs (fault.Scale place f) (λ sources begin saves stop h. h) forbids)

module _ {X : Type 0} (Q : X → Type 0) (i : InputData) (legs : List LegSpec) (list : are_legs legs ≡ true) where
  pub by_choices : (lists : ℕ) → lists ≡ length legs → (result : Result X LegFault) → MatchResult result Q (IsRunRefusal (λ fault. ⊥) i legs) → MatchResult result Q (IsLegsRefusal i legs lists)
  by_choices lists each (Ok end) is = is
  by_choices lists each (Err f) (inl forbids) = forbidden i legs lists f list each forbids
  by_choices lists each (Err f) (inr (inl memory)) = subst (IsLegsRefusal i legs lists) (sym memory) (list, each)
  by_choices lists each (Err f) (inr (inr none)) = absurd none

  on_threads : (f : LegFault) → ForbidsLegs i (empty_cut i.sources) legs f → IsThreadsRefusal i legs f
  on_threads fault.StopRange forbids = (list, refl, forbids)
  on_threads fault.SaveRange forbids = (list, refl, forbids)
  on_threads fault.Memory forbids = (list, refl)
  on_threads fault.Legs forbids = forbidden i legs (length legs) fault.Legs list refl forbids
  on_threads fault.NotJson forbids = forbidden i legs (length legs) fault.NotJson list refl forbids
  on_threads fault.Member forbids = forbidden i legs (length legs) fault.Member list refl forbids
  on_threads fault.Choices forbids = forbidden i legs (length legs) fault.Choices list refl forbids
  on_threads fault.Threads forbids = list
  on_threads (fault.Scale place f) forbids = forbidden i legs (length legs) (fault.Scale place f) list refl forbids

  pub in_threads : (result : Result X LegFault) → MatchResult result Q (IsRunRefusal (λ f. f ≡ fault.Threads) i legs) → MatchResult result Q (IsThreadsRefusal i legs)
  in_threads (Ok end) is = is
  in_threads (Err f) (inl forbids) = on_threads f forbids
  in_threads (Err f) (inr (inl memory)) = subst (IsThreadsRefusal i legs) (sym memory) (list, refl)
  in_threads (Err f) (inr (inr threads)) = subst (IsThreadsRefusal i legs) (sym threads) list
