-- How far a leg can go, and where it can take savepoints while it goes on.
use Rattle.std.specs.Prelude.{◌≡◌, ◌⊎◌, ℕ, ◌≤◌, List, [], ◌∷◌, length}
use Rattle.std.specs.List.{AllByRecursion}
use Rattle.stream_model.specs.declared.entry.Marked.{Marked}
use Rattle.stream_model.specs.Watermarks.{IsCut, IsBefore}
use Rattle.dataflow_model.specs.Leg.{Until}
use Rattle.dataflow_model.specs.Leg.Until.{ToEnd, ToCut, TillAsked}
use Rattle.legs.specs.declared.fault.LegFault.{LegFault}
use Rattle.legs.specs.declared.fault.LegFault.TheVariants.{StopRange, SaveRange, Memory}
use Rattle.legs.specs.declared.limits.TheConstants.{MOST_SAVES}
use Rattle.legs.specs.declared.stop.Stop.{Stop}
use Rattle.legs.specs.Stops.{until_of}

-- a leg over these sources that begins at a cut can go so far: a cut is one of the sources that is no earlier, and to
-- the end, or until it is asked to stop, every leg can go
abbrev pub CanGo : List (List (List Marked)) → List (List ℕ) → Until → Type 0
CanGo sources begin ToEnd = Unit {0}
CanGo sources begin (ToCut cut) = IsCut sources cut × IsBefore begin cut
CanGo sources begin TillAsked = Unit {0}

-- it can stop so
abbrev pub CanStop : List (List (List Marked)) → List (List ℕ) → Stop → Type 0
CanStop sources begin stop = CanGo sources begin (until_of stop)

-- cuts of which each counts no fewer entries of a partition than the one before, and the first no fewer than this one
abbrev pub Rises : List (List ℕ) → List (List (List ℕ)) → Type 0
Rises begin [] = Unit {0}
Rises begin (cut ∷ cuts) = IsBefore begin cut × Rises cut cuts

-- a leg over these sources that begins at a cut and is to go so far can take savepoints at these cuts while it goes on:
-- they are few, each is one of the sources, they rise, none is past where it stops, and there is none where it may be
-- asked to stop
pub record CanSaveAt (sources : List (List (List Marked))) (begin : List (List ℕ)) (saves : List (List (List ℕ))) (until : Until) : Type 0 where
  pub few : length saves ≤ MOST_SAVES
  pub cuts : AllByRecursion (IsCut sources) saves
  pub rises : Rises begin saves
  pub before : (end : List (List ℕ)) → until ≡ ToCut end → AllByRecursion (λ save. IsBefore save end) saves
  pub asked : until ≡ TillAsked → saves ≡ []

-- why a leg has no answer that begins at a cut: it cannot go so far, or else it cannot take savepoints at these cuts on
-- its way, and otherwise only for want of memory
abbrev pub IsRefusal : List (List (List Marked)) → List (List ℕ) → List (List (List ℕ)) → Until → LegFault → Type 0
IsRefusal sources begin saves until fault =
    ((fault ≡ StopRange) × ¬ CanGo sources begin until) ⊎ ((fault ≡ SaveRange) × CanGo sources begin until × ¬ CanSaveAt sources begin saves until) ⊎ ((fault ≡ Memory) × CanGo sources begin until × CanSaveAt sources begin saves until)
