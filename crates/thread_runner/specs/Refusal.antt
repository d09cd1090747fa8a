-- Why a leg on threads has no answer.
use Rattle.std.specs.Prelude.{◌≡◌, ◌⊎◌, ℕ, List}
use Rattle.stream_model.specs.declared.entry.Marked.{Marked}
use Rattle.legs.specs.declared.fault.LegFault.{LegFault}
use Rattle.legs.specs.declared.fault.LegFault.TheVariants.{Memory, Threads}
use Rattle.dataflow_model.specs.Leg.{Until}
use Rattle.redistribute.specs.Stopping.{CanGo, CanSaveAt, IsRefusal}

-- for want of memory, or of a thread
abbrev pub IsWant : LegFault → Type 0
IsWant fault = (fault ≡ Memory) ⊎ (fault ≡ Threads)

-- why a leg in one thread has none, or a thread was refused to a leg that can go so far, and take its savepoints on the
-- way
abbrev pub IsThreadRefusal : List (List (List Marked)) → List (List ℕ) → List (List (List ℕ)) → Until → LegFault → Type 0
IsThreadRefusal sources begin saves until fault = IsRefusal sources begin saves until fault ⊎ ((fault ≡ Threads) × CanGo sources begin until × CanSaveAt sources begin saves until)
