-- A leg of a job: from a start to the end of the input, to a cut, or until a stop is asked for.
use Rattle.std.specs.Prelude.{ℕ, zero, suc, List, [], ◌∷◌, length, slice_index, slice_index_or}
use Rattle.dataflow_model.specs.declared.ending.Ending.{Ending}
use Rattle.dataflow_model.specs.declared.ending.Ending.TheVariants.{AtEnd, AtCut, Asked}

-- the number of its first barrier, how many savepoints are taken while it goes on, how many entries of each source and
-- partition are read until savepoint m is taken, and how it ends
pub record Leg : Type 0 where
  pub first : ℕ
  pub saves : ℕ
  pub limit : ℕ → ℕ → ℕ → ℕ
  pub ending : Ending

-- how far a leg is to go: to the end, to a cut, which has a count of entries for each source and partition, or until it
-- is asked to stop
pub data Until : Type 0 where
  ToEnd : Until
  ToCut : (cut : List (List ℕ)) → Until
  TillAsked : Until

abbrev pub count_at : List (List ℕ) → ℕ → ℕ → ℕ
count_at cut x q = slice_index (slice_index_or cut x []) q

abbrev pub ending_of : Until → Ending
ending_of ToEnd = AtEnd
ending_of (ToCut cut) = AtCut
ending_of TillAsked = Asked

-- how far partition q of source x is read in the end, where it has so many entries
abbrev pub until_at : (ℕ → ℕ → ℕ) → Until → ℕ → ℕ → ℕ
until_at size ToEnd x q = size x q
until_at size (ToCut cut) x q = count_at cut x q
until_at size TillAsked x q = size x q

-- how far until savepoint m is taken, and after the last one
abbrev pub limit_of : (ℕ → ℕ → ℕ) → Until → List (List (List ℕ)) → ℕ → ℕ → ℕ → ℕ
limit_of size until [] m x q = until_at size until x q
limit_of size until (cut ∷ cuts) zero x q = count_at cut x q
limit_of size until (cut ∷ cuts) (suc m) x q = limit_of size until cuts m x q

-- the leg from savepoint n, or from nothing where n is 0, with savepoints at these cuts while it goes on, over
-- partitions of these sizes
abbrev pub leg_of : ℕ → List (List (List ℕ)) → Until → (ℕ → ℕ → ℕ) → Leg
leg_of n saves until size = record { first = suc n; saves = length saves; limit = limit_of size until saves; ending = ending_of until }
