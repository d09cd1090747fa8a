-- How far partitions are read until a savepoint is taken.
use Rattle.std.proofs.Common.{◌≡◌, ℕ, zero, suc, ◌<◌, List, [], ◌∷◌, length, get_or, sym, ap, arith}
use Rattle.dataflow_model.specs.Leg.{Until, limit_of, count_at}
use Rattle.legs.specs.declared.cut.Cut.{Cut}
use Rattle.task_setups.specs.Legs.{counts_of}

-- until a savepoint on the way, as far as its cut says
pub at_save : (size : ℕ → ℕ → ℕ) (until : Until) (cuts : List Cut) (m x q : ℕ) (cut : Cut) → m < length cuts → cut ≡ get_or cuts m cut → limit_of size until (counts_of cuts) m x q ≡ count_at cut.counts x q
at_save size until [] m x q cut l is = absurd (omega (arith, l))
at_save size until (c ∷ cuts) zero x q cut l is = ap (λ (d : Cut). count_at d.counts x q) (sym is)
at_save size until (c ∷ cuts) (suc m) x q cut l is = at_save size until cuts m x q cut (omega (arith, l)) is
