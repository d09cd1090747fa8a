use Rattle.std.proofs.Common.{◌≡◌, map, take}
use Rattle.plan_model.specs.Windows.{passes}
use Rattle.filtering.proofs.mask_of.Given as goal

abbrev pub invariant-loop-filter : goal.invariant-loop-filter
invariant-loop-filter l = l.mask.items ≡ map (passes (take l.filter-index l.filters)) l.batch.rows
