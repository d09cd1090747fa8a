use Rattle.std.proofs.Common.{◌≡◌, map, take}
use Rattle.restore.specs.Saved.{saved_under}
use Rattle.restore.proofs.saved.saved_sources.Given as goal

abbrev pub invariant-loop-spec : goal.invariant-loop-spec
invariant-loop-spec l = l.saved.items ≡ map (λ s. saved_under s.uid l.sources) (take l.spec-index l.specs)
