use Rattle.std.proofs.Common.{◌≡◌, map}
use Rattle.gather.specs.Saved.{saved_source}
use Rattle.gather.proofs.sources.saved_under.Given as goal

abbrev pub invariant-loop-uid : goal.invariant-loop-uid
invariant-loop-uid l = l.saved.items ≡ map (saved_source l.plan l.sources) (map (λ uid. uid.now) (map (λ uid. uid.now) l.yielded))
