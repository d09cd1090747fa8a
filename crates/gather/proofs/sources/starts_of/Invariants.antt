use Rattle.std.proofs.Common.{◌≡◌}
use Rattle.std.specs.List.{flat_map, range_with_len}
use Rattle.gather.specs.Parts.{starts_at}
use Rattle.gather.proofs.sources.starts_of.Given as goal

abbrev pub invariant-loop-task : goal.invariant-loop-task
invariant-loop-task l = l.starts.items ≡ flat_map (starts_at l.layout.stages l.parts l.source) (range_with_len 0 l.task)
