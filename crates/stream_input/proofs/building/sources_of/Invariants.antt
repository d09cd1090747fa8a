use Rattle.std.proofs.Common.{◌≡◌, map, take}
use Rattle.input_texts.specs.Said.{marked_of, partitions_under}
use Rattle.stream_input.proofs.building.sources_of.Given as goal

abbrev pub invariant-loop-spec : goal.invariant-loop-spec
invariant-loop-spec l = l.sources.items ≡ map (λ s. map (map (marked_of s.bound l.fn.plan.columns l.fn.plan.window.time)) (partitions_under s.uid l.text)) (take l.spec-index l.fn.plan.sources)
