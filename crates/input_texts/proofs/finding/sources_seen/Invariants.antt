use Rattle.std.proofs.Common.{◌≡◌, map, take, Some}
use Rattle.input_texts.specs.Seen.{SourceSeen}
use Rattle.input_texts.proofs.finding.sources_seen.Given as goal

abbrev pub invariant-loop-slot : goal.invariant-loop-slot
invariant-loop-slot l = take l.slot-index l.slots ≡ map (λ (source : SourceSeen). Some (Some source)) l.sources.items
