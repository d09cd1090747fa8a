use Rattle.std.proofs.Common.{◌≡◌, map}
use Rattle.std.specs.List.{All, range_with_len}
use Rattle.gather.specs.Parts.{source_in}
use Rattle.gather.specs.Sources.{AreTyped}
use Rattle.gather.proofs.sources.sources_in.Given as goal

abbrev pub invariant-loop-source : goal.invariant-loop-source
invariant-loop-source l = record {
  says : l.saved.items ≡ map (source_in l.plan l.layout.stages l.parts) (range_with_len 0 l.source);
  typed : All AreTyped l.saved.items;
}
