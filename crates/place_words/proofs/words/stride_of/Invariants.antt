use Rattle.std.proofs.Common.{◌≡◌, ◌+◌, map, drop}
use Rattle.aggregates.specs.Kinds.{kind_of}
use Rattle.place_words.specs.Words.{width, stride}
use Rattle.place_words.proofs.words.stride_of.Given as goal

abbrev pub invariant-loop-aggregate : goal.invariant-loop-aggregate
invariant-loop-aggregate l = l.stride + width (map kind_of (drop l.aggregate-index l.aggregates)) ≡ stride (map kind_of l.aggregates)
