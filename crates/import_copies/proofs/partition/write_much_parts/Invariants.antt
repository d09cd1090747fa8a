use Rattle.std.proofs.Common.{◌≡◌, ℕ, List, Option, map}
use Rattle.entry_texts.specs.Partitions.{Row}
use Rattle.dealt_texts.specs.Texts.{rule_of, dealing_of}
use Rattle.import_copies.specs.Streams.{WritesParts}
use Rattle.import_copies.proofs.partition.write_much_parts.Given as goal

abbrev pub invariant-loop-place : goal.invariant-loop-place
invariant-loop-place g l = record {
  rule : rule_of l.parts ≡ rule_of l.fn.parts;
  dealing : dealing_of l.parts ≡ dealing_of l.fn.parts;
  writes : (rows : List Row) (start : List (Option (List ℕ))) → WritesParts rows start (map g.W.Write.contents l.fn.outs) l.fn.parts
      → WritesParts rows start (map g.W.Write.contents l.outs) l.parts;
}
