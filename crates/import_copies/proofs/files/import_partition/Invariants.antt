use Rattle.std.proofs.Common.{◌≡◌, map}
use Rattle.import_copies.specs.Copies.{CopiesRows}
use Rattle.known_records.specs.Known.{keys_in}
use Rattle.import_copies.specs.Streams.{rule_of, dealing_of}
use Rattle.import_copies.proofs.files.import_partition.Given as goal

abbrev pub invariant-loop-file : goal.invariant-loop-file
invariant-loop-file g l = record {
  rule : rule_of l.partition ≡ l.rule.entries;
  dealing : dealing_of l.partition ≡ l.rule.dealing;
  sorts : CopiesRows l.rule.entries (keys_in l.fn.known) (map g.W.Write.contents l.fn.outs) (map g.W.Write.contents l.outs) l.known l.partition;
}
