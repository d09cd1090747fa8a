use Rattle.std.proofs.Common.{map, length, ap, ◌∙◌}
use Rattle.receipts.proofs.ReadShapes.{read_shape}
use Rattle.receipts.proofs.making.receipt_of.Goals as goal

pub returns-clause-sources : goal.returns-clause-sources
returns-clause-sources c = ap (map (λ partitions. length partitions)) c.in_ok-read_before.ensures ∙ read_shape c.args.input.now.sources c.args.cut.now.counts c.requires.cut ∙ c.requires.belongs.partitions
