use Rattle.std.proofs.Common.{length, map, sym, ap, ◌∙◌}
use Rattle.receipts.proofs.ReadShapes.{read_shape}
use Rattle.receipts.proofs.checking.check_input.Goals as goal

-- both have the partitions of the plan
pub check_entries-requires-clause-partitions : goal.check_entries-requires-clause-partitions
check_entries-requires-clause-partitions c =
    ap (map (λ counted. length counted)) c.as_slice-told.ensures ∙ c.requires.sources ∙ sym c.requires.belongs.partitions ∙ sym (read_shape c.args.input.now.sources c.args.cut.now.counts c.requires.cut)
    ∙ sym (ap (map (λ counted. length counted)) (c.as_slice.ensures ∙ c.in_ok-read.ensures))
