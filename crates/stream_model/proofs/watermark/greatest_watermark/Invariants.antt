use Rattle.std.proofs.Common.{◌≡◌}
use Rattle.stream_model.proofs.LateRecords.{watermark_before}
use Rattle.stream_model.proofs.watermark.greatest_watermark.Given as goal

abbrev pub invariant-loop-entry : goal.invariant-loop-entry
invariant-loop-entry l = l.watermark ≡ watermark_before l.entries l.entry-index
