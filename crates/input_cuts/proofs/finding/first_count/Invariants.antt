use Rattle.std.proofs.Common.{◌≡◌, ℕ, ◌<◌, ◌<ℤ◌, length}
use Rattle.stream_model.specs.Watermarks.{partition_watermark}
use Rattle.input_cuts.proofs.finding.first_count.Given as goal

abbrev pub invariant-loop-place : goal.invariant-loop-place
invariant-loop-place l = record {
  before : l.place < length l.entries → l.before ≡ partition_watermark l.entries l.place;
  first : (m : ℕ) → m < l.place → partition_watermark l.entries m <ℤ l.watermark;
}
