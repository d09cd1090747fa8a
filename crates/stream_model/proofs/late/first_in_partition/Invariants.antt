use Rattle.std.proofs.Common.{◌≡◌, ◌-◌, length}
use Rattle.std.specs.List.{find, range_with_len}
use Rattle.stream_model.specs.Late.{is_late_at, first_late_entry}
use Rattle.stream_model.proofs.LateRecords.{watermark_before}
use Rattle.stream_model.proofs.late.first_in_partition.Given as goal

abbrev pub invariant-loop-place : goal.invariant-loop-place
invariant-loop-place l =
    (l.watermark ≡ watermark_before l.entries l.place)
    × (find (is_late_at l.time l.entries) (range_with_len l.place (length l.entries - l.place)) ≡ first_late_entry l.time l.entries)
