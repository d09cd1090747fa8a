use Rattle.std.proofs.Common.{◌≡◌, true, false, length, sym, ◌∙◌, to_z-of_z, w64}
use Rattle.stream_model.specs.Late.{is_late_at}
use Rattle.stream_model.proofs.LateRecords.{late_here, watermark_more, goes_past, finds}
use Rattle.stream_model.proofs.late.first_in_partition.Goals as goal

pub returns-then-is_late : goal.returns-then-is_late
returns-then-is_late c =
    let entries = c.args.entries.now in
    let place = c.loop-place.place in
    let is_late : is_late_at c.args.time entries place ≡ true =
    late_here c.args.time entries place c.index-entries-place.result _ c.loop-place-test.true c.index-entries-place.is c.loop-place.invariant.0 ∙ sym c.is_late.ensures ∙ c.if-is_late.true in
    sym (finds (is_late_at c.args.time entries) place (length entries) c.loop-place-test.true is_late) ∙ c.loop-place.invariant.1

pub loop-place-preserved : goal.loop-place-preserved
loop-place-preserved c =
    let entries = c.args.entries.now in
    let place = c.loop-place.place in
    let in_time : is_late_at c.args.time entries place ≡ false =
    late_here c.args.time entries place c.index-entries-place.result _ c.loop-place-test.true c.index-entries-place.is c.loop-place.invariant.0 ∙ sym c.is_late.ensures ∙ c.if-is_late.false in (
      to_z-of_z {w = w64} {z = c.watermark_after-watermark.result} (record { sfits = c.watermark_after-watermark.type_inv }) ∙ c.watermark_after-watermark.ensures
          ∙ watermark_more entries place c.index-entries-place.result _ c.loop-place-test.true c.index-entries-place.is c.loop-place.invariant.0,
      sym (goes_past (is_late_at c.args.time entries) place (length entries) c.loop-place-test.true in_time) ∙ c.loop-place.invariant.1,
    )
