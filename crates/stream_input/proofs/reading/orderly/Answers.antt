use Rattle.std.proofs.Common.{◌≡◌, ℕ, false, true, Some, None, length, sym}
use Rattle.std.specs.Prelude.{nat_le}
use Rattle.plan_model.specs.declared.limits.TheConstants.{MOST_RECORDS}
use Rattle.stream_model.specs.InputData.{all_records}
use Rattle.stream_model.specs.Late.{first_late}
use Rattle.stream_input.proofs.Sound.{sources_sound, partitions_few, sources_few}
use Rattle.stream_input.proofs.FitAnswers.{late_said, many_said, none_said}
use Rattle.stream_input.proofs.reading.orderly.Goals as goal

pub first_late-requires-clause-sound : goal.first_late-requires-clause-sound
first_late-requires-clause-sound c =
    rw (c.columns-columns.ensures.says, c.window.ensures.says, c.as_slice.ensures, c.requires.1.1) (sources_sound c.args.plan.now c.requires.0 c.columns-columns.ensures.sound c.requires.1.0.timely)

pub first_late-requires-clause-sources_few : goal.first_late-requires-clause-sources_few
first_late-requires-clause-sources_few c = rw (c.as_slice.ensures, c.requires.1.1) (sources_few c.args.plan.now c.requires.0 c.columns-columns.ensures.sound)

pub first_late-requires-clause-partitions_few : goal.first_late-requires-clause-partitions_few
first_late-requires-clause-partitions_few c =
    rw (c.as_slice.ensures, c.requires.1.1) (partitions_few c.args.plan.now c.requires.0 c.columns-columns.ensures.sound c.requires.1.0.counted)

pub returns-in-Some : goal.returns-in-Some
returns-in-Some c = λ text of.
    let place : ℕ × (ℕ × ℕ) = (c.in-Some.source, (c.in-Some.partition, c.in-Some.entry)) in
    let late : first_late c.args.plan.now.window.time c.args.sources ≡ Some place = rw (c.window.ensures.says, c.as_slice.ensures) at (sym c.in-Some.ensures) in
    late_said c.args.plan.now c.args.sources text place of late

pub returns-then-not-is_few : goal.returns-then-not-is_few
returns-then-not-is_few c = λ text of.
    let none : first_late c.args.plan.now.window.time c.args.sources ≡ None = rw (c.window.ensures.says, c.as_slice.ensures) at (sym c.in_default.ensures) in
    let many : nat_le (length (all_records c.args.sources)) MOST_RECORDS ≡ false = rw c.as_slice-2.ensures at (sym c.if-not-is_few.ensures) in
    many_said c.args.plan.now c.args.sources text of none many

pub returns : goal.returns
returns c = λ text of.
    let none : first_late c.args.plan.now.window.time c.args.sources ≡ None = rw (c.window.ensures.says, c.as_slice.ensures) at (sym c.in_default.ensures) in
    let few : nat_le (length (all_records c.args.sources)) MOST_RECORDS ≡ true = rw c.as_slice-2.ensures at (sym c.if-not-is_few.ensures) in
    none_said c.args.plan.now c.args.sources text of none few
