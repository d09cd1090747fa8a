use Rattle.std.proofs.Common.{ap, sym, ◌∙◌}
use Rattle.std.specs.Int.RustNames.{int_lt}
use Rattle.window_state.proofs.Openings.{due_before, start_due, undue_is, start_fits, undue_fits}
use Rattle.window_state.proofs.firing.first_undue.Goals as goal

pub overflow_sub-result : goal.overflow_sub-result
overflow_sub-result c = start_fits c.args.w.now c.args.watermark c.requires c.ranges.watermark c.rem_euclid.result c.rem_euclid.ensures.value

pub overflow_add-result : goal.overflow_add-result
overflow_add-result c = undue_fits c.args.w.now c.args.watermark c.requires c.ranges.watermark c.rem_euclid.result c.rem_euclid.ensures.value

pub returns-clause-due : goal.returns-clause-due
returns-clause-due c = λ s h.
    let w = c.args.w.now in
    let mark = c.args.watermark in
    ap (int_lt s) (undue_is w mark c.requires c.ranges.watermark c.rem_euclid.result c.rem_euclid.ensures.value) ∙ due_before w mark s c.requires h

pub returns-clause-starts : goal.returns-clause-starts
returns-clause-starts c = λ s is h.
    let w = c.args.w.now in
    let mark = c.args.watermark in
    start_due w mark s c.requires is (ap (int_lt s) (sym (undue_is w mark c.requires c.ranges.watermark c.rem_euclid.result c.rem_euclid.ensures.value)) ∙ h)
