use Rattle.std.proofs.Common.{List, sym, subst}
use Rattle.legs.specs.declared.cut.Cut.{Cut}
use Rattle.legs.specs.Stops.{counts_of}
use Rattle.redistribute.specs.StartData.{offsets_of}
use Rattle.redistribute.specs.Stopping.{CanSaveAt}
use Rattle.core_steps.specs.Ending.{IsEndOf}
use Rattle.thread_runner.specs.Refusal.{IsThreadRefusal}
use Rattle.thread_runner.specs.Stops.{until_of}
use Rattle.job_texts.specs.Fault.{leg_fault}
use Rattle.job.specs.declared.leg.LegRows.{LegRows}
use Rattle.job.specs.Asked.{EndsSo, aims_in, may_ask}
use Rattle.job.specs.Leg.{AreLegRows, GivesLeg, leg_job}
use Rattle.job.proofs.LegAnswers.{err_is}
use Rattle.job.proofs.LegEnds.{can_run, gives, halts}
use Rattle.job.proofs.leg.leg_rows.Goals as goal

pub returns-in_err-finish : goal.returns-in_err-finish
returns-in_err-finish g c =
    let p = c.args.plan.now in
    let i = c.args.input.now in
    let s = c.args.start in
    let aims = c.args.aims in
    let r = c.from_residual in
    let f = c.in_err-finish.field-0.0 in
    let is = λ (given : LegRows). EndsSo (may_ask aims.stop) (λ leg. AreLegRows given.abandoned leg given.rows.items given.savepoint) (leg_job p i s (aims_in aims)) in
    let refused = subst (λ (cuts : List Cut). IsThreadRefusal i.sources (offsets_of s) (counts_of cuts) (until_of aims.stop) f) c.as_slice-saves.ensures c.in_err-finish.ensures.refused in
    subst (GivesLeg is (leg_job p i s (aims_in aims))) (sym (err_is r.result (leg_fault f) r.ensures.0 r.ensures.1)) (halts p i s is aims.saves aims.stop f c.requires.aims refused)

pub returns : goal.returns
returns g c =
    let e = c.in_ok-finish.ensures in
    let p = c.args.plan.now in
    let i = c.args.input.now in
    let s = c.args.start in
    let aims = c.args.aims in
    let same = c.as_slice-saves.ensures in
    let save = subst (λ (cuts : List Cut). CanSaveAt i.sources (offsets_of s) (counts_of cuts) (until_of aims.stop)) same e.saves in
    let ends = subst (λ (cuts : List Cut). IsEndOf p i s (counts_of cuts) (until_of aims.stop) c.in_ok-finish.finish) same e.ends in
    (can_run p i s aims.saves aims.stop e.stops save c.requires.aims, gives p i s aims c.in_ok-finish.finish c.rows_of-given.result c.requires.aims ends c.rows_of-given.ensures c.see.ensures)
