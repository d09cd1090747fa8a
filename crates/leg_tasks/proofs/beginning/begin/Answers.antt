use Rattle.std.proofs.Common.{suc, ◌+◌, ◌^◌, ◌<◌, length, sym, ap, subst, arith}
use Rattle.std.proofs.lemmas.List.{length-map}
use Rattle.layout_rules.specs.Rules.{IsCompiled}
use Rattle.layout_rules.proofs.Facts.{compiled_ever}
use Rattle.task_steps.specs.Beginning.{CanBegin}
use Rattle.legs.specs.declared.cut.Cut.{Cut}
use Rattle.task_setups.specs.Legs.{counts_of, leg_over}
use Rattle.task_setups.specs.Setups.{setup_of}
use Rattle.task_setups.proofs.Facts.{every_task_begins}
use Rattle.leg_tasks.proofs.beginning.begin.Goals as goal

pub new-requires : goal.new-requires
new-requires c =
    let p = c.args.plan.now in
    let stages = c.args.layout.now.stages in
    let leg = leg_over c.args.leg.now c.args.input.now in
    let made = c.requires.laid_out in
    let given = c.args.opening in
    let compiled : IsCompiled p made.scale stages = subst (IsCompiled p made.scale) (sym (ap (λ l. l.stages) made.is)) (compiled_ever p made.scale) in
    let saves = c.args.leg.now.saves.now in
    let many = length-map saves (λ (cut : Cut). cut.counts) in
    let some : 0 < suc c.args.leg.now.number = omega arith in
    let numbers : suc c.args.leg.now.number + length (counts_of saves) < 2 ^ 64 = omega (arith, c.requires.numbers, many) in
    let can = every_task_begins p made.scale leg stages c.args.task given.offsets.items given.marks.items given.window c.columns-columns.ensures.sound made.fits compiled c.requires.task some numbers c.requires.suits in
    subst (λ s. CanBegin s given.offsets.items c.as_slice.result.now given.window) (sym c.in_ok-setup.ensures)
    (subst (λ marks. CanBegin (setup_of p leg stages c.args.task) given.offsets.items marks given.window) (sym c.as_slice.ensures.value) can)
