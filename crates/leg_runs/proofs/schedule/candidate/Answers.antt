use Rattle.std.proofs.Common.{◌-◌, length, refl, arith}
use Rattle.leg_runs.proofs.Candidates.{read_is, save_is, stop_is, close_is, take_is, put_is}
use Rattle.leg_runs.proofs.schedule.candidate.Goals as goal

pub returns-in-Some : goal.returns-in-Some
returns-in-Some c within =
    let some = c.if-number-eq0.false in
    let q = c.in-Some.partition.now in
    read_is c.args.layout.now c.args.task c.args.number q q c.partitions_of-partitions.result.now c.partitions_of-partitions.ensures (omega (arith, some)) c.in-Some.ensures.lookup.3.0 (c.in-Some.ensures.lookup.3.1 q)

pub returns-in-0 : goal.returns-in-0
returns-in-0 c within =
    let some = c.if-number-eq0.false in
    save_is c.args.layout.now c.args.task c.args.number c.partitions_of-partitions.result.now c.partitions_of-partitions.ensures (omega (arith, some)) c.in_default.ensures.lookup.3 c.in-0.is

pub returns-in-1 : goal.returns-in-1
returns-in-1 c within =
    let some = c.if-number-eq0.false in
    stop_is c.args.layout.now c.args.task c.args.number c.partitions_of-partitions.result.now c.partitions_of-partitions.ensures (omega (arith, some)) c.in_default.ensures.lookup.3 c.in-1.is

pub returns-in-2 : goal.returns-in-2
returns-in-2 c within =
    let some = c.if-number-eq0.false in
    close_is c.args.layout.now c.args.task c.args.number c.partitions_of-partitions.result.now c.partitions_of-partitions.ensures (omega (arith, some)) c.in_default.ensures.lookup.3 c.in-2.is

pub returns-in_default-2 : goal.returns-in_default-2
returns-in_default-2 c within =
    let later = c.args.number - 1 - length c.partitions_of-partitions.result.now - 3 in
    take_is c.args.layout.now c.args.task c.args.number later c.partitions_of-partitions.result.now c.inputs_of-inputs.result.now c.partitions_of-partitions.ensures c.inputs_of-inputs.ensures
    (let some = c.if-number-eq0.false in let past = c.in_default.ensures.lookup.3 in let none = c.in_default-2 in grind (arith, some, past, none)) refl c.if-later-inputs.true

pub returns-in_default-2-2 : goal.returns-in_default-2-2
returns-in_default-2-2 c within =
    put_is c.args.layout.now c.args.task c.args.number c.partitions_of-partitions.result.now c.inputs_of-inputs.result.now c.partitions_of-partitions.ensures c.inputs_of-inputs.ensures
    (let some = c.if-number-eq0.false in let past = c.in_default.ensures.lookup.3 in let none = c.in_default-2 in let last = c.if-later-inputs.false in grind (arith, some, past, none, last)) within
