use Rattle.std.proofs.Common.{ℕ, ◌<◌, List, length, get_or, ap, sym, subst, ◌∙◌, arith}
use Rattle.task_steps.specs.Puts.{IsFirst}
use Rattle.task_steps.specs.TaskData.{TaskData}
use Rattle.layout_rules.specs.Stages.{outputs_of}
use Rattle.dataflow_laws.specs.declared.step.Step.TheVariants.{Put}
use Rattle.core_steps.specs.Rings.{queue_at}
use Rattle.core_steps.specs.World.{world_view}
use Rattle.core_steps.specs.RingSteps.{IsPuttable}
use Rattle.core_steps.proofs.Local.{none_missing}
use Rattle.core_steps.proofs.Refusing.{no_put, one_first, receiver_there}
use Rattle.core_steps.proofs.world.World.receiver.Goals as goal

pub returns-in_default : goal.returns-in_default
returns-in_default c =
    let few = c.in_default.ensures.lookup.3 in
    let long = ap length c.deref.ensures.value in
    none_missing (Put c.args.task) (world_view c.self.inside) c.args.self.now c.self.invariant c.self.view_is (omega (arith, long, few))

pub returns-in_default-pending : goal.returns-in_default-pending
returns-in_default-pending c =
    let l = subst (λ xs. c.args.task < length xs) c.deref.ensures.value c.in-Some.ensures.lookup.3.0 in
    let is = c.in-Some.ensures.lookup.1 ∙ ap (λ xs. get_or xs c.args.task c.in-Some.sender.now) c.deref.ensures.value in
    no_put (world_view c.self.inside) c.args.self.now c.args.task c.in-Some.sender.now l is c.self.view_is (λ j first there room. subst (IsFirst j) c.in_default-pending.ensures first)

pub returns-in_default-get : goal.returns-in_default-get
returns-in_default-get c =
    let l = subst (λ xs. c.args.task < length xs) c.deref.ensures.value c.in-Some.ensures.lookup.3.0 in
    let is = c.in-Some.ensures.lookup.1 ∙ ap (λ xs. get_or xs c.args.task c.in-Some.sender.now) c.deref.ensures.value in
    let few = c.in_default-get.ensures.lookup.3 in
    let long = ap (λ (xs : List ℕ). length xs) c.outputs_of-receivers.ensures in
    no_put (world_view c.self.inside) c.args.self.now c.args.task c.in-Some.sender.now l is c.self.view_is (λ j first there room. (let same = one_first j c.in-Some-pending.output c.in-Some.sender.now.state.pending first c.in-Some-pending.ensures in omega (arith, there, few, long, same)))

pub len-requires : goal.len-requires
len-requires c =
    let there = subst (λ (xs : List ℕ). c.in-Some-pending.output < length xs) c.outputs_of-receivers.ensures c.in-Some-get.ensures.lookup.3.0 in
    let to = c.in-Some-get.ensures.lookup.3.1 0 ∙ ap (λ (xs : List ℕ). get_or xs c.in-Some-pending.output 0) c.outputs_of-receivers.ensures in
    subst (λ n. n < c.self.inside.rings.tasks) (sym to) (receiver_there (world_view c.self.inside) c.args.task c.in-Some-pending.output c.self.invariant there)

pub returns-then-len-ring : goal.returns-then-len-ring
returns-then-len-ring c =
    let room = c.if-len-ring.true in
    let count = c.len.ensures in
    let capacity = c.ring.ensures.says in
    subst (λ w. IsPuttable w c.args.task c.in-Some-get.receiver.now) c.self.view_is (record {
      task = subst (λ xs. c.args.task < length xs) c.deref.ensures.value c.in-Some.ensures.lookup.3.0;
      output = c.in-Some-pending.output;
      first = λ d. subst (λ (x : TaskData). IsFirst c.in-Some-pending.output x.state.pending) (c.in-Some.ensures.lookup.3.1 d ∙ ap (λ xs. get_or xs c.args.task d) c.deref.ensures.value) c.in-Some-pending.ensures;
      there = subst (λ (xs : List ℕ). c.in-Some-pending.output < length xs) c.outputs_of-receivers.ensures c.in-Some-get.ensures.lookup.3.0;
      is = c.in-Some-get.ensures.lookup.3.1 0 ∙ ap (λ (xs : List ℕ). get_or xs c.in-Some-pending.output 0) c.outputs_of-receivers.ensures;
      room = omega (arith, room, count, capacity);
    })

pub returns-else-len-ring : goal.returns-else-len-ring
returns-else-len-ring c =
    let l = subst (λ xs. c.args.task < length xs) c.deref.ensures.value c.in-Some.ensures.lookup.3.0 in
    let is = c.in-Some.ensures.lookup.1 ∙ ap (λ xs. get_or xs c.args.task c.in-Some.sender.now) c.deref.ensures.value in
    let to = c.in-Some-get.ensures.lookup.3.1 0 ∙ ap (λ (xs : List ℕ). get_or xs c.in-Some-pending.output 0) c.outputs_of-receivers.ensures in
    let count = c.len.ensures ∙ ap (λ u. length (queue_at c.self.inside.rings c.args.task u).messages) to in
    let full = c.if-len-ring.false in
    let capacity = c.ring.ensures.says in
    no_put (world_view c.self.inside) c.args.self.now c.args.task c.in-Some.sender.now l is c.self.view_is (λ j first there room. (
    let same = one_first c.in-Some-pending.output j c.in-Some.sender.now.state.pending c.in-Some-pending.ensures first in
    let count' = count ∙ ap (λ i. length (queue_at c.self.inside.rings c.args.task (get_or (outputs_of c.self.inside.given.layout.now.stages c.args.task) i 0)).messages) same in
    omega (arith, room, count', full, capacity)))
