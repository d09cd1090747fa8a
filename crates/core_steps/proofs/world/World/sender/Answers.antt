use Rattle.std.proofs.Common.{ℕ, ◌<◌, List, length, get_or, refl, ap, subst, ◌∙◌, arith}
use Rattle.std.proofs.lemmas.Bool.{false≢true}
use Rattle.task_steps.specs.Taking.{IsReady}
use Rattle.dataflow_laws.specs.declared.step.Step.TheVariants.{Take}
use Rattle.core_steps.specs.Rings.{queue_at}
use Rattle.core_steps.specs.World.{world_view}
use Rattle.core_steps.specs.RingSteps.{IsTakeable}
use Rattle.core_steps.proofs.Local.{none_missing}
use Rattle.core_steps.proofs.Refusing.{no_take}
use Rattle.core_steps.proofs.world.World.sender.Goals as goal

pub returns-in_default : goal.returns-in_default
returns-in_default c =
    let few = c.in_default.ensures.lookup.3 in
    let long = ap length c.deref.ensures.value in
    none_missing (Take c.args.task c.args.input) (world_view c.self.inside) c.args.self.now c.self.invariant c.self.view_is (omega (arith, long, few))

pub returns-then-not-can_take : goal.returns-then-not-can_take
returns-then-not-can_take c =
    let l = subst (λ xs. c.args.task < length xs) c.deref.ensures.value c.in-Some.ensures.lookup.3.0 in
    let is = c.in-Some.ensures.lookup.1 ∙ ap (λ xs. get_or xs c.args.task c.in-Some.receiver.now) c.deref.ensures.value in
    no_take (world_view c.self.inside) c.args.self.now c.args.task c.args.input c.in-Some.receiver.now c.self.invariant l is c.self.view_is (λ n. false≢true (c.if-not-can_take.ensures.1 n.ready))

pub returns-in_default-get : goal.returns-in_default-get
returns-in_default-get c =
    let l = subst (λ xs. c.args.task < length xs) c.deref.ensures.value c.in-Some.ensures.lookup.3.0 in
    let is = c.in-Some.ensures.lookup.1 ∙ ap (λ xs. get_or xs c.args.task c.in-Some.receiver.now) c.deref.ensures.value in
    let few = c.in_default-get.ensures.lookup.3 in
    let long = ap (λ (xs : List ℕ). length xs) c.inputs_of-senders.ensures in
    no_take (world_view c.self.inside) c.args.self.now c.args.task c.args.input c.in-Some.receiver.now c.self.invariant l is c.self.view_is (λ n. omega (arith, n.there, few, long))

pub returns-then-len-gt0 : goal.returns-then-len-gt0
returns-then-len-gt0 c = subst (λ w. IsTakeable w c.args.task c.args.input c.in-Some-get.sender.now) c.self.view_is (record {
  task = subst (λ xs. c.args.task < length xs) c.deref.ensures.value c.in-Some.ensures.lookup.3.0;
  ready = λ d. subst (λ x. IsReady x c.args.input) (c.in-Some.ensures.lookup.3.1 d ∙ ap (λ xs. get_or xs c.args.task d) c.deref.ensures.value) (c.if-not-can_take.ensures.0 refl);
  is = c.in-Some-get.ensures.lookup.3.1 0 ∙ ap (λ (xs : List ℕ). get_or xs c.args.input 0) c.inputs_of-senders.ensures;
  some = subst (λ n. 0 < n) c.len.ensures c.if-len-gt0.true;
})

pub returns-else-len-gt0 : goal.returns-else-len-gt0
returns-else-len-gt0 c =
    let l = subst (λ xs. c.args.task < length xs) c.deref.ensures.value c.in-Some.ensures.lookup.3.0 in
    let is = c.in-Some.ensures.lookup.1 ∙ ap (λ xs. get_or xs c.args.task c.in-Some.receiver.now) c.deref.ensures.value in
    let from = c.in-Some-get.ensures.lookup.3.1 0 ∙ ap (λ (xs : List ℕ). get_or xs c.args.input 0) c.inputs_of-senders.ensures in
    let none = c.len.ensures ∙ ap (λ s. length (queue_at c.self.inside.rings s c.args.task).messages) from in
    let empty = c.if-len-gt0.false in
    no_take (world_view c.self.inside) c.args.self.now c.args.task c.args.input c.in-Some.receiver.now c.self.invariant l is c.self.view_is (λ n. omega (arith, n.some, none, empty))
