use Rattle.std.proofs.Common.{◌<◌, ◌≤◌, ℕ, List, length, arith, ap}
use Rattle.layout_rules.specs.Stages.{outputs_of}
use Rattle.thread_runner.proofs.EdgeLemmas.{settled_more, settled_left, joined_same, few_outputs}
use Rattle.thread_runner.proofs.edges.settle_task.Goals as goal

pub settle_edge-requires-clause-joined : goal.settle_edge-requires-clause-joined
settle_edge-requires-clause-joined c =
    let long = ap (λ (l : List ℕ). length l) c.outputs_of-output-end.ensures in
    let test = c.loop-output-test.true in
    let lt : c.loop-output.output < length (outputs_of c.args.layout.now.stages c.args.from) = omega (arith, long, test) in
    joined_same c.args.layout.now.stages c.args.dones.now c.loop-output.dones c.loop-output.invariant.same c.requires.joined c.args.from c.loop-output.output c.requires.from lt

pub overflow_add-left : goal.overflow_add-left
overflow_add-left c =
    let long = ap (λ (l : List ℕ). length l) c.outputs_of-output-end.ensures in
    let test = c.loop-output-test.true in
    let few = few_outputs c.args.layout.now.stages c.args.from in
    let most = c.task_count-tasks.ensures.few in
    let says = c.task_count-tasks.ensures.says in
    let small = c.loop-output.invariant.small in
    let one = c.settle_edge.ensures.small in
    omega (arith, long, test, few, most, says, small, one)

pub loop-output-preserved : goal.loop-output-preserved
loop-output-preserved c =
    settled_more c.args.layout.now.stages c.args.dones.now c.loop-output.dones c.settle_edge.new.dones c.args.from c.loop-output.output c.loop-output.left c.settle_edge.result c.loop-output.invariant c.settle_edge.ensures.same c.settle_edge.ensures.left c.settle_edge.ensures.small

pub returns-clause-left : goal.returns-clause-left
returns-clause-left c =
    let long = ap (λ (l : List ℕ). length l) c.outputs_of-output-end.ensures in
    let test = c.loop-output-test.false in
    let all : length (outputs_of c.args.layout.now.stages c.args.from) ≤ c.loop-output.output = omega (arith, long, test) in
    settled_left c.args.layout.now.stages c.args.dones.now c.loop-output.dones c.args.from c.loop-output.output c.loop-output.left c.loop-output.invariant all

pub returns-clause-small : goal.returns-clause-small
returns-clause-small c =
    let long = ap (λ (l : List ℕ). length l) c.outputs_of-output-end.ensures in
    let end = c.loop-output.auto.output-end in
    let few = few_outputs c.args.layout.now.stages c.args.from in
    let most = c.task_count-tasks.ensures.few in
    let says = c.task_count-tasks.ensures.says in
    let small = c.loop-output.invariant.small in
    omega (arith, long, end, few, most, says, small)
