use Rattle.std.proofs.Common.{◌<◌, ◌≤◌, ℕ, List, [], length, arith, ap, sym, subst, slice_index}
use Rattle.dataflow_model.specs.declared.message.Message.{Message}
use Rattle.layout_rules.specs.Stages.{outputs_of}
use Rattle.thread_runner.specs.Rings.{RingName, ring_of, ring_at}
use Rattle.thread_runner.specs.Edges.{out_to}
use Rattle.thread_runner.specs.Legs.{GivesSender, GivesReceiver}
use Rattle.thread_runner.proofs.WireLemmas.{wiring_more, wiring_next}
use Rattle.thread_runner.proofs.wiring.wire_task.Goals as goal

pub loop-to-preserved : goal.loop-to-preserved
loop-to-preserved c = λ first w.
    (let stages = c.args.layout.now.stages in
    let o = c.loop-to.to-index in
    let outs = c.outputs_of-to-items.ensures in
    let long = ap (λ (l : List ℕ). length l) outs in
    let test = c.loop-to-test.true in
    let small : o < length (outputs_of stages c.args.task) = omega (arith, long, test) in
    let made = c.in_ok-sender.ensures in
    let s = c.in_ok-sender.sender in
    let r = c.in_ok-sender.receiver in
    let send : GivesSender c.loop-to.jobs c.give_sender.new.jobs c.args.task (ring_of s) [] =
    subst (λ (p : List Message). GivesSender c.loop-to.jobs c.give_sender.new.jobs c.args.task (ring_of s) p) made.empty.0 c.in_ok-give_sender.ensures in
    let recv : GivesReceiver c.give_sender.new.jobs c.give_receiver.new.jobs (out_to stages c.args.task o) (ring_of s) [] =
    subst (λ (l : List ℕ). GivesReceiver c.give_sender.new.jobs c.give_receiver.new.jobs (slice_index l o) (ring_of s) []) outs
    (subst (λ (n : RingName). GivesReceiver c.give_sender.new.jobs c.give_receiver.new.jobs (slice_index c.outputs_of-to-items.result.now o) n []) (sym made.pair)
    (subst (λ (p : List Message). GivesReceiver c.give_sender.new.jobs c.give_receiver.new.jobs (slice_index c.outputs_of-to-items.result.now o) (ring_at r) p) made.empty.1 c.in_ok-give_receiver.ensures)) in
    wiring_more stages first c.loop-to.jobs c.give_sender.new.jobs c.give_receiver.new.jobs c.args.task o (ring_of s) (c.loop-to.invariant first w) (c.requires.edges c.args.task o c.requires.task small) small send recv)

pub returns : goal.returns
returns c = λ first w.
    (let stages = c.args.layout.now.stages in
    let long = ap (λ (l : List ℕ). length l) c.outputs_of-to-items.ensures in
    let test = c.loop-to-test.false in
    let all : length (outputs_of stages c.args.task) ≤ c.loop-to.to-index = omega (arith, long, test) in
    wiring_next stages first c.loop-to.jobs c.args.task c.loop-to.to-index c.requires.task c.requires.edges c.requires.rings all (c.loop-to.invariant first w))
