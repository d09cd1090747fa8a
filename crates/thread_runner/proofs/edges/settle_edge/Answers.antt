use Rattle.std.proofs.Common.{◌≡◌, ◌<◌, ℕ, List, length, arith, set, ap, subst, length-set, slice_index}
use Rattle.thread_runner.specs.Rings.{LeavesOver}
use Rattle.thread_runner.specs.Edges.{done_outs, done_ins, done_puts, done_takes, done_task, done_put, done_taken, out_to}
use Rattle.thread_runner.proofs.EdgeLemmas.{split_kept, there_front, there_back}
use Rattle.thread_runner.proofs.edges.settle_edge.Goals as goal

pub returns-clause-same : goal.returns-clause-same
returns-clause-same c =
    let s = c.split_at_mut-front in
    let same = c.settle_two.ensures.same in
    let front = s.result.0.now in
    let back = s.result.1.now in
    let d = c.index-front-from.result in
    let e = c.index-back-0.result in (
      split_kept done_outs c.args.dones.now front back _ c.args.from d e c.settle_two.new.from c.settle_two.new.to s.ensures.front s.ensures.back same.0.0 same.1.0,
      split_kept done_ins c.args.dones.now front back _ c.args.from d e c.settle_two.new.from c.settle_two.new.to s.ensures.front s.ensures.back same.0.1 same.1.1,
      split_kept done_puts c.args.dones.now front back _ c.args.from d e c.settle_two.new.from c.settle_two.new.to s.ensures.front s.ensures.back same.0.2 same.1.2,
      split_kept done_takes c.args.dones.now front back _ c.args.from d e c.settle_two.new.from c.settle_two.new.to s.ensures.front s.ensures.back same.0.3 same.1.3,
      split_kept done_task c.args.dones.now front back _ c.args.from d e c.settle_two.new.from c.settle_two.new.to s.ensures.front s.ensures.back same.0.4 same.1.4,
    )

pub returns-clause-left : goal.returns-clause-left
returns-clause-left c =
    let s = c.split_at_mut-front in
    let front = s.result.0.now in
    let back = s.result.1.now in
    let x = c.settle_two.new.from in
    let y = c.settle_two.new.to in
    let to = out_to c.args.layout.now.stages c.args.from c.args.output in
    let is = ap (λ (l : List ℕ). slice_index l c.args.output) c.outputs_of.ensures in
    let front_len = s.ensures.front_len in
    let back_len = s.ensures.back_len in
    let up = c.requires.edge.up in
    let within = c.requires.edge.within in
    let count = c.requires.count in
    let lt : c.args.from < length front = omega (arith, front_len, is, up) in
    let set_len = length-set front c.args.from x in
    let len : length (set front c.args.from x) ≡ to = omega (arith, set_len, front_len, is) in
    let some : 0 < length back = omega (arith, back_len, is, within, count) in
    let here = subst (λ (i : ℕ). LeavesOver (done_put x c.args.output) (done_taken y i) c.settle_two.result) c.input_of-input.ensures c.settle_two.ensures.left in
    rw (there_front done_puts front (set back 0 y) c.args.from x lt, there_back done_takes (set front c.args.from x) back to y len some) here
