use Rattle.std.proofs.Common.{◌≡◌, ◌+◌, ◌/◌, ◌<◌, Bool, cond, List, length, take, get_or, [], sym, ap, ◌∙◌, arith}
use lib.Lanes.{chunk}
use Rattle.std.proofs.Math.Seq.{take-add}
use Rattle.std.specs.List.{count_by}
use Rattle.std.proofs.lemmas.List.Sums.{sum_by-append}
use Rattle.lane_kernels.proofs.Chunks.{chunk_at}
use Rattle.lane_kernels.proofs.count.count_true.Goals as goal

pub loop-lanes-preserved : goal.loop-lanes-preserved
loop-lanes-preserved c =
    let xs = c.args.mask.now in
    let i = c.loop-lanes.lanes-index in
    let at = c.loop-lanes.at in
    let n = length xs / 32 in
    let inside : i < n = omega (arith, c.as_chunks.ensures.front_len) in
    let whole : get_or c.as_chunks.result.0.now i [] ≡ chunk at 32 xs =
    ap (λ (ys : List (List Bool)). get_or ys i []) c.as_chunks.ensures.front ∙ chunk_at 32 n i xs inside ∙ ap (λ m. chunk m 32 xs) (sym c.loop-lanes.invariant.far) in
    record {
      far = omega arith;
      counted =
          (λ o. c.loop-lanes.invariant.counted o + (c.count_lanes.ensures ∙ ap (count_by (λ b. b)) whole) o)
          ∙ sym (ap (count_by (λ b. b)) (take-add at 32 xs) ∙ sum_by-append (λ b. cond b 1 0) (take at xs) (chunk at 32 xs));
    }
