use Rattle.std.proofs.Common.{◌≡◌, ℕ, ◌+◌, ◌/◌, ◌<◌, ◌≤◌, List, length, map, take, get_or, [], ◌++◌, sym, ap, ◌∙◌, arith}
use lib.Lanes.{chunk}
use Rattle.std.proofs.Math.Seq.{take-add}
use Rattle.std.proofs.lemmas.List.{map-append, length-map}
use Rattle.std.proofs.lemmas.Simd.{take_more_put_chunk, length-chunk}
use Rattle.lane_kernels.specs.Mix.{murmur_hash}
use Rattle.lane_kernels.proofs.Chunks.{chunk_at}
use Rattle.lane_kernels.proofs.mix.mix_into.Goals as goal

pub loop-lanes-preserved : goal.loop-lanes-preserved
loop-lanes-preserved c =
    let xs = c.args.codes.now in
    let i = c.loop-lanes.lanes-index in
    let at = c.loop-lanes.at in
    let n = length xs / 8 in
    let inside : i < n = omega (arith, c.as_chunks.ensures.front_len) in
    let room : at + 8 ≤ length xs = omega arith in
    let whole : get_or c.as_chunks.result.0.now i [] ≡ chunk at 8 xs =
    ap (λ (ys : List (List ℕ)). get_or ys i []) c.as_chunks.ensures.front ∙ chunk_at 8 n i xs inside ∙ ap (λ m. chunk m 8 xs) (sym c.loop-lanes.invariant.far) in
    let mixes : c.mix_lanes-mixes.result ≡ map murmur_hash (chunk at 8 xs) = c.mix_lanes-mixes.ensures ∙ ap (map murmur_hash) whole in
    let long : length c.mix_lanes-mixes.result ≡ 8 = ap length mixes ∙ length-map (chunk at 8 xs) murmur_hash ∙ length-chunk at 8 xs room in
    record {
      far = omega arith;
      done =
          take_more_put_chunk at c.loop-lanes.out c.mix_lanes-mixes.result (at + 8) (omega arith) (omega arith)
          ∙ (λ o. c.loop-lanes.invariant.done o ++ mixes o)
          ∙ sym (ap (map murmur_hash) (take-add at 8 xs) ∙ map-append murmur_hash (take at xs) (chunk at 8 xs));
    }
