use Rattle.std.proofs.Common.{◌≡◌, ℤ, pos, ◌+◌, ◌*◌, ◌/◌, ◌<◌, ◌≤◌, List, [], length, take, get_or, sym, ap, subst, ◌∙◌, arith, rules, w64}
use mir.Val.{to_z, of_z, SFits}
use lib.Lanes.{Each1, chunk, zip2}
use Rattle.lane_kernels.specs.Extremes.{pick}
use Rattle.std.specs.List.{fold}
use Rattle.std.proofs.Math.Seq.{take-add}
use Rattle.std.proofs.lemmas.Int.{to_z-of_z}
use Rattle.std.proofs.lemmas.List.Sums.{fold_more, fold-append}
use Rattle.std.proofs.lemmas.Simd.{length-chunk, length-zip2, Each1-get_or}
use Rattle.lane_kernels.proofs.Chunks.{chunk_at, Each1-of_chunk}
use Rattle.lane_kernels.proofs.Picked.{lanes_fit, fold_picked}
use Rattle.lane_kernels.proofs.extremes.extreme_of.Goals as goal

pub picked_lanes-lanes-requires-clause-b_fits : goal.picked_lanes-lanes-requires-clause-b_fits
picked_lanes-lanes-requires-clause-b_fits c =
    let xs = c.args.col.now in
    let i = c.loop-chunk.chunk-index in
    let n = length xs / 16 in
    let inside : i < n = omega (arith, c.as_chunks.ensures.front_len) in
    let room : 16 * i + 16 ≤ length xs = omega arith in
    subst (λ (ys : List (List ℤ)). Each1 (SFits w64) (get_or ys i [])) (sym c.as_chunks.ensures.front)
    (subst (Each1 (SFits w64)) (sym (chunk_at 16 n i xs inside)) (Each1-of_chunk (SFits w64) xs (pos 0) (16 * i) 16 room c.know_fits.ensures))

pub loop-chunk-preserved : goal.loop-chunk-preserved
loop-chunk-preserved c =
    let e = c.args.extreme in
    let xs = c.args.col.now in
    let i = c.loop-chunk.chunk-index in
    let at = c.loop-chunk.at in
    let inv = c.loop-chunk.invariant in
    let n = length xs / 16 in
    let first = to_z w64 (of_z w64 (get_or xs 0 (pos 0))) in
    let inside : i < n = omega (arith, c.as_chunks.ensures.front_len) in
    let room : at + 16 ≤ length xs = omega arith in
    let whole : get_or c.as_chunks.result.0.now i [] ≡ chunk at 16 xs =
    ap (λ (ys : List (List ℤ)). get_or ys i []) c.as_chunks.ensures.front ∙ chunk_at 16 n i xs inside ∙ ap (λ m. chunk m 16 xs) (sym inv.far) in
    let same : length c.loop-chunk.lanes ≡ length (chunk at 16 xs) = inv.long ∙ sym (length-chunk at 16 xs room) in
    let is : c.picked_lanes-lanes.result ≡ zip2 (pick e) c.loop-chunk.lanes (chunk at 16 xs) = c.picked_lanes-lanes.ensures ∙ ap (zip2 (pick e) c.loop-chunk.lanes) whole in
    let fits : Each1 (SFits w64) (chunk at 16 xs) = Each1-of_chunk (SFits w64) xs (pos 0) at 16 room c.know_fits.ensures in
    record {
      far = omega arith;
      long = ap length is ∙ length-zip2 (pick e) c.loop-chunk.lanes (chunk at 16 xs) same ∙ inv.long;
      fits = subst (Each1 (SFits w64)) (sym is) (lanes_fit e c.loop-chunk.lanes (chunk at 16 xs) same inv.fits fits);
      folded =
          ap (fold (pick e) first) is ∙ fold_picked e first c.loop-chunk.lanes (chunk at 16 xs) same ∙ ap (λ (a : ℤ). fold (pick e) a (chunk at 16 xs)) inv.folded
          ∙ sym (ap (fold (pick e) first) (take-add at 16 xs) ∙ fold-append (pick e) first (take at xs) (chunk at 16 xs));
    }

pub loop-j-preserved : goal.loop-j-preserved
loop-j-preserved c =
    let e = c.args.extreme in
    let f : SFits w64 c.picked-found.result = search rules in
    let j = c.loop-j.j in
    let ls = c.loop-chunk.lanes in
    let first = to_z w64 (of_z w64 (get_or c.args.col.now 0 (pos 0))) in
    let lt : j < length ls = omega (arith, c.loop-chunk.invariant.long) in
    to_z-of_z w64 _ f ∙ c.picked-found.ensures
    ∙ (λ o. (pick e) (c.loop-j.invariant o) (to_z-of_z w64 (get_or ls j (pos 0)) (Each1-get_or (SFits w64) ls j (pos 0) lt c.loop-chunk.invariant.fits) o))
    ∙ sym (fold_more (pick e) first ls j (pos 0) lt)

pub loop-i-preserved : goal.loop-i-preserved
loop-i-preserved c =
    let e = c.args.extreme in
    let f : SFits w64 c.picked-found-in-loop-i.result = search rules in
    let i = c.loop-i.i in
    let xs = c.args.col.now in
    let first = to_z w64 (of_z w64 (get_or xs 0 (pos 0))) in
    to_z-of_z w64 _ f ∙ c.picked-found-in-loop-i.ensures
    ∙ (λ o. (pick e) (c.loop-i.invariant o) (to_z-of_z w64 (get_or xs i (pos 0)) (c.know_fits.ensures i c.loop-i-test.true) o))
    ∙ sym (fold_more (pick e) first xs i (pos 0) c.loop-i-test.true)
