use Rattle.std.proofs.Common.{◌≡◌, ℕ, ℤ, ◌+◌, ◌<◌, ◌≤◌, ◌≢◌, inl, inr, below_more, get_or-set_other, get_or-set_same, length, pos, false, not, ◌&&◌, get_or, ◌-◌, ◌*◌, ◌/◌, Bool, List, [], sym, ap, subst, ◌∙◌, arith, w64}
use mir.Val.{to_z, of_z, SFits}
use lib.Lanes.{Each1, chunk, zip2}
use Rattle.std.proofs.lemmas.List.{ext_get_or, get_or-map}
use Rattle.std.proofs.lemmas.Simd.{length-zip2, get_or-zip2, get_or-chunk, length-chunk}
use Rattle.std.proofs.lemmas.Int.{to_z-of_z}
use Rattle.std.specs.Ordering.{int_eq}
use Rattle.lane_kernels.specs.Compare.{holds}
use Rattle.std.proofs.lemmas.Bool.{cases_lt}
use Rattle.lane_kernels.proofs.Lanes.{one_or_zero, widened}
use Rattle.lane_kernels.proofs.Chunks.{chunk_at, Each1-of_chunk}
use Rattle.lane_kernels.proofs.compare.and_compare.Goals as goal

pub compare_lanes-hits-requires : goal.compare_lanes-hits-requires
compare_lanes-hits-requires c =
    let xs = c.args.col.now in
    let i = c.loop-lanes.lanes-index in
    let n = length xs / 16 in
    let inside : i < n = omega (arith, c.as_chunks.ensures.front_len) in
    let room : 16 * i + 16 ≤ length xs = omega arith in
    subst (λ (ys : List (List ℤ)). Each1 (SFits w64) (get_or ys i [])) (sym c.as_chunks.ensures.front)
    (subst (Each1 (SFits w64)) (sym (chunk_at 16 n i xs inside)) (Each1-of_chunk (SFits w64) xs (pos 0) (16 * i) 16 room c.know_fits.ensures))

pub returns : goal.returns
returns c =
    let xs = c.args.col.now in
    let ms = c.args.mask.now in
    let f = λ (x : ℤ) (m : Bool). m && holds c.args.cmp x c.args.c in
    let long : length c.loop-i.mask ≡ length ms = omega arith in
    let zipped = length-zip2 f xs ms c.requires in
    ext_get_or false c.loop-i.mask (zip2 f xs ms) (omega arith)
    (λ k h. c.loop-i.invariant.below k (omega arith) ∙ ap (λ (d : ℤ). get_or ms k false && holds c.args.cmp (get_or xs k (pos 0)) d) (to_z-of_z w64 c.args.c c.ranges.c) ∙ sym (get_or-zip2 f xs ms k (pos 0) false false (omega arith) (omega arith)))

pub loop-lanes-preserved : goal.loop-lanes-preserved
loop-lanes-preserved c =
    let xs = c.args.col.now in
    let d = c.args.c in
    let cmp = c.args.cmp in
    let i = c.loop-lanes.lanes-index in
    let at = c.loop-lanes.at in
    let inv = c.loop-lanes.invariant in
    let n = length xs / 16 in
    let inside : i < n = omega (arith, c.as_chunks.ensures.front_len) in
    let room : 16 * i + 16 ≤ length xs = omega arith in
    let lanes = get_or c.as_chunks.result.0.now i [] in
    let whole : lanes ≡ chunk (16 * i) 16 xs = ap (λ (ys : List (List ℤ)). get_or ys i []) c.as_chunks.ensures.front ∙ chunk_at 16 n i xs inside in
    let long : length lanes ≡ 16 = ap length whole ∙ length-chunk (16 * i) 16 xs room in
    let hit = λ (k : ℕ) (ge : at ≤ k) (lt : k < at + 16).
    (let j = k - at in
    let lane : get_or lanes j (pos 0) ≡ get_or xs k (pos 0) =
    ap (λ (l : List ℤ). get_or l j (pos 0)) whole ∙ get_or-chunk (16 * i) 16 xs j (pos 0) (omega arith) ∙ ap (λ m. get_or xs m (pos 0)) (omega arith) in
    ap (λ (h : ℤ). not (int_eq h (pos 0)))
    (ap (λ (hs : List ℤ). get_or hs j (pos 0)) c.compare_lanes-hits.ensures ∙ get_or-map _ lanes j (pos 0) (pos 0) (omega arith))
    ∙ one_or_zero _
    ∙ ap (λ (x : ℤ). holds cmp x (to_z w64 (of_z w64 d))) lane) in
    record {
      far = omega arith;
      below = λ k h.
          elim (cases_lt k at) [
            | inl lt ↦ c.and_lanes.ensures.before k lt ∙ inv.below k lt
            | inr ge ↦ (
                let e : at + (k - at) ≡ k = omega arith in
                ap (λ m. get_or c.and_lanes.new.mask m false) (sym e) ∙ c.and_lanes.ensures.here (k - at) (omega arith)
                ∙ (λ o. (ap (λ m. get_or c.loop-lanes.mask m false) e ∙ inv.above k ge) o && hit k ge h o))
          ];
      above = λ k h. c.and_lanes.ensures.after k h ∙ inv.above k (omega arith);
    }

pub loop-i-preserved : goal.loop-i-preserved
loop-i-preserved c =
    let i = c.loop-i.i in
    let xs = c.args.col.now in
    let d = c.args.c in
    let inv = c.loop-i.invariant in
    let fx : SFits w64 (get_or xs i (pos 0)) = c.know_fits.ensures i c.loop-i-test.true in
    record {
      below = below_more _ _
          (λ k h. let ne : k ≢ i = omega arith in rw get_or-set_other (inv.below k h))
          (let lt : i < length c.loop-i.mask = omega arith in
          rw get_or-set_same (λ o. inv.above i (omega arith) o && (c.holds.ensures ∙ (λ p. holds c.args.cmp (widened (get_or xs i (pos 0)) fx p) ((widened d c.ranges.c ∙ sym (to_z-of_z w64 d c.ranges.c)) p))) o));
      above = λ k h. let ne : k ≢ i = omega arith in rw get_or-set_other (inv.above k (omega arith));
    }
