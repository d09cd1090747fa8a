use Rattle.std.proofs.Common.{◌≡◌, ℕ, ◌+◌, ◌-◌, ◌/◌, ◌<◌, ◌≤◌, false, not, eqb, List, [], length, map, get_or, sym, ap, ◌∙◌, arith, inl, inr}
use lib.Lanes.{chunk}
use Rattle.std.proofs.lemmas.Bool.{cases_lt}
use Rattle.std.proofs.lemmas.List.{ext_get_or, get_or-map, length-map}
use Rattle.std.proofs.lemmas.Simd.{length-chunk, get_or-chunk}
use Rattle.lane_kernels.proofs.Chunks.{chunk_at}
use Rattle.lane_kernels.proofs.Mixes.{one_or_zero_w}
use Rattle.lane_kernels.proofs.equal.equal_into.Goals as goal

pub loop-lanes-preserved : goal.loop-lanes-preserved
loop-lanes-preserved c =
    let xs = c.args.targets.now in
    let t = c.args.t in
    let i = c.loop-lanes.lanes-index in
    let at = c.loop-lanes.at in
    let n = length xs / 16 in
    let inside : i < n = omega (arith, c.as_chunks.ensures.front_len) in
    let room : at + 16 ≤ length xs = omega arith in
    let lanes = get_or c.as_chunks.result.0.now i [] in
    let whole : lanes ≡ chunk at 16 xs =
    ap (λ (ys : List (List ℕ)). get_or ys i []) c.as_chunks.ensures.front ∙ chunk_at 16 n i xs inside ∙ ap (λ m. chunk m 16 xs) (sym c.loop-lanes.invariant.far) in
    let long : length lanes ≡ 16 = ap length whole ∙ length-chunk at 16 xs room in
    record {
      far = omega arith;
      below = λ k h.
          elim (cases_lt k at) [
            | inl lt ↦ c.set_lanes.ensures.before k lt ∙ c.loop-lanes.invariant.below k lt
            | inr ge ↦ (
                let j = k - at in
                let e : at + j ≡ k = omega arith in
                let lane : get_or lanes j 0 ≡ get_or xs k 0 = ap (λ (l : List ℕ). get_or l j 0) whole ∙ get_or-chunk at 16 xs j 0 (omega arith) ∙ ap (λ m. get_or xs m 0) e in
                ap (λ m. get_or c.set_lanes.new.mask m false) (sym e) ∙ c.set_lanes.ensures.here j (omega arith)
                ∙ ap (λ (h : ℕ). not (eqb h 0)) (ap (λ (hs : List ℕ). get_or hs j 0) c.equal_lanes-hits.ensures ∙ get_or-map _ lanes j 0 0 (omega arith))
                ∙ one_or_zero_w _ ∙ ap (λ (x : ℕ). eqb x t) lane)
          ];
    }

pub returns : goal.returns
returns c =
    let xs = c.args.targets.now in
    let t = c.args.t in
    let long : length c.loop-i.mask ≡ length c.args.mask.now = omega arith in
    ext_get_or false c.loop-i.mask (map (λ (x : ℕ). eqb x t) xs) (omega (arith, length-map xs (λ (x : ℕ). eqb x t)))
    (λ k h. c.loop-i.invariant k (omega arith) ∙ sym (get_or-map (λ (x : ℕ). eqb x t) xs k 0 false (omega arith)))
