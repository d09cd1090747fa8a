use Rattle.std.proofs.Common.{◌≡◌, ℕ, ℤ, map, pos, Bool, cond, not, eqb, sym, ap, replicate, ◌∙◌, w64}
use mir.Val.{to_z, of_z, SFits}
use lib.Lanes.{sel_l, top}
use lib.Signed.{lt_z, le_z}
use Rattle.lane_kernels.specs.Compare.{holds}
use Rattle.lane_kernels.specs.declared.Cmp.{Cmp}
use Rattle.lane_kernels.specs.declared.Cmp.TheVariants.{Eq, Ne, Lt, Le, Gt, Ge}
use Rattle.lane_kernels.proofs.Lanes.{ones, chosen_lanes, compared_right, compared_left, eqb_bits, read_back}
use Rattle.lane_kernels.proofs.compare.compare_lanes.Goals.{in-Eq, in-Ne, in-Lt, in-Le, in-Gt, in-Ge}
use Rattle.lane_kernels.proofs.compare.compare_lanes.Goals as goal

pub returns : goal.returns
returns c =
    let xs = c.args.lanes.now in
    let d = c.args.c in
    let f : SFits w64 d = c.ranges.c in
    let done = λ (k : Cmp) (is : c.args.cmp ≡ k) (h : c.match-cmp.hits ≡ map (λ x. ones (holds k x d)) xs).
    ap (λ hs. map (to_z w64) (sel_l (map (top 63) hs) (replicate 16 1) (replicate 16 0))) h ∙ chosen_lanes (λ x. holds k x d) 16 xs c.told-lanes
    ∙ ap (λ (m : Cmp). map (λ x. cond (holds m x d) (pos 1) (pos 0)) xs) (sym is) in
    let right = λ (t : ℕ → ℕ → Bool) (p : ℤ → Bool) (says : (x : ℤ) → SFits w64 x → t (of_z w64 x) (of_z w64 d) ≡ p x). compared_right t p (of_z w64 d) says 16 xs c.told-lanes c.requires in
    let left = λ (t : ℕ → ℕ → Bool) (p : ℤ → Bool) (says : (x : ℤ) → SFits w64 x → t (of_z w64 d) (of_z w64 x) ≡ p x). compared_left t p (of_z w64 d) says 16 xs c.told-lanes c.requires in
    elim c.match-cmp.branch [
      | in-Eq w ↦ done Eq w.in-Eq.is (w.hits-is ∙ right eqb (λ x. holds Eq x d) (λ x g. eqb_bits x d g f))
      | in-Ne w ↦ done Ne w.in-Ne.is (w.hits-is ∙ right (λ a b. not (eqb a b)) (λ x. holds Ne x d) (λ x g. ap not (eqb_bits x d g f)))
      | in-Lt w ↦ done Lt w.in-Lt.is (w.hits-is ∙ right (λ a b. lt_z (to_z w64 a) (to_z w64 b)) (λ x. holds Lt x d) (λ x g. read_back lt_z x d g f))
      | in-Le w ↦ done Le w.in-Le.is (w.hits-is ∙ right (λ a b. le_z (to_z w64 a) (to_z w64 b)) (λ x. holds Le x d) (λ x g. read_back le_z x d g f))
      | in-Gt w ↦ done Gt w.in-Gt.is (w.hits-is ∙ left (λ a b. lt_z (to_z w64 a) (to_z w64 b)) (λ x. holds Gt x d) (λ x g. read_back lt_z d x f g))
      | in-Ge w ↦ done Ge w.in-Ge.is (w.hits-is ∙ left (λ a b. le_z (to_z w64 a) (to_z w64 b)) (λ x. holds Ge x d) (λ x g. read_back le_z d x f g))
    ]
