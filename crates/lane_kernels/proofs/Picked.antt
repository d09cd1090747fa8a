-- The extreme of two, and of lanes.
use Rattle.std.proofs.Common.{◌≡◌, ℤ, List, [], ◌∷◌, length, refl, sym, ap, ◌∙◌, arith, w64}
use mir.Val.{SFits}
use lib.Lanes.{zip2, Each1}
use Rattle.std.specs.List.{fold}
use Rattle.std.proofs.lemmas.Int.{ints, clamps}
use native.Mathlib.Nat.{suc_inj, suc-ne-zero}
use Rattle.lane_kernels.specs.declared.extremes.Extreme.{Extreme}
use Rattle.lane_kernels.specs.declared.extremes.Extreme.TheVariants.{Least, Greatest}
use Rattle.lane_kernels.specs.Extremes.{pick}
use Rattle.lane_kernels.proofs.Lanes.{min_fits}
use Rattle.lane_kernels.proofs.GreaterLanes.{max_fits}

pub pick_fits : (e : Extreme) (x y : ℤ) → SFits w64 x → SFits w64 y → SFits w64 (pick e x y)
pick_fits Least x y f g = min_fits x y f g
pick_fits Greatest x y f g = max_fits x y f g

pick_assoc : (e : Extreme) (x y z : ℤ) → pick e x (pick e y z) ≡ pick e (pick e x y) z
pick_assoc Least x y z = omega (arith, ints, clamps)
pick_assoc Greatest x y z = omega (arith, ints, clamps)

pick_turn : (e : Extreme) (x y z : ℤ) → pick e (pick e x y) z ≡ pick e (pick e x z) y
pick_turn Least x y z = omega (arith, ints, clamps)
pick_turn Greatest x y z = omega (arith, ints, clamps)

pub lanes_fit : (e : Extreme) (xs ys : List ℤ) → length xs ≡ length ys → Each1 (SFits w64) xs → Each1 (SFits w64) ys → Each1 (SFits w64) (zip2 (pick e) xs ys)
lanes_fit e [] ys same f g = tt
lanes_fit e (x ∷ xs) [] same f g = tt
lanes_fit e (x ∷ xs) (y ∷ ys) same f g = (pick_fits e x y f.0 g.0, lanes_fit e xs ys (suc_inj same) f.1 g.1)

fold_turn : (e : Extreme) (a y : ℤ) (xs : List ℤ) → fold (pick e) (pick e a y) xs ≡ pick e (fold (pick e) a xs) y
fold_turn e a y [] = refl
fold_turn e a y (x ∷ xs) = ap (λ b. fold (pick e) b xs) (pick_turn e a y x) ∙ fold_turn e (pick e a x) y xs

-- the extreme of two vectors' lanes is that of both
pub fold_picked : (e : Extreme) (a : ℤ) (xs ys : List ℤ) → length xs ≡ length ys → fold (pick e) a (zip2 (pick e) xs ys) ≡ fold (pick e) (fold (pick e) a xs) ys
fold_picked e a [] [] same = refl
fold_picked e a [] (y ∷ ys) same = absurd (suc-ne-zero (length ys) (sym same))
fold_picked e a (x ∷ xs) [] same = absurd (suc-ne-zero (length xs) same)
fold_picked e a (x ∷ xs) (y ∷ ys) same =
    ap (λ b. fold (pick e) b (zip2 (pick e) xs ys)) (pick_assoc e a x y)
    ∙ fold_picked e (pick e (pick e a x) y) xs ys (suc_inj same)
    ∙ ap (λ b. fold (pick e) b ys) (fold_turn e (pick e a x) y xs)
