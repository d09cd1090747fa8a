-- What a comparison answers, and what it leaves of a mask.
use Rattle.std.specs.Prelude.{ℤ, Bool, not, ◌&&◌, List, [], ◌∷◌, Option, Some, None, int_lt, int_le}
use Rattle.std.specs.Int.{int_min, int_max}
use Rattle.std.specs.List.{fold}
use Rattle.std.specs.Ordering.{int_eq}
use Rattle.std.specs.Simd.Lanes.{zip2}
use Rattle.lane_kernels.specs.declared.Cmp.{Cmp}
use Rattle.lane_kernels.specs.declared.Cmp.TheVariants.{Eq, Ne, Lt, Le, Gt, Ge}

-- a compares so with c
abbrev pub holds : Cmp → ℤ → ℤ → Bool
holds Eq x c = int_eq x c
holds Ne x c = not (int_eq x c)
holds Lt x c = int_lt x c
holds Le x c = int_le x c
holds Gt x c = int_lt c x
holds Ge x c = int_le c x

-- each place is itself and the comparison of its number
abbrev pub narrowed : Cmp → ℤ → List ℤ → List Bool → List Bool
narrowed cmp c xs ms = zip2 (λ x m. m && holds cmp x c) xs ms

-- the first element, with each further one brought in
abbrev pub folded : (ℤ → ℤ → ℤ) → List ℤ → Option ℤ
folded f [] = None
folded f (x ∷ xs) = Some (fold f x xs)

-- the least element
abbrev pub least_of : List ℤ → Option ℤ
least_of xs = folded int_min xs

-- the greatest element
abbrev pub greatest_of : List ℤ → Option ℤ
greatest_of xs = folded int_max xs
