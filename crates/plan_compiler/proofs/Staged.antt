-- Operators in stages, from the front on.
use Rattle.std.proofs.Common.{◌≡◌, ℕ, zero, suc, ◌+◌, List, [], ◌∷◌, ◌++◌, true, map, length, append_assoc, take, drop, get_or, ◌-◌, ◌<◌, refl, sym, ap, ◌∙◌, arith}
use Rattle.std.proofs.Math.Seq.{take-length}
use Rattle.std.proofs.lemmas.Bool.{false≢true}
use Rattle.std.specs.List.{range_with_len}
use Rattle.plan_model.specs.PlanData.{PlanData}
use Rattle.layout_rules.specs.declared.stage.Operator.{Operator}
use Rattle.layout_rules.specs.declared.stage.Operator.TheVariants.{Source, Filter, Window, Sink}
use Rattle.layout_rules.specs.ScaleData.{ScaleData}
use Rattle.layout_rules.specs.Rules.{sources_from, filters_from, in_order, onto_first, stage_operators}
use Rattle.layout_rules.proofs.Facts.{headed}
use Rattle.plan_compiler.specs.Compiling.{continues}

sources_range : (k n : ℕ) (os : List Operator) → map Source (range_with_len k n) ++ os ≡ sources_from k n os
sources_range k zero os = refl
sources_range k (suc n) os = let q : k + 1 ≡ suc k = omega arith in ap (λ i. Source k ∷ (map Source (range_with_len i n) ++ os)) q ∙ ap (λ xs. Source k ∷ xs) (sources_range (suc k) n os)

filters_range : (k n : ℕ) (os : List Operator) → map Filter (range_with_len k n) ++ os ≡ filters_from k n os
filters_range k zero os = refl
filters_range k (suc n) os = let q : k + 1 ≡ suc k = omega arith in ap (λ i. Filter k ∷ (map Filter (range_with_len i n) ++ os)) q ∙ ap (λ xs. Filter k ∷ xs) (filters_range (suc k) n os)

pub in_order_ranges : (p : PlanData) → map Source (range_with_len 0 (length p.sources)) ++ map Filter (range_with_len 0 (length p.filters)) ++ (Window ∷ Sink ∷ []) ≡ in_order p
in_order_ranges p =
    append_assoc (map Source (range_with_len 0 (length p.sources))) (map Filter (range_with_len 0 (length p.filters))) (Window ∷ Sink ∷ [])
    ∙ ap (λ xs. map Source (range_with_len 0 (length p.sources)) ++ xs) (filters_range 0 (length p.filters) (Window ∷ Sink ∷ []))
    ∙ sources_range 0 (length p.sources) (filters_from 0 (length p.filters) (Window ∷ Sink ∷ []))

-- the first stage, begun by g
abbrev pub begun : List Operator → List (List Operator) → List (List Operator)
begun g [] = []
begun g (h ∷ hs) = (g ++ h) ∷ hs

goes_on : (p : PlanData) (c : ScaleData) (done : List (List Operator)) (g : List Operator) (o : Operator) (os : List Operator) → continues p c o os ≡ true
    → done ++ begun (g ++ o ∷ []) (stage_operators p c os) ≡ done ++ begun g (stage_operators p c (o ∷ os))
goes_on p c done g o [] e = absurd (false≢true e)
goes_on p c done g o (o' ∷ os) e =
    let h = headed p c o' os in
    ap (λ gs. done ++ begun (g ++ o ∷ []) gs) h.2
    ∙ ap (λ xs. done ++ xs ∷ h.1) (append_assoc g (o ∷ []) (o' ∷ h.0))
    ∙ rw e (ap (λ gs. done ++ begun g (onto_first o gs)) (sym h.2))

-- what follows the first element
abbrev pub after_first : List Operator → List Operator
after_first xs = take (length xs - 1) (drop 1 xs)

after_one : (x : Operator) (xs : List Operator) → after_first (x ∷ xs) ≡ xs
after_one x xs = let q : length (x ∷ xs) - 1 ≡ length xs = omega arith in ap (λ n. take n xs) q ∙ take-length xs

pub stage_goes_on : (p : PlanData) (c : ScaleData) (done : List (List Operator)) (g xs : List Operator) (d : Operator) → 0 < length xs → continues p c (get_or xs 0 d) (after_first xs) ≡ true
    → done ++ begun (g ++ get_or xs 0 d ∷ []) (stage_operators p c (after_first xs)) ≡ done ++ begun g (stage_operators p c xs)
stage_goes_on p c done g [] d l e = absurd (omega (arith, l))
stage_goes_on p c done g (x ∷ xs) d l e =
    let q = after_one x xs in
    ap (λ ys. done ++ begun (g ++ x ∷ []) (stage_operators p c ys)) q ∙ goes_on p c done g x xs (ap (continues p c x) (sym q) ∙ e)
