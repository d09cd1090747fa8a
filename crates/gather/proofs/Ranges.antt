-- Ranges, one number after the other.
use Rattle.std.proofs.Common.{◌≡◌, ℕ, zero, suc, ◌+◌, List, [], ◌∷◌, ◌++◌, sym, ap, ◌∙◌, arith}
use Rattle.std.specs.List.{flat_map, range_with_len}
use Rattle.std.proofs.lemmas.List.{flat_map_more}

range_more : (a n : ℕ) → range_with_len a (suc n) ≡ range_with_len a n ++ (a + n) ∷ []
range_more a zero = ap (λ m. m ∷ []) (let e : a ≡ a + 0 = omega arith in e)
range_more a (suc n) = ap (λ (ms : List ℕ). a ∷ ms) (range_more (a + 1) n ∙ ap (λ m. range_with_len (a + 1) n ++ m ∷ []) (let e : a + 1 + n ≡ a + suc n = omega arith in e))

pub flat_map-range : {Y : Type 0} (f : ℕ → List Y) (n : ℕ) → flat_map f (range_with_len 0 (n + 1)) ≡ flat_map f (range_with_len 0 n) ++ f n
flat_map-range f n =
    ap (λ m. flat_map f (range_with_len 0 m)) (let e : n + 1 ≡ suc n = omega arith in e)
    ∙ ap (flat_map f) (range_more 0 n ∙ ap (λ m. range_with_len 0 n ++ m ∷ []) (let e : 0 + n ≡ n = omega arith in e))
    ∙ sym (flat_map_more f [] (range_with_len 0 n) n)
