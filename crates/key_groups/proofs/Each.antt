-- A list changed place by place is the map over it.
use Rattle.std.proofs.Common.{◌≡◌, ℕ, ◌<◌, ◌≤◌, ◌+◌, ◌*◌, ◌/◌, ◌%◌, ◌-◌, ◌^◌, List, map, length, get_or, bit_and, sym, ap, subst, ◌∙◌, arith}
use Rattle.std.specs.List.{All}
use Rattle.std.proofs.lemmas.List.{ext_get_or, get_or-map, length-map}
use Rattle.std.proofs.lemmas.Nat.{and_mask, one_shl, mul-le}
use Rattle.std.proofs.Math.Nat.{div-lt_iff_lt-mul, mul_comm}
use Rattle.key_groups.specs.Ranges.{group_owner}

pub each : (f : ℕ → ℕ) (xs ys : List ℕ) → length ys ≡ length xs → ((k : ℕ) → k < length xs → get_or ys k 0 ≡ f (get_or xs k 0)) → ys ≡ map f xs
each f xs ys long h = ext_get_or 0 ys (map f xs) (omega (arith, long, length-map xs f)) (λ k b. h k (omega (arith, long, b)) ∙ sym (get_or-map f xs k 0 0 (omega (arith, long, b))))

-- the number below 2 ^ k that a mask of k bits keeps
pub masked : (n k : ℕ) → k ≤ 15 → bit_and n (1 * 2 ^ k % 4294967296 - 1) ≡ n % 2 ^ k
masked n k h = ap (λ m. bit_and n (m - 1)) (one_shl k 32 (omega (arith, h))) ∙ and_mask n k

pub share_below : (g par max : ℕ) → g < max → 1 ≤ par → g * par / max < par
share_below g par max h k =
    let more : (g + 1) * par ≤ max * par = mul-le (g + 1) par max par (omega (arith, h)) (omega arith) in
    (div-lt_iff_lt-mul (omega (arith, h))).1 (omega (arith, more, mul_comm par max, k))

-- a subtask owns each group
pub owned : (max par : ℕ) (groups : List ℕ) → 1 ≤ par → All (λ group. group < max) groups → All (λ owner. owner < par) (map (group_owner max par) groups)
owned max par groups some below k d h =
    let here : k < length groups = omega (arith, h, length-map groups (group_owner max par)) in
    subst (λ o. o < par) (sym (get_or-map (group_owner max par) groups k 0 d here)) (share_below (get_or groups k 0) par max (below k 0 here) some)
