use Rattle.std.proofs.Common.{◌≡◌, ℕ, ◌+◌, ◌-◌, ◌*◌, ◌/◌, ◌≤◌, ap, subst, ◌∙◌, arith}
use Rattle.std.proofs.Math.Nat.{div-eq-sub-div, div-mul-le_self, one-le-mul}
use Rattle.std.proofs.lemmas.Nat.{div-mul-add, le-div}
use Rattle.key_groups.proofs.laws.owners_and_ranges.Goals as goal

last_group : (par n : ℕ) → 1 ≤ par → (par * (n + 1) - 1) / par + 1 ≡ n + 1
last_group par n some =
    let e : par * (n + 1) - 1 ≡ n * par + (par - 1) = omega arith in
    let last : (par * (n + 1) - 1) / par ≡ n = ap (λ m. m / par) e ∙ div-mul-add n par (par - 1) (omega arith) in
    ap (λ m. m + 1) last

pub returns-clause-ranges : goal.returns-clause-ranges
returns-clause-ranges c = λ max par some fits. record {
  begins = ap (λ n. n / par) (let e : 0 * max + par - 1 ≡ 0 * par + (par - 1) = omega arith in e) ∙ div-mul-add 0 par (par - 1) (omega arith);
  next = λ i h.
      let n = (i + 1) * max - 1 in
      let positive : 1 ≤ (i + 1) * max = one-le-mul (omega arith) (omega arith) in
      let sum : (i + 1) * max + par - 1 ≡ n + par = omega arith in
      let back : n + par - par ≡ n = omega arith in
      ap (λ m. m / par) sum ∙ div-eq-sub-div some (omega arith) ∙ ap (λ m. m / par + 1) back;
  some = λ i h. le-div _ _ par some (omega (arith, div-mul-le_self (i * max + par - 1) par));
  ends =
      let pars : par - 1 + 1 ≡ par = omega arith in
      let maxes : max - 1 + 1 ≡ max = omega arith in
      ap (λ n. (n * max - 1) / par + 1) pars ∙ subst (λ n. (par * n - 1) / par + 1 ≡ n) maxes (last_group par (max - 1) some);
}
