-- The worked layout, by computation.
use Rattle.std.proofs.Common.{◌≡◌, ℕ, zero, suc, ◌<◌, Some, None, refl, ap, arith}
use Rattle.layout_rules.specs.Stages.{stage_at, parallelism_at, next_stage, edge_into}
use Rattle.layout_rules.specs.Rules.{stage_parallelism}
use Rattle.layout_rules.specs.Example.{two_and_three, five, FiveStages}

widths : (a : ℕ) → a < 5 → parallelism_at five a ≡ stage_parallelism two_and_three (stage_at five a).operators
widths zero l = refl
widths (suc zero) l = refl
widths (suc (suc zero)) l = refl
widths (suc (suc (suc zero))) l = refl
widths (suc (suc (suc (suc zero)))) l = refl
widths (suc (suc (suc (suc (suc a))))) l = absurd (omega (arith, l))

edges : (a : ℕ) → suc a < 5 → (stage_at five a).edge ≡ Some (edge_into (stage_at five a) (stage_at five (next_stage five a)))
edges zero l = refl
edges (suc zero) l = refl
edges (suc (suc zero)) l = refl
edges (suc (suc (suc zero))) l = refl
edges (suc (suc (suc (suc a)))) l = absurd (omega (arith, l))

last : (a : ℕ) → suc a ≡ 5 → (stage_at five a).edge ≡ None
last a e = let z : a ≡ 4 = omega (arith, e) in ap (λ n. (stage_at five n).edge) z

pub five_stages : FiveStages
five_stages s r f g w = (record { operators = refl; parallelism = widths; edges = edges; no_edge = last }, refl, refl, refl, refl, refl, refl, refl, refl, refl, refl, λ e leg. (refl, refl, refl, refl, refl))
