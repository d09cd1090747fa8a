-- The order of panes is total, and tells any two apart.
use Rattle.std.proofs.Common.{◌≡◌, ℤ, arith}
use Rattle.std.specs.Ordering.{int_cmp, ordering_then}
use Rattle.std.specs.declared.cmp.Ordering.TheVariants.{Equal}
use Rattle.std.specs.Cmp.{IsTotalOrder, int_cmp_total, on_total, then_total}
use Rattle.std.specs.FinMap.{IsAntisymmetric}
use Rattle.std.proofs.lemmas.Int.{ints}
use Rattle.plan_model.specs.declared.spec.Pane.{Pane}
use Rattle.plan_model.specs.Rows.{pane_cmp}

pub pane_cmp_total : IsTotalOrder pane_cmp
pane_cmp_total = then_total (on_total (λ (p : Pane). p.start) int_cmp_total) (on_total (λ (p : Pane). p.key) int_cmp_total)

same_parts : (a b c d : ℤ) → ordering_then (int_cmp a b) (int_cmp c d) ≡ Equal → (a ≡ b) × (c ≡ d)
same_parts a b c d h = let e1 : a ≡ b = grind (arith, ints) in let e2 : c ≡ d = grind (arith, ints) in (e1, e2)

pub pane_cmp-IsAntisymmetric : IsAntisymmetric pane_cmp
pane_cmp-IsAntisymmetric x y h =
    let parts : (x.start ≡ y.start) × (x.key ≡ y.key) = same_parts x.start y.start x.key y.key h in
    λ i. record { start = parts.0 i; key = parts.1 i }
