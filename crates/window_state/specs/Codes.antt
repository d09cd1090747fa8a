-- How the windows of a state are told apart: by their entries.
use Rattle.std.specs.Prelude.{ℕ, ℤ, List, refl}
use Rattle.std.specs.Coded.{Coded, code_by, coded×, coded_ℕ, coded_ℤ, coded_list}
use Rattle.std.specs.FinMap.{FinMap, code}
use Rattle.plan_model.specs.declared.spec.Pane.{Pane}
use Rattle.plan_model.specs.Aggregates.{Aggregated}
use Rattle.plan_model.specs.Rows.{pane_cmp}

abbrev pub pane_code : Coded Pane
pane_code = code_by (ℤ × ℤ) (coded× coded_ℤ coded_ℤ) (λ p. (p.start, p.key)) (λ t. record { start = t.0; key = t.1 }) (λ _. refl)

abbrev pub aggregated_code : Coded Aggregated
aggregated_code = code_by (ℕ × List ℤ) (coded× coded_ℕ (coded_list coded_ℤ)) (λ a. (a.count, a.numbers)) (λ t. record { count = t.0; numbers = t.1 }) (λ _. refl)

abbrev pub windows_code : Coded (FinMap pane_cmp Aggregated)
windows_code = code pane_code aggregated_code
