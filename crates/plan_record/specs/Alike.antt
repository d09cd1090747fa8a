-- Plans that count, keep and group alike.
use Rattle.std.specs.Prelude.{◌≡◌, ℕ, ℤ, List, map, bytes_eq}
use Rattle.std.specs.List.{list_any}
use Rattle.plain_data.specs.Record.{Record}
use Rattle.plan_model.specs.PlanData.{PlanData, IsPlan}
use Rattle.plan_record.specs.PlanRecord.{bound_of, plan_record}
use Rattle.plan_model.specs.Windows.{passes, is_window_of}
use Rattle.plan_model.specs.Rows.{keeps}

pub record IsAlike (p q : PlanData) : Type 0 where
  pub columns : p.columns ≡ q.columns
  pub max : p.max ≡ q.max
  pub time : p.window.time ≡ q.window.time
  pub key : p.window.key ≡ q.window.key
  pub size : p.window.size ≡ q.window.size
  pub sources : (uid : List ℕ) → list_any (bytes_eq uid) (map (λ s. s.uid) p.sources) ≡ list_any (bytes_eq uid) (map (λ s. s.uid) q.sources)
  pub bounds : (uid : List ℕ) → bound_of p.sources uid ≡ bound_of q.sources uid
  pub passing : (r : Record) → passes p.filters r ≡ passes q.filters r
  pub windows : (t s : ℤ) → is_window_of p.window t s ≡ is_window_of q.window t s
  pub aggregates : p.window.aggregates ≡ q.window.aggregates
  pub having : (numbers : List ℤ) → keeps p.window.having numbers ≡ keeps q.window.having numbers

-- plans with equal records are alike
abbrev pub EqualRecords : Type 0
EqualRecords = (p q : PlanData) → IsPlan p → IsPlan q → plan_record p ≡ plan_record q → IsAlike p q
