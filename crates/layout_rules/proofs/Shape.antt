-- What the laws need of a list of stages.
use Rattle.std.proofs.Common.{◌≡◌, ℕ, suc, ◌<◌, ◌≤◌, List, true, length, Some, None}
use Rattle.plain_data.specs.Record.{Record}
use Rattle.plan_model.specs.PlanData.{PlanData}
use Rattle.plan_model.specs.Windows.{passes}
use Rattle.dataflow_model.specs.declared.role.Role.TheVariants.{Source, Chain, Window, Sink}
use Rattle.layout_rules.specs.declared.stage.Stage.{Stage}
use Rattle.layout_rules.specs.Stages.{stage_at, parallelism_at, role_of, source_of, source_stages, next_stage, edge_into}
use Rattle.layout_rules.specs.Layouts.{passes_operators, passes_stages}

-- sources, chains, the window and the sink; the window is stage w
pub record IsShaped (p : PlanData) (stages : List Stage) (w : ℕ) : Type 0 where
  pub size : length stages ≡ suc (suc w)
  pub some : 0 < source_stages stages
  pub before : source_stages stages ≤ w
  pub source : (a : ℕ) → a < source_stages stages → role_of (stage_at stages a).operators ≡ Source
  pub chain : (a : ℕ) → source_stages stages ≤ a → a < w → role_of (stage_at stages a).operators ≡ Chain
  pub window : role_of (stage_at stages w).operators ≡ Window
  pub sink : role_of (stage_at stages (suc w)).operators ≡ Sink
  pub wide : (a : ℕ) → a < suc (suc w) → 0 < parallelism_at stages a
  pub one : parallelism_at stages (suc w) ≡ 1
  pub edges : (a : ℕ) → a ≤ w → (stage_at stages a).edge ≡ Some (edge_into (stage_at stages a) (stage_at stages (next_stage stages a)))
  pub edge_sink : (stage_at stages (suc w)).edge ≡ None
  -- the filters
  pub all : (r : Record) → passes_stages p stages r ≡ passes p.filters r
  pub several : 1 < source_stages stages → (a : ℕ) (r : Record) → a < source_stages stages → passes_operators p (stage_at stages a).operators r ≡ true
  pub kept_window : (r : Record) → passes_operators p (stage_at stages w).operators r ≡ true
  pub kept_sink : (r : Record) → passes_operators p (stage_at stages (suc w)).operators r ≡ true
  -- source x opens stage x
  pub all_sources : source_stages stages ≡ length p.sources
  pub opens : (a : ℕ) → a < source_stages stages → source_of (stage_at stages a).operators ≡ a
  -- the plan has key groups
  pub grouped : 0 < p.max
