-- Which stages a plan has at a scale.
use Rattle.std.specs.List.{AllByRecursion, range_with_len}
use Rattle.std.specs.Prelude.{◌≡◌, ℕ, zero, suc, ◌-◌, ◌<◌, List, [], ◌∷◌, ◌++◌, Bool, true, false, ◌&&◌, ◌==◌, nat_lt, if◌then◌else◌, Some, None, length, map, slice_index_or}
use Rattle.plan_model.specs.PlanData.{PlanData}
use Rattle.layout_rules.specs.declared.stage.Operator.{Operator}
use Rattle.layout_rules.specs.declared.stage.Operator.TheVariants.{Source, Filter, Window, Sink}
use Rattle.layout_rules.specs.declared.stage.Stage.{Stage}
use Rattle.layout_rules.specs.ScaleData.{FilterScale, ScaleData}
use Rattle.layout_rules.specs.Stages.{stage_from, stage_at, parallelism_at, next_stage, edge_into}

-- the plan's operators in order: sources, filters, window, sink
abbrev pub sources_from : ℕ → ℕ → List Operator → List Operator
sources_from k zero os = os
sources_from k (suc n) os = Source k ∷ sources_from (suc k) n os

abbrev pub filters_from : ℕ → ℕ → List Operator → List Operator
filters_from k zero os = os
filters_from k (suc n) os = Filter k ∷ filters_from (suc k) n os

abbrev pub in_order : PlanData → List Operator
in_order p = sources_from 0 (length p.sources) (filters_from 0 (length p.filters) (Window ∷ Sink ∷ []))

-- what a scale says of a filter
abbrev pub filter_scale : ScaleData → ℕ → FilterScale
filter_scale c f = slice_index_or c.filters f (record { parallelism = 1; chain = false })

-- the parallelism of an operator; the sink is one task
abbrev pub parallelism_of : ScaleData → Operator → ℕ
parallelism_of c (Source x) = slice_index_or c.sources x 1
parallelism_of c (Filter f) = (filter_scale c f).parallelism
parallelism_of c Window = c.window
parallelism_of c Sink = 1

-- whether a filter may chain to this operator: it is no source of a plan with several
abbrev pub may_chain_to : PlanData → Operator → Bool
may_chain_to p (Source x) = length p.sources == 1
may_chain_to p (Filter f) = true
may_chain_to p Window = true
may_chain_to p Sink = true

-- whether an operator is chained to the one before it, in one stage: a filter that its scale lets chain, at the same
-- parallelism
abbrev pub is_chained : PlanData → ScaleData → Operator → Operator → Bool
is_chained p c o (Source x) = false
is_chained p c o (Filter f) = (filter_scale c f).chain && ((parallelism_of c o == (filter_scale c f).parallelism) && may_chain_to p o)
is_chained p c o Window = false
is_chained p c o Sink = false

abbrev pub onto_first : Operator → List (List Operator) → List (List Operator)
onto_first o [] = (o ∷ []) ∷ []
onto_first o (g ∷ gs) = (o ∷ g) ∷ gs

-- the operators of each stage, of o and those after it: each is chained to the one before it or opens a stage
abbrev pub stage_operators_from : PlanData → ScaleData → Operator → List Operator → List (List Operator)
stage_operators_from p c o [] = (o ∷ []) ∷ []
stage_operators_from p c o (o' ∷ os) = if is_chained p c o o' then onto_first o (stage_operators_from p c o' os) else ((o ∷ []) ∷ stage_operators_from p c o' os)

abbrev pub stage_operators : PlanData → ScaleData → List Operator → List (List Operator)
stage_operators p c [] = []
stage_operators p c (o ∷ os) = stage_operators_from p c o os

-- the parallelism of a stage is its first operator's
abbrev pub stage_parallelism : ScaleData → List Operator → ℕ
stage_parallelism c [] = 1
stage_parallelism c (o ∷ os) = parallelism_of c o

-- the stages are those of the plan at this scale
pub record IsCompiled (p : PlanData) (c : ScaleData) (stages : List Stage) : Type 0 where
  pub operators : map (λ s. s.operators) stages ≡ stage_operators p c (in_order p)
  pub parallelism : (a : ℕ) → a < length stages → parallelism_at stages a ≡ stage_parallelism c (stage_at stages a).operators
  pub edges : (a : ℕ) → suc a < length stages → (stage_at stages a).edge ≡ Some (edge_into (stage_at stages a) (stage_at stages (next_stage stages a)))
  pub no_edge : (a : ℕ) → suc a ≡ length stages → (stage_at stages a).edge ≡ None

-- the window's stage is the last but one
abbrev pub window_of : List Stage → ℕ
window_of stages = length stages - 2

-- the stages, made: first without edges
abbrev pub bare_stage : ScaleData → List Operator → Stage
bare_stage c os = stage_from (stage_parallelism c os) os None

abbrev pub with_edge : List Stage → ℕ → Stage
with_edge stages a =
    record (stage_at stages a) { edge = if nat_lt (suc a) (length stages) then Some (edge_into (stage_at stages a) (stage_at stages (next_stage stages a))) else None }

abbrev pub with_edges : List Stage → List Stage
with_edges stages = map (with_edge stages) (range_with_len 0 (length stages))

abbrev pub stages_of : PlanData → ScaleData → List Stage
stages_of p c = with_edges (map (bare_stage c) (stage_operators p c (in_order p)))

-- the operator that filter f comes after, and how many tasks that filter opens
abbrev pub before_filter : PlanData → ℕ → Operator
before_filter p zero = Source (length p.sources - 1)
before_filter p (suc f) = Filter f

abbrev pub tasks_opened_by : PlanData → ScaleData → ℕ → ℕ
tasks_opened_by p c f = if is_chained p c (before_filter p f) (Filter f) then 0 else (filter_scale c f).parallelism

-- the same stages from the other end
abbrev pub last_of : Operator → List Operator → Operator
last_of o [] = o
last_of o (o' ∷ os) = last_of o' os

abbrev pub onto_last : Operator → List (List Operator) → List (List Operator)
onto_last o [] = []
onto_last o (g ∷ []) = (g ++ o ∷ []) ∷ []
onto_last o (g ∷ g' ∷ gs) = g ∷ onto_last o (g' ∷ gs)

-- all operators of a stage have its parallelism
abbrev pub HasParallelism : ScaleData → List Operator → Type 0
HasParallelism c g = AllByRecursion (λ o. parallelism_of c o ≡ stage_parallelism c g) g
