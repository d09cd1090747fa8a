-- A task that is told its setup can begin with what suits it.
use Rattle.std.proofs.Common.{◌≡◌, ℕ, ◌<◌, Bool, true, false, List, [], ◌∷◌, length, take, drop, ◌^◌, refl, sym, ap, subst, arith}
use Rattle.std.specs.Prelude.{Option, Some, None, option_map, if◌then◌else◌}
use Rattle.std.specs.List.{All}
use Rattle.std.proofs.lemmas.List.Elements.{All-append, All-take, All-drop}
use Rattle.plan_model.specs.declared.spec.FilterSpec.{FilterSpec}
use Rattle.plan_model.specs.declared.spec.WindowSpec.{WindowSpec}
use Rattle.plan_model.specs.PlanData.{PlanData, IsPlan}
use Rattle.window_state.specs.State.{StateData}
use Rattle.window_state.specs.Windows.{CanAggregate}
use Rattle.dataflow_model.specs.declared.role.Role.{Role}
use Rattle.dataflow_model.specs.declared.role.Role.TheVariants as role
use Rattle.dataflow_model.specs.Role.{is_window}
use Rattle.dataflow_model.specs.Leg.{Leg}
use Rattle.layout_rules.specs.declared.stage.Operator.{Operator}
use Rattle.layout_rules.specs.declared.stage.Operator.TheVariants.{Source, Filter, Window, Sink}
use Rattle.layout_rules.specs.declared.stage.Edge.{Edge}
use Rattle.layout_rules.specs.declared.stage.Edge.TheVariants.{Forward, ByGroup, Rebalance}
use Rattle.layout_rules.specs.declared.stage.Stage.{Stage}
use Rattle.layout_rules.specs.Scale.{IsParallelism}
use Rattle.layout_rules.specs.Stages.{parallelism_at, next_stage, stage_of, task_stage, task_role, task_count, outputs_of}
use Rattle.layout_rules.proofs.Facts.{compiled_once, compiled_ever, rings_by_group, tasks_have_outputs}
use Rattle.plan_compiler.specs.LayoutData.{LayoutData, layout_of}
use Rattle.task_steps.specs.Sending.{IsSplit}
use Rattle.task_steps.specs.TaskData.{IsTurn, IsWindowing, HasCounts, windows_in}
use Rattle.task_setups.specs.Beginnings.{EveryTaskBegins}
use Rattle.task_setups.specs.Setups.{split_of, filters_of, setup_of, window_of}
use Rattle.task_setups.proofs.Leading.{leads_on}

-- ---- filters

abbrev IsColumned : PlanData → FilterSpec → Type 0
IsColumned p f = f.column < p.columns

columned : (p : PlanData) (os : List Operator) → All (IsColumned p) p.filters → All (IsColumned p) (filters_of p os)
columned p [] h = λ _ _ l. absurd (omega (arith, l))
columned p (Source x ∷ os) h = columned p os h
columned p (Filter f ∷ os) h = All-append (IsColumned p) (take 1 (drop f p.filters)) (filters_of p os) (All-take (IsColumned p) 1 (drop f p.filters) (All-drop (IsColumned p) f p.filters h)) (columned p os h)
columned p (Window ∷ os) h = columned p os h
columned p (Sink ∷ os) h = columned p os h

-- ---- edges

splits : (p : PlanData) (edge : Option Edge) (n m : ℕ) → (edge ≡ Some ByGroup → IsParallelism p.max n) → (edge ≡ Some ByGroup → m ≡ n) → IsSplit (split_of p edge n) m
splits p None n m few same = tt
splits p (Some Forward) n m few same = tt
splits p (Some ByGroup) n m few same = ((few refl).grouped, sym (same refl))
splits p (Some Rebalance) n m few same = tt

turn : (r : Role) (n : ℕ) → ((r ≡ role.Sink → ⊥) → 0 < n) → IsTurn r 0 n
turn role.Source n h = h (λ e. absurd cc)
turn role.Chain n h = h (λ e. absurd cc)
turn role.Window n h = tt
turn role.Sink n h = tt

-- ---- windows

no_window : (w : WindowSpec) (r : Role) → None ≡ (if is_window r then Some w else None) → r ≡ role.Window → ⊥
no_window w r e h = let z : is_window r ≡ true = ap is_window h in (let y = rw z at e in cc)

this_window : (v w : WindowSpec) (b : Bool) → Some v ≡ (if b then Some w else None) → v ≡ w
this_window v w true e = cc
this_window v w false e = absurd cc

can_aggregate : (p : PlanData) → IsPlan p → CanAggregate p.columns p.window
can_aggregate p sound = record { operator = record { range = sound.window; some = sound.aggregated; few = sound.aggregates_few }; time = sound.time; key = sound.key; columns = sound.aggregate_columns }

windowing : (p : PlanData) (leg : Leg) (stages : List Stage) (t : ℕ) (window : Option StateData) → IsPlan p → option_map (λ w. w.window) window ≡ window_of p stages t → HasCounts (2 ^ 40) (windows_in window) → IsWindowing (setup_of p leg stages t) 0 false window
windowing p leg stages t None sound operator counts = no_window p.window (task_role stages t) operator
windowing p leg stages t (Some w) sound operator counts =
    let same = this_window w.window p.window (is_window (task_role stages t)) operator in
    (subst (CanAggregate p.columns) (sym same) (can_aggregate p sound), ap (λ v. v.time) same, sym (ap (λ v. v.having) same), λ _. counts)

pub every_task_begins : EveryTaskBegins
every_task_begins p c leg stages t offsets marks window sound scaled compiled l some numbers suits =
    let P : List Stage → Type 0 = λ ss. t < task_count ss → (task_stage ss t).edge ≡ Some ByGroup → IsParallelism p.max (parallelism_at ss (next_stage ss (stage_of ss t))) in
    let made : LayoutData = layout_of p c in
    let few = subst P (sym (compiled_once p c stages made.stages compiled (compiled_ever p c))) (leads_on p made t ByGroup sound (record { scale = c; fits = scaled; is = refl })) in
    let n = parallelism_at stages (next_stage stages (stage_of stages t)) in
    record {
      time = sound.time;
      key = sound.key;
      filters = columned p (task_stage stages t).operators sound.filter_columns;
      split = splits p (task_stage stages t).edge n (length (outputs_of stages t)) (few l) (rings_by_group stages t);
      turn = turn (task_role stages t) (length (outputs_of stages t)) (tasks_have_outputs p c stages t sound scaled compiled l);
      windowing = windowing p leg stages t window sound suits.operator suits.counts;
      marked = suits.marked;
      some = some;
      numbers = numbers;
      placed = suits.placed;
    }
