-- Where a stage has an edge, it leads to a stage.
use Rattle.std.proofs.Common.{◌≡◌, ℕ, suc, ◌<◌, Bool, true, false, List, [], length, map, refl, sym, ap, subst, ◌∙◌, arith}
use Rattle.std.specs.Prelude.{Some, None, nat_lt, if◌then◌else◌}
use Rattle.std.proofs.lemmas.List.FromFn.{length-map-range_with_len, get_or-map-range_with_len}
use Rattle.plan_model.specs.PlanData.{PlanData, IsPlan}
use Rattle.layout_rules.specs.declared.stage.Edge.{Edge}
use Rattle.layout_rules.specs.declared.stage.Stage.{Stage}
use Rattle.layout_rules.specs.Scale.{ScaleData, IsScale, IsParallelism}
use Rattle.layout_rules.specs.Stages.{stage_from, stage_at, parallelism_at, next_stage, stage_of, task_stage, task_count, edge_into}
use Rattle.layout_rules.specs.Rules.{in_order, stage_operators, bare_stage, with_edge, with_edges, stages_of}
use Rattle.layout_rules.proofs.Facts.{stages_are_bounded, is_subtask}
use Rattle.plan_compiler.specs.LayoutData.{LayoutData}
use Rattle.task_setups.specs.Legs.{IsLayoutOf}

edge_if : (b : Bool) (e e' : Edge) → (if b then Some e' else None) ≡ Some e → b ≡ true
edge_if true e e' h = refl
edge_if false e e' h = absurd cc

-- the last stage has no edge
not_last : (bare : List Stage) (a : ℕ) (e : Edge) → a < length (with_edges bare) → (stage_at (with_edges bare) a).edge ≡ Some e → suc a < length (with_edges bare)
not_last bare a e l h =
    let n : length (with_edges bare) ≡ length bare = length-map-range_with_len (with_edge bare) 0 (length bare) in
    let here : stage_at (with_edges bare) a ≡ with_edge bare a = get_or-map-range_with_len (with_edge bare) 0 (length bare) a a (stage_from 0 [] None) (omega (arith, l, n)) (omega arith) in
    let more : nat_lt (suc a) (length bare) ≡ true = edge_if (nat_lt (suc a) (length bare)) e (edge_into (stage_at bare a) (stage_at bare (next_stage bare a))) (sym (ap (λ s. s.edge) here) ∙ h) in
    grind (arith)

leads : (p : PlanData) (c : ScaleData) (t : ℕ) (e : Edge) → IsPlan p → IsScale p c → t < task_count (stages_of p c) → (task_stage (stages_of p c) t).edge ≡ Some e
    → IsParallelism p.max (parallelism_at (stages_of p c) (next_stage (stages_of p c) (stage_of (stages_of p c) t)))
leads p c t e ip sc l h =
    let stages : List Stage = stages_of p c in
    let known = stages_are_bounded p c ip sc in
    let within = (is_subtask stages t l).stage in
    let more = not_last (map (bare_stage c) (stage_operators p c (in_order p))) (stage_of stages t) e within h in
    known.parallelism (next_stage stages (stage_of stages t)) (omega (arith, known.leading, known.more, more))

pub leads_on : (p : PlanData) (l : LayoutData) (t : ℕ) (e : Edge) → IsPlan p → IsLayoutOf p l → t < task_count l.stages → (task_stage l.stages t).edge ≡ Some e
    → IsParallelism p.max (parallelism_at l.stages (next_stage l.stages (stage_of l.stages t)))
leads_on p l t e ip lo =
    let P : LayoutData → Type 0 = λ m. t < task_count m.stages → (task_stage m.stages t).edge ≡ Some e → IsParallelism p.max (parallelism_at m.stages (next_stage m.stages (stage_of m.stages t))) in
    subst P (sym lo.is) (leads p lo.scale t e ip lo.fits)
