-- A plan has one list of stages at a scale.
use Rattle.std.proofs.Common.{◌≡◌, ℕ, zero, suc, ◌<◌, max, List, [], ◌∷◌, true, false, cond, eqb, ltb, length, map, get_or, Some, None, refl, sym, ap, ◌∙◌, inl, inr, arith}
use Rattle.std.proofs.lemmas.Bool.{cases_eq, cases_lt, lt-ltb}
use Rattle.std.proofs.lemmas.Bool.Decides.{nat_tests}
use Rattle.std.proofs.lemmas.List.FromFn.{length-map-range_with_len, get_or-map-range_with_len}
use Rattle.std.proofs.lemmas.List.{ext_get_or, get_or_past}
use Rattle.dataflow_model.specs.Role.{is_window}
use Rattle.layout_rules.specs.declared.stage.Operator.{Operator}
use Rattle.layout_rules.specs.declared.stage.Edge.TheVariants.{Forward, ByGroup, Rebalance}
use Rattle.layout_rules.specs.declared.stage.Stage.{Stage}
use Rattle.layout_rules.specs.Stages.{stage_from, stage_at, parallelism_at, role_of, leading_sources, source_stages, next_stage, edge_into}
use Rattle.layout_rules.specs.Rules.{in_order, stage_operators, stage_parallelism, bare_stage, with_edge, with_edges}
use Rattle.layout_rules.specs.Scale.{ScaleData}
use Rattle.layout_rules.specs.Laws.{CompiledOnce, CompiledEver}
use Rattle.layout_rules.proofs.Shapes.{operators_at, length_operators}

same_stage : (s s' : Stage) → s.parallelism ≡ s'.parallelism → s.operators ≡ s'.operators → s.edge ≡ s'.edge → s ≡ s'
same_stage s s' a b e = ap (λ n. stage_from n s.operators s.edge) a ∙ ap (λ os. stage_from s'.parallelism os s.edge) b ∙ ap (λ x. stage_from s'.parallelism s'.operators x) e

same_link : (s s' t t' : Stage) → s.parallelism ≡ t.parallelism → s'.parallelism ≡ t'.parallelism → s'.operators ≡ t'.operators → edge_into s s' ≡ edge_into t t'
same_link s s' t t' a b o =
    ap (λ os. cond (is_window (role_of os)) ByGroup (cond (eqb s.parallelism s'.parallelism) Forward Rebalance)) o
    ∙ ap (λ n. cond (is_window (role_of t'.operators)) ByGroup (cond (eqb n s'.parallelism) Forward Rebalance)) a
    ∙ ap (λ n. cond (is_window (role_of t'.operators)) ByGroup (cond (eqb t.parallelism n) Forward Rebalance)) b

pub compiled_once : CompiledOnce
compiled_once p c ss ss' h h' =
    let o = h.operators ∙ sym h'.operators in
    let len : length ss ≡ length ss' = sym (length_operators ss) ∙ ap length o ∙ length_operators ss' in
    let ops : (a : ℕ) → (stage_at ss a).operators ≡ (stage_at ss' a).operators = λ a. (sym (operators_at ss a) ∙ ap (λ g. get_or g a []) o ∙ operators_at ss' a) in
    let cnt : source_stages ss ≡ source_stages ss' = ap leading_sources o in
    let wide : (a : ℕ) → parallelism_at ss a ≡ parallelism_at ss' a = λ a.
    elim (cases_lt a (length ss)) [
      | inl l ↦ h.parallelism a l ∙ ap (stage_parallelism c) (ops a) ∙ sym (h'.parallelism a (omega (arith, l, len)))
      | inr l ↦ ap (λ s. s.parallelism) (get_or_past ss a (stage_from 0 [] None) l) ∙ sym (ap (λ s. s.parallelism) (get_or_past ss' a (stage_from 0 [] None) (omega (arith, l, len))))
    ] in
    ext_get_or (stage_from 0 [] None) ss ss' len (λ a l. same_stage (stage_at ss a) (stage_at ss' a) (wide a) (ops a)
    (elim (cases_eq (suc a) (length ss)) [
      | inl e ↦ h.no_edge a e ∙ sym (h'.no_edge a (omega (arith, e, len)))
      | inr ne ↦
          let af : next_stage ss a ≡ next_stage ss' a = ap (λ n. max n (suc a)) cnt in
          h.edges a (omega (arith, l, ne))
          ∙ ap (λ x. Some x) (ap (λ b. edge_into (stage_at ss a) (stage_at ss b)) af ∙ same_link (stage_at ss a) (stage_at ss (next_stage ss' a)) (stage_at ss' a) (stage_at ss' (next_stage ss' a)) (wide a) (wide (next_stage ss' a)) (ops (next_stage ss' a)))
          ∙ sym (h'.edges a (omega (arith, l, ne, len)))
    ]))

-- the stages, made
module _ (bare : List Stage) where
  pub made_length : length (with_edges bare) ≡ length bare
  made_length = length-map-range_with_len (with_edge bare) 0 (length bare)

  made_at : (a : ℕ) → a < length bare → stage_at (with_edges bare) a ≡ with_edge bare a
  made_at a l = get_or-map-range_with_len (with_edge bare) 0 (length bare) a a (stage_from 0 [] None) l (omega arith)

  -- but for their edges the stages are as they were
  same_but : {X : Type 0} (f : Stage → X) → ((a : ℕ) → f (with_edge bare a) ≡ f (stage_at bare a)) → (a : ℕ) → f (stage_at (with_edges bare) a) ≡ f (stage_at bare a)
  same_but f same a =
      elim (cases_lt a (length bare)) [
        | inl l ↦ ap f (made_at a l) ∙ same a
        | inr l ↦ ap f (get_or_past (with_edges bare) a (stage_from 0 [] None) (omega (arith, l, made_length)) ∙ sym (get_or_past bare a (stage_from 0 [] None) l))
      ]

  made_parallelism : (a : ℕ) → parallelism_at (with_edges bare) a ≡ parallelism_at bare a
  made_parallelism = same_but (λ s. s.parallelism) (λ a. refl)

  made_operators_at : (a : ℕ) → (stage_at (with_edges bare) a).operators ≡ (stage_at bare a).operators
  made_operators_at = same_but (λ s. s.operators) (λ a. refl)

  pub made_operators : map (λ s. s.operators) (with_edges bare) ≡ map (λ s. s.operators) bare
  made_operators =
      ext_get_or [] (map (λ s. s.operators) (with_edges bare)) (map (λ s. s.operators) bare) (length_operators (with_edges bare) ∙ made_length ∙ sym (length_operators bare))
      (λ a l. operators_at (with_edges bare) a ∙ made_operators_at a ∙ sym (operators_at bare a))

  made_edge : (a : ℕ) → suc a < length bare → (stage_at (with_edges bare) a).edge ≡ Some (edge_into (stage_at (with_edges bare) a) (stage_at (with_edges bare) (next_stage (with_edges bare) a)))
  made_edge a l =
      let b = next_stage bare a in
      let within : ltb (suc a) (length bare) ≡ true = lt-ltb (suc a) (length bare) l in
      let after : next_stage bare a ≡ next_stage (with_edges bare) a = ap (λ n. max n (suc a)) (ap leading_sources (sym made_operators)) in
      ap (λ s. s.edge) (made_at a (omega (arith, l)))
      ∙ rw within (ap Some (
      same_link (stage_at bare a) (stage_at bare b) (stage_at (with_edges bare) a) (stage_at (with_edges bare) b) (sym (made_parallelism a)) (sym (made_parallelism b)) (sym (made_operators_at b))
      ∙ ap (λ n. edge_into (stage_at (with_edges bare) a) (stage_at (with_edges bare) n)) after))

  made_last : (a : ℕ) → suc a ≡ length bare → (stage_at (with_edges bare) a).edge ≡ None
  made_last a l =
      let past : ltb (suc a) (length bare) ≡ false = grind (arith, nat_tests) in
      ap (λ s. s.edge) (made_at a (omega (arith, l))) ∙ rw past refl

bare_operators : (c : ScaleData) (oss : List (List Operator)) → map (λ s. s.operators) (map (bare_stage c) oss) ≡ oss
bare_operators c [] = refl
bare_operators c (os ∷ oss) = ap (λ x. os ∷ x) (bare_operators c oss)

bare_parallelism : (c : ScaleData) (oss : List (List Operator)) (a : ℕ) → a < length oss → parallelism_at (map (bare_stage c) oss) a ≡ stage_parallelism c (stage_at (map (bare_stage c) oss) a).operators
bare_parallelism c [] a l = absurd (omega (arith, l))
bare_parallelism c (os ∷ oss) zero l = refl
bare_parallelism c (os ∷ oss) (suc a) l = bare_parallelism c oss a (omega (arith, l))

pub compiled_ever : CompiledEver
compiled_ever p c =
    let oss = stage_operators p c (in_order p) in
    let bare : List Stage = map (bare_stage c) oss in
    let size : length bare ≡ length oss = sym (length_operators bare) ∙ ap length (bare_operators c oss) in
    let made = made_length bare in
    record {
      operators = made_operators bare ∙ bare_operators c oss;
      parallelism = λ a l. made_parallelism bare a ∙ bare_parallelism c oss a (omega (arith, l, made, size)) ∙ sym (ap (stage_parallelism c) (made_operators_at bare a));
      edges = λ a l. made_edge bare a (omega (arith, l, made));
      no_edge = λ a l. made_last bare a (omega (arith, l, made));
    }
