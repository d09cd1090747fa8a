-- The stages of a plan at a scale: sources, chains, the window, the sink.
use Rattle.std.proofs.Common.{◌≡◌, ℕ, zero, suc, ◌+◌, ◌-◌, ◌<◌, ◌≤◌, List, [], ◌∷◌, Bool, true, false, ◌&&◌, ◌==◌, length, map, take, drop, get_or, refl, sym, ap, subst, ◌∙◌, inl, inr, arith}
use Rattle.std.proofs.Math.Bool.{and-true, and_assoc}
use Rattle.std.proofs.Math.Seq.{take-length}
use Rattle.std.proofs.lemmas.Bool.{cases_Bool, cases_lt, false≢true, ne_eqb}
use Rattle.std.proofs.lemmas.List.{get_or_past}
use Rattle.plain_data.specs.Record.{Record, at}
use Rattle.lane_kernels.specs.Compare.{holds}
use Rattle.plan_model.specs.declared.spec.FilterSpec.{FilterSpec}
use Rattle.plan_model.specs.PlanData.{PlanData, IsPlan}
use Rattle.plan_model.specs.Windows.{passes}
use Rattle.dataflow_model.specs.declared.role.Role.TheVariants as role
use Rattle.dataflow_model.specs.Role.{is_source}
use Rattle.layout_rules.specs.declared.stage.Operator.{Operator}
use Rattle.layout_rules.specs.declared.stage.Operator.TheVariants.{Source, Filter, Window, Sink}
use Rattle.layout_rules.specs.declared.stage.Stage.{Stage}
use Rattle.layout_rules.specs.Stages.{stage_at, parallelism_at, role_of, source_of, source_stages}
use Rattle.layout_rules.specs.Rules.{sources_from, filters_from, in_order, filter_scale, parallelism_of, is_chained, onto_first, stage_operators_from, stage_operators, stage_parallelism, IsCompiled, window_of}
use Rattle.layout_rules.specs.Scale.{ScaleData, IsParallelism, IsScale}
use Rattle.layout_rules.specs.Layouts.{passes_operators, passes_stages}
use Rattle.layout_rules.specs.Laws.{CompiledIsLayout}
use Rattle.layout_rules.proofs.Shape.{IsShaped}
use Rattle.layout_rules.proofs.LayoutLaws.{is_layout}
use Rattle.layout_rules.proofs.Partitions.{deals}

-- m stages that filters open, the window's and the sink's
abbrev IsTail : ℕ → List (List Operator) → Type 0
IsTail zero gs = gs ≡ (Window ∷ []) ∷ (Sink ∷ []) ∷ []
IsTail (suc m) gs = (f : ℕ) × (os : List Operator) × (rest : List (List Operator)) × (gs ≡ (Filter f ∷ os) ∷ rest) × IsTail m rest

-- n stages of sources from number k on, before those
abbrev IsFront : PlanData → ℕ → ℕ → ℕ → List (List Operator) → Type 0
IsFront p zero m k gs = IsTail m gs
IsFront p (suc n) m k gs = (os : List Operator) × (rest : List (List Operator)) × (gs ≡ (Source k ∷ os) ∷ rest) × (1 < (length p.sources) → os ≡ []) × IsFront p n m (suc k) rest

last : (a b : Bool) → (a && b) ≡ true → b ≡ true
last true b h = h
last false b h = absurd (false≢true h)

module _ (p : PlanData) (c : ScaleData) where
  -- filters after a filter
  tail : (n k f : ℕ) → (os : List Operator) × (rest : List (List Operator)) × (m : ℕ) × (stage_operators_from p c (Filter f) (filters_from k n (Window ∷ Sink ∷ [])) ≡ (Filter f ∷ os) ∷ rest) × IsTail m rest
  tail zero k f = ([], (Window ∷ []) ∷ (Sink ∷ []) ∷ [], 0, refl, refl)
  tail (suc n) k f =
      let t = tail n (suc k) k in
      elim (cases_Bool (is_chained p c (Filter f) (Filter k))) [
        | inl e ↦ (Filter k ∷ t.0, t.1, t.2, rw e (ap (onto_first (Filter f)) t.3), t.4)
        | inr e ↦ ([], (Filter k ∷ t.0) ∷ t.1, suc t.2, rw e (ap (λ g. (Filter f ∷ []) ∷ g) t.3), (k, t.0, t.1, refl, t.4))
      ]

  -- no filter joins one of several sources
  few : (x : ℕ) → is_chained p c (Source x) (Filter 0) ≡ true → 1 < (length p.sources) → ⊥
  few x e l =
      let z = last (filter_scale c 0).chain ((parallelism_of c (Source x) == (filter_scale c 0).parallelism) && (length p.sources == 1)) e in
      let y = last (parallelism_of c (Source x) == (filter_scale c 0).parallelism) (length p.sources == 1) z in
      false≢true (sym (ne_eqb (length p.sources) 1 (λ q. absurd (omega (arith, q, l)))) ∙ y)

  -- filters after a source
  after_source : (n x : ℕ) → (os : List Operator) × (rest : List (List Operator)) × (m : ℕ) × (stage_operators_from p c (Source x) (filters_from 0 n (Window ∷ Sink ∷ [])) ≡ (Source x ∷ os) ∷ rest) × (1 < (length p.sources) → os ≡ []) × IsTail m rest
  after_source zero x = ([], (Window ∷ []) ∷ (Sink ∷ []) ∷ [], 0, refl, (λ _. refl), refl)
  after_source (suc n) x =
      let t = tail n 1 0 in
      elim (cases_Bool (is_chained p c (Source x) (Filter 0))) [
        | inl e ↦ (Filter 0 ∷ t.0, t.1, t.2, rw e (ap (onto_first (Source x)) t.3), (λ l. absurd (few x e l)), t.4)
        | inr e ↦ ([], (Filter 0 ∷ t.0) ∷ t.1, suc t.2, rw e (ap (λ g. (Source x ∷ []) ∷ g) t.3), (λ _. refl), (0, t.0, t.1, refl, t.4))
      ]

  front : (n x : ℕ) → (m : ℕ) × IsFront p (suc n) m x (stage_operators_from p c (Source x) (sources_from (suc x) n (filters_from 0 (length p.filters) (Window ∷ Sink ∷ []))))
  front zero x = let t = after_source (length p.filters) x in (t.2, (t.0, t.1, t.3, t.4, t.5))
  front (suc n) x = let t = front n (suc x) in (t.0, ([], stage_operators_from p c (Source (suc x)) (sources_from (suc (suc x)) n (filters_from 0 (length p.filters) (Window ∷ Sink ∷ []))), refl, (λ _. refl), t.1))

  start : (n : ℕ) → 0 < n → (m : ℕ) × IsFront p n m 0 (stage_operators p c (sources_from 0 n (filters_from 0 (length p.filters) (Window ∷ Sink ∷ []))))
  start zero l = absurd (omega arith)
  start (suc n) l = front n 0

  whole : 0 < length p.sources → (m : ℕ) × IsFront p (length p.sources) m 0 (stage_operators p c (in_order p))
  whole some = start (length p.sources) some

-- what stands where
tail_size : (m : ℕ) (gs : List (List Operator)) → IsTail m gs → length gs ≡ suc (suc m)
tail_size zero gs t = ap length t
tail_size (suc m) gs t = ap length t.3 ∙ ap suc (tail_size m t.2 t.4)

tail_chain : (m : ℕ) (gs : List (List Operator)) → IsTail m gs → (a : ℕ) → a < m → role_of (get_or gs a []) ≡ role.Chain
tail_chain zero gs t a l = absurd (omega arith)
tail_chain (suc m) gs t zero l = ap (λ g. role_of (get_or g 0 [])) t.3
tail_chain (suc m) gs t (suc a) l = ap (λ g. role_of (get_or g (suc a) [])) t.3 ∙ tail_chain m t.2 t.4 a (omega arith)

tail_window : (m : ℕ) (gs : List (List Operator)) → IsTail m gs → get_or gs m [] ≡ Window ∷ []
tail_window zero gs t = ap (λ g. get_or g 0 []) t
tail_window (suc m) gs t = ap (λ g. get_or g (suc m) []) t.3 ∙ tail_window m t.2 t.4

tail_sink : (m : ℕ) (gs : List (List Operator)) → IsTail m gs → get_or gs (suc m) [] ≡ Sink ∷ []
tail_sink zero gs t = ap (λ g. get_or g 1 []) t
tail_sink (suc m) gs t = ap (λ g. get_or g (suc (suc m)) []) t.3 ∙ tail_sink m t.2 t.4

module _ (p : PlanData) where
  front_size : (n m k : ℕ) (gs : List (List Operator)) → IsFront p n m k gs → length gs ≡ suc (suc (n + m))
  front_size zero m k gs t = tail_size m gs t ∙ omega arith
  front_size (suc n) m k gs t = ap length t.2 ∙ (let z = front_size n m (suc k) t.1 t.4 in omega (arith, z))

  front_source : (n m k : ℕ) (gs : List (List Operator)) → IsFront p n m k gs → (a : ℕ) → a < n → (os : List Operator) × (get_or gs a [] ≡ Source (k + a) ∷ os) × (1 < (length p.sources) → os ≡ [])
  front_source zero m k gs t a l = absurd (omega arith)
  front_source (suc n) m k gs t zero l = (t.0, ap (λ g. get_or g 0 []) t.2 ∙ ap (λ x. Source x ∷ t.0) (omega arith), t.3)
  front_source (suc n) m k gs t (suc a) l =
      let r = front_source n m (suc k) t.1 t.4 a (omega arith) in
      (r.0, ap (λ g. get_or g (suc a) []) t.2 ∙ r.1 ∙ ap (λ x. Source x ∷ r.0) (omega arith), r.2)

  front_rest : (n m k : ℕ) (gs : List (List Operator)) → IsFront p n m k gs → (rest : List (List Operator)) × IsTail m rest × ((a : ℕ) → get_or gs (n + a) [] ≡ get_or rest a [])
  front_rest zero m k gs t = (gs, t, λ a. ap (λ x. get_or gs x []) (omega arith))
  front_rest (suc n) m k gs t =
      let r = front_rest n m (suc k) t.1 t.4 in
      (r.0, r.1, λ a. (let q : suc n + a ≡ suc (n + a) = omega arith in ap (λ g. get_or g (suc n + a) []) t.2 ∙ ap (λ x. get_or ((Source k ∷ t.0) ∷ t.1) x []) q ∙ r.2 a))

-- the sources' stages are those that stand before the first other
sources_is : (ss : List Stage) (n : ℕ) → ((a : ℕ) → a < n → role_of (stage_at ss a).operators ≡ role.Source) → is_source (role_of (stage_at ss n).operators) ≡ false → source_stages ss ≡ n
sources_is [] zero h e = refl
sources_is [] (suc n) h e = let z : role.Chain ≡ role.Source = h 0 (omega arith) in absurd cc
sources_is (s ∷ ss) zero h e = rw e refl
sources_is (s ∷ ss) (suc n) h e =
    let z : is_source (role_of s.operators) ≡ true = ap is_source (h 0 (omega arith)) in
    rw z (ap suc (sources_is ss n (λ a l. h (suc a) (omega arith)) e))

pub operators_at : (ss : List Stage) (a : ℕ) → get_or (map (λ s. s.operators) ss) a [] ≡ (stage_at ss a).operators
operators_at [] a = refl
operators_at (s ∷ ss) zero = refl
operators_at (s ∷ ss) (suc a) = operators_at ss a

pub length_operators : (ss : List Stage) → length (map (λ s. s.operators) ss) ≡ length ss
length_operators [] = refl
length_operators (s ∷ ss) = ap suc (length_operators ss)

-- all filters
abbrev kept_groups : PlanData → List (List Operator) → Record → Bool
kept_groups p [] r = true
kept_groups p (g ∷ gs) r = (passes_operators p g r && kept_groups p gs r)

kept_cons : (p : PlanData) (o : Operator) (os : List Operator) (r : Record) → passes_operators p (o ∷ os) r ≡ (passes_operators p (o ∷ []) r && passes_operators p os r)
kept_cons p (Source x) os r = refl
kept_cons p (Filter f) os r = ap (λ b. b && passes_operators p os r) (sym (and-true (passes (take 1 (drop f p.filters)) r)))
kept_cons p Window os r = refl
kept_cons p Sink os r = refl

onto_kept : (p : PlanData) (o : Operator) (gs : List (List Operator)) (r : Record) → kept_groups p (onto_first o gs) r ≡ (passes_operators p (o ∷ []) r && kept_groups p gs r)
onto_kept p o [] r = refl
onto_kept p o (g ∷ gs) r = ap (λ b. b && kept_groups p gs r) (kept_cons p o g r) ∙ and_assoc (passes_operators p (o ∷ []) r) (passes_operators p g r) (kept_groups p gs r)

groups_kept : (p : PlanData) (c : ScaleData) (o : Operator) (os : List Operator) (r : Record) → kept_groups p (stage_operators_from p c o os) r ≡ passes_operators p (o ∷ os) r
groups_kept p c o [] r = and-true (passes_operators p (o ∷ []) r)
groups_kept p c o (o' ∷ os) r =
    let z : (passes_operators p (o ∷ []) r && kept_groups p (stage_operators_from p c o' os) r) ≡ passes_operators p (o ∷ o' ∷ os) r = ap (λ b. passes_operators p (o ∷ []) r && b) (groups_kept p c o' os r) ∙ sym (kept_cons p o (o' ∷ os) r) in
    elim (cases_Bool (is_chained p c o o')) [
      | inl e ↦ rw e (onto_kept p o (stage_operators_from p c o' os) r ∙ z)
      | inr e ↦ rw e z
    ]

stages_kept : (p : PlanData) (c : ScaleData) (os : List Operator) (r : Record) → kept_groups p (stage_operators p c os) r ≡ passes_operators p os r
stages_kept p c [] r = refl
stages_kept p c (o ∷ os) r = groups_kept p c o os r

kept_map : (p : PlanData) (ss : List Stage) (r : Record) → passes_stages p ss r ≡ kept_groups p (map (λ s. s.operators) ss) r
kept_map p [] r = refl
kept_map p (s ∷ ss) r = ap (λ b. passes_operators p s.operators r && b) (kept_map p ss r)

-- one filter and those after it
passes_step : (fs : List FilterSpec) (k n : ℕ) (r : Record) → passes (take (suc n) (drop k fs)) r ≡ (passes (take 1 (drop k fs)) r && passes (take n (drop (suc k) fs)) r)
passes_step [] zero zero r = refl
passes_step [] zero (suc n) r = refl
passes_step [] (suc k) zero r = refl
passes_step [] (suc k) (suc n) r = refl
passes_step (f ∷ fs) zero n r = ap (λ b. b && passes (take n fs) r) (sym (and-true (holds f.cmp (at f.column r) f.value)))
passes_step (f ∷ fs) (suc k) n r = passes_step fs k n r

kept_filters : (p : PlanData) (k n : ℕ) (os : List Operator) (r : Record) → passes_operators p (filters_from k n os) r ≡ (passes (take n (drop k p.filters)) r && passes_operators p os r)
kept_filters p k zero os r = refl
kept_filters p k (suc n) os r =
    ap (λ b. passes (take 1 (drop k p.filters)) r && b) (kept_filters p (suc k) n os r)
    ∙ sym (and_assoc (passes (take 1 (drop k p.filters)) r) (passes (take n (drop (suc k) p.filters)) r) (passes_operators p os r))
    ∙ ap (λ b. b && passes_operators p os r) (sym (passes_step p.filters k n r))

kept_sources : (p : PlanData) (k n : ℕ) (os : List Operator) (r : Record) → passes_operators p (sources_from k n os) r ≡ passes_operators p os r
kept_sources p k zero os r = refl
kept_sources p k (suc n) os r = kept_sources p (suc k) n os r

kept_in_order : (p : PlanData) (r : Record) → passes_operators p (in_order p) r ≡ passes p.filters r
kept_in_order p r =
    kept_sources p 0 (length p.sources) (filters_from 0 (length p.filters) (Window ∷ Sink ∷ [])) r
    ∙ kept_filters p 0 (length p.filters) (Window ∷ Sink ∷ []) r
    ∙ and-true (passes (take (length p.filters) p.filters) r)
    ∙ ap (λ fs. passes fs r) (take-length p.filters)

-- each parallelism is one that the plan's key groups allow
pub one_within : (max : ℕ) → 1 ≤ max → IsParallelism max 1
one_within max some = record { some = omega arith; few = omega arith; grouped = some }

pub parallelism_within : (p : PlanData) (c : ScaleData) → 1 ≤ p.max → IsScale p c → (os : List Operator) → IsParallelism p.max (stage_parallelism c os)
parallelism_within p c some h [] = one_within p.max some
parallelism_within p c some h (Source x ∷ os) =
    elim (cases_lt x (length c.sources)) [
      | inl l ↦ h.source_parallelisms x 1 l
      | inr l ↦ subst (λ n. IsParallelism p.max n) (sym (get_or_past c.sources x 1 l)) (one_within p.max some)
    ]
parallelism_within p c some h (Filter f ∷ os) =
    elim (cases_lt f (length c.filters)) [
      | inl l ↦ h.filter_parallelisms f (record { parallelism = 1; chain = false }) l
      | inr l ↦ subst (λ n. IsParallelism p.max n) (sym (ap (λ s. s.parallelism) (get_or_past c.filters f (record { parallelism = 1; chain = false }) l))) (one_within p.max some)
    ]
parallelism_within p c some h (Window ∷ os) = h.window_parallelism
parallelism_within p c some h (Sink ∷ os) = one_within p.max some

pub shaped : (p : PlanData) (c : ScaleData) (stages : List Stage) → IsPlan p → IsScale p c → IsCompiled p c stages → IsShaped p stages (window_of stages)
shaped p c stages ip sc h =
    let some = ip.sourced in
    let wh = whole p c (omega (arith, some)) in
    let m = wh.0 in
    let n = (length p.sources) in
    let gs = map (λ s. s.operators) stages in
    let fr : IsFront p n m 0 gs = subst (λ g. IsFront p n m 0 g) (sym h.operators) wh.1 in
    let size : length stages ≡ suc (suc (n + m)) = sym (length_operators stages) ∙ front_size p n m 0 gs fr in
    let rest = front_rest p n m 0 gs fr in
    let there : (a : ℕ) → (stage_at stages (n + a)).operators ≡ get_or rest.0 a [] = λ a. (sym (operators_at stages (n + a)) ∙ rest.2 a) in
    let window : (stage_at stages (n + m)).operators ≡ Window ∷ [] = there m ∙ tail_window m rest.0 rest.1 in
    let sink : (stage_at stages (suc (n + m))).operators ≡ Sink ∷ [] = ap (λ a. (stage_at stages a).operators) (omega arith) ∙ there (suc m) ∙ tail_sink m rest.0 rest.1 in
    let source : (a : ℕ) → a < n → (os : List Operator) × ((stage_at stages a).operators ≡ Source (0 + a) ∷ os) × (1 < n → os ≡ []) = λ a l. (let r = front_source p n m 0 gs fr a l in (r.0, sym (operators_at stages a) ∙ r.1, r.2)) in
    let chain : (a : ℕ) → n ≤ a → a < n + m → role_of (stage_at stages a).operators ≡ role.Chain = λ a l k.
    (ap (λ b. role_of (stage_at stages b).operators) (omega (arith, l)) ∙ ap role_of (there (a - n)) ∙ tail_chain m rest.0 rest.1 (a - n) (omega (arith, l, k))) in
    let other : is_source (role_of (stage_at stages n).operators) ≡ false =
    elim (cases_lt n (n + m)) [
      | inl l ↦ ap is_source (chain n (omega arith) l)
      | inr l ↦ ap (λ b. is_source (role_of (stage_at stages b).operators)) (omega (arith, l)) ∙ ap (λ os. is_source (role_of os)) window
    ] in
    let count : source_stages stages ≡ n = sources_is stages n (λ a l. ap role_of (source a l).1) other in
    let wide : (a : ℕ) → a < suc (suc (n + m)) → parallelism_at stages a ≡ stage_parallelism c (stage_at stages a).operators = λ a l. h.parallelism a (omega (arith, l, size)) in
    let it : IsShaped p stages (n + m) = record {
      size = size;
      some = omega (arith, count, some);
      before = omega (arith, count);
      source = λ a l. ap role_of (source a (omega (arith, l, count))).1;
      chain = λ a l k. chain a (omega (arith, l, count)) k;
      window = ap role_of window;
      sink = ap role_of sink;
      wide = λ a l. (let z = (parallelism_within p c ip.grouped sc (stage_at stages a).operators).some in omega (arith, wide a l, z));
      one = wide (suc (n + m)) (omega arith) ∙ ap (stage_parallelism c) sink;
      edges = λ a l. h.edges a (omega (arith, l, size));
      edge_sink = h.no_edge (suc (n + m)) (sym size);
      all = λ r. kept_map p stages r ∙ ap (λ g. kept_groups p g r) h.operators ∙ stages_kept p c (in_order p) r ∙ kept_in_order p r;
      several = λ k a r l. (let s = source a (omega (arith, l, count)) in ap (λ os. passes_operators p os r) s.1 ∙ ap (λ os. passes_operators p os r) (s.2 (omega (arith, k, count))));
      kept_window = λ r. ap (λ os. passes_operators p os r) window;
      kept_sink = λ r. ap (λ os. passes_operators p os r) sink;
      all_sources = count;
      grouped = (let z = ip.grouped in omega (arith, z));
      opens = λ a l. (ap source_of (source a (omega (arith, l, count))).1 ∙ omega arith);
    } in
    subst (λ w. IsShaped p stages w) (omega (arith, size)) it

pub compiled_is_layout : CompiledIsLayout
compiled_is_layout p c e leg stages ip sc h = let s = shaped p c stages ip sc h in (is_layout p e leg stages (window_of stages) s, deals p e leg stages (window_of stages) s)
