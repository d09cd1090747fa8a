-- A compiled layout has the laws of a layout.
use Rattle.std.proofs.Common.{◌≡◌, ℕ, ℤ, zero, suc, ◌+◌, ◌-◌, ◌*◌, ◌<◌, ◌≤◌, List, [], ◌∷◌, Bool, true, false, ◌&&◌, eqb, ltb, leb, length, drop, get_or, Some, None, refl, sym, ap, subst, ◌∙◌, inl, inr, arith}
use Rattle.std.proofs.lemmas.Bool.{cases_eq, cases_Bool, cases_lt, false≢true, eq-eqb, eqb-true, ltb-true, lt-ltb, le-leb, and_parts, and_from}
use Rattle.std.proofs.lemmas.Nat.{div_below, mul-add-lt, mod_below}
use Rattle.plain_data.specs.Record.{Record}
use Rattle.key_groups.specs.Groups.{key_group, hash_code}
use Rattle.key_groups.specs.Ranges.{group_owner}
use Rattle.lane_kernels.specs.Mix.{murmur_hash}
use Rattle.plan_model.specs.PlanData.{PlanData}
use Rattle.dataflow_model.specs.declared.role.Role.TheVariants.{Source, Chain, Window, Sink}
use Rattle.dataflow_model.specs.Role.{is_window}
use Rattle.dataflow_model.specs.AbstractTask.{Whole, Split}
use Rattle.dataflow_model.specs.Leg.{Leg}
use Rattle.dataflow_model.specs.AbstractLayout.{AbstractLayout, IsLayout, Sends}
use Rattle.dataflow_model.proofs.Facts.{not_a_source}
use Rattle.layout_rules.specs.declared.stage.Edge.TheVariants.{ByGroup}
use Rattle.layout_rules.specs.declared.stage.Stage.{Stage}
use Rattle.layout_rules.specs.Below.{sum_below, row_of, count_below}
use Rattle.layout_rules.specs.Stages.{stage_from, stage_at, parallelism_at, role_of, source_stages, next_stage, task_count, stage_of, subtask_of, task_stage, connects, is_ring, edge_into}
use Rattle.layout_rules.specs.Layouts.{Entries, owner_of, passes_operators, passes_stages, routing_of, abstract_layout}
use Rattle.layout_rules.proofs.Shape.{IsShaped}
use Rattle.layout_rules.proofs.Rows.{first_up, row_is, row_one, row_at, length_those, select, selected, count_none, count_all}

-- not true is false
pub is_false : (b : Bool) → (b ≡ true → ⊥) → b ≡ false
is_false true h = absurd (h refl)
is_false false h = refl

pub drop_step : (ss : List Stage) (b : ℕ) → b < length ss → drop b ss ≡ get_or ss b (stage_from 0 [] None) ∷ drop (suc b) ss
drop_step [] b l = absurd (omega arith)
drop_step (s ∷ ss) zero l = refl
drop_step (s ∷ ss) (suc b) l = drop_step ss b (omega arith)

pub past : (f : ℕ → ℕ) (n t : ℕ) → sum_below f (suc n) ≤ t → row_of f (suc n) t ≡ n
past f n t l = let e : leb (sum_below f n) t ≡ true = le-leb (sum_below f n) t (omega (arith, l)) in rw e refl

-- an edge joins all pairs, but a forward one those of one number
pub joined : (s s' : Stage) (i j : ℕ) → (s.parallelism ≡ s'.parallelism → i ≡ j) → connects (Some (edge_into s s')) i j ≡ true
joined s s' i j h =
    elim (cases_Bool (is_window (role_of s'.operators))) [
      | inl e ↦ rw e refl
      | inr e ↦ rw e (elim (cases_Bool (eqb s.parallelism s'.parallelism)) [
        | inr d ↦ rw d refl
        | inl d ↦ rw d (eq-eqb i j (h (eqb-true s.parallelism s'.parallelism d)))
      ])
    ]

pub owner_below : (max n g : ℕ) → g < max → 0 < n → group_owner max n g < n
owner_below max n g l k = div_below (g * n) max n (omega (arith, l)) (let z : g * n < n * max = omega (arith, mul-add-lt g n 0 max l k) in z)

over_all : (p : PlanData) (ss : List Stage) (r : Record) → passes_stages p (drop (length ss) ss) r ≡ true
over_all p [] r = refl
over_all p (s ∷ ss) r = over_all p ss r

none_before : (p : PlanData) (ss : List Stage) (k : ℕ) (r : Record) → k ≤ length ss → ((a : ℕ) → a < k → passes_operators p (get_or ss a (stage_from 0 [] None)).operators r ≡ true) → passes_stages p ss r ≡ passes_stages p (drop k ss) r
none_before p ss zero r l h = refl
none_before p [] (suc k) r l h = absurd (omega arith)
none_before p (s ∷ ss) (suc k) r l h = let z : passes_operators p s.operators r ≡ true = h 0 (omega arith) in rw z (none_before p ss k r (omega arith) (λ a m. h (suc a) (omega arith)))

module _ (p : PlanData) (e : Entries) (leg : Leg) (stages : List Stage) (w : ℕ) (sh : IsShaped p stages w) where
  abbrev pub F : ℕ → ℕ
  F = sum_below (parallelism_at stages)

  abbrev pub T : ℕ
  T = task_count stages

  abbrev pub S : ℕ
  S = source_stages stages

  abbrev pub L : AbstractLayout
  L = abstract_layout p e leg stages w

  pub tasks_are : T ≡ suc (F (suc w))
  tasks_are = ap F sh.size ∙ (let o = sh.one in omega (arith, o))

  pub row : (t : ℕ) → t < T → (stage_of stages t < suc (suc w)) × (F (stage_of stages t) ≤ t) × (t < F (suc (stage_of stages t)))
  row t l = let r = row_is (parallelism_at stages) (length stages) t l in let z = sh.size in (omega (arith, r.0, z), r.1, r.2)

  pub early : (t : ℕ) → t < F w → (stage_of stages t < w) × (t < T)
  early t l =
      let u : t < T = omega (arith, l, tasks_are) in
      let r = row t u in
      elim (cases_lt (stage_of stages t) w) [
        | inl k ↦ (k, u)
        | inr k ↦ absurd (omega (arith, l, r.1, first_up (parallelism_at stages) w (stage_of stages t) k))
      ]

  pub in_window : (t : ℕ) → F w ≤ t → t < F (suc w) → (stage_of stages t ≡ w) × (t < T)
  in_window t l m =
      let u : t < T = omega (arith, m, tasks_are) in
      let r = row t u in
      (row_one (parallelism_at stages) (stage_of stages t) w t r.1 r.2 l m, u)

  pub in_sink : (stage_of stages (F (suc w)) ≡ suc w) × (F (suc w) < T)
  in_sink =
      let u : F (suc w) < T = omega (arith, tasks_are) in
      let r = row (F (suc w)) u in
      let o = sh.one in
      (row_one (parallelism_at stages) (stage_of stages (F (suc w))) (suc w) (F (suc w)) r.1 r.2 (omega arith) (omega (arith, o)), u)

  -- a ring leads to the stage after
  pub rung : (s t : ℕ) → is_ring stages s t ≡ true → (t < T) × (stage_of stages t ≡ next_stage stages (stage_of stages s)) × (connects (task_stage stages s).edge (subtask_of stages s) (subtask_of stages t) ≡ true) × (stage_of stages s ≤ w) × (s < T)
  rung s t h =
      let a = and_parts (ltb t T) (eqb (stage_of stages t) (next_stage stages (stage_of stages s)) && connects (task_stage stages s).edge (subtask_of stages s) (subtask_of stages t)) h in
      let b = and_parts (eqb (stage_of stages t) (next_stage stages (stage_of stages s))) (connects (task_stage stages s).edge (subtask_of stages s) (subtask_of stages t)) a.1 in
      let l : t < T = ltb-true t T a.0 in
      let q : stage_of stages t ≡ next_stage stages (stage_of stages s) = eqb-true (stage_of stages t) (next_stage stages (stage_of stages s)) b.0 in
      let r = row t l in
      let m : stage_of stages s ≤ w = omega (arith, r.0, q) in (
        l,
        q,
        b.1,
        m,
        elim (cases_lt s T) [
          | inl k ↦ k
          | inr k ↦ absurd (
              let z : F (suc (suc w)) ≤ s = (let y : F (suc (suc w)) ≡ T = sym (ap F sh.size) in omega (arith, k, y)) in
              let x : stage_of stages s ≡ suc w = ap (λ n. row_of (parallelism_at stages) n s) sh.size ∙ past (parallelism_at stages) (suc w) s z in
              omega (arith, x, m))
        ],
      )

  pub ring_at : (s t : ℕ) → t < T → stage_of stages t ≡ next_stage stages (stage_of stages s) → connects (task_stage stages s).edge (subtask_of stages s) (subtask_of stages t) ≡ true → is_ring stages s t ≡ true
  ring_at s t l q j =
      and_from (ltb t T) (eqb (stage_of stages t) (next_stage stages (stage_of stages s)) && connects (task_stage stages s).edge (subtask_of stages s) (subtask_of stages t)) (lt-ltb t T l)
      (and_from (eqb (stage_of stages t) (next_stage stages (stage_of stages s))) (connects (task_stage stages s).edge (subtask_of stages s) (subtask_of stages t)) (eq-eqb (stage_of stages t) (next_stage stages (stage_of stages s)) q) j)

  -- a ring between subtasks i and j of two stages
  pub ring_between : (a i b j : ℕ) → a ≤ w → i < parallelism_at stages a → b ≡ next_stage stages a → j < parallelism_at stages b → (parallelism_at stages a ≡ parallelism_at stages b → i ≡ j) → is_ring stages (F a + i) (F b + j) ≡ true
  ring_between a i b j l il q jl h =
      let z = sh.size in
      let bl : b < length stages = (let x = sh.before in omega (arith, q, l, z, x)) in
      let ra = row_at (parallelism_at stages) (length stages) a i (omega (arith, l, z)) il in
      let rb = row_at (parallelism_at stages) (length stages) b j bl jl in
      let sa : subtask_of stages (F a + i) ≡ i = (let y : F (stage_of stages (F a + i)) ≡ F a = ap F ra.0 in omega (arith, y)) in
      let sb : subtask_of stages (F b + j) ≡ j = (let y : F (stage_of stages (F b + j)) ≡ F b = ap F rb.0 in omega (arith, y)) in
      let jn : connects (Some (edge_into (stage_at stages a) (stage_at stages b))) i j ≡ true = joined (stage_at stages a) (stage_at stages b) i j h in
      let ed : (task_stage stages (F a + i)).edge ≡ Some (edge_into (stage_at stages a) (stage_at stages b)) = ap (λ n. (stage_at stages n).edge) ra.0 ∙ sh.edges a l ∙ ap (λ n. Some (edge_into (stage_at stages a) (stage_at stages n))) (sym q) in
      ring_at (F a + i) (F b + j) rb.1 (rb.0 ∙ q ∙ ap (next_stage stages) (sym ra.0)) (rw (ed, sa, sb) jn)

  -- the place of a task in its stage
  pub subtask : (t : ℕ) → t < T → (F (stage_of stages t) + subtask_of stages t ≡ t) × (subtask_of stages t < parallelism_at stages (stage_of stages t))
  subtask t l = let r = row t l in (omega (arith, r.1), omega (arith, r.1, r.2))

  -- a task of a later stage has a ring in, and one of a stage before the sink a ring out
  pub has_in : (t : ℕ) → t < T → S ≤ stage_of stages t → (s : ℕ) × (is_ring stages s t ≡ true)
  has_in t l k =
      let b = stage_of stages t in
      let r = row t l in
      let st = subtask t l in
      let so = sh.some in
      let a = b - 1 in
      let al : a ≤ w = omega (arith, r.0) in
      let q : b ≡ next_stage stages a = omega (arith, k, so) in
      elim (cases_eq (parallelism_at stages a) (parallelism_at stages b)) [
        | inl x ↦ (F a + subtask_of stages t, subst (λ y. is_ring stages (F a + subtask_of stages t) y ≡ true) st.0 (ring_between a (subtask_of stages t) b (subtask_of stages t) al (omega (arith, x, st.1)) q st.1 (λ _. refl)))
        | inr x ↦ (F a + 0, subst (λ y. is_ring stages (F a + 0) y ≡ true) st.0 (ring_between a 0 b (subtask_of stages t) al (sh.wide a (omega (arith, al))) q st.1 (λ y. absurd (x y))))
      ]

  pub has_out : (s : ℕ) → s < T → stage_of stages s ≤ w → (t : ℕ) × (is_ring stages s t ≡ true)
  has_out s l k =
      let a = stage_of stages s in
      let st = subtask s l in
      let b = next_stage stages a in
      let bl : b < suc (suc w) = (let x = sh.before in omega (arith, k, x)) in
      elim (cases_eq (parallelism_at stages a) (parallelism_at stages b)) [
        | inl x ↦ (F b + subtask_of stages s, subst (λ y. is_ring stages y (F b + subtask_of stages s) ≡ true) st.0 (ring_between a (subtask_of stages s) b (subtask_of stages s) k st.1 refl (omega (arith, x, st.1)) (λ _. refl)))
        | inr x ↦ (F b + 0, subst (λ y. is_ring stages y (F b + 0) ≡ true) st.0 (ring_between a (subtask_of stages s) b 0 k st.1 refl (sh.wide b bl) (λ y. absurd (x y))))
      ]

  pub later : (a : ℕ) → S ≤ a → a < suc (suc w) → role_of (stage_at stages a).operators ≡ Source → ⊥
  later a l m h =
      elim (cases_lt a w) [
        | inl k ↦ (let x : Chain ≡ Source = sym (sh.chain a l k) ∙ h in absurd cc)
        | inr k ↦ elim (cases_eq a w) [
          | inl q ↦ (let x : Window ≡ Source = sym (ap (λ n. role_of (stage_at stages n).operators) q ∙ sh.window) ∙ h in absurd cc)
          | inr ne ↦ (let q : a ≡ suc w = omega (arith, k, m, ne) in let x : Sink ≡ Source = sym (ap (λ n. role_of (stage_at stages n).operators) q ∙ sh.sink) ∙ h in absurd cc)
        ]
      ]

  pub later_task : (t : ℕ) → t < T → (role_of (task_stage stages t).operators ≡ Source → ⊥) → S ≤ stage_of stages t
  later_task t l ns = elim (cases_lt (stage_of stages t) S) [ inl k ↦ absurd (ns (sh.source (stage_of stages t) k)) | inr k ↦ k ]

  pub rung_no_source : (s t : ℕ) → is_ring stages s t ≡ true → role_of (task_stage stages t).operators ≡ Source → ⊥
  rung_no_source s t h = let r = rung s t h in let x = row t r.0 in later (stage_of stages t) (omega (arith, r.1)) x.0

  -- how many inputs
  pub inputs_are : (t : ℕ) → (role_of (task_stage stages t).operators ≡ Source → ⊥) → (L.task t).inputs ≡ count_below (λ x. is_ring stages x t) T
  inputs_are t ns = let z = not_a_source (role_of (task_stage stages t).operators) ns in rw z (length_those (λ x. is_ring stages x t) T)

  pub outputs_are : (s : ℕ) → (L.task s).outputs ≡ count_below (is_ring stages s) T
  outputs_are s = length_those (is_ring stages s) T

  -- into the window all are joined
  pub into_window : (t v : ℕ) → stage_of stages t ≤ w → next_stage stages (stage_of stages t) ≡ w → F w ≤ v → v < F (suc w) → is_ring stages t v ≡ true
  into_window t v l q a b =
      let v' = in_window v a b in
      let z : is_window (role_of (stage_at stages w).operators) ≡ true = ap is_window sh.window in
      let y : edge_into (task_stage stages t) (stage_at stages w) ≡ ByGroup = rw z refl in
      let ed : (task_stage stages t).edge ≡ Some ByGroup = sh.edges (stage_of stages t) l ∙ ap (λ n. Some (edge_into (task_stage stages t) (stage_at stages n))) q ∙ ap Some y in
      ring_at t v v'.1 (v'.0 ∙ sym q) (rw ed refl)

  pub rung_window : (t u : ℕ) → is_ring stages t u ≡ true → F w ≤ u → u < F (suc w) → next_stage stages (stage_of stages t) ≡ w
  rung_window t u h a b = sym (rung t u h).1 ∙ (in_window u a b).0

  pub out_of_window : (t u : ℕ) → F w ≤ t → t < F (suc w) → is_ring stages t u ≡ true → F (suc w) ≤ u
  out_of_window t u a b h =
      let r = rung t u h in
      let x = row u r.0 in
      let y = (in_window t a b).0 in
      let k : suc w ≤ stage_of stages u = omega (arith, r.1, y) in
      omega (arith, first_up (parallelism_at stages) (suc w) (stage_of stages u) k, x.1)

  pub window_sink : (t : ℕ) → F w ≤ t → t < F (suc w) → is_ring stages t (F (suc w)) ≡ true
  window_sink t a b =
      let x = in_window t a b in
      let st = subtask t x.1 in
      let y : parallelism_at stages (stage_of stages t) ≡ parallelism_at stages w = ap (parallelism_at stages) x.0 in
      let q : suc w ≡ next_stage stages w = (let z = sh.before in omega (arith, z)) in
      let o = sh.one in
      let f : F (stage_of stages t) ≡ F w = ap F x.0 in
      subst (λ n. is_ring stages n (F (suc w)) ≡ true) st.0 (subst (λ n. is_ring stages (F (stage_of stages t) + subtask_of stages t) n ≡ true) (omega arith)
      (subst (λ n. is_ring stages (n + subtask_of stages t) (F (suc w) + 0) ≡ true) (sym f)
      (ring_between w (subtask_of stages t) (suc w) 0 (omega arith) (omega (arith, st.1, y)) q (omega (arith, o)) (λ d. omega (arith, d, o, st.1, y)))))

  -- the filters after a stage
  pub after_stage : (b : ℕ) (r : Record) → S ≤ b → b < suc (suc w) → passes_stages p (drop b stages) r ≡ (passes_operators p (stage_at stages b).operators r && passes_stages p (drop (next_stage stages b) stages) r)
  after_stage b r l m =
      let z = sh.size in
      let q : suc b ≡ next_stage stages b = omega (arith, l) in
      ap (λ ss. passes_stages p ss r) (drop_step stages b (omega (arith, m, z))) ∙ ap (λ n. (passes_operators p (stage_at stages b).operators r && passes_stages p (drop n stages) r)) q

  pub at_end : (r : Record) → passes_stages p (drop w stages) r ≡ true
  at_end r =
      let z = sh.size in
      let a = sh.kept_window r in
      let b = sh.kept_sink r in
      ap (λ ss. passes_stages p ss r) (drop_step stages w (omega (arith, z))) ∙ rw a (ap (λ ss. passes_stages p ss r) (drop_step stages (suc w) (omega (arith, z))) ∙ rw b (ap (λ n. passes_stages p (drop n stages) r) (sym z) ∙ over_all p stages r))

  pub owner_in : (key : ℤ) → owner_of p (parallelism_at stages w) key < parallelism_at stages w
  owner_in key = owner_below p.max (parallelism_at stages w) (key_group p.max key) (mod_below (murmur_hash (hash_code key)) p.max sh.grouped) (sh.wide w (omega arith))

  -- an edge into another stage than the window's sends whole batches
  whole_edge : (s s' : Stage) (n : ℕ) → is_window (role_of s'.operators) ≡ false → routing_of p (Some (edge_into s s')) n ≡ Whole
  whole_edge s s' n e = rw e (elim (cases_Bool (eqb s.parallelism s'.parallelism)) [ inl d ↦ rw d refl | inr d ↦ rw d refl ])

  -- output d of a task that leads to the window has window task d at its end
  window_at : (t d : ℕ) → t < F w → next_stage stages (stage_of stages t) ≡ w → d < parallelism_at stages w → (d < (L.task t).outputs) × (L.to t d ≡ F w + d)
  window_at t d l q m =
      let ea = early t l in
      let u : F w + d < F (suc w) = omega (arith, m) in
      let none = count_none (is_ring stages t) 0 (F w) (omega arith) (λ v _ vl. is_false (is_ring stages t v) (λ z. absurd (let rv = rung t v z in let ev = early v vl in omega (arith, rv.1, ev.0, q)))) in
      let all = count_all (is_ring stages t) (F w) (F w + d) (omega arith) (λ v a b. into_window t v (omega (arith, ea.0)) q a (omega (arith, b, u))) in
      let at : count_below (is_ring stages t) (F w + d) ≡ d = omega (arith, none, all) in
      let h = into_window t (F w + d) (omega (arith, ea.0)) q (omega arith) u in
      let x = select (is_ring stages t) T (F w + d) (rung t (F w + d) h).0 h in
      (omega (arith, x.0, at, outputs_are t), ap (L.to t) (sym at) ∙ x.1)

  -- whole batches lead to a stage before the window's
  no_window : (t j : ℕ) → t < F w → is_window (role_of (stage_at stages (next_stage stages (stage_of stages t))).operators) ≡ false → j < (L.task t).outputs → L.to t j < F w
  no_window t j l z k =
      let ea = early t l in
      let b = next_stage stages (stage_of stages t) in
      let u = L.to t j in
      let x = selected (is_ring stages t) T j (omega (arith, k, outputs_are t)) in
      let rg = rung t u x.1 in
      let ru = row u rg.0 in
      let sb = sh.before in
      let ne : b ≡ w → ⊥ = λ q. false≢true (sym z ∙ ap (λ n. is_window (role_of (stage_at stages n).operators)) q ∙ ap is_window sh.window) in
      let bl : stage_of stages u < w = elim (cases_eq b w) [ inl q ↦ absurd (ne q) | inr n ↦ omega (arith, rg.1, ea.0, sb, n) ] in
      omega (arith, ru.2, first_up (parallelism_at stages) (suc (stage_of stages u)) w (omega (arith, bl)))

  pub sends_at : (t : ℕ) → t < L.before → Sends L t (L.task t).routing
  sends_at t l =
      let ea = early t l in
      let sb = sh.before in
      let b = next_stage stages (stage_of stages t) in
      let ed : (task_stage stages t).edge ≡ Some (edge_into (task_stage stages t) (stage_at stages b)) = sh.edges (stage_of stages t) (omega (arith, ea.0)) in
      elim (cases_Bool (is_window (role_of (stage_at stages b).operators))) [
        | inl z ↦ (
            let q : b ≡ w = elim (cases_lt b w) [
              | inl k ↦ absurd (false≢true (sym (ap is_window (sh.chain b (omega arith) k)) ∙ z))
              | inr k ↦ omega (arith, k, ea.0, sb)
            ] in
            let y : edge_into (task_stage stages t) (stage_at stages b) ≡ ByGroup = rw z refl in
            let te : (L.task t).routing ≡ Split (owner_of p (parallelism_at stages w)) = ap (λ o. routing_of p o (parallelism_at stages b)) (ed ∙ ap Some y) ∙ ap (λ n. Split (owner_of p (parallelism_at stages n))) q in
            subst (Sends L t) (sym te) (λ key. window_at t (owner_of p (parallelism_at stages w) key) l q (owner_in key)))
        | inr z ↦ (
            let te : (L.task t).routing ≡ Whole = ap (λ o. routing_of p o (parallelism_at stages b)) ed ∙ whole_edge (task_stage stages t) (stage_at stages b) (parallelism_at stages b) z in
            subst (Sends L t) (sym te) (λ j k. no_window t j l z k))
      ]

  pub source_at : (t : ℕ) (r : Record) → (L.task t).role ≡ Source → t < L.before → ((L.task t).keeps r && L.rest t r) ≡ L.pass r
  source_at t r h l =
      let ea = early t l in
      let a = stage_of stages t in
      let sz = sh.size in
      let al : a < S = elim (cases_lt a S) [ inl k ↦ k | inr k ↦ absurd (later a k (omega (arith, ea.0)) h) ] in
      let q : next_stage stages a ≡ S = omega (arith, al) in
      elim (cases_lt 1 S) [
        | inl m ↦ (
            let z : passes_operators p (stage_at stages a).operators r ≡ true = sh.several m a r al in
            rw z (ap (λ n. passes_stages p (drop n stages) r) q ∙ sym (none_before p stages S r (let x = sh.before in omega (arith, x, sz)) (λ b bl. sh.several m b r bl)) ∙ sh.all r))
        | inr m ↦ (
            let z : a ≡ 0 = omega (arith, al, m) in
            let y : next_stage stages a ≡ 1 = omega (arith, q, m, al) in
            ap (λ n. (passes_operators p (stage_at stages n).operators r && passes_stages p (drop (next_stage stages a) stages) r)) z
            ∙ ap (λ n. (passes_operators p (stage_at stages 0).operators r && passes_stages p (drop n stages) r)) y
            ∙ sym (ap (λ ss. passes_stages p ss r) (drop_step stages 0 (omega (arith, sz)))) ∙ sh.all r)
      ]

  pub is_layout : IsLayout L
  is_layout = record {
    some_windows = (let x = sh.wide w (omega arith) in omega (arith, x));
    roles_before = λ t l ns. (let x = early t l in sh.chain (stage_of stages t) (later_task t x.1 ns) x.0);
    roles_window = λ t a b. ap (λ n. role_of (stage_at stages n).operators) (in_window t a b).0 ∙ sh.window;
    role_sink = ap (λ n. role_of (stage_at stages n).operators) in_sink.0 ∙ sh.sink;
    forward = λ s t h. (let r = rung s t h in let x = row s r.4 in let y = row t r.0 in omega (arith, x.2, y.1, first_up (parallelism_at stages) (suc (stage_of stages s)) (stage_of stages t) (omega (arith, r.1))));
    no_ring_in = λ s t h. is_false (is_ring stages s t) (λ q. rung_no_source s t q h);
    input = λ t i ns l. (let x = selected (λ s. is_ring stages s t) T i (omega (arith, l, inputs_are t ns)) in (x.1, x.2));
    output = λ s j l. (let x = selected (is_ring stages s) T j (omega (arith, l, outputs_are s)) in (x.1, x.2, omega (arith, x.0, tasks_are)));
    ring_in = λ s t h. (let r = rung s t h in let x = select (λ s. is_ring stages s t) T s r.4 h in (omega (arith, x.0, inputs_are t (rung_no_source s t h)), x.1));
    ring_out = λ s t h. (let r = rung s t h in let x = select (is_ring stages s) T t r.0 h in (omega (arith, x.0, outputs_are s), x.1));
    some_input = λ t ns l. (
        let u : t < T = omega (arith, l, tasks_are) in
        let s = has_in t u (later_task t u ns) in
        let r = rung s.0 t s.1 in
        let x = select (λ s. is_ring stages s t) T s.0 r.4 s.1 in
        omega (arith, x.0, inputs_are t ns));
    some_output = λ t l. (
        let x = early t l in
        let u = has_out t x.1 (omega (arith, x.0)) in
        let r = rung t u.0 u.1 in
        let y = select (is_ring stages t) T u.0 r.0 u.1 in
        omega (arith, y.0, outputs_are t));
    before_sink = λ t l. is_false (is_ring stages t (F (suc w))) (λ h. (let r = rung t (F (suc w)) h in let x = early t l in let y = in_sink.0 in let z = sh.before in absurd (omega (arith, r.1, x.0, y, z))));
    window_out = λ t a b. (
        let h = window_sink t a b in
        (outputs_are t ∙ ap (count_below (is_ring stages t)) tasks_are ∙ rw h (let z = count_none (is_ring stages t) 0 (F (suc w)) (omega arith) (λ k _ m. is_false (is_ring stages t k) (λ q. absurd (omega (arith, m, out_of_window t k a b q)))) in omega (arith, z)), h));
    window_only = λ t u a b l. is_false (is_ring stages t u) (λ q. absurd (omega (arith, l, out_of_window t u a b q)));
    all_windows = λ t u v a b c d h. into_window t v (rung t u h).3 (rung_window t u h a b) c d;
    sends = λ t l. sends_at t l;
    owner_window = λ key. (let d = owner_in key in (omega arith, omega (arith, d)));
    filters = λ s t r l h. (
        let x = rung s t h in
        let y = row t x.0 in
        ap (λ n. passes_stages p (drop n stages) r) (sym x.1) ∙ after_stage (stage_of stages t) r (omega (arith, x.1)) y.0);
    last_filter = λ s t r a b h. ap (λ n. passes_stages p (drop n stages) r) (rung_window s t h a b) ∙ at_end r;
    source_filter = λ t r h l. source_at t r h l;
  }
