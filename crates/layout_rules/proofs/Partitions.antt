-- A compiled layout deals each partition of the input to one task.
use Rattle.std.proofs.Common.{◌≡◌, ℕ, suc, ◌+◌, ◌/◌, ◌%◌, ◌<◌, ◌≤◌, List, true, length, get_or, slice_index, refl, sym, ap, subst, ◌∙◌, inl, inr, arith}
use Rattle.std.proofs.lemmas.Bool.{cases_lt, eq-eqb, eqb-true}
use Rattle.std.proofs.lemmas.Nat.{mod_below}
use Rattle.plan_model.specs.PlanData.{PlanData}
use Rattle.dataflow_model.specs.declared.role.Role.TheVariants.{Source}
use Rattle.dataflow_model.specs.Role.{is_source}
use Rattle.dataflow_model.specs.Leg.{Leg}
use Rattle.dataflow_model.specs.AbstractLayout.{AbstractLayout, AbstractInput, reader_of, place_in_reader, partition_read, Reads, IsDealt, IsPlace, Deals}
use Rattle.layout_rules.specs.declared.stage.Stage.{Stage}
use Rattle.layout_rules.specs.Below.{sum_below, filter_below, count_below}
use Rattle.layout_rules.specs.Stages.{stage_at, parallelism_at, role_of, source_of, source_stages, task_count, stage_of, subtask_of, task_stage, belongs, partitions_at, partitions_of}
use Rattle.layout_rules.specs.Layouts.{partition_counts, Entries, abstract_layout, source_at, number_at, abstract_input}
use Rattle.layout_rules.proofs.Shape.{IsShaped}
use Rattle.layout_rules.proofs.Rows.{first_up, row_is, row_at, length_those, select, selected, count_div}
use Rattle.layout_rules.proofs.LayoutLaws.{early, later, row, subtask}

module _ (p : PlanData) (e : Entries) (leg : Leg) (stages : List Stage) (w : ℕ) (sh : IsShaped p stages w) where
  abbrev F : ℕ → ℕ
  F = sum_below (parallelism_at stages)

  abbrev P : ℕ → ℕ
  P = slice_index (partition_counts p)

  abbrev B : ℕ → ℕ
  B = sum_below P

  abbrev T : ℕ
  T = task_count stages

  abbrev L : AbstractLayout
  L = abstract_layout p e leg stages w

  abbrev mine : ℕ → List ℕ
  mine t = partitions_of (partition_counts p) stages t

  abbrev I : AbstractInput
  I = abstract_input p e

  -- a source's task
  source_task : (t : ℕ) → t < F w → role_of (task_stage stages t).operators ≡ Source → (stage_of stages t < source_stages stages) × (source_of (task_stage stages t).operators ≡ stage_of stages t)
  source_task t l h =
      let x = early p e leg stages w sh t l in
      let y : stage_of stages t < source_stages stages = elim (cases_lt (stage_of stages t) (source_stages stages)) [ inl k ↦ k | inr k ↦ absurd (later p e leg stages w sh (stage_of stages t) k (omega (arith, x.0)) h) ] in
      (y, sh.opens (stage_of stages t) y)

  mine_is : (t : ℕ) → role_of (task_stage stages t).operators ≡ Source → mine t ≡ filter_below (belongs stages t) (partitions_at (partition_counts p) stages t)
  mine_is t h = let z : is_source (role_of (task_stage stages t).operators) ≡ true = ap is_source h in rw z refl

  inputs_there : (t : ℕ) → role_of (task_stage stages t).operators ≡ Source → (L.task t).inputs ≡ count_below (belongs stages t) (P (source_of (task_stage stages t).operators))
  inputs_there t h =
      let z : is_source (role_of (task_stage stages t).operators) ≡ true = ap is_source h in
      rw z (length_those (belongs stages t) (partitions_at (partition_counts p) stages t))

  -- what stands at a place of a task is one of its partitions
  at_place : (t k : ℕ) → role_of (task_stage stages t).operators ≡ Source → k < (L.task t).inputs → (get_or (mine t) k 0 < partitions_at (partition_counts p) stages t) × (belongs stages t (get_or (mine t) k 0) ≡ true) × (count_below (belongs stages t) (get_or (mine t) k 0) ≡ k)
  at_place t k h m =
      subst (λ v. (v < partitions_at (partition_counts p) stages t) × (belongs stages t v ≡ true) × (count_below (belongs stages t) v ≡ k)) (sym (ap (λ l. get_or l k 0) (mine_is t h)))
      (selected (belongs stages t) (partitions_at (partition_counts p) stages t) k (omega (arith, m, inputs_there t h)))

  -- subtask i of source stage x
  subtask_is : (x i : ℕ) → x < source_stages stages → i < parallelism_at stages x → (stage_of stages (F x + i) ≡ x) × (subtask_of stages (F x + i) ≡ i) × (F x + i < F w) × (role_of (task_stage stages (F x + i)).operators ≡ Source) × (source_of (task_stage stages (F x + i)).operators ≡ x)
  subtask_is x i l m =
      let z = sh.size in
      let b = sh.before in
      let r = row_at (parallelism_at stages) (length stages) x i (omega (arith, l, z, b)) m in
      let y : F (stage_of stages (F x + i)) ≡ F x = ap F r.0 in
      (r.0, omega (arith, y), omega (arith, m, first_up (parallelism_at stages) (suc x) w (omega (arith, l, b))), ap (λ n. role_of (stage_at stages n).operators) r.0 ∙ sh.source x l, ap (λ n. source_of (stage_at stages n).operators) r.0 ∙ sh.opens x l)

  -- the place of a partition is how often the source's parallelism goes into its number
  place_is : (t v : ℕ) → t < T → belongs stages t v ≡ true → count_below (belongs stages t) v ≡ v / parallelism_at stages (stage_of stages t)
  place_is t v l be =
      let st = subtask p e leg stages w sh t l in
      count_div (parallelism_at stages (stage_of stages t)) (subtask_of stages t) v st.1 (eqb-true (v % parallelism_at stages (stage_of stages t)) (subtask_of stages t) be)

  reads_at : (x i : ℕ) → x < source_stages stages → i < parallelism_at stages x → Reads L x (F x + i)
  reads_at x i l m = let s = subtask_is x i l m in record { early = s.2; role = s.3; source = s.4 }

  dealt_at : (q : ℕ) → q < B (length p.sources) → IsDealt I L q
  dealt_at q l =
      let x = source_at p q in
      let v = number_at p q in
      let t = reader_of I L q in
      let r = row_is P (length p.sources) q l in
      let n = sh.all_sources in
      let xl : x < source_stages stages = omega (arith, r.0, n) in
      let b = sh.before in
      let wd = sh.wide x (omega (arith, xl, b)) in
      let m : v % parallelism_at stages x < parallelism_at stages x = mod_below v (parallelism_at stages x) wd in
      let s = subtask_is x (v % parallelism_at stages x) xl m in
      let be : belongs stages t v ≡ true = eq-eqb (v % (task_stage stages t).parallelism) (subtask_of stages t) (ap (λ a. v % parallelism_at stages a) s.0 ∙ sym s.1) in
      let vl : v < P (source_of (task_stage stages t).operators) = (let y : P (source_of (task_stage stages t).operators) ≡ P x = ap P s.4 in omega (arith, y, r.1, r.2)) in
      let c = select (belongs stages t) (P (source_of (task_stage stages t).operators)) v vl be in
      let at : place_in_reader I L q ≡ count_below (belongs stages t) v = sym (place_is t v (early p e leg stages w sh t s.2).1 be ∙ ap (λ a. v / parallelism_at stages a) s.0) in
      let g : get_or (mine t) (place_in_reader I L q) 0 ≡ v = ap (λ k. get_or (mine t) k 0) at ∙ ap (λ l. get_or l (count_below (belongs stages t) v) 0) (mine_is t s.3) ∙ c.1 in
      record {
        reads = reads_at x (v % parallelism_at stages x) xl m;
        place = omega (arith, at, c.0, inputs_there t s.3);
        partition = g;
        back = (let y : B (source_of (task_stage stages t).operators) ≡ B x = ap B s.4 in omega (arith, y, g, r.1));
      }

  -- the number of a task's partition
  numbered : (t k : ℕ) → t < L.before → (L.task t).role ≡ Source → k < (L.task t).inputs → (partition_read I L t k < B (length p.sources)) × (source_at p (partition_read I L t k) ≡ source_of (task_stage stages t).operators) × (number_at p (partition_read I L t k) ≡ get_or (mine t) k 0)
  numbered t k l h m =
      let x = source_of (task_stage stages t).operators in
      let st = source_task t l h in
      let n = sh.all_sources in
      let c = at_place t k h m in
      let r = row_at P (length p.sources) x (get_or (mine t) k 0) (omega (arith, st.0, st.1, n)) c.0 in
      (r.1, r.0, (let y : B (source_at p (partition_read I L t k)) ≡ B x = ap B r.0 in omega (arith, y)))

  place_at : (t k : ℕ) → t < L.before → (L.task t).role ≡ Source → k < (L.task t).inputs → IsPlace I leg L t k
  place_at t k l h m =
      let q = partition_read I L t k in
      let x = source_of (task_stage stages t).operators in
      let v = get_or (mine t) k 0 in
      let st = source_task t l h in
      let nu = numbered t k l h m in
      let c = at_place t k h m in
      let u = (early p e leg stages w sh t l).1 in
      let y : source_at p q ≡ stage_of stages t = nu.1 ∙ st.1 in
      let be : v % parallelism_at stages (stage_of stages t) ≡ subtask_of stages t = eqb-true (v % (task_stage stages t).parallelism) (subtask_of stages t) c.1 in
      record {
        some = nu.0;
        source = nu.1;
        number = nu.2;
        task = ap (λ a. F a + number_at p q % parallelism_at stages a) y
            ∙ ap (λ a. F (stage_of stages t) + a % parallelism_at stages (stage_of stages t)) nu.2
            ∙ ap (λ a. F (stage_of stages t) + a) be
            ∙ (subtask p e leg stages w sh t u).0;
        place = ap (λ a. number_at p q / parallelism_at stages a) y
            ∙ ap (λ a. a / parallelism_at stages (stage_of stages t)) nu.2
            ∙ sym (place_is t v u c.1) ∙ c.2;
        entry = λ n. ap (λ a. e.entry x a n) (sym nu.2) ∙ ap (λ a. e.entry a (number_at p q) n) (sym nu.1);
        brings = λ n. ap (λ a. e.brings x a n) (sym nu.2) ∙ ap (λ a. e.brings a (number_at p q) n) (sym nu.1);
        watermark = λ n. ap (λ a. e.watermark x a n) (sym nu.2) ∙ ap (λ a. e.watermark a (number_at p q) n) (sym nu.1);
        size = ap (λ a. e.size x a) (sym nu.2) ∙ ap (λ a. e.size a (number_at p q)) (sym nu.1);
        limit = λ m. refl;
      }

  own_at : (t : ℕ) → t < L.before → (L.task t).role ≡ Source → ((L.task t).source < length p.sources) × (F (L.task t).source ≤ t) × (t < F (L.task t).source + parallelism_at stages (L.task t).source)
  own_at t l h =
      let st = source_task t l h in
      let n = sh.all_sources in
      let r = row p e leg stages w sh t (early p e leg stages w sh t l).1 in
      let y : F (L.task t).source ≡ F (stage_of stages t) = ap F st.1 in
      let z : parallelism_at stages (L.task t).source ≡ parallelism_at stages (stage_of stages t) = ap (parallelism_at stages) st.1 in
      (omega (arith, st.0, st.1, n), omega (arith, y, r.1), omega (arith, y, z, r.2))

  pub deals : Deals (abstract_input p e) leg L
  deals = record {
    pass = λ r. refl;
    some = λ x l. (let n = sh.all_sources in let b = sh.before in sh.wide x (omega (arith, l, n, b)));
    subtask = λ x j l m. (let n = sh.all_sources in reads_at x j (omega (arith, l, n)) m);
    own = own_at;
    dealt = dealt_at;
    there = place_at;
  }
