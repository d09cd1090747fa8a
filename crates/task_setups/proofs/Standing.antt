-- A task that is told its setup stands for the layout's task.
use Rattle.std.proofs.Common.{◌≡◌, ℕ, zero, suc, ◌+◌, ◌<◌, ◌≤◌, ◌&&◌, Bool, true, false, List, [], ◌∷◌, ◌++◌, length, map, take, drop, refl, sym, ap, ◌∙◌, inl, inr, arith}
use Rattle.std.specs.Prelude.{Option, Some, None, slice_get, slice_index, if◌then◌else◌}
use Rattle.std.specs.Option.{option_map_or}
use Rattle.std.proofs.lemmas.Bool.{cases_lt}
use Rattle.std.specs.List.{range_with_len}
use Rattle.plain_data.specs.Record.{Record, at}
use Rattle.lane_kernels.specs.Compare.{holds}
use Rattle.plan_model.specs.declared.spec.FilterSpec.{FilterSpec}
use Rattle.plan_model.specs.PlanData.{PlanData}
use Rattle.plan_model.specs.Windows.{passes}
use Rattle.dataflow_model.specs.Leg.{Until, leg_of, limit_of, until_at}
use Rattle.dataflow_model.specs.Role.{is_source, is_window}
use Rattle.layout_rules.specs.declared.stage.Operator.{Operator}
use Rattle.layout_rules.specs.declared.stage.Operator.TheVariants.{Source, Filter, Window, Sink}
use Rattle.layout_rules.specs.declared.stage.Edge.{Edge}
use Rattle.layout_rules.specs.declared.stage.Edge.TheVariants.{Forward, ByGroup, Rebalance}
use Rattle.layout_rules.specs.Stages.{parallelism_at, role_of, source_of, next_stage, stage_of, task_stage, inputs_of, partitions_of}
use Rattle.layout_rules.specs.Layouts.{partition_counts, routing_of, passes_operators}
use Rattle.task_steps.specs.Limits.{limit_in}
use Rattle.task_steps.specs.TaskData.{IsRouting, IsWindowOf}
use Rattle.task_setups.specs.Laws.{EveryTaskStands}
use Rattle.task_setups.specs.Setups.{split_of, filters_of, limits_at}

and_assoc : (a b c : Bool) → ((a && b) && c) ≡ (a && (b && c))
and_assoc true b c = refl
and_assoc false b c = refl

passes_both : (fs gs : List FilterSpec) (r : Record) → passes (fs ++ gs) r ≡ (passes fs r && passes gs r)
passes_both [] gs r = refl
passes_both (f ∷ fs) gs r = ap (λ b. holds f.cmp (at f.column r) f.value && b) (passes_both fs gs r) ∙ sym (and_assoc (holds f.cmp (at f.column r) f.value) (passes fs r) (passes gs r))

keeps : (p : PlanData) (os : List Operator) (r : Record) → passes_operators p os r ≡ passes (filters_of p os) r
keeps p [] r = refl
keeps p (Source x ∷ os) r = keeps p os r
keeps p (Filter f ∷ os) r = ap (λ b. passes (take 1 (drop f p.filters)) r && b) (keeps p os r) ∙ sym (passes_both (take 1 (drop f p.filters)) (filters_of p os) r)
keeps p (Window ∷ os) r = keeps p os r
keeps p (Sink ∷ os) r = keeps p os r

routes : (p : PlanData) (edge : Option Edge) (n : ℕ) → IsRouting (split_of p edge n) (routing_of p edge n)
routes p None n = refl
routes p (Some Forward) n = refl
routes p (Some ByGroup) n = (_, refl, λ key. refl)
routes p (Some Rebalance) n = refl

has_window : (p : PlanData) (b : Bool) → IsWindowOf p (if b then Some p.window else None)
has_window p true = refl
has_window p false = tt

-- the limits of places, and those past the last savepoint
mapped : (f : ℕ → ℕ) (xs : List ℕ) (q : ℕ) → q < length xs → f (slice_index xs q) ≡ slice_index (map f xs) q
mapped f [] q l = absurd (omega (arith, l))
mapped f (x ∷ xs) zero l = refl
mapped f (x ∷ xs) (suc q) l = mapped f xs q (omega (arith, l))

pub within : {X : Type 0} (f : ℕ → X) (from n m : ℕ) → m < n → slice_get (map f (range_with_len from n)) m ≡ Some (f (from + m))
within f from zero m l = absurd (omega (arith, l))
within f from (suc n) zero l = let e : from ≡ from + 0 = omega arith in ap (λ k. Some (f k)) e
within f from (suc n) (suc m) l = let e : (from + 1) + m ≡ from + suc m = omega arith in within f (from + 1) n m (omega (arith, l)) ∙ ap (λ k. Some (f k)) e

pub past : {X : Type 0} (f : ℕ → X) (from n m : ℕ) → n ≤ m → slice_get (map f (range_with_len from n)) m ≡ None
past f from zero m l = refl
past f from (suc n) zero l = absurd (omega (arith, l))
past f from (suc n) (suc m) l = past f (from + 1) n m (omega (arith, l))

pub after_all : (size : ℕ → ℕ → ℕ) (until : Until) (cuts : List (List (List ℕ))) (m x q : ℕ) → length cuts ≤ m → limit_of size until cuts m x q ≡ until_at size until x q
after_all size until [] m x q l = refl
after_all size until (c ∷ cuts) zero x q l = absurd (omega (arith, l))
after_all size until (c ∷ cuts) (suc m) x q l = after_all size until cuts m x q (omega (arith, l))

-- the limit of the partition at place q, until savepoint m is taken
pub limited : (n : ℕ) (saves : List (List (List ℕ))) (until : Until) (size : ℕ → ℕ → ℕ) (x : ℕ) (mine : List ℕ) (m q : ℕ) → q < length mine
    → limit_of size until saves m x (slice_index mine q)
    ≡ limit_in (map (limits_at (leg_of n saves until size) x mine) (range_with_len 0 (length saves))) (limits_at (leg_of n saves until size) x mine (length saves)) m q
limited n saves until size x mine m q l =
    let leg = leg_of n saves until size in
    let rows = map (limits_at leg x mine) (range_with_len 0 (length saves)) in
    let ends = limits_at leg x mine (length saves) in
    let same : m ≡ 0 + m = omega arith in
    elim (cases_lt m (length saves)) [
      | inl k ↦
          mapped (λ j. leg.limit m x j) mine q l
          ∙ ap (λ k'. slice_index (limits_at leg x mine k') q) same
          ∙ sym (ap (λ o. option_map_or (λ r. slice_index r q) o (slice_index ends q)) (within (limits_at leg x mine) 0 (length saves) m k))
      | inr k ↦
          after_all size until saves m x (slice_index mine q) k
          ∙ sym (after_all size until saves (length saves) x (slice_index mine q) (omega arith))
          ∙ mapped (λ j. leg.limit (length saves) x j) mine q l
          ∙ sym (ap (λ o. option_map_or (λ r. slice_index r q) o (slice_index ends q)) (past (limits_at leg x mine) 0 (length saves) m k))
    ]

places : (b : Bool) (n m q : ℕ) → b ≡ true → q < (if b then n else m) → q < n
places true n m q h l = l
places false n m q h l = absurd cc

pub every_task_stands : EveryTaskStands
every_task_stands p e n saves until stages t s f =
    let st = task_stage stages t in
    let mine = partitions_of (partition_counts p) stages t in
    record {
      columns = refl;
      time = refl;
      key = refl;
      window = has_window p (is_window (role_of st.operators));
      role = refl;
      inputs = refl;
      outputs = refl;
      routing = routes p st.edge (parallelism_at stages (next_stage stages (stage_of stages t)));
      keeps = λ r. keeps p st.operators r;
      first = refl;
      saves = refl;
      ending = refl;
      source = λ _. refl;
      numbers = λ q _ _. refl;
      limits = λ m q is l. limited n saves until e.size (source_of st.operators) mine m q (places (is_source (role_of st.operators)) (length mine) (length (inputs_of stages t)) q is l);
    }
