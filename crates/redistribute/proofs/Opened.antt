-- Tasks that begin with what a cut leaves are in opening states.
use Rattle.std.proofs.Common.{◌≡◌, ℕ, zero, suc, ◌<◌, ◌≤◌, ℤ, List, [], ◌∷◌, length, map, get_or, slice_index, refl, sym, ap, subst, ◌∙◌, inl, inr, arith}
use Rattle.std.specs.Prelude.{slice_index_or, Option, Some, None, ◌==◌, if◌then◌else◌}
use Rattle.std.proofs.lemmas.Bool.{cases_Bool, eqb-true}
use Rattle.std.specs.List.{All, AllByRecursion, AllZip}
use Rattle.std.specs.FinMap.{get, from_entries, get-from_entries}
use Rattle.std.proofs.lemmas.List.{length-map}
use Rattle.plan_model.specs.Aggregates.{Aggregated}
use Rattle.plan_model.specs.PlanData.{PlanData, IsPlan}
use Rattle.plan_model.proofs.Facts.{pane_cmp_total}
use Rattle.stream_model.specs.declared.entry.Marked.{Marked}
use Rattle.stream_model.specs.InputData.{InputData, BelongsTo, partition_at}
use Rattle.stream_model.specs.Watermarks.{partition_watermark, records_before, IsCut, IsBefore}
use Rattle.dataflow_model.specs.declared.role.Role.{Role}
use Rattle.dataflow_model.specs.AbstractTask.{AbstractTask}
use Rattle.dataflow_model.specs.AbstractLayout.{AbstractLayout, partition_read}
use Rattle.dataflow_model.specs.Leg.{Leg, Until, until_at, count_at, leg_of}
use Rattle.dataflow_model.specs.Leg.Until.{ToEnd, ToCut, TillAsked}
use Rattle.dataflow_model.specs.Opening.{IsOpening}
use Rattle.dataflow_model.specs.Start.{IsLegStart}
use Rattle.dataflow_model.specs.Snapshots.{AtOwners}
use Rattle.dataflow_model.specs.State.{State}
use Rattle.dataflow_model.specs.declared.role.Role.TheVariants as role
use Rattle.layout_rules.specs.Laws.{AreRising, IsRoute}
use Rattle.layout_rules.specs.Layouts.{partition_counts, abstract_layout}
use Rattle.layout_rules.specs.Rules.{IsCompiled, window_of, stages_of}
use Rattle.layout_rules.specs.Scale.{ScaleData, IsScale}
use Rattle.layout_rules.specs.Stages.{source_of, task_stage, task_role, partitions_of, groups_of}
use Rattle.layout_rules.proofs.Facts.{compiled_ever, tasks_are_one_leg}
use Rattle.plan_compiler.specs.LayoutData.{LayoutData}
use Rattle.input_flow.specs.InputEntries.{entries_of, input_of, counts_at}
use Rattle.input_flow.proofs.Facts.{there, cut_in}
use Rattle.dataflow_laws.specs.Legs.{AreAt, HaveMarks}
use Rattle.dataflow_laws.specs.Inputs.{HaveCut}
use Rattle.dataflow_laws.specs.Owned.{HaveOwnPanes}
use Rattle.dataflow_laws.specs.Compiled.{layout_to}
use Rattle.window_state.specs.declared.parts.Part.{Part}
use Rattle.window_state.specs.Parts.{entries_of as entries_of_parts}
use Rattle.redistribute.specs.declared.task_start.PartitionStart.{PartitionStart}
use Rattle.redistribute.specs.StartData.{StartData, offsets_of}
use Rattle.redistribute.specs.Begins.{IsStartIn, HasSnapshot}
use Rattle.redistribute.specs.Snapshots.{saved_partition, saved_source, saved_sources}
use Rattle.redistribute.specs.Stopping.{CanGo, CanSaveAt, Rises}
use Rattle.redistribute.specs.Parts.{at_first, saved_at, partition_start, start_of_role, with_windows, parts_within, parts_of, windows_of, IsOpenPart}
use Rattle.redistribute.specs.Laws.{opening_of, opening_states, TasksOpen, TasksHaveSnapshot, TasksHaveOwnPanes}
use Rattle.redistribute.proofs.Dealt.{known, early, places}
use Rattle.redistribute.proofs.Grouped.{total_within, open_within, none_due}
use Rattle.redistribute.proofs.Owned.{owns}

-- ---- what a cut leaves of a partition

saved_in : (ps : List (List Marked)) (ns : List ℕ) (k : ℕ) → AllZip (λ p n. n ≤ length p) ps ns → k < length ps → slice_index_or (saved_source ps ns) k at_first ≡ saved_partition (get_or ps k []) (slice_index ns k)
saved_in [] ns k cut l = absurd (omega (arith, l))
saved_in (p ∷ ps) [] k cut l = absurd cut
saved_in (p ∷ ps) (n ∷ ns) zero cut l = refl
saved_in (p ∷ ps) (n ∷ ns) (suc k) cut l = saved_in ps ns k cut.1 (omega (arith, l))

pub saved_there : (ss : List (List (List Marked))) (cs : List (List ℕ)) (x k : ℕ) → IsCut ss cs → x < length ss → k < length (get_or ss x [])
    → slice_index_or (slice_index_or (saved_sources ss cs) x []) k at_first ≡ saved_partition (partition_at ss x k) (count_at cs x k)
saved_there [] cs x k cut l m = absurd (omega (arith, l))
saved_there (s ∷ ss) [] x k cut l m = absurd cut
saved_there (s ∷ ss) (c ∷ cs) zero k cut l m = saved_in s c k cut.0 m
saved_there (s ∷ ss) (c ∷ cs) (suc x) k cut l m = saved_there ss cs x k cut.1 (omega (arith, l)) m

-- ---- how far a leg goes from a cut

count_up : (ms ns : List ℕ) (k : ℕ) → AllZip (λ m n. m ≤ n) ms ns → slice_index ms k ≤ slice_index ns k
count_up [] [] k h = omega arith
count_up [] (n ∷ ns) k h = absurd h
count_up (m ∷ ms) [] k h = absurd h
count_up (m ∷ ms) (n ∷ ns) zero h = h.0
count_up (m ∷ ms) (n ∷ ns) (suc k) h = count_up ms ns k h.1

cut_up : (bs cs : List (List ℕ)) (x k : ℕ) → IsBefore bs cs → count_at bs x k ≤ count_at cs x k
cut_up [] [] x k h = omega arith
cut_up [] (c ∷ cs) x k h = absurd h
cut_up (b ∷ bs) [] x k h = absurd h
cut_up (b ∷ bs) (c ∷ cs) zero k h = count_up b c k h.0
cut_up (b ∷ bs) (c ∷ cs) (suc x) k h = cut_up bs cs x k h.1

goes_up : (i : InputData) (cut : List (List ℕ)) (until : Until) → IsCut i.sources cut → CanGo i.sources cut until → (x q : ℕ) → count_at cut x q ≤ until_at (entries_of i).size until x q
goes_up i cut ToEnd is_cut can x q = cut_in i.sources cut x q is_cut
goes_up i cut (ToCut end) is_cut can x q = cut_up cut end x q can.1
goes_up i cut TillAsked is_cut can x q = cut_in i.sources cut x q is_cut

stays_within : (i : InputData) (cut : List (List ℕ)) (until : Until) → CanGo i.sources cut until → (x q : ℕ) → until_at (entries_of i).size until x q ≤ (entries_of i).size x q
stays_within i cut ToEnd can x q = omega arith
stays_within i cut (ToCut end) can x q = cut_in i.sources end x q can.0
stays_within i cut TillAsked can x q = omega arith

rises_to : (i : InputData) (begin : List (List ℕ)) (saves : List (List (List ℕ))) (until : Until) → ((x q : ℕ) → count_at begin x q ≤ until_at (entries_of i).size until x q)
    → AllByRecursion (IsCut i.sources) saves → Rises begin saves → ((end : List (List ℕ)) → until ≡ ToCut end → AllByRecursion (λ save. IsBefore save end) saves)
    → AreRising (count_at begin) saves (until_at (entries_of i).size until)
rises_to i begin [] until up cuts rises before = up
rises_to i begin (cut ∷ saves) until up cuts rises before =
    let ahead = last_up i cut until cuts.0 (λ end e. (before end e).0) in
    (λ x q. cut_up begin cut x q rises.0, rises_to i cut saves until ahead cuts.1 rises.1 (λ end e. (before end e).1))
  where
    last_up : (i : InputData) (cut : List (List ℕ)) (until : Until) → IsCut i.sources cut → ((end : List (List ℕ)) → until ≡ ToCut end → IsBefore cut end) → (x q : ℕ) → count_at cut x q ≤ until_at (entries_of i).size until x q
    last_up i cut ToEnd is_cut before x q = cut_in i.sources cut x q is_cut
    last_up i cut (ToCut end) is_cut before x q = cut_up cut end x q (before end refl)
    last_up i cut TillAsked is_cut before x q = cut_in i.sources cut x q is_cut

route : (i : InputData) (cut : List (List ℕ)) (saves : List (List (List ℕ))) (until : Until) → IsCut i.sources cut → CanGo i.sources cut until → CanSaveAt i.sources cut saves until → IsRoute cut saves until (entries_of i).size
route i cut saves until is_cut can save = record {
  rising = rises_to i cut saves until (goes_up i cut until is_cut can) save.cuts save.rises save.before;
  within = stays_within i cut until can;
  asked = save.asked;
}

-- a leg without savepoints on its way
pub no_saves : (sources : List (List (List Marked))) (begin : List (List ℕ)) (until : Until) → CanSaveAt sources begin [] until
no_saves sources begin until = record { few = omega arith; cuts = tt; rises = tt; before = λ end e. tt; asked = λ e. refl }

-- ---- opening states

-- what a function has of the partitions that a function has
mapped_at : {Y : Type 0} (g : PartitionStart → Y) (f : ℕ → PartitionStart) (xs : List ℕ) (q : ℕ) (d : Y) → q < length xs → slice_index_or (map g (map f xs)) q d ≡ g (f (slice_index xs q))
mapped_at g f [] q d l = absurd (omega (arith, l))
mapped_at g f (x ∷ xs) zero d l = refl
mapped_at g f (x ∷ xs) (suc q) d l = mapped_at g f xs q d (omega (arith, l))

-- what a source's task needs of its partitions
record AreMarked (k : AbstractTask) (starts : List PartitionStart) : Type 0 where
  length_starts : length starts ≡ k.inputs
  marked : (q : ℕ) (d : ℤ) → q < k.inputs → slice_index_or (map (λ b. b.watermark) starts) q d ≡ k.watermark q (slice_index (map (λ b. b.offset) starts) q)

opens_as : (p : PlanData) (r : Role) (k : AbstractTask) (starts : List PartitionStart) (parts : List Part) → (r ≡ role.Source → AreMarked k starts) → All (IsOpenPart p) parts
    → IsOpening p r k (opening_of k.inputs (with_windows parts (start_of_role r starts)))
opens_as p role.Source k starts parts h early = let m = h refl in record {
  offsets = map (λ b. b.offset) starts;
  marks = map (λ b. b.watermark) starts;
  is = refl;
  length_offsets = length-map starts (λ b. b.offset) ∙ m.length_starts;
  length_marks = length-map starts (λ b. b.watermark) ∙ m.length_starts;
  marked = m.marked;
}
opens_as p role.Chain k starts parts h early = refl
opens_as p role.Window k starts parts h early = (from_entries (entries_of_parts parts), refl, λ q d. get-from_entries pane_cmp_total (entries_of_parts parts) q ∙ none_due p q d parts early)
opens_as p role.Sink k starts parts h early = refl

-- what stands at a task if the task is the owner
owned_by : (o u : ℕ) (x : Option Aggregated) (a : Aggregated) (n : ℕ) → ((b : Aggregated) → x ≡ Some b → b.count ≤ n) → (if o == u then x else None) ≡ Some a → (o ≡ u) × (a.count ≤ n)
owned_by o u x a n few e =
    elim (cases_Bool (o == u)) [
      | inl y ↦ (eqb-true o u y, few a (sym (λ j. if y j then x else None) ∙ e))
      | inr y ↦ absurd (let z : None ≡ Some a = sym (λ j. if y j then x else None) ∙ e in cc)
    ]

module _ (p : PlanData) (c : ScaleData) (i : InputData) (s : StartData) (leg : Leg) (ip : IsPlan p) (sc : IsScale p c) (belongs : BelongsTo p i) (starts : IsStartIn p i s) where
  abbrev ok : IsCompiled p c (stages_of p c)
  ok = compiled_ever p c

  abbrev cut : List (List ℕ)
  cut = offsets_of s

  abbrev L : AbstractLayout
  L = abstract_layout p (entries_of i) leg (stages_of p c) (window_of (stages_of p c))

  abbrev states : ℕ → State
  states = opening_states p s L (stages_of p c)

  abbrev mine : ℕ → List ℕ
  mine t = partitions_of (partition_counts p) (stages_of p c) t

  abbrev starts_at : ℕ → List PartitionStart
  starts_at t = map (partition_start s (source_of (task_stage (stages_of p c) t).operators)) (mine t)

  abbrev parts_at : ℕ → List Part
  parts_at t = parts_within (groups_of p.max (stages_of p c) t) s

  -- where a task's partition stands
  saved_is : (t q : ℕ) → task_role (stages_of p c) t ≡ role.Source → q < length (mine t)
      → let x = source_of (task_stage (stages_of p c) t).operators in let k = slice_index (mine t) q in saved_at s x k ≡ saved_partition (partition_at i.sources x k) (count_at cut x k)
  saved_is t q h l =
      let y = (known p c (entries_of i) leg ip sc ok).1.there t q (early p c (entries_of i) leg ip sc ok t h) h (let z = places p c (entries_of i) leg ip sc ok t h in omega (arith, l, z)) in
      let g = there p i belongs (partition_read (input_of p i) L t q) y.some in
      let z = ap (λ u. length (get_or i.sources u [])) y.source in
      let u = y.source in
      let v = y.number in
      ap (λ ss. slice_index_or (slice_index_or ss (source_of (task_stage (stages_of p c) t).operators) []) (slice_index (mine t) q) at_first) starts.partitions
      ∙ saved_there i.sources cut (source_of (task_stage (stages_of p c) t).operators) (slice_index (mine t) q) starts.cut (omega (arith, g.0, u)) (omega (arith, g.1, z, v))

  marked_at : (t : ℕ) → task_role (stages_of p c) t ≡ role.Source → AreMarked (L.task t) (starts_at t)
  marked_at t h = record {
    length_starts = length-map (mine t) (partition_start s (source_of (task_stage (stages_of p c) t).operators)) ∙ places p c (entries_of i) leg ip sc ok t h;
    marked = λ q d l.
        let x = source_of (task_stage (stages_of p c) t).operators in
        let k = slice_index (mine t) q in
        let fits : q < length (mine t) = (let z = places p c (entries_of i) leg ip sc ok t h in omega (arith, l, z)) in
        let a = saved_is t q h fits in
        mapped_at (λ b. b.watermark) (partition_start s x) (mine t) q d fits
        ∙ ap (λ z. z.watermark) a
        ∙ sym (ap (partition_watermark (partition_at i.sources x k)) (mapped_at (λ b. b.offset) (partition_start s x) (mine t) q 0 fits ∙ ap (λ z. z.offset) a));
  }

  opens : (t : ℕ) → IsOpening p (L.task t).role (L.task t) (states t)
  opens t = opens_as p (task_role (stages_of p c) t) (L.task t) (starts_at t) (parts_at t) (marked_at t) (open_within p s.kinds (groups_of p.max (stages_of p c) t) s.groups starts.windows)

  begins : (t q : ℕ) → t < L.before → (L.task t).role ≡ role.Source → q < (L.task t).inputs → slice_index (states t).offsets q ≡ count_at cut (L.task t).source ((L.task t).partition q)
  begins t q l h m =
      let x = source_of (task_stage (stages_of p c) t).operators in
      let fits : q < length (mine t) = (let z = places p c (entries_of i) leg ip sc ok t h in omega (arith, m, z)) in
      ap (λ r. slice_index (opening_of (L.task t).inputs (with_windows (parts_at t) (start_of_role r (starts_at t)))).offsets q) h
      ∙ mapped_at (λ b. b.offset) (partition_start s x) (mine t) q 0 fits
      ∙ ap (λ z. z.offset) (saved_is t q h fits)

  -- the cut that they have come to
  are_at : AreAt (input_of p i) L states (counts_at p cut)
  are_at t k l h m =
      let y = (known p c (entries_of i) leg ip sc ok).1.there t k l h m in
      begins t k l h m ∙ sym (λ j. count_at cut (y.source j) (y.number j))

  -- and the watermarks there
  have_marks : HaveMarks (input_of p i) L states (counts_at p cut)
  have_marks t k d l h m =
      let y = (known p c (entries_of i) leg ip sc ok).1.there t k l h m in
      ap (λ r. slice_index_or (opening_of (L.task t).inputs (with_windows (parts_at t) (start_of_role r (starts_at t)))).inputs.marks k d) h
      ∙ (marked_at t h).marked k d m
      ∙ ap (partition_watermark (partition_at i.sources (L.task t).source ((L.task t).partition k))) (ap (λ r. slice_index (opening_of (L.task t).inputs (with_windows (parts_at t) (start_of_role r (starts_at t)))).offsets k) (sym h) ∙ begins t k l h m)
      ∙ sym (λ j. partition_watermark (partition_at i.sources (y.source j) (y.number j)) (count_at cut (y.source j) (y.number j)))

  -- what stands in their windows is what the start has, each pane at the task that owns its key
  have_windows : AtOwners L (λ u. (states u).windows) (get (windows_of s))
  have_windows u l m q =
      let role_is = (known p c (entries_of i) leg ip sc ok).0.roles_window u l m in
      ap (λ r. get (opening_of (L.task u).inputs (with_windows (parts_at u) (start_of_role r (starts_at u)))).windows q) role_is
      ∙ get-from_entries pane_cmp_total (entries_of_parts (parts_at u)) q
      ∙ total_within p s.kinds q (groups_of p.max (stages_of p c) u) s.groups starts.windows
      ∙ (λ j. if owns p c u q.key ip sc l m j then sym (get-from_entries pane_cmp_total (entries_of_parts (parts_of s)) q) j else None)

  have_snapshot : HasSnapshot p i s → HaveCut p i L states cut × HaveMarks (input_of p i) L states (counts_at p cut)
  have_snapshot has = (record { offsets = are_at; windows = λ u l m q. have_windows u l m q ∙ ap (λ z. if L.owner q.key == u then z else None) (has q) }, have_marks)

  -- and of no more records than stand before the cut
  have_own : HaveOwnPanes L states (length (records_before i.sources cut))
  have_own u l m q a e = owned_by (L.owner q.key) u (get (windows_of s) q) a (length (records_before i.sources cut)) (starts.counts q) (sym (have_windows u l m q) ∙ e)

leg_start : (p : PlanData) (c : ScaleData) (i : InputData) (s : StartData) (saves : List (List (List ℕ))) (until : Until) → IsPlan p → IsScale p c → BelongsTo p i → IsStartIn p i s → CanGo i.sources (offsets_of s) until → CanSaveAt i.sources (offsets_of s) saves until
    → let a = layout_to p i s.number saves until (stages_of p c) in IsLegStart p a (opening_states p s a (stages_of p c))
leg_start p c i s saves until ip sc belongs starts can save =
    let leg : Leg = leg_of s.number saves until (entries_of i).size in
    record {
      opens = λ t l. opens p c i s leg ip sc belongs starts t;
      leg = tasks_are_one_leg p (entries_of i) (stages_of p c) (window_of (stages_of p c)) s.number (offsets_of s) saves until (states p c i s leg ip sc belongs starts) (route i (offsets_of s) saves until starts.cut can save) (begins p c i s leg ip sc belongs starts);
    }

pub tasks_open : TasksOpen
tasks_open p l i s saves until ip lo belongs starts can save =
    let R : LayoutData → Type 0 = λ m. let a = layout_to p i s.number saves until m.stages in IsLegStart p a (opening_states p s a m.stages) in
    subst R (sym lo.is) (leg_start p lo.scale i s saves until ip lo.fits belongs starts can save)

pub tasks_have_snapshot : TasksHaveSnapshot
tasks_have_snapshot p l i s saves until ip lo belongs starts has =
    let cut = offsets_of s in
    let R : LayoutData → Type 0 = λ m. let a = layout_to p i s.number saves until m.stages in let states = opening_states p s a m.stages in HaveCut p i a states cut × HaveMarks (input_of p i) a states (counts_at p cut) in
    subst R (sym lo.is) (have_snapshot p lo.scale i s (leg_of s.number saves until (entries_of i).size) ip lo.fits belongs starts has)

pub tasks_have_own_panes : TasksHaveOwnPanes
tasks_have_own_panes p l i s saves until ip lo belongs starts =
    let cut = offsets_of s in
    let leg : Leg = leg_of s.number saves until (entries_of i).size in
    let R : LayoutData → Type 0 = λ m. let a = layout_to p i s.number saves until m.stages in let states = opening_states p s a m.stages in AreAt (input_of p i) a states (counts_at p cut) × HaveOwnPanes a states (length (records_before i.sources cut)) in
    subst R (sym lo.is) (are_at p lo.scale i s leg ip lo.fits belongs starts, have_own p lo.scale i s leg ip lo.fits belongs starts)
