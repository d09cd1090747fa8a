-- Each partition of a start stands in what one task begins with.
use Rattle.std.proofs.Common.{leb, ◌≡◌, ℕ, zero, suc, ◌-◌, ◌<◌, ◌≤◌, true, List, [], ◌∷◌, length, map, get_or, slice_index, Some, refl, sym, ap, subst, ◌∙◌, inl, inr, arith}
use Rattle.std.specs.Prelude.{slice_get}
use Rattle.std.specs.Option.{option_map}
use Rattle.std.proofs.lemmas.Bool.{cases_lt, le-leb}
use Rattle.std.proofs.lemmas.List.{length-map}
use Rattle.std.proofs.lemmas.Option.{slice_get-map, slice_get-get_or}
use Rattle.std.proofs.Math.ListN.{get_or-map}
use Rattle.plain_data.proofs.Facts.{first_where}
use Rattle.plain_data.specs.Times.{lowest}
use Rattle.plan_model.specs.PlanData.{PlanData, IsPlan}
use Rattle.dataflow_model.specs.declared.message.Message.TheVariants.{End}
use Rattle.dataflow_model.specs.declared.role.Role.{Role}
use Rattle.dataflow_model.specs.Role.{is_source}
use Rattle.dataflow_model.specs.AbstractLayout.{AbstractLayout, AbstractInput, IsLayout, Deals, reader_of, place_in_reader, partition_read}
use Rattle.dataflow_model.specs.Leg.{Leg, ToEnd, leg_of}
use Rattle.dataflow_model.specs.declared.role.Role.TheVariants as role
use Rattle.layout_rules.specs.Below.{sum_below, row_of}
use Rattle.layout_rules.specs.declared.stage.Stage.{Stage}
use Rattle.layout_rules.specs.Rules.{IsCompiled, window_of, stages_of}
use Rattle.layout_rules.specs.Scale.{ScaleData, IsScale}
use Rattle.layout_rules.specs.Stages.{parallelism_at, role_of, source_of, stage_at, stage_of, task_stage, task_role, task_count, partitions_of}
use Rattle.layout_rules.specs.Layouts.{partition_counts, Entries, abstract_layout, abstract_input, source_at, number_at, through_all}
use Rattle.layout_rules.proofs.Facts.{compiled_ever, compiled_is_layout, stages_are_bounded, row_is, row_at}
use Rattle.plan_compiler.specs.LayoutData.{LayoutData}
use Rattle.redistribute.specs.declared.task_start.PartitionStart.{PartitionStart}
use Rattle.redistribute.specs.StartData.{StartData, IsStartOf}
use Rattle.redistribute.specs.Parts.{partition_start, start_of_role, task_start, partitions_in}
use Rattle.redistribute.specs.Laws.{HasPartition, StandsAt, EachPartitionOnce, NothingElse}

-- from the first number of the last row on, all stand in it
pub last_row : (f : ℕ → ℕ) (n t : ℕ) → sum_below f n ≤ t → row_of f (suc n) t ≡ n
last_row f n t l = let e : leb (sum_below f n) t ≡ true = le-leb (sum_below f n) t l in rw e refl

-- what a list that a function was taken of has at a place
found : {X : Type 0} (f : ℕ → X) (xs : List ℕ) (k : ℕ) (b : X) → slice_get (map f xs) k ≡ Some b → (k < length xs) × (f (get_or xs k 0) ≡ b)
found f [] k b e = absurd cc
found f (x ∷ xs) zero b e = (omega arith, cc)
found f (x ∷ xs) (suc k) b e = let h = found f xs k b e in (omega (arith, h.0), h.1)

-- only a source's task has partitions
has_partitions : (r : Role) (starts : List PartitionStart) (k : ℕ) (b : PartitionStart) → slice_get (partitions_in (start_of_role r starts)) k ≡ Some b → (r ≡ role.Source) × (slice_get starts k ≡ Some b)
has_partitions role.Source starts k b e = (refl, e)
has_partitions role.Chain starts k b e = absurd cc
has_partitions role.Window starts k b e = absurd cc
has_partitions role.Sink starts k b e = absurd cc

-- what is known of a plan's layout at a scale
module _ (p : PlanData) (c : ScaleData) (e : Entries) (leg : Leg) (ip : IsPlan p) (sc : IsScale p c) (ok : IsCompiled p c (stages_of p c)) where
  abbrev pub S : List Stage
  S = stages_of p c

  abbrev F : ℕ → ℕ
  F = sum_below (parallelism_at S)

  abbrev P : ℕ → ℕ
  P = slice_index (partition_counts p)

  abbrev pub L : AbstractLayout
  L = abstract_layout p e leg S (window_of S)

  abbrev pub I : AbstractInput
  I = abstract_input p e

  abbrev pub mine : ℕ → List ℕ
  mine t = partitions_of (partition_counts p) S t

  pub known : IsLayout L × Deals I leg L
  known = compiled_is_layout p c e leg S ip sc ok

  -- the window's stage, and the sink's behind it
  long : length S ≡ suc (suc (window_of S))
  long = let b = stages_are_bounded p c ip sc in let m = b.more in let s = ip.sourced in omega (arith, m, s)

  at_last : (u : ℕ) → L.sink ≤ u → stage_of S u ≡ suc (window_of S)
  at_last u m = ap (λ n. row_of (parallelism_at S) n u) long ∙ last_row (parallelism_at S) (suc (window_of S)) u m

  -- a source's task stands before the windows
  pub early : (t : ℕ) → task_role S t ≡ role.Source → t < L.before
  early t h =
      elim (cases_lt t L.before) [
        | inl k ↦ k
        | inr k ↦ elim (cases_lt t L.sink) [
          | inl m ↦ absurd (let z : is_source role.Window ≡ is_source role.Source = ap is_source (sym (known.0.roles_window t k m) ∙ h) in cc)
          | inr m ↦ absurd (
              let same : task_role S t ≡ task_role S L.sink = ap (λ a. role_of (stage_at S a).operators) (at_last t m ∙ sym (at_last L.sink (omega arith))) in
              let z : is_source role.Sink ≡ is_source role.Source = ap is_source (sym known.0.role_sink ∙ sym same ∙ h) in
              cc)
        ]
      ]

  -- and is a task of the layout
  within : (t : ℕ) → task_role S t ≡ role.Source → t < task_count S
  within t h =
      let o = known.1.own t (early t h) h in
      let x = source_of (task_stage S t).operators in
      let b = (stages_are_bounded p c ip sc).more in
      let r = row_at (parallelism_at S) (length S) x (t - F x) (omega (arith, o.0, b)) (omega (arith, o.1, o.2)) in
      omega (arith, r.1, o.1)

  pub places : (t : ℕ) → task_role S t ≡ role.Source → length (mine t) ≡ (L.task t).inputs
  places t h = first_where (is_source (task_role S t)) (length (mine t)) _ (ap is_source h)

  module _ (s : StartData) (is_start : IsStartOf p s) where
    abbrev starts_at : ℕ → List PartitionStart
    starts_at t = map (partition_start s (source_of (task_stage S t).operators)) (mine t)

    same_sources : length p.sources ≡ length s.sources
    same_sources = sym (length-map p.sources (λ z. z.partitions)) ∙ sym (ap length is_start) ∙ length-map s.sources (λ ps. length ps)

    same_partitions : (x : ℕ) → P x ≡ length (get_or s.sources x [])
    same_partitions x = ap (λ l. slice_index l x) (sym is_start) ∙ get_or-map (λ ps. length ps) s.sources x []

    -- the partition at a place of a source's task stands there
    stands : (x q t k : ℕ) → task_role S t ≡ role.Source → source_of (task_stage S t).operators ≡ x → k < length (mine t) → get_or (mine t) k 0 ≡ q → StandsAt p s S x q t k
    stands x q t k h u l n = record {
      task = within t h;
      source = u;
      is =
          ap (λ r. slice_get (partitions_in (start_of_role r (starts_at t))) k) h
          ∙ slice_get-map (partition_start s (source_of (task_stage S t).operators)) (mine t) k
          ∙ ap (option_map (partition_start s (source_of (task_stage S t).operators))) (slice_get-get_or (mine t) k 0 l)
          ∙ (λ i. Some (partition_start s (u i) (n i)));
    }

    -- what stands at a place is the partition there
    stood : (t k : ℕ) (b : PartitionStart) → slice_get (partitions_in (task_start (partition_counts p) s S t)) k ≡ Some b
        → (task_role S t ≡ role.Source) × (k < length (mine t)) × (partition_start s (source_of (task_stage S t).operators) (get_or (mine t) k 0) ≡ b)
    stood t k b u =
        let h = has_partitions (task_role S t) (starts_at t) k b u in
        let f = found (partition_start s (source_of (task_stage S t).operators)) (mine t) k b h.1 in
        (h.0, f.0, f.1)

    once : (x q : ℕ) → HasPartition s x q → (t : ℕ) × (k : ℕ) × StandsAt p s S x q t k × ((t' k' : ℕ) → StandsAt p s S x q t' k' → (t' ≡ t) × (k' ≡ k))
    once x q has =
        let n = same_sources in
        let m = same_partitions x in
        let a = has.source in
        let b = has.partition in
        let Q = through_all p x q in
        let r = row_at P (length p.sources) x q (omega (arith, n, a)) (omega (arith, m, b)) in
        let d = known.1.dealt Q r.1 in
        let t = reader_of I L Q in
        let k = place_in_reader I L Q in
        let number : number_at p Q ≡ q = (let y : sum_below P (source_at p Q) ≡ sum_below P x = ap (sum_below P) r.0 in omega (arith, y)) in
        let fits : k < length (mine t) = (let y = places t d.reads.role in let z = d.place in omega (arith, y, z)) in (
          t,
          k,
          stands x q t k d.reads.role (d.reads.source ∙ r.0) fits (d.partition ∙ number),
          λ t' k' z.
              let y = stood t' k' (partition_start s x q) z.is in
              let there = known.1.there t' k' (early t' y.0) y.0 (let w = places t' y.0 in let v = y.1 in omega (arith, w, v)) in
              let same : partition_read I L t' k' ≡ Q = (λ i. through_all p (z.source i) ((ap (λ b. b.partition) y.2) i)) in
              (sym there.task ∙ ap (reader_of I L) same, sym there.place ∙ ap (place_in_reader I L) same),
        )

    other : (t k : ℕ) (b : PartitionStart) → slice_get (partitions_in (task_start (partition_counts p) s S t)) k ≡ Some b → (x : ℕ) × (q : ℕ) × HasPartition s x q × StandsAt p s S x q t k
    other t k b is =
        let x = source_of (task_stage S t).operators in
        let q = get_or (mine t) k 0 in
        let y = stood t k b is in
        let o = known.1.own t (early t y.0) y.0 in
        let there = known.1.there t k (early t y.0) y.0 (let w = places t y.0 in let v = y.1 in omega (arith, w, v)) in
        let r = row_is P (length p.sources) (partition_read I L t k) there.some in
        let n = same_sources in
        let m = same_partitions x in
        let u : P (source_at p (partition_read I L t k)) ≡ P x = ap P there.source in
        let v = there.number in (
          x,
          q,
          record { source = omega (arith, n, o.0); partition = omega (arith, m, u, v, r.1, r.2) },
          stands x q t k y.0 refl y.1 refl,
        )

-- an input without entries
abbrev pub nothing : Entries
nothing = record { entry = λ x k n. End; brings = λ x k n. lowest; watermark = λ x k n. lowest; size = λ x k. 0 }

abbrev pub no_leg : Leg
no_leg = leg_of 0 [] ToEnd nothing.size

pub each_partition_once : EachPartitionOnce
each_partition_once p l s x q ip lo is_start has =
    let R : LayoutData → Type 0 = λ m. (t : ℕ) × (k : ℕ) × StandsAt p s m.stages x q t k × ((t' k' : ℕ) → StandsAt p s m.stages x q t' k' → (t' ≡ t) × (k' ≡ k)) in
    subst R (sym lo.is) (once p lo.scale nothing no_leg ip lo.fits (compiled_ever p lo.scale) s is_start x q has)

pub nothing_else : NothingElse
nothing_else p l s t k b ip lo is_start =
    let R : LayoutData → Type 0 = λ m. t < task_count m.stages → slice_get (partitions_in (task_start (partition_counts p) s m.stages t)) k ≡ Some b → (x : ℕ) × (q : ℕ) × HasPartition s x q × StandsAt p s m.stages x q t k in
    subst R (sym lo.is) (λ within e. other p lo.scale nothing no_leg ip lo.fits (compiled_ever p lo.scale) s is_start t k b e)
