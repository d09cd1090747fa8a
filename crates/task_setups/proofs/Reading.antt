-- A source that is told its setup finds its partitions in the input.
use Rattle.std.proofs.Common.{◌≡◌, ℕ, zero, suc, ◌+◌, ◌<◌, ◌≤◌, ◌==◌, List, [], ◌∷◌, length, map, get_or, refl, sym, ap, ◌∙◌, inl, inr, arith}
use Rattle.std.specs.Prelude.{slice_index}
use Rattle.std.specs.Option.{option_map_or}
use Rattle.std.specs.List.{AllByRecursion, range_with_len}
use Rattle.std.proofs.lemmas.Bool.{cases_lt, cases_eq}
use Rattle.std.proofs.lemmas.List.{get_or_default}
use Rattle.plain_data.proofs.Facts.{first_where}
use Rattle.stream_model.specs.InputData.{InputData, partition_at, no_entry}
use Rattle.stream_model.specs.Watermarks.{IsCut}
use Rattle.dataflow_model.specs.declared.role.Role.TheVariants.{Source, Window, Sink}
use Rattle.dataflow_model.specs.Role.{is_source}
use Rattle.dataflow_model.specs.AbstractLayout.{AbstractLayout, IsLayout, Deals, partition_read}
use Rattle.dataflow_model.specs.Leg.{Leg, Until, leg_of, limit_of}
use Rattle.dataflow_model.specs.Leg.Until.{ToEnd, ToCut, TillAsked}
use Rattle.layout_rules.specs.Rules as rules
use Rattle.layout_rules.specs.Stages.{role_of, source_of, task_stage, partitions_of}
use Rattle.layout_rules.specs.Layouts.{partition_counts, abstract_layout}
use Rattle.layout_rules.proofs.Facts.{compiled_is_layout}
use Rattle.task_steps.specs.Limits.{limit_in}
use Rattle.input_flow.specs.InputEntries.{message_of, brings, entries_of, input_of}
use Rattle.input_flow.proofs.Facts.{same_sources, there, cut_in}
use Rattle.task_setups.specs.Laws.{EveryTaskReads, IsWithin}
use Rattle.task_setups.specs.Setups.{setup_of, limits_at}
use Rattle.task_setups.proofs.Standing.{limited, within, past}

-- ---- how far partitions are read

limit_in_input : (i : InputData) (until : Until) (saves : List (List (List ℕ))) (m x k : ℕ) → AllByRecursion (IsCut i.sources) saves → IsWithin i until → limit_of (entries_of i).size until saves m x k ≤ length (partition_at i.sources x k)
limit_in_input i ToEnd [] m x k cuts there = omega arith
limit_in_input i (ToCut cut) [] m x k cuts there = cut_in i.sources cut x k there
limit_in_input i TillAsked [] m x k cuts there = omega arith
limit_in_input i until (cut ∷ saves) zero x k cuts there = cut_in i.sources cut x k cuts.0
limit_in_input i until (cut ∷ saves) (suc m) x k cuts there = limit_in_input i until saves m x k cuts.1 there

no_place : (f : ℕ → ℕ) (xs : List ℕ) (q : ℕ) → length xs ≤ q → slice_index (map f xs) q ≡ 0
no_place f [] q l = refl
no_place f (x ∷ xs) zero l = absurd (omega (arith, l))
no_place f (x ∷ xs) (suc q) l = no_place f xs q (omega (arith, l))

-- a place past the partitions has no limit
no_limit : (leg : Leg) (n x : ℕ) (mine : List ℕ) (m q : ℕ) → length mine ≤ q → limit_in (map (limits_at leg x mine) (range_with_len 0 n)) (limits_at leg x mine n) m q ≡ 0
no_limit leg n x mine m q l =
    let ends = limits_at leg x mine n in
    elim (cases_lt m n) [
      | inl k ↦ ap (λ o. option_map_or (λ r. slice_index r q) o (slice_index ends q)) (within (limits_at leg x mine) 0 n m k) ∙ no_place (λ j. leg.limit (0 + m) x j) mine q l
      | inr k ↦ ap (λ o. option_map_or (λ r. slice_index r q) o (slice_index ends q)) (past (limits_at leg x mine) 0 n m k) ∙ no_place (λ j. leg.limit n x j) mine q l
    ]

-- ---- places of sources

early : (l : AbstractLayout) (t : ℕ) → IsLayout l → t ≤ l.sink → (l.task t).role ≡ Source → t < l.before
early l t ok m role =
    elim (cases_lt t l.before) [
      | inl k ↦ k
      | inr k ↦ elim (cases_eq t l.sink) [
        | inl e ↦ absurd (let z : is_source Sink ≡ is_source Source = ap is_source (sym ok.role_sink ∙ ap (λ u. (l.task u).role) (sym e) ∙ role) in cc)
        | inr ne ↦ absurd (let z : is_source Window ≡ is_source Source = ap is_source (sym (ok.roles_window t k (omega arith)) ∙ role) in cc)
      ]
    ]

pub every_task_reads : EveryTaskReads
every_task_reads p c i n saves until stages t sound scaled compiled belongs cuts within_it last role =
    let e = entries_of i in
    let leg : Leg = leg_of n saves until e.size in
    let l : AbstractLayout = abstract_layout p e leg stages (rules.window_of stages) in
    let known = compiled_is_layout p c e leg stages sound scaled compiled in
    let d : Deals (input_of p i) leg l = known.1 in
    let b : t < l.before = early l t known.0 last role in
    let x = source_of (task_stage stages t).operators in
    let mine = partitions_of (partition_counts p) stages t in
    let s = setup_of p leg stages t in (
      record {
        source = (let o = d.own t b role in let z = same_sources p i belongs in omega (arith, o.0, z));
        count = first_where (is_source (role_of (task_stage stages t).operators)) (length mine) _ (ap is_source role);
        partition = λ q k.
            let y = d.there t q b role k in
            let h = there p i belongs (partition_read (input_of p i) l t q) y.some in
            let z = ap (λ u. length (get_or i.sources u [])) y.source in
            let v = y.number in
            omega (arith, h.1, z, v);
        limits = λ m q.
            elim (cases_lt q (length mine)) [
              | inl k ↦ (let a = limited n saves until e.size x mine m q k in let h = limit_in_input i until saves m x (slice_index mine q) cuts within_it in omega (arith, a, h))
              | inr k ↦ (let a = no_limit leg (length saves) x mine m q k in omega (arith, a))
            ];
      },
      record {
        entry = λ q m f k h. ap (λ y. message_of y.entry) (get_or_default (partition_at i.sources x (slice_index mine q)) m no_entry f h);
        brings = λ q m f k h. ap (λ y. brings y (suc m == length (partition_at i.sources x (slice_index mine q)))) (get_or_default (partition_at i.sources x (slice_index mine q)) m no_entry f h);
      },
    )
