-- A cut of an input is the same cut to layouts and legs.
use Rattle.std.proofs.Common.{◌≡◌, ℕ, zero, suc, ◌≤◌, ℤ, ◌≤ℤ◌, Bool, List, [], ◌∷◌, length, map, get_or, slice_index, sym, ap, subst, ◌∙◌, None, if◌then◌else◌, arith}
use Rattle.std.specs.List.{AllZip, filter}
use Rattle.std.specs.Option.{option_and_then}
use Rattle.std.proofs.Math.ListN.{get_or-map}
use Rattle.plain_data.specs.Record.{Record}
use Rattle.plain_data.specs.Times.{lowest}
use Rattle.plan_model.specs.PlanData.{PlanData}
use Rattle.plan_model.specs.Windows.{passes}
use Rattle.plan_model.specs.Rows.{aggregate_at, kept_row, is_due}
use Rattle.stream_model.specs.declared.entry.Marked.{Marked}
use Rattle.stream_model.specs.InputData.{InputData, BelongsTo, no_entry}
use Rattle.stream_model.specs.Watermarks.{IsCut, full_cut, empty_cut, records_before, partition_watermark, merged_watermark}
use Rattle.stream_model.proofs.Facts.{end_is_due}
use Rattle.dataflow_model.specs.Message.{records_of}
use Rattle.dataflow_model.specs.Leg.{count_at}
use Rattle.dataflow_model.specs.Cuts.{joined}
use Rattle.dataflow_model.specs.InputCuts.{records_up_to}
use Rattle.layout_rules.specs.Layouts.{partition_counts, source_at, number_at, through_all}
use Rattle.input_flow.specs.InputEntries.{input_of, counts_at}
use Rattle.input_flow.specs.Laws.{RecordsAtCut, WatermarkAtCut, SnapshotAtCut, DueAtCut, DueAtEnd}
use Rattle.input_flow.proofs.Places.{same_sources, same_partitions, there, back}
use Rattle.input_flow.proofs.Records.{joined_same, joined_rows, kept, all_sources}
use Rattle.input_flow.proofs.Marks.{merged_bound, merged_below, merged_greatest}

-- the records of the partitions, through all sources, are those of the sources
pub records_dealt : (p : PlanData) (i : InputData) (cut : List (List ℕ)) (pass : Record → Bool) → BelongsTo p i → IsCut i.sources cut
    → joined (input_of p i).partitions (λ q. joined (counts_at p cut q) (λ n. filter pass (records_of ((input_of p i).entry q n)))) ≡ filter pass (records_before i.sources cut)
records_dealt p i cut pass belongs is_cut =
    let P : ℕ → ℕ = slice_index (partition_counts p) in
    let d : Marked = no_entry in
    let G : ℕ → ℕ → List Record = λ x k. joined (count_at cut x k) (kept pass d (get_or (get_or i.sources x []) k [])) in
    joined_rows P (length p.sources) (λ q. G (source_at p q) (number_at p q))
    ∙ ap (λ n. joined n (λ x. joined (P x) (λ k. G (source_at p (through_all p x k)) (number_at p (through_all p x k))))) (same_sources p i belongs)
    ∙ joined_same (length i.sources) _ (λ x. joined (length (get_or i.sources x [])) (λ k. G x k)) (λ x l.
    ap (λ n. joined n (λ k. G (source_at p (through_all p x k)) (number_at p (through_all p x k)))) (same_partitions p i belongs x)
    ∙ joined_same (length (get_or i.sources x [])) _ (λ k. G x k) (λ k m. let b = back p i belongs x k l m in (λ j. G (b.0 j) (b.1 j))))
    ∙ all_sources pass d i.sources cut is_cut

pub records_at_cut : RecordsAtCut
records_at_cut p i cut belongs is_cut = records_dealt p i cut (passes p.filters) belongs is_cut

pub watermark_at_cut : WatermarkAtCut
watermark_at_cut p i cut belongs is_cut = record {
  bound = merged_bound i.sources cut;
  below = λ q l. let t = there p i belongs q l in merged_below i.sources cut (source_at p q) (number_at p q) is_cut t.0 t.1;
  greatest = λ v top h. merged_greatest i.sources cut v top (λ x k l m.
      let b = back p i belongs x k l m in
      let W : ℕ → ℕ → ℤ = λ y n. partition_watermark (get_or (get_or i.sources y []) n []) (count_at cut y n) in
      let e : W (source_at p (through_all p x k)) (number_at p (through_all p x k)) ≡ W x k = λ j. W (b.0 j) (b.1 j) in
      subst (λ z. v ≤ℤ z) e (h (through_all p x k) b.2));
}

pub snapshot_at_cut : SnapshotAtCut
snapshot_at_cut p i cut q belongs is_cut =
    ap (λ rs. if is_due p.window (merged_watermark i.sources cut) q.start then None else aggregate_at p.window rs q) (records_at_cut p i cut belongs is_cut)

-- ---- no count of a cut is past the partition's end

count_in : (ps : List (List Marked)) (ns : List ℕ) (k : ℕ) → AllZip (λ p n. n ≤ length p) ps ns → slice_index ns k ≤ length (get_or ps k [])
count_in [] [] k cut = omega arith
count_in [] (n ∷ ns) k cut = absurd cut
count_in (p ∷ ps) [] k cut = absurd cut
count_in (p ∷ ps) (n ∷ ns) zero cut = cut.0
count_in (p ∷ ps) (n ∷ ns) (suc k) cut = count_in ps ns k cut.1

pub cut_in : (ss : List (List (List Marked))) (cs : List (List ℕ)) (x k : ℕ) → IsCut ss cs → count_at cs x k ≤ length (get_or (get_or ss x []) k [])
cut_in [] [] x k cut = omega arith
cut_in [] (c ∷ cs) x k cut = absurd cut
cut_in (s ∷ ss) [] x k cut = absurd cut
cut_in (s ∷ ss) (c ∷ cs) zero k cut = count_in s c k cut.0
cut_in (s ∷ ss) (c ∷ cs) (suc x) k cut = cut_in ss cs x k cut.1

-- ---- the full cut

full_source : (ps : List (List Marked)) → AllZip (λ p n. n ≤ length p) ps (map (λ p. length p) ps)
full_source [] = tt
full_source (p ∷ ps) = (omega arith, full_source ps)

pub full_is_cut : (ss : List (List (List Marked))) → IsCut ss (full_cut ss)
full_is_cut [] = tt
full_is_cut (s ∷ ss) = (full_source s, full_is_cut ss)

full_count : (ss : List (List (List Marked))) (x k : ℕ) → count_at (full_cut ss) x k ≡ length (get_or (get_or ss x []) k [])
full_count ss x k =
    ap (λ c. slice_index c k) (get_or-map (map (λ p. length p)) ss x [])
    ∙ get_or-map (λ p. length p) (get_or ss x []) k []

-- as counts of the partitions, through all sources
pub full_counts : (p : PlanData) (i : InputData) → counts_at p (full_cut i.sources) ≡ (input_of p i).size
full_counts p i = λ j q. full_count i.sources (source_at p q) (number_at p q) j

none_source : (ps : List (List Marked)) → AllZip (λ p n. n ≤ length p) ps (map (λ p. 0) ps)
none_source [] = tt
none_source (p ∷ ps) = (omega arith, none_source ps)

pub empty_is_cut : (ss : List (List (List Marked))) → IsCut ss (empty_cut ss)
empty_is_cut [] = tt
empty_is_cut (s ∷ ss) = (none_source s, empty_is_cut ss)

empty_count : (ss : List (List (List Marked))) (x k : ℕ) → count_at (empty_cut ss) x k ≡ 0
empty_count ss x k = ap (λ c. slice_index c k) (get_or-map (map (λ p. 0)) ss x []) ∙ get_or-map (λ p. 0) (get_or ss x []) k []

-- nothing is counted at the beginning
pub empty_counts : (p : PlanData) (i : InputData) → counts_at p (empty_cut i.sources) ≡ (λ q. 0)
empty_counts p i = λ j q. empty_count i.sources (source_at p q) (number_at p q) j

pub due_at_cut : DueAtCut
due_at_cut p i cut q belongs =
    ap (λ rs. if is_due p.window (merged_watermark i.sources cut) q.start then option_and_then (kept_row p.window q) (aggregate_at p.window rs q) else None)
    (sym (ap (records_up_to (input_of p i)) (full_counts p i)) ∙ records_at_cut p i (full_cut i.sources) belongs (full_is_cut i.sources))

pub due_at_end : DueAtEnd
due_at_end p i q sound input belongs = due_at_cut p i (full_cut i.sources) q belongs ∙ end_is_due p i q sound input belongs
