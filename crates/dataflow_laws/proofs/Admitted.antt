-- The entries of an input are admitted.
use Rattle.std.proofs.Common.{◌≡◌, ℕ, zero, suc, ◌^◌, ◌≤◌, true, cond, List, [], ◌∷◌, ◌++◌, length, map, take, refl, sym, ap, subst, ◌∙◌, inl, inr, arith}
use Rattle.std.specs.List.{All, filter}
use Rattle.std.proofs.lemmas.Bool.{cases_Bool}
use Rattle.std.proofs.lemmas.List.{length-append, take_all}
use Rattle.std.proofs.lemmas.List.Elements.{All-weaker}
use Rattle.plain_data.specs.Record.{Record, at}
use Rattle.plan_model.specs.PlanData.{PlanData}
use Rattle.plan_model.specs.Windows.{IsTime}
use Rattle.plan_model.specs.declared.limits.TheConstants.{MOST_RECORDS}
use Rattle.stream_model.specs.declared.entry.Entry.{Entry}
use Rattle.stream_model.specs.declared.entry.Marked.{Marked}
use Rattle.stream_model.specs.declared.entry.Entry.TheVariants as entry
use Rattle.stream_model.specs.InputData.{InputData, IsEntry, IsEntryOf, IsInput, BelongsTo, partition_at, no_entry, records_of_entry, records_in, records_in_source, all_records}
use Rattle.stream_model.specs.Watermarks.{IsCut, records_before, records_before_in, full_cut}
use Rattle.dataflow_model.specs.Message.{records_of}
use Rattle.dataflow_model.specs.Role.{is_source}
use Rattle.dataflow_model.specs.Sums.{total}
use Rattle.dataflow_model.specs.Leg.{Leg}
use Rattle.dataflow_model.specs.AbstractLayout.{AbstractLayout, Deals, partition_read}
use Rattle.dataflow_model.specs.Cuts.{joined}
use Rattle.dataflow_model.proofs.Facts.{total_same, source_yes}
use Rattle.dataflow_laws.proofs.Dealing.{total_dealt}
use Rattle.dataflow_laws.specs.Count.{record_count}
use Rattle.dataflow_laws.specs.Admission.{FitsPlan}
use Rattle.layout_rules.specs.Layouts.{source_at, number_at}
use Rattle.input_flow.specs.InputEntries.{message_of, entry_at, input_of, counts_at}
use Rattle.dataflow_laws.specs.Inputs.{InputIsAdmitted}
use Rattle.input_flow.proofs.Facts.{at_or, partition_has, records_dealt, full_is_cut, full_counts}

admitted : (p : PlanData) (i : InputData) → BelongsTo p i → (e : Entry) → IsEntryOf i.columns i.time e → FitsPlan p (message_of e)
admitted p i belongs (entry.Rows t) h = (h.0 ∙ belongs.columns, subst (λ c. All (λ r. IsTime (at c r)) t.rows) belongs.time h.1)
admitted p i belongs (entry.Watermark t) h = tt

each_admitted : (p : PlanData) (i : InputData) → IsInput i → BelongsTo p i → (x k n : ℕ) → FitsPlan p (message_of (entry_at i x k n).entry)
each_admitted p i input belongs x k n =
    let P : Marked → Type 0 = λ m. FitsPlan p (message_of m.entry) in
    let Q : Marked → Type 0 = IsEntry i.columns i.time in
    at_or P (partition_at i.sources x k) n no_entry tt
    (All-weaker Q P (λ m h. admitted p i belongs m.entry h.0) (partition_at i.sources x k) (partition_has i Q input.entries x k))

-- ---- how many records

lengths : (n : ℕ) (f : ℕ → List Record) → total n (λ k. length (f k)) ≡ length (joined n f)
lengths zero f = refl
lengths (suc n) f = omega (arith, lengths n f, length-append (joined n f) (f n))

all_kept : (rs : List Record) → filter (λ r. true) rs ≡ rs
all_kept [] = refl
all_kept (r ∷ rs) = ap (λ l. r ∷ l) (all_kept rs)

whole_source : (ps : List (List Marked)) → records_before_in ps (map (λ p. length p) ps) ≡ records_in_source ps
whole_source [] = refl
whole_source (p ∷ ps) = λ j. records_in (take_all (length p) p (omega arith) j) ++ whole_source ps j

whole : (ss : List (List (List Marked))) → records_before ss (full_cut ss) ≡ all_records ss
whole [] = refl
whole (s ∷ ss) = λ j. whole_source s j ++ whole ss j

-- how many records partition q has
records_at : PlanData → InputData → ℕ → ℕ
records_at p i q = total ((input_of p i).size q) (λ n. length (records_of ((input_of p i).entry q n)))

-- the records before a cut, partition by partition
pub partitions_before : (p : PlanData) (i : InputData) (cut : List (List ℕ)) → BelongsTo p i → IsCut i.sources cut
    → total (input_of p i).partitions (λ q. total (counts_at p cut q) (λ n. length (records_of ((input_of p i).entry q n)))) ≡ length (records_before i.sources cut)
partitions_before p i cut belongs is_cut =
    let kept : ℕ → ℕ → List Record = λ q n. filter (λ r. true) (records_of ((input_of p i).entry q n)) in
    total_same (input_of p i).partitions _ (λ q. length (joined (counts_at p cut q) (kept q))) (λ q l.
    total_same (counts_at p cut q) _ (λ n. length (kept q n)) (λ n m. ap (length {A = Record}) (sym (all_kept (records_of ((input_of p i).entry q n)))))
    ∙ lengths (counts_at p cut q) (kept q))
    ∙ lengths (input_of p i).partitions (λ q. joined (counts_at p cut q) (kept q))
    ∙ ap (length {A = Record}) (records_dealt p i cut (λ r. true) belongs is_cut ∙ all_kept (records_before i.sources cut))

partitions_have : (p : PlanData) (i : InputData) → BelongsTo p i → total (input_of p i).partitions (records_at p i) ≡ length (all_records i.sources)
unfolding records_at
partitions_have p i belongs =
    ap (λ c. total (input_of p i).partitions (λ q. total (c q) (λ n. length (records_of ((input_of p i).entry q n))))) (sym (full_counts p i))
    ∙ partitions_before p i (full_cut i.sources) belongs (full_is_cut i.sources)
    ∙ ap (length {A = Record}) (whole i.sources)

-- before a cut there are no more records than in all
few_taken : (n : ℕ) (es : List Marked) → length (records_in (take n es)) ≤ length (records_in es)
few_taken zero es = omega arith
few_taken (suc n) [] = omega arith
few_taken (suc n) (e ∷ es) =
    let h = few_taken n es in
    let a = length-append (records_of_entry e) (records_in (take n es)) in
    let b = length-append (records_of_entry e) (records_in es) in
    omega (arith, h, a, b)

few_in : (ps : List (List Marked)) (ns : List ℕ) → length (records_before_in ps ns) ≤ length (records_in_source ps)
few_in [] ns = omega arith
few_in (p ∷ ps) [] = omega arith
few_in (p ∷ ps) (n ∷ ns) =
    let h = few_in ps ns in
    let t = few_taken n p in
    let a = length-append (records_in (take n p)) (records_before_in ps ns) in
    let b = length-append (records_in p) (records_in_source ps) in
    omega (arith, h, t, a, b)

few_of : (ss : List (List (List Marked))) (cut : List (List ℕ)) → length (records_before ss cut) ≤ length (all_records ss)
few_of [] cut = omega arith
few_of (s ∷ ss) [] = omega arith
few_of (s ∷ ss) (c ∷ cs) =
    let h = few_of ss cs in
    let t = few_in s c in
    let a = length-append (records_before_in s c) (records_before ss cs) in
    let b = length-append (records_in_source s) (all_records ss) in
    omega (arith, h, t, a, b)

pub few_before : (i : InputData) (cut : List (List ℕ)) → IsInput i → length (records_before i.sources cut) ≤ MOST_RECORDS
few_before i cut input = let f = input.few in let h = few_of i.sources cut in omega (arith, f, h)

tasks_have : (p : PlanData) (i : InputData) (leg : Leg) (l : AbstractLayout) → Deals (input_of p i) leg l → record_count l ≡ total (input_of p i).partitions (records_at p i)
unfolding records_at
tasks_have p i leg l d =
    total_same l.before _ (λ t. cond (is_source (l.task t).role) (total (l.task t).inputs (λ k. records_at p i (partition_read (input_of p i) l t k))) 0) (λ t m. elim (cases_Bool (is_source (l.task t).role)) [
      | inr e ↦ rw e refl
      | inl e ↦ rw e (total_same (l.task t).inputs _ (λ k. records_at p i (partition_read (input_of p i) l t k)) (λ k kl.
          let x = d.there t k m (source_yes (l.task t).role e) kl in
          ap (λ n. total n (λ n. length (records_of ((l.task t).entry k n)))) x.size
          ∙ total_same ((input_of p i).size (partition_read (input_of p i) l t k)) _ _ (λ n nl. ap (λ y. length (records_of y)) (x.entry n))))
    ])
    ∙ total_dealt (input_of p i) leg l d (records_at p i)

pub input_is_admitted : InputIsAdmitted
input_is_admitted p i leg l input belongs d = record {
  entries = λ t k n b a kl nl.
      let x = d.there t k b a kl in
      let c = partition_read (input_of p i) l t k in
      subst (FitsPlan p) (sym (x.entry n)) (each_admitted p i input belongs (source_at p c) (number_at p c) n);
  few = let f = input.few in subst (λ n. n ≤ 2 ^ 40) (sym (tasks_have p i leg l d ∙ partitions_have p i belongs)) f;
}
