-- The partitions of an input are orderly.
use Rattle.std.proofs.Common.{◌≡◌, ℕ, zero, suc, ◌+◌, ◌<◌, ◌==◌, ℤ, ◌≤ℤ◌, ◌<ℤ◌, true, false, List, [], ◌∷◌, length, get_or, take, refl, sym, ap, subst, ◌∙◌, inl, inr, arith}
use Rattle.std.specs.Int.{int_max}
use Rattle.std.specs.List.{All, AllByRecursion}
use Rattle.std.proofs.lemmas.Bool.{cases_eq, cases_Bool, eq-eqb, ne_eqb}
use Rattle.std.proofs.lemmas.Int.{ints, clamps}
use Rattle.std.proofs.lemmas.List.Elements.{All-nil, All-head, All-tail, All-weaker}
use Rattle.plain_data.specs.Record.{at}
use Rattle.plain_data.specs.Times.{lowest, highest}
use Rattle.stream_model.specs.declared.entry.Entry.{Entry}
use Rattle.stream_model.specs.declared.entry.Marked.{Marked}
use Rattle.stream_model.specs.declared.entry.Entry.TheVariants as entry
use Rattle.stream_model.specs.InputData.{InputData, IsEntry, partition_at, no_entry, rows_in, records_of_entry}
use Rattle.stream_model.proofs.Facts.{watermark_goes_on, le_fold, partition_watermark-highest, watermark_low, lowest_highest}
use Rattle.stream_model.specs.Watermarks.{IsOrderlyPartition, partition_watermark, watermark_of_entry}
use Rattle.dataflow_model.specs.Message.{records_of}
use Rattle.layout_rules.specs.Layouts.{source_at, number_at}
use Rattle.input_flow.specs.InputEntries.{message_of, brings}
use Rattle.input_flow.specs.Laws.{InputIsOrderly}

-- ---- what holds of each element holds of the one at a place, or of what stands for none

pub at_or : {X : Type 0} (P : X → Type 0) (xs : List X) (n : ℕ) (d : X) → P d → All P xs → P (get_or xs n d)
at_or P [] n d h all = h
at_or P (x ∷ xs) zero d h all = All-head P x xs all
at_or P (x ∷ xs) (suc n) d h all = at_or P xs n d h (All-tail P x xs all)

at_or_by : {X : Type 0} (P : X → Type 0) (xs : List X) (n : ℕ) (d : X) → P d → AllByRecursion P xs → P (get_or xs n d)
at_or_by P [] n d h all = h
at_or_by P (x ∷ xs) zero d h all = all.0
at_or_by P (x ∷ xs) (suc n) d h all = at_or_by P xs n d h all.1

-- the entries of each partition
pub partition_has : (i : InputData) (P : Marked → Type 0) → All (All (All P)) i.sources → (x k : ℕ) → All P (partition_at i.sources x k)
partition_has i P all x k = at_or (All P) (get_or i.sources x []) k [] (All-nil P) (at_or (All (All P)) i.sources x [] (All-nil (All P)) all)

-- ---- one partition

pub records_of_message : (e : Entry) → records_of (message_of e) ≡ rows_in e
records_of_message (entry.Rows t) = refl
records_of_message (entry.Watermark t) = refl

to_top : (a : ℤ) → a ≤ℤ highest → highest ≡ int_max a highest
to_top a h = omega (arith, ints, clamps, h)

-- an entry moves the watermark up to what it brings
moves : (columns time : ℕ) (es : List Marked) (n : ℕ) (d : Marked) → All (IsEntry columns time) es → n < length es
    → partition_watermark es (suc n) ≡ int_max (partition_watermark es n) (brings (get_or es n d) (suc n == length es))
moves columns time es n d all l =
    let one : n + 1 ≡ suc n = omega arith in
    elim (cases_eq (suc n) (length es)) [
      | inl e ↦
          let q : (suc n == length es) ≡ true = eq-eqb (suc n) (length es) e in
          let low = All-weaker (IsEntry columns time) (λ d. watermark_of_entry d ≤ℤ highest) (watermark_low columns time) es all in
          rw q (to_top (partition_watermark es n) (partition_watermark-highest es n low))
      | inr ne ↦
          let q : (suc n == length es) ≡ false = ne_eqb (suc n) (length es) ne in
          ap (partition_watermark es) (sym one)
          ∙ watermark_goes_on es n d (omega arith)
          ∙ sym (ap (λ b. int_max (partition_watermark es n) (brings (get_or es n d) b)) q)
    ]

bounded : (es : List Marked) (n : ℕ) → lowest ≤ℤ partition_watermark es n
bounded es n = elim (cases_Bool (n == length es)) [
  | inl e ↦ rw e lowest_highest
  | inr e ↦ rw e (le_fold lowest (take n es))
]

nothing_there : (time : ℕ) → IsOrderlyPartition time []
nothing_there time n d l = absurd (omega (arith, l))

pub input_is_orderly : InputIsOrderly
input_is_orderly p i input orderly belongs =
    let part : ℕ → List Marked = λ q. partition_at i.sources (source_at p q) (number_at p q) in
    record {
      moves = λ q n ql nl. moves i.columns i.time (part q) n (no_entry) (partition_has i (IsEntry i.columns i.time) input.entries (source_at p q) (number_at p q)) nl;
      bounded = λ q n ql nl. bounded (part q) n;
      late = λ q n ql nl.
          let o : IsOrderlyPartition i.time (part q) = at_or_by (IsOrderlyPartition i.time) (get_or i.sources (source_at p q) []) (number_at p q) [] (nothing_there i.time)
          (at_or_by (AllByRecursion (IsOrderlyPartition i.time)) i.sources (source_at p q) [] tt orderly) in
          let d : Marked = no_entry in
          subst (λ rs. All (λ r. partition_watermark (part q) n <ℤ at p.window.time r) rs) (sym (records_of_message (get_or (part q) n d).entry))
          (subst (λ t. All (λ r. partition_watermark (part q) n <ℤ at t r) (records_of_entry (get_or (part q) n d))) belongs.time (o n d nl));
    }
