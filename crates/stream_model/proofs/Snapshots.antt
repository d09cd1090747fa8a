-- What is due at the end, and what one cut leaves to the next.
use Rattle.std.proofs.Common.{◌≡◌, ℕ, ℤ, pos, ◌+ℤ◌, ◌-ℤ◌, ◌≤ℤ◌, Bool, true, false, List, [], ◌∷◌, map, take, length, Option, Some, None, refl, sym, ap, subst, ◌∙◌, inl, inr, arith, if◌then◌else◌}
use Rattle.std.specs.Int.RustNames.{int_le}
use Rattle.std.specs.List.{All, AllByRecursion}
use Rattle.std.specs.Option.{option_and_then}
use Rattle.std.specs.Ordering.{int_eq}
use Rattle.std.proofs.lemmas.Bool.{cases_Bool, eq-eqb}
use Rattle.std.proofs.lemmas.Int.{ints}
use Rattle.std.proofs.lemmas.List.Elements.{All-nil, All-append, All-take, All-head, All-tail, All-filter, All-weaker}
use Rattle.plain_data.specs.Record.{Record, at}
use Rattle.plan_model.specs.declared.limits.TheConstants.{LONGEST_WINDOW}
use Rattle.plan_model.specs.declared.spec.Pane.{Pane}
use Rattle.plan_model.specs.declared.spec.WindowSpec.{WindowSpec}
use Rattle.plan_model.specs.PlanData.{PlanData, IsPlan}
use Rattle.plan_model.specs.Windows.{IsTime, passes, is_start, is_at, is_within}
use Rattle.plan_model.specs.Aggregates.{aggregate_of}
use Rattle.plan_model.specs.Rows.{is_due, kept_row, records_of}
use Rattle.stream_model.specs.declared.entry.Entry.{Entry}
use Rattle.stream_model.specs.declared.entry.Marked.{Marked}
use Rattle.stream_model.specs.declared.entry.Entry.TheVariants.{Rows, Watermark}
use Rattle.stream_model.specs.InputData.{InputData, IsEntry, IsEntryOf, IsInput, rows_in, records_of_entry, records_in}
use Rattle.stream_model.specs.Watermarks.{IsBefore, full_cut, empty_cut, merged_watermark, source_watermark, watermark_of_entry, records_before, records_before_in}
use Rattle.plain_data.specs.Times.{highest}
use Rattle.stream_model.specs.PlanRows.{passing, plan_aggregate, plan_rows, carried}
use Rattle.stream_model.specs.Laws.{EndIsDue, DueRowsStay, NothingAtFirst, SnapshotGoesOn, CarriedFires}
use Rattle.stream_model.proofs.Due.{filter_nothing, all_in, not_at, due_is_settled, due_stays}
use Rattle.stream_model.proofs.Cuts.{plan_aggregate-between}

-- ---- what holds of the entries of an input

by_recursion : {X : Type 0} (P : X → Type 0) (xs : List X) → All P xs → AllByRecursion P xs
by_recursion P [] h = tt
by_recursion P (x ∷ xs) h = (All-head P x xs h, by_recursion P xs (All-tail P x xs h))

each_entry : (P Q : Marked → Type 0) (ss : List (List (List Marked))) → ((e : Marked) → P e → Q e) → All (All (All P)) ss → AllByRecursion (AllByRecursion (All Q)) ss
each_entry P Q ss h all =
    by_recursion (AllByRecursion (All Q)) ss
    (All-weaker (All (All P)) (AllByRecursion (All Q)) (λ s a. by_recursion (All Q) s (All-weaker (All P) (All Q) (λ p b. All-weaker P Q h p b) s a)) ss all)

pub watermark_low : (columns time : ℕ) (e : Marked) → IsEntry columns time e → watermark_of_entry e ≤ℤ highest
watermark_low columns time e h = let low = h.1.1 in omega (arith, ints)

watermarks_low : (i : InputData) → IsInput i → AllByRecursion (AllByRecursion (λ p. All (λ e. watermark_of_entry e ≤ℤ highest) p)) i.sources
watermarks_low i h = each_entry (IsEntry i.columns i.time) (λ e. watermark_of_entry e ≤ℤ highest) i.sources (watermark_low i.columns i.time) h.entries

-- ---- all is due at the full cut

full_source : (ps : List (List Marked)) → source_watermark ps (map (λ p. length p) ps) ≡ highest
full_source [] = refl
full_source (p ∷ ps) = let e = eq-eqb (length p) (length p) refl in rw (e, full_source ps) refl

full_watermark : (ss : List (List (List Marked))) → merged_watermark ss (full_cut ss) ≡ highest
full_watermark [] = refl
full_watermark (s ∷ ss) = rw (full_source s, full_watermark ss) refl

module _ (time : ℕ) where
  abbrev Timely : Record → Type 0
  Timely r = IsTime (at time r)

  timely_rows : (columns : ℕ) (e : Entry) → IsEntryOf columns time e → All Timely (rows_in e)
  timely_rows columns (Rows batch) h = h.1
  timely_rows columns (Watermark t) h = All-nil Timely

  timely_entry : (columns : ℕ) (e : Marked) → IsEntry columns time e → All Timely (records_of_entry e)
  timely_entry columns e h = timely_rows columns e.entry h.0

  timely_source : (ps : List (List Marked)) (ns : List ℕ) → AllByRecursion (All (λ e. All Timely (records_of_entry e))) ps → All Timely (records_before_in ps ns)
  timely_source [] ns h = All-nil Timely
  timely_source (p ∷ ps) [] h = All-nil Timely
  timely_source (p ∷ ps) (n ∷ ns) h =
      All-append Timely (records_in (take n p)) (records_before_in ps ns)
      (all_in Timely records_of_entry (take n p) (All-take (λ e. All Timely (records_of_entry e)) n p h.0))
      (timely_source ps ns h.1)

  timely : (ss : List (List (List Marked))) (cs : List (List ℕ)) → AllByRecursion (AllByRecursion (All (λ e. All Timely (records_of_entry e)))) ss → All Timely (records_before ss cs)
  timely [] cs h = All-nil Timely
  timely (s ∷ ss) [] h = All-nil Timely
  timely (s ∷ ss) (c ∷ cs) h = All-append Timely (records_before_in s c) (records_before ss cs) (timely_source s c h.0) (timely ss cs h.1)

-- a window that is not due at the greatest watermark begins after each time
too_late : (w : WindowSpec) (s t : ℤ) → w.size ≤ℤ LONGEST_WINDOW → IsTime t → int_le (s +ℤ w.size -ℤ pos 1) highest ≡ false → is_within w s t ≡ false
too_late w s t size h late = grind (arith, ints, size, h, late)

nothing_late : (plan : PlanData) (records : List Record) (q : Pane) → IsPlan plan → All (λ r. IsTime (at plan.window.time r)) records → is_due plan.window highest q.start ≡ false → plan_aggregate plan records q ≡ None
nothing_late plan records q sound times late =
    let w = plan.window in
    let none : records_of w q (passing plan records) ≡ [] =
    filter_nothing (is_at w q) (passing plan records)
    (All-weaker (λ r. IsTime (at w.time r)) (λ r. is_at w q r ≡ false) (λ r h. not_at (int_eq (at w.key r) q.key) (is_within w q.start (at w.time r)) (too_late w q.start (at w.time r) sound.window.size_small h late)) (passing plan records)
    (All-filter (passes plan.filters) (λ r. IsTime (at w.time r)) records times)) in
    ap (λ g. if is_start w q.start then aggregate_of w.aggregates g else None) none ∙ either_none (is_start w q.start)
  where
    either_none : {X : Type 0} (b : Bool) → (let none : Option X = None in (if b then none else none) ≡ none)
    either_none true = refl
    either_none false = refl

pub end_is_due : EndIsDue
end_is_due plan i q sound input belongs =
    let full = records_before i.sources (full_cut i.sources) in
    let times : All (λ r. IsTime (at i.time r)) full = timely i.time i.sources (full_cut i.sources) (each_entry (IsEntry i.columns i.time) (λ e. All (λ r. IsTime (at i.time r)) (records_of_entry e)) i.sources (timely_entry i.time i.columns) input.entries) in
    let mine : All (λ r. IsTime (at plan.window.time r)) full = subst (λ t. All (λ r. IsTime (at t r)) full) belongs.time times in
    ap (λ t. if is_due plan.window t q.start then plan_rows plan i.sources q else None) (full_watermark i.sources)
    ∙ elim (cases_Bool (is_due plan.window highest q.start)) [
      | inl e ↦ rw e refl
      | inr e ↦ rw e (sym (ap (option_and_then (kept_row plan.window q)) (nothing_late plan full q sound mine e)))
    ]

-- ---- from cut to cut

pub some_only : {X : Type 0} (b : Bool) (o : Option X) (x : X) → (if b then o else None) ≡ Some x → (b ≡ true) × (o ≡ Some x)
some_only true o x e = (refl, e)
some_only false o x e = absurd cc

pub due_rows_stay : DueRowsStay
due_rows_stay plan i b c q row input before cut e =
    let s = some_only (is_due plan.window (merged_watermark i.sources b) q.start) (plan_rows plan i.sources q) row e in
    let later = due_stays plan.window i.sources b c q.start (watermarks_low i input) before cut s.0 in
    rw later s.1

empty_source : (ps : List (List Marked)) → records_before_in ps (map (λ p. 0) ps) ≡ []
empty_source [] = refl
empty_source (p ∷ ps) = empty_source ps

pub empty_records : (ss : List (List (List Marked))) → records_before ss (empty_cut ss) ≡ []
empty_records [] = refl
empty_records (s ∷ ss) = rw (empty_source s, empty_records ss) refl

always_none : {X : Type 0} (a b : Bool) → (let none : Option X = None in (if a then none else (if b then none else none)) ≡ none)
always_none true b = refl
always_none false true = refl
always_none false false = refl

pub nothing_at_first : NothingAtFirst
nothing_at_first plan sources q =
    ap (λ rs. if is_due plan.window (merged_watermark sources (empty_cut sources)) q.start then None else plan_aggregate plan rs q) (empty_records sources)
    ∙ always_none (is_due plan.window (merged_watermark sources (empty_cut sources)) q.start) (is_start plan.window q.start)

-- what stands at a later cut is what was carried there, where nothing was due at the earlier one
carried_is : (plan : PlanData) (sources : List (List (List Marked))) (b c : List (List ℕ)) (q : Pane) → IsBefore b c → is_due plan.window (merged_watermark sources b) q.start ≡ false
    → plan_aggregate plan (records_before sources c) q ≡ carried plan sources b c q
carried_is plan sources b c q before early =
    plan_aggregate-between plan sources b c q before ∙ rw early refl

pub snapshot_goes_on : SnapshotGoesOn
snapshot_goes_on plan i b c q input before cut =
    elim (cases_Bool (is_due plan.window (merged_watermark i.sources c) q.start)) [
      | inl e ↦ rw e refl
      | inr e ↦ rw e (carried_is plan i.sources b c q before (elim (cases_Bool (is_due plan.window (merged_watermark i.sources b) q.start)) [
        | inl d ↦ absurd (let x : true ≡ false = sym (due_stays plan.window i.sources b c q.start (watermarks_low i input) before cut d) ∙ e in cc)
        | inr d ↦ d
      ]))
    ]

pub carried_fires : CarriedFires
carried_fires plan i b c q input orderly before cut early =
    elim (cases_Bool (is_due plan.window (merged_watermark i.sources c) q.start)) [
      | inl e ↦ rw e (ap (option_and_then (kept_row plan.window q)) (due_is_settled plan i.sources c q orderly cut e ∙ carried_is plan i.sources b c q before early))
      | inr e ↦ rw e refl
    ]
