-- What holds of all records of an input holds of those before a cut.
use Rattle.std.proofs.Common.{ℕ, zero, suc, ◌≤◌, List, [], ◌∷◌, ◌++◌, length, take, subst, arith, length-append}
use Rattle.std.specs.List.{All, flat_map}
use Rattle.std.proofs.lemmas.List.Elements.{All-append, All-cons, All-head, All-nil, All-tail, All-weaker}
use Rattle.plain_data.specs.Record.{Record, at}
use Rattle.plan_model.specs.PlanData.{PlanData}
use Rattle.plan_model.specs.Windows.{IsTime}
use Rattle.stream_model.specs.declared.entry.Entry.{Entry}
use Rattle.stream_model.specs.declared.entry.Marked.{Marked}
use Rattle.stream_model.specs.declared.entry.Entry.TheVariants.{Rows, Watermark}
use Rattle.stream_model.specs.InputData.{InputData, IsEntry, IsEntryOf, IsInput, BelongsTo, rows_in, records_of_entry, records_in, records_in_source, all_records}
use Rattle.stream_model.specs.Watermarks.{records_before_in, records_before}

-- ---- there are no more records before a cut than there are

few_in : (n : ℕ) (es : List Marked) → length (records_in (take n es)) ≤ length (records_in es)
few_in zero es = omega arith
few_in (suc n) [] = omega arith
few_in (suc n) (e ∷ es) = omega (arith, few_in n es, length-append (records_of_entry e) (records_in (take n es)), length-append (records_of_entry e) (records_in es))

few_in_source : (ps : List (List Marked)) (ns : List ℕ) → length (records_before_in ps ns) ≤ length (records_in_source ps)
few_in_source [] ns = omega arith
few_in_source (p ∷ ps) [] = omega arith
few_in_source (p ∷ ps) (n ∷ ns) = omega (arith, few_in n p, few_in_source ps ns, length-append (records_in (take n p)) (records_before_in ps ns), length-append (records_in p) (records_in_source ps))

pub few_before : (ss : List (List (List Marked))) (cs : List (List ℕ)) → length (records_before ss cs) ≤ length (all_records ss)
few_before [] cs = omega arith
few_before (s ∷ ss) [] = omega arith
few_before (s ∷ ss) (c ∷ cs) = omega (arith, few_in_source s c, few_before ss cs, length-append (records_before_in s c) (records_before ss cs), length-append (records_in_source s) (all_records ss))

-- ---- each of them is one of those

parts : {X : Type 0} (P : X → Type 0) (xs ys : List X) → All P (xs ++ ys) → All P xs × All P ys
parts P [] ys h = (All-nil P, h)
parts P (x ∷ xs) ys h = let rest = parts P xs ys (All-tail P x (xs ++ ys) h) in (All-cons P x xs (All-head P x (xs ++ ys) h) rest.0, rest.1)

module _ (P : Record → Type 0) where
  first : (n : ℕ) (es : List Marked) → All P (records_in es) → All P (records_in (take n es))
  first zero es h = All-nil P
  first (suc n) [] h = h
  first (suc n) (e ∷ es) h = let both = parts P (records_of_entry e) (records_in es) h in All-append P (records_of_entry e) (records_in (take n es)) both.0 (first n es both.1)

  before_in : (ps : List (List Marked)) (ns : List ℕ) → All P (records_in_source ps) → All P (records_before_in ps ns)
  before_in [] ns h = All-nil P
  before_in (p ∷ ps) [] h = All-nil P
  before_in (p ∷ ps) (n ∷ ns) h = let both = parts P (records_in p) (records_in_source ps) h in All-append P (records_in (take n p)) (records_before_in ps ns) (first n p both.0) (before_in ps ns both.1)

  pub before : (ss : List (List (List Marked))) (cs : List (List ℕ)) → All P (all_records ss) → All P (records_before ss cs)
  before [] cs h = All-nil P
  before (s ∷ ss) [] h = All-nil P
  before (s ∷ ss) (c ∷ cs) h = let both = parts P (records_in_source s) (all_records ss) h in All-append P (records_before_in s c) (records_before ss cs) (before_in s c both.0) (before ss cs both.1)

-- ---- their times are in range

each_of : {X Y : Type 0} (P : Y → Type 0) (f : X → List Y) (xs : List X) → All (λ x. All P (f x)) xs → All P (flat_map f xs)
each_of P f [] h = All-nil P
each_of P f (x ∷ xs) h = All-append P (f x) (flat_map f xs) (All-head (λ x. All P (f x)) x xs h) (each_of P f xs (All-tail (λ x. All P (f x)) x xs h))

timely_rows : (columns time : ℕ) (e : Entry) → IsEntryOf columns time e → All (λ r. IsTime (at time r)) (rows_in e)
timely_rows columns time (Rows batch) h = h.1
timely_rows columns time (Watermark t) h = All-nil (λ r. IsTime (at time r))

timely : (i : InputData) → IsInput i → All (λ r. IsTime (at i.time r)) (all_records i.sources)
timely i h =
    let P : Record → Type 0 = λ r. IsTime (at i.time r) in
    let E : Marked → Type 0 = IsEntry i.columns i.time in
    each_of P records_in_source i.sources (All-weaker (λ s. All (λ p. All E p) s) (λ s. All P (records_in_source s)) (λ s a.
    each_of P records_in s (All-weaker (λ p. All E p) (λ p. All P (records_in p)) (λ p b.
    each_of P records_of_entry p (All-weaker E (λ e. All P (records_of_entry e)) (λ m t. timely_rows i.columns i.time m.entry t.0) p b)) s a)) i.sources h.entries)

pub timely_before : (p : PlanData) (i : InputData) (cut : List (List ℕ)) → IsInput i → BelongsTo p i → All (λ r. IsTime (at p.window.time r)) (records_before i.sources cut)
timely_before p i cut input belongs =
    subst (λ t. All (λ r. IsTime (at t r)) (records_before i.sources cut)) belongs.time (before (λ r. IsTime (at i.time r)) i.sources cut (timely i input))
