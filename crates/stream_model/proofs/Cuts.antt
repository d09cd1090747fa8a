-- What a later cut has is what an earlier one has, and what lies between.
use Rattle.std.proofs.Common.{◌≡◌, ℕ, ◌+◌, ◌-◌, ◌≤◌, List, [], ◌∷◌, ◌++◌, take, drop, refl, ap, ◌∙◌, arith}
use Rattle.std.specs.List.{sum_by, AllZip}
use Rattle.std.proofs.lemmas.List.Concat.{flat_map-append}
use Rattle.std.proofs.lemmas.List.Elements.{filter-append}
use Rattle.std.proofs.lemmas.List.Sums.{sum_by-append}
use Rattle.std.proofs.Math.Seq.{take-add}
use Rattle.plain_data.specs.Record.{Record}
use Rattle.plan_model.specs.declared.spec.Pane.{Pane}
use Rattle.plan_model.specs.PlanData.{PlanData}
use Rattle.plan_model.specs.Bag.{IsSameBag}
use Rattle.plan_model.specs.Aggregates.{merge}
use Rattle.plan_model.specs.Rows.{aggregate_at}
use Rattle.plan_model.specs.Windows.{passes}
use Rattle.plan_model.proofs.Facts.{IsSameBag-filter}
use Rattle.plan_model.proofs.Facts.{aggregate_at-append, aggregate_at-same}
use Rattle.stream_model.specs.declared.entry.Marked.{Marked}
use Rattle.stream_model.specs.InputData.{records_of_entry, records_in}
use Rattle.stream_model.specs.Watermarks.{records_before, records_before_in, records_between, records_between_in, IsBefore}
use Rattle.stream_model.specs.PlanRows.{passing, plan_aggregate}

regroup : (f : Record → ℕ) (x y u v : List Record) → sum_by f ((x ++ y) ++ (u ++ v)) ≡ sum_by f ((x ++ u) ++ (y ++ v))
regroup f x y u v = omega (arith, sum_by-append f (x ++ y) (u ++ v), sum_by-append f x y, sum_by-append f u v, sum_by-append f (x ++ u) (y ++ v), sum_by-append f x u, sum_by-append f y v)

-- where the first part splits in two and the second part is known as a bag, so is the whole
joined : (f : Record → ℕ) (front x y rest u v : List Record) → front ≡ x ++ y → sum_by f rest ≡ sum_by f (u ++ v) → sum_by f (front ++ rest) ≡ sum_by f ((x ++ u) ++ (y ++ v))
joined f front x y rest u v split others =
    ap (λ l. sum_by f (l ++ rest)) split
    ∙ omega (arith, others, sum_by-append f (x ++ y) rest, sum_by-append f (x ++ y) (u ++ v))
    ∙ regroup f x y u v

-- in one source
records_in_source-between : (ps : List (List Marked)) (ms ns : List ℕ) → AllZip (λ m n. m ≤ n) ms ns → IsSameBag (records_before_in ps ns) (records_before_in ps ms ++ records_between_in ps ms ns)
records_in_source-between [] ms ns h f = refl
records_in_source-between (p ∷ ps) [] [] h f = refl
records_in_source-between (p ∷ ps) [] (n ∷ ns) h f = absurd h
records_in_source-between (p ∷ ps) (m ∷ ms) [] h f = absurd h
records_in_source-between (p ∷ ps) (m ∷ ms) (n ∷ ns) h f =
    let here : m ≤ n = h.0 in
    let count : n ≡ m + (n - m) = omega arith in
    let front : records_in (take n p) ≡ records_in (take m p) ++ records_in (take (n - m) (drop m p)) =
    ap (λ k. records_in (take k p)) count ∙ ap records_in (take-add m (n - m) p) ∙ flat_map-append records_of_entry (take m p) (take (n - m) (drop m p)) in
    joined f (records_in (take n p)) (records_in (take m p)) (records_in (take (n - m) (drop m p))) (records_before_in ps ns) (records_before_in ps ms) (records_between_in ps ms ns)
    front (records_in_source-between ps ms ns h.1 f)

-- the records before a later cut are those before an earlier one and those between
pub records-between : (ss : List (List (List Marked))) (bs cs : List (List ℕ)) → IsBefore bs cs → IsSameBag (records_before ss cs) (records_before ss bs ++ records_between ss bs cs)
records-between [] bs cs h f = refl
records-between (s ∷ ss) [] [] h f = refl
records-between (s ∷ ss) [] (c ∷ cs) h f = absurd h
records-between (s ∷ ss) (b ∷ bs) [] h f = absurd h
records-between (s ∷ ss) (b ∷ bs) (c ∷ cs) h f =
    let here : sum_by f (records_before_in s c) ≡ sum_by f (records_before_in s b ++ records_between_in s b c) = records_in_source-between s b c h.0 f in
    let others : sum_by f (records_before ss cs) ≡ sum_by f (records_before ss bs ++ records_between ss bs cs) = records-between ss bs cs h.1 f in
    omega (
      arith,
      here,
      others,
      sum_by-append f (records_before_in s c) (records_before ss cs),
      sum_by-append f (records_before_in s b) (records_between_in s b c),
      sum_by-append f (records_before ss bs) (records_between ss bs cs),
    )
    ∙ sum_of_four f (records_before_in s b) (records_between_in s b c) (records_before ss bs) (records_between ss bs cs)
  where
    sum_of_four : (f : Record → ℕ) (x y u v : List Record) → (sum_by f x + sum_by f y) + (sum_by f u + sum_by f v) ≡ sum_by f ((x ++ u) ++ (y ++ v))
    sum_of_four f x y u v = omega (arith, sum_by-append f (x ++ u) (y ++ v), sum_by-append f x u, sum_by-append f y v)

-- what stands in a pane at a later cut is what stood at the earlier one, merged with the records between
pub plan_aggregate-between : (plan : PlanData) (ss : List (List (List Marked))) (bs cs : List (List ℕ)) (q : Pane) → IsBefore bs cs
    → plan_aggregate plan (records_before ss cs) q ≡ merge plan.window.aggregates (plan_aggregate plan (records_before ss bs) q) (plan_aggregate plan (records_between ss bs cs) q)
plan_aggregate-between plan ss bs cs q h =
    aggregate_at-same plan.window (passing plan (records_before ss cs)) (passing plan (records_before ss bs ++ records_between ss bs cs)) q
    (IsSameBag-filter (passes plan.filters) (records_before ss cs) (records_before ss bs ++ records_between ss bs cs) (records-between ss bs cs h))
    ∙ ap (λ rs. aggregate_at plan.window rs q) (filter-append (passes plan.filters) (records_before ss bs) (records_between ss bs cs))
    ∙ aggregate_at-append plan.window (passing plan (records_before ss bs)) (passing plan (records_between ss bs cs)) q
