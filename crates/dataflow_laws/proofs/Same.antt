-- Records that weigh the same come to the same in a pane.
use Rattle.std.proofs.Common.{◌≡◌, ℕ, List, [], ◌∷◌, ◌++◌, Bool, true, false, cond, refl, sym, ap, ◌∙◌, inl, inr, arith, sum_by, Option, Some, None, if◌then◌else◌, ℤ, ◌<ℤ◌, int_lt}
use Rattle.std.proofs.lemmas.Bool.{cases_Bool, and_right}
use Rattle.std.proofs.lemmas.Int.{ints}
use Rattle.std.proofs.lemmas.List.Sums.{sum_by-cons}
use Rattle.std.specs.List.{filter}
use Rattle.plain_data.specs.Record.{Record, at}
use Rattle.plan_model.specs.declared.spec.Aggregate.{Aggregate}
use Rattle.plan_model.specs.declared.spec.WindowSpec.{WindowSpec}
use Rattle.plan_model.specs.declared.spec.Pane.{Pane}
use Rattle.plan_model.specs.Windows.{is_at, is_within, is_start}
use Rattle.plan_model.specs.Aggregates.{Aggregated, merge, aggregate_of}
use Rattle.plan_model.specs.Rows.{aggregate_at, is_due}
use Rattle.plan_model.proofs.Facts.{aggregate_at-append, aggregate_at-same, merge_assoc}
use Rattle.dataflow_laws.proofs.Streams.{weigh, late}
use Rattle.dataflow_laws.proofs.Logs.{weigh_filter}

weigh_sum : (h : Record → ℕ) (xs : List Record) → weigh h xs ≡ sum_by h xs
weigh_sum h [] = refl
weigh_sum h (x ∷ xs) = omega (arith, weigh_sum h xs, sum_by-cons h x xs)

filter_twice : (p : Record → Bool) (xs : List Record) → filter p (filter p xs) ≡ filter p xs
filter_twice p [] = refl
filter_twice p (x ∷ xs) =
    elim (cases_Bool (p x)) [
      | inl e ↦ ap (λ t. filter p (cond t (x ∷ filter p xs) (filter p xs))) e ∙ ap (λ t. cond t (x ∷ filter p (filter p xs)) (filter p (filter p xs))) e ∙ ap (λ l. x ∷ l) (filter_twice p xs) ∙ sym (ap (λ t. cond t (x ∷ filter p xs) (filter p xs)) e)
      | inr e ↦ ap (λ t. filter p (cond t (x ∷ filter p xs) (filter p xs))) e ∙ filter_twice p xs ∙ sym (ap (λ t. cond t (x ∷ filter p xs) (filter p xs)) e)
    ]

only_there : (w : WindowSpec) (q : Pane) (xs : List Record) → aggregate_at w (filter (is_at w q) xs) q ≡ aggregate_at w xs q
only_there w q xs = ap (λ l. if is_start w q.start then aggregate_of w.aggregates l else None) (filter_twice (is_at w q) xs)

-- it is enough that they weigh the same by weights of the pane's records
pub same_aggregate : (w : WindowSpec) (q : Pane) (xs ys : List Record) → ((h : Record → ℕ) → ((r : Record) → is_at w q r ≡ false → h r ≡ 0) → weigh h xs ≡ weigh h ys) → aggregate_at w xs q ≡ aggregate_at w ys q
same_aggregate w q xs ys h =
    sym (only_there w q xs)
    ∙ aggregate_at-same w (filter (is_at w q) xs) (filter (is_at w q) ys) q (λ g.
    sym (weigh_sum g (filter (is_at w q) xs)) ∙ weigh_filter g (is_at w q) xs ∙ h (λ r. cond (is_at w q r) (g r) 0) (λ r e. rw e refl) ∙ sym (weigh_filter g (is_at w q) ys) ∙ weigh_sum g (filter (is_at w q) ys))
    ∙ only_there w q ys

pub aggregate_nil : (w : WindowSpec) (q : Pane) → aggregate_at w [] q ≡ None
aggregate_nil w q = elim (cases_Bool (is_start w q.start)) [ inl e ↦ rw e refl | inr e ↦ rw e refl ]

pub merge_nothing : (ks : List Aggregate) (o n : Option Aggregated) → n ≡ None → merge ks o n ≡ o
merge_nothing ks None n e = e
merge_nothing ks (Some a) n e = rw e refl

pub merge_append : (w : WindowSpec) (q : Pane) (o : Option Aggregated) (xs ys : List Record) → merge w.aggregates o (aggregate_at w (xs ++ ys) q) ≡ merge w.aggregates (merge w.aggregates o (aggregate_at w xs q)) (aggregate_at w ys q)
merge_append w q o xs ys = ap (merge w.aggregates o) (aggregate_at-append w xs ys q) ∙ sym (merge_assoc w.aggregates o (aggregate_at w xs q) (aggregate_at w ys q))

-- ---- records above a watermark by which a pane is due

pub late_zero : (c : ℕ) (w : ℤ) (r : Record) → late c w r ≡ 0 → w <ℤ at c r
late_zero c w r z = elim (cases_Bool (int_lt w (at c r))) [ inl e ↦ grind (arith, ints) | inr e ↦ absurd (let z' : cond {A = ℕ} (int_lt w (at c r)) 0 1 ≡ 0 = z in let q = rw e at z' in omega arith) ]

past_end : (w : WindowSpec) (q : Pane) (low t : ℤ) → low <ℤ t → is_due w low q.start ≡ true → is_within w q.start t ≡ false
past_end w q low t l d = grind (arith, ints, l, d)

pub not_there : (w : WindowSpec) (q : Pane) (low : ℤ) (r : Record) → late w.time low r ≡ 0 → is_due w low q.start ≡ true → is_at w q r ≡ false
not_there w q low r z d = and_right _ _ (past_end w q low (at w.time r) (late_zero w.time low r z) d)

none_there : (w : WindowSpec) (q : Pane) (low : ℤ) (rs : List Record) → weigh (late w.time low) rs ≡ 0 → is_due w low q.start ≡ true → filter (is_at w q) rs ≡ []
none_there w q low [] z d = refl
none_there w q low (r ∷ rs) z d = let e = not_there w q low r (omega (arith, z)) d in rw e (none_there w q low rs (omega (arith, z)) d)

pub nothing_there : (w : WindowSpec) (q : Pane) (low : ℤ) (rs : List Record) → weigh (late w.time low) rs ≡ 0 → is_due w low q.start ≡ true → aggregate_at w rs q ≡ None
nothing_there w q low rs z d = ap (λ l. if is_start w q.start then aggregate_of w.aggregates l else None) (none_there w q low rs z d) ∙ aggregate_nil w q
