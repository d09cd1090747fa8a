-- How many records stand in a pane.
use Rattle.std.proofs.Common.{◌≡◌, ℕ, ◌+◌, ◌≤◌, true, false, List, [], ◌∷◌, length, refl, sym, ap, ◌∙◌, arith, Option, Some, None, if◌then◌else◌}
use Rattle.std.proofs.lemmas.List.Sums.{length-filter, count_by-le-length}
use Rattle.plain_data.specs.Record.{Record}
use Rattle.plan_model.specs.declared.spec.Aggregate.{Aggregate}
use Rattle.plan_model.specs.declared.spec.WindowSpec.{WindowSpec}
use Rattle.plan_model.specs.declared.spec.Pane.{Pane}
use Rattle.plan_model.specs.Windows.{is_start, is_at}
use Rattle.plan_model.specs.Aggregates.{Aggregated, aggregate_of, merge}
use Rattle.plan_model.specs.Rows.{records_of, aggregate_at}

abbrev pub count_or : Option Aggregated → ℕ
count_or None = 0
count_or (Some a) = a.count

count_of : (ks : List Aggregate) (rs : List Record) → count_or (aggregate_of ks rs) ≡ length rs
count_of ks [] = refl
count_of ks (r ∷ rs) = refl

-- at most all of the records
pub count_at : (w : WindowSpec) (rs : List Record) (q : Pane) → count_or (aggregate_at w rs q) ≤ length rs
count_at w rs q = elim (is_start w q.start) as (λ b. count_or (if b then aggregate_of w.aggregates (records_of w q rs) else None) ≤ length rs) [
  | true ↦ omega (arith, count_of w.aggregates (records_of w q rs), length-filter (is_at w q) rs, count_by-le-length (is_at w q) rs)
  | false ↦ omega arith
]

pub count_merge : (ks : List Aggregate) (a b : Option Aggregated) → count_or (merge ks a b) ≡ count_or a + count_or b
count_merge ks None b = omega arith
count_merge ks (Some a) None = omega arith
count_merge ks (Some a) (Some b) = refl

-- the same, of what is there
pub count_of_some : (ks : List Aggregate) (rs : List Record) (a : Aggregated) → aggregate_of ks rs ≡ Some a → a.count ≡ length rs
count_of_some ks rs a e = sym (ap count_or e) ∙ count_of ks rs

most : (x : Option Aggregated) (n : ℕ) → ((b : Aggregated) → x ≡ Some b → b.count ≤ n) → count_or x ≤ n
most None n h = omega arith
most (Some b) n h = h b refl

pub count_merged : (ks : List Aggregate) (x y : Option Aggregated) (a : Aggregated) (n m : ℕ) → ((b : Aggregated) → x ≡ Some b → b.count ≤ n) → ((b : Aggregated) → y ≡ Some b → b.count ≤ m)
    → merge ks x y ≡ Some a → a.count ≤ n + m
count_merged ks x y a n m hx hy e =
    let both : a.count ≡ count_or x + count_or y = sym (ap count_or e) ∙ count_merge ks x y in
    omega (arith, both, most x n hx, most y m hy)
