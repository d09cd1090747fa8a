-- The windows after records: a map with one more record in each of its panes.
use Rattle.std.proofs.Common.{◌≡◌, ℕ, zero, suc, ℤ, pos, negsuc, ◌+ℤ◌, ◌-ℤ◌, ◌<◌, ◌<ℤ◌, ◌≤ℤ◌, Bool, true, false, cond, ◌&&◌, List, [], ◌∷◌, refl, sym, ap, ◌∙◌, ◌⊎◌, inl, inr, arith, Option, Some, None, if◌then◌else◌}
use Rattle.std.specs.Prelude.{int_le, int_lt}
use Rattle.std.specs.Ordering.{int_eq, is_eq, eq_by_cmp}
use Rattle.std.specs.Cmp.{tied_itself}
use Rattle.std.specs.declared.cmp.Ordering.{Ordering}
use Rattle.std.specs.declared.cmp.Ordering.TheVariants.{Less, Equal, Greater}
use Rattle.std.specs.FinMap.{get, insert, remove, get-insert, get-remove}
use Rattle.std.proofs.lemmas.Int.{ints}
use Rattle.std.proofs.lemmas.Bool.{cases_Bool, cases_eq, false≢true}
use Rattle.plain_data.specs.Record.{Record, at}
use Rattle.plan_model.specs.declared.spec.Aggregate.{Aggregate}
use Rattle.plan_model.specs.declared.spec.WindowSpec.{WindowSpec}
use Rattle.plan_model.specs.declared.spec.Pane.{Pane}
use Rattle.plan_model.specs.Windows.{is_window_of, is_start}
use Rattle.plan_model.specs.Aggregates.{Aggregated, aggregate_of, merge}
use Rattle.plan_model.specs.Rows.{pane_cmp, aggregate_at}
use Rattle.plan_model.proofs.Facts.{pane_cmp_total, pane_cmp-IsAntisymmetric, aggregate_at-append, merge_assoc, merge-one, natural}
use Rattle.dataflow_model.specs.State.{Windows}

-- the pane of a key that begins i before a time
abbrev pane_before : ℤ → ℤ → ℕ → Pane
pane_before key t i = record { start = t -ℤ pos i; key = key }

equal : (r : Ordering) → is_eq r ≡ true → r ≡ Equal
equal Less e = absurd cc
equal Equal e = refl
equal Greater e = absurd cc

pub same_pane : (q p : Pane) → eq_by_cmp pane_cmp q p ≡ true → q ≡ p
same_pane q p e = pane_cmp-IsAntisymmetric q p (equal (pane_cmp q p) e)

pub is_same : (q p : Pane) → q ≡ p → eq_by_cmp pane_cmp q p ≡ true
is_same q p e = ap (λ z. eq_by_cmp pane_cmp z p) e ∙ ap is_eq (tied_itself pane_cmp_total p)

-- a map that has what is given in one pane, and else what it had
one_set : (m : Windows) (p : Pane) (o : Option Aggregated) → (n : Windows) × ((q : Pane) → get n q ≡ cond (eq_by_cmp pane_cmp q p) o (get m q))
one_set m p None = (remove m p, λ q. get-remove pane_cmp_total m p q)
one_set m p (Some v) = (insert m p v, λ q. get-insert pane_cmp_total m p v q)

-- where a map has what is wanted but in n panes, there is one that has it
build : (key t : ℤ) (f : Pane → Option Aggregated) (n : ℕ) (m : Windows) → ((q : Pane) → (f q ≡ get m q) ⊎ ((i : ℕ) × (i < n) × (q ≡ pane_before key t i)))
    → (m' : Windows) × ((q : Pane) → get m' q ≡ f q)
build key t f zero m h = (m, λ q. elim (h q) [ inl e ↦ sym e | inr x ↦ absurd (let l = x.1 in omega arith) ])
build key t f (suc n) m h =
    let p = pane_before key t n in
    let a = one_set m p (f p) in
    let next : (q : Pane) → (f q ≡ get a.0 q) ⊎ ((i : ℕ) × (i < n) × (q ≡ pane_before key t i)) = λ q. elim (cases_Bool (eq_by_cmp pane_cmp q p)) [
      | inl e ↦ inl (ap f (same_pane q p e) ∙ sym (a.1 q ∙ ap (λ b. cond b (f p) (get m q)) e))
      | inr e ↦ elim (h q) [
        | inl y ↦ inl (y ∙ sym (a.1 q ∙ ap (λ b. cond b (f p) (get m q)) e))
        | inr x ↦ elim (cases_eq x.0 n) [
          | inl u ↦ absurd (false≢true (sym e ∙ is_same q p (x.2 ∙ ap (pane_before key t) u)))
          | inr u ↦ inr (x.0, (let l = x.1 in omega (arith, l, u)), x.2)
        ]
      ]
    ] in
    build key t f n a.0 next

bounded : (z : ℤ) → (n : ℕ) × (z ≤ℤ pos n)
bounded (pos n) = (n, omega (arith, ints))
bounded (negsuc n) = (0, omega (arith, ints))

fewer : (s t size : ℤ) (n j : ℕ) → t <ℤ (s +ℤ size) → t -ℤ s ≡ pos j → size ≤ℤ pos n → j < n
fewer s t size n j c is h = omega (arith, ints)

back : (s t : ℤ) (j : ℕ) → t -ℤ s ≡ pos j → s ≡ t -ℤ pos j
back s t j is = omega (arith, ints)

near : (b : Bool) (s t size k key : ℤ) (n : ℕ) → size ≤ℤ pos n → ((b && (int_le s t && int_lt t (s +ℤ size))) && int_eq k key) ≡ true → (i : ℕ) × (i < n) × (s ≡ t -ℤ pos i) × (key ≡ k)
near false s t size k key n h e = absurd cc
near true s t size k key n h e =
    let a : s ≤ℤ t = grind (arith, ints) in
    let c : t <ℤ (s +ℤ size) = grind (arith, ints) in
    let same : key ≡ k = grind (arith, ints) in
    let d = natural (t -ℤ s) (grind (arith, ints)) in
    (d.0, fewer s t size n d.0 c d.1 h, back s t d.0 d.1, same)

-- one more record
one_added : (w : WindowSpec) (m : Windows) (r : Record) → (m' : Windows) × ((q : Pane) → get m' q ≡ merge w.aggregates (get m q) (aggregate_at w (r ∷ []) q))
one_added w m r =
    let size = bounded w.size in
    build (at w.key r) (at w.time r) (λ q. merge w.aggregates (get m q) (aggregate_at w (r ∷ []) q)) size.0 m (λ q. elim (cases_Bool (is_window_of w (at w.time r) q.start && int_eq (at w.key r) q.key)) [
      | inr e ↦ inl (sym (merge-one w r q (get m q)) ∙ ap (λ b. if b then merge w.aggregates (get m q) (aggregate_of w.aggregates (r ∷ [])) else get m q) e)
      | inl e ↦
          let x = near (is_start w q.start) q.start (at w.time r) w.size (at w.key r) q.key size.0 size.1 e in
          let start = x.2 in
          let key = x.3 in
          inr (x.0, x.1, λ i. record { start = start i; key = key i })
    ])

merge_none : (ks : List Aggregate) (b : Bool) (o : Option Aggregated) → o ≡ merge ks o (if b then None else None)
merge_none ks true None = refl
merge_none ks false None = refl
merge_none ks true (Some a) = refl
merge_none ks false (Some a) = refl

pub rows_added : (w : WindowSpec) (rows : List Record) (m : Windows) → (m' : Windows) × ((q : Pane) → get m' q ≡ merge w.aggregates (get m q) (aggregate_at w rows q))
rows_added w [] m = (m, λ q. merge_none w.aggregates (is_start w q.start) (get m q))
rows_added w (r ∷ rs) m =
    let a = one_added w m r in
    let b = rows_added w rs a.0 in (
      b.0,
      λ q. b.1 q ∙ ap (λ o. merge w.aggregates o (aggregate_at w rs q)) (a.1 q)
          ∙ merge_assoc w.aggregates (get m q) (aggregate_at w (r ∷ []) q) (aggregate_at w rs q)
          ∙ ap (merge w.aggregates (get m q)) (sym (aggregate_at-append w (r ∷ []) rs q)),
    )
