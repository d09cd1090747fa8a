-- So few panes can hold a record that they can be counted.
use Rattle.std.proofs.Common.{◌≡◌, ℕ, zero, suc, ◌+◌, ◌*◌, ◌%◌, ◌<◌, ◌≤◌, ℤ, pos, ◌-ℤ◌, ◌≤ℤ◌, ◌*ℤ◌, Bool, true, false, cond, not, ◌||◌, List, [], ◌∷◌, length, get_or, refl, sym, ap, subst, ◌∙◌, inl, inr, arith}
use Rattle.std.specs.Prelude.{T}
use Rattle.std.specs.Int.{int_rem_euclid}
use Rattle.std.specs.List.{All, count_by, list_any}
use Rattle.std.specs.Ordering.{eq_by_cmp, int_cmp, int_eq, is_eq, is_lt, ordering_then}
use Rattle.std.specs.Cmp.{Equal-is}
use Rattle.std.specs.declared.cmp.Ordering.TheVariants.{Equal}
use Rattle.std.specs.FinMap.Entries.{is_sorted, below_all, where_key, is_sorted-where_key}
use Rattle.std.proofs.lemmas.Bool.{and_from, and_parts, cases_Bool, cases_lt}
use Rattle.std.proofs.lemmas.Bool.Decides.{Decides-int_eq}
use Rattle.std.proofs.lemmas.Int.{ints}
use Rattle.std.proofs.lemmas.List.Elements.{All-filter, All-head, All-tail, filter_passes}
use Rattle.std.proofs.lemmas.List.Sums.{length-filter, sum_by-cons}
use Rattle.std.proofs.Math.Nat.{add-mod_right, mod-eq_of_lt}
use Rattle.plain_data.specs.Record.{Record, at}
use Rattle.plan_model.specs.declared.limits.TheConstants.{MOST_WINDOWS}
use Rattle.plan_model.specs.declared.spec.Pane.{Pane}
use Rattle.plan_model.specs.declared.spec.WindowSpec.{WindowSpec}
use Rattle.plan_model.specs.Aggregates.{Aggregated}
use Rattle.plan_model.specs.PlanData.{IsWindow}
use Rattle.plan_model.specs.Rows.{pane_cmp}
use Rattle.plan_model.specs.Windows.{is_at, is_start, is_within}
use Rattle.plan_model.proofs.Facts.{is_reached, natural, pane_cmp_total, reached_all, reached_more, reached_none, remainder}
use Rattle.gather.proofs.Facts.{t_both, less}

-- ---- counts of what passes

abbrev tally : Bool → ℕ
tally b = cond b 1 0

one_either : (a b : Bool) → tally (a || b) ≤ tally a + tally b
one_either true b = omega arith
one_either false true = omega arith
one_either false false = omega arith

one_up : (a b : Bool) → (a ≡ true → b ≡ true) → tally a ≤ tally b
one_up true true h = omega arith
one_up true false h = absurd (let e : false ≡ true = h refl in cc)
one_up false b h = omega arith

one_of_both : (b : Bool) → tally b + tally (not b) ≡ 1
one_of_both true = omega arith
one_of_both false = omega arith

module _ {X : Type 0} where
  count_more : (f : X → Bool) (x : X) (xs : List X) → count_by f (x ∷ xs) ≡ tally (f x) + count_by f xs
  count_more f x xs = sum_by-cons (λ y. tally (f y)) x xs

  count_either : (f g : X → Bool) (xs : List X) → count_by (λ x. f x || g x) xs ≤ count_by f xs + count_by g xs
  count_either f g [] = omega arith
  count_either f g (x ∷ xs) = omega (arith, count_either f g xs, one_either (f x) (g x), count_more (λ y. f y || g y) x xs, count_more f x xs, count_more g x xs)

  count_up : (f g : X → Bool) (xs : List X) → All (λ x. f x ≡ true → g x ≡ true) xs → count_by f xs ≤ count_by g xs
  count_up f g [] h = omega arith
  count_up f g (x ∷ xs) h =
      let rest = count_up f g xs (All-tail (λ y. f y ≡ true → g y ≡ true) x xs h) in
      let up = one_up (f x) (g x) (All-head (λ y. f y ≡ true → g y ≡ true) x xs h) in
      omega (arith, rest, up, count_more f x xs, count_more g x xs)

  count_none : (f : X → Bool) (xs : List X) → ((x : X) → f x ≡ false) → count_by f xs ≡ 0
  count_none f [] h = refl
  count_none f (x ∷ xs) h = omega (arith, count_none f xs h, ap tally (h x), count_more f x xs)

  count_both : (f : X → Bool) (xs : List X) → count_by f xs + count_by (λ x. not (f x)) xs ≡ length xs
  count_both f [] = refl
  count_both f (x ∷ xs) = omega (arith, count_both f xs, one_of_both (f x), count_more f x xs, count_more (λ y. not (f y)) x xs)

-- ---- in panes that ascend none stands twice

none_after : (q x : Pane) → pane_cmp q x ≡ Equal → (es : List (Pane × Aggregated)) → T (below_all pane_cmp x es) → count_by (λ e. eq_by_cmp pane_cmp q e.0) es ≡ 0
none_after q x same [] h = refl
none_after q x same (e ∷ es) h =
    let b = t_both (is_lt (pane_cmp x e.0)) (below_all pane_cmp x es) h in
    let other = ap (λ r. tally (is_eq r)) (pane_cmp_total.congr q x e.0 same ∙ less (pane_cmp x e.0) b.0) in
    omega (arith, none_after q x same es b.1, other, count_more (λ y. eq_by_cmp pane_cmp q y.0) e es)

once : (q : Pane) (es : List (Pane × Aggregated)) → T (is_sorted pane_cmp es) → count_by (λ e. eq_by_cmp pane_cmp q e.0) es ≤ 1
once q [] h = omega arith
once q (e ∷ es) h =
    let b = t_both (below_all pane_cmp e.0 es) (is_sorted pane_cmp es) h in
    let more = count_more (λ y. eq_by_cmp pane_cmp q y.0) e es in
    elim (cases_Bool (eq_by_cmp pane_cmp q e.0)) [
      | inl same ↦ omega (arith, more, ap tally same, none_after q e.0 ((Equal-is (pane_cmp q e.0)).0 same) es b.0)
      | inr other ↦ omega (arith, more, ap tally other, once q es b.1)
    ]

-- ---- the windows of a time

same_pane : (a b c d : ℤ) → int_eq a b ≡ true → c ≡ d → is_eq (ordering_then (int_cmp a b) (int_cmp c d)) ≡ true
same_pane a b c d h e = grind (arith, ints)

module _ (w : WindowSpec) (t : ℤ) (n m r : ℕ) (h : 0 < n) (slide : w.slide ≡ pos n) (size : w.size ≡ pos m) (is : int_rem_euclid (t -ℤ w.offset) (pos n) ≡ pos r) (low : r < n) (key : ℤ) where
  abbrev IsOfKey : Pane × Aggregated → Type 0
  IsOfKey e = e.0.key ≡ key

  step : (k : ℕ) → r + suc k * n ≡ (r + k * n) + n
  step k = omega arith

  place : (k : ℕ) → (r + k * n) % n ≡ r
  place zero = ap (λ x. x % n) (let e : r + zero * n ≡ r = omega arith in e) ∙ mod-eq_of_lt low
  place (suc k) = ap (λ x. x % n) (step k) ∙ add-mod_right (r + k * n) n ∙ place k

  -- a step of the slide has at most one window more
  steps : (k : ℕ) (es : List (Pane × Aggregated)) → T (is_sorted pane_cmp es) → All IsOfKey es → count_by (λ e. is_reached w t (r + k * n) e.0.start) es ≤ k
  steps zero es sorted keys =
      let first : r + zero * n ≡ r = omega arith in
      let none = count_none (λ (e : Pane × Aggregated). is_reached w t (r + zero * n) e.0.start) es (λ e. ap (λ b. is_reached w t b e.0.start) first ∙ reached_none w t e.0.start n m r h slide size is low) in
      omega (arith, none)
  steps (suc k) es sorted keys =
      let b = r + k * n in
      let rest = steps k es sorted keys in
      elim (cases_lt b m) [
        | inl l ↦
            let q : Pane = record { start = t -ℤ pos b; key = key } in
            let before : Pane × Aggregated → Bool = λ e. is_reached w t b e.0.start in
            let here : Pane × Aggregated → Bool = λ e. int_eq (t -ℤ pos b) e.0.start in
            let up = count_up (λ e. is_reached w t (r + suc k * n) e.0.start) (λ e. before e || here e) es (λ j d o e. sym (ap (λ x. is_reached w t x (get_or es j d).0.start) (step k) ∙ reached_more w t (get_or es j d).0.start b n m r h slide size is (place k) l) ∙ e) in
            let one = count_up here (λ e. eq_by_cmp pane_cmp q e.0) es (λ j d o e. same_pane (t -ℤ pos b) (get_or es j d).0.start key (get_or es j d).0.key e (sym (keys j d o))) in
            omega (arith, rest, up, count_either before here es, one, once q es sorted)
        | inr past ↦
            let up = count_up (λ e. is_reached w t (r + suc k * n) e.0.start) (λ e. is_reached w t b e.0.start) es (λ j d o e.
            let s = (get_or es j d).0.start in
            reached_all w t s b n m r h slide size is past ∙ sym (reached_all w t s (r + suc k * n) n m r h slide size is (omega (arith, past, step k))) ∙ e) in
            omega (arith, rest, up)
      ]

  abbrev IsInTime : Pane × Aggregated → Type 0
  IsInTime e = (is_start w e.0.start ≡ true) × (is_within w e.0.start t ≡ true)

  -- far enough back stand all windows of the time
  all_reached : (b : ℕ) → m ≤ b → (es : List (Pane × Aggregated)) → All IsInTime es → count_by (λ e. is_reached w t b e.0.start) es ≡ length es
  all_reached b past [] each = refl
  all_reached b past (e ∷ es) each =
      let here = All-head IsInTime e es each in
      let is : is_reached w t b e.0.start ≡ true = reached_all w t e.0.start b n m r h slide size is past ∙ and_from _ _ here.0 here.1 in
      let rest = all_reached b past es (All-tail IsInTime e es each) in
      omega (arith, rest, ap tally is, count_more (λ (x : Pane × Aggregated). is_reached w t b x.0.start) e es)

-- the panes of a record
abbrev IsPaneOf : WindowSpec → Record → Pane × Aggregated → Type 0
IsPaneOf w r e = (is_at w e.0 r ≡ true) × (is_start w e.0.start ≡ true)

wide : (m n : ℕ) → pos m ≤ℤ (MOST_WINDOWS *ℤ pos n) → m ≤ 256 * n
wide m n h = omega (arith, ints, h)

few_of_record : (w : WindowSpec) (x : Record) (es : List (Pane × Aggregated)) → IsWindow w → T (is_sorted pane_cmp es) → All (IsPaneOf w x) es → length es ≤ 256
few_of_record w x es iw sorted each =
    let t = at w.time x in
    let n = natural w.slide (let l = iw.slides in omega (arith, ints, l)) in
    let m = natural w.size (let l = iw.sized in omega (arith, ints, l)) in
    let some : 0 < n.0 = (let l = iw.slides in let e = n.1 in omega (arith, ints, l, e)) in
    let r = remainder (t -ℤ w.offset) n.0 some in
    let panes : w.size ≤ℤ (MOST_WINDOWS *ℤ w.slide) = iw.panes in
    let most : m.0 ≤ 256 * n.0 = wide m.0 n.0 (subst (λ z. z ≤ℤ (MOST_WINDOWS *ℤ pos n.0)) m.1 (subst (λ z. w.size ≤ℤ (MOST_WINDOWS *ℤ z)) n.1 panes)) in
    let keys : All (λ e. e.0.key ≡ at w.key x) es = λ k d l. sym ((Decides-int_eq (at w.key x) (get_or es k d).0.key).0 (and_parts (int_eq (at w.key x) (get_or es k d).0.key) (is_within w (get_or es k d).0.start t) (each k d l).0).0) in
    let counted = steps w t n.0 m.0 r.0 some n.1 m.1 r.2 r.1 (at w.key x) 256 es sorted keys in
    let inside : All (λ e. (is_start w e.0.start ≡ true) × (is_within w e.0.start t ≡ true)) es = λ k d l. ((each k d l).1, (and_parts (int_eq (at w.key x) (get_or es k d).0.key) (is_within w (get_or es k d).0.start t) (each k d l).0).1) in
    let all = all_reached w t n.0 m.0 r.0 some n.1 m.1 r.2 r.1 (at w.key x) (r.0 + 256 * n.0) (omega (arith, most)) es inside in
    omega (arith, counted, all)

-- panes each of which holds one of the records
neither : (a b : Bool) → (a || b) ≡ true → not a ≡ true → b ≡ true
neither true b h k = absurd cc
neither false b h k = h

pub few_panes : (w : WindowSpec) (rs : List Record) (es : List (Pane × Aggregated)) → IsWindow w → T (is_sorted pane_cmp es) → All (λ e. is_start w e.0.start ≡ true) es → All (λ e. list_any (is_at w e.0) rs ≡ true) es → length es ≤ 256 * length rs
few_panes w [] [] iw sorted starts held = omega arith
few_panes w [] (e ∷ es) iw sorted starts held = absurd (let none : false ≡ true = held 0 e (omega arith) in cc)
few_panes w (r ∷ rs) es iw sorted starts held =
    let here : Pane → Bool = λ q. is_at w q r in
    let other : Pane → Bool = λ q. not (is_at w q r) in
    let mine = where_key pane_cmp here es in
    let rest = where_key pane_cmp other es in
    let few = few_of_record w r mine iw (is_sorted-where_key pane_cmp here es sorted) (λ k d l. (filter_passes (λ e. here e.0) es k d l, All-filter (λ e. here e.0) (λ e. is_start w e.0.start ≡ true) es starts k d l)) in
    let more = few_panes w rs rest iw (is_sorted-where_key pane_cmp other es sorted) (All-filter (λ e. other e.0) (λ e. is_start w e.0.start ≡ true) es starts) (λ k d l.
    neither _ _ (All-filter (λ e. other e.0) (λ e. list_any (is_at w e.0) (r ∷ rs) ≡ true) es held k d l) (filter_passes (λ e. other e.0) es k d l)) in
    omega (arith, few, more, count_both (λ (e : Pane × Aggregated). here e.0) es, length-filter (λ (e : Pane × Aggregated). here e.0) es, length-filter (λ (e : Pane × Aggregated). other e.0) es)
