-- Rows in order are told by what stands in each pane.
use Rattle.std.proofs.Common.{◌≡◌, ℕ, suc, ℤ, ◌+◌, Bool, true, false, cond, ◌&&◌, List, [], ◌∷◌, length, get_or, refl, sym, ap, ◌∙◌, arith, Option}
use Rattle.std.specs.List.{filter, flat_map, All}
use Rattle.std.specs.List.Sorted.{IsSortedBy}
use Rattle.std.specs.Ordering.{int_eq, int_cmp, is_lt, ordering_then}
use Rattle.std.proofs.lemmas.Int.{ints}
use Rattle.std.proofs.lemmas.List.Sorted.{sorted_far, ranks_by}
use Rattle.plan_model.specs.declared.spec.Pane.{Pane}
use Rattle.plan_model.specs.declared.spec.Row.{Row}
use Rattle.plan_model.specs.Rows.{pane_of, pane_cmp, row_is_at}
use Rattle.job_texts.specs.Text.{IsTextOf, line_of}
use Rattle.plan_model.proofs.Facts.{pane_cmp_total}
use Rattle.stream_model.proofs.Facts.{filter_nothing}

abbrev before : Row → Row → Bool
before x y = is_lt (pane_cmp (pane_of x) (pane_of y))

tail_sorted : (x : Row) (xs : List Row) → IsSortedBy before (x ∷ xs) → IsSortedBy before xs
tail_sorted x xs up k d low high =
    let e : suc k + 1 ≡ suc (k + 1) = omega arith in
    let h = up (suc k) d (omega arith) (omega arith) in
    rw e at h

least_head : (x : Row) (xs : List Row) → IsSortedBy before (x ∷ xs) → All (λ z. before z x ≡ false) (x ∷ xs)
least_head x xs up k d k_in = sorted_far before (ranks_by pane_cmp_total pane_of) (x ∷ xs) up 0 k d (omega arith) k_in

apart : (a b c d e f : ℤ) → is_lt (ordering_then (int_cmp a e) (int_cmp b f)) ≡ true → is_lt (ordering_then (int_cmp c e) (int_cmp d f)) ≡ false → (int_eq c a && int_eq d b) ≡ false
apart a b c d e f h k = grind (arith, ints)

level : (a b c d : ℤ) → is_lt (ordering_then (int_cmp a b) (int_cmp c d)) ≡ false → is_lt (ordering_then (int_cmp b a) (int_cmp d c)) ≡ false → (a ≡ b) × (c ≡ d)
level a b c d h k = let e1 : a ≡ b = grind (arith, ints) in let e2 : c ≡ d = grind (arith, ints) in (e1, e2)

self : (a b : ℤ) → (int_eq a a && int_eq b b) ≡ true
self a b = grind (arith, ints)

abbrev front_or : Row → List Row → Row
front_or d [] = d
front_or d (x ∷ xs) = x

abbrev rest : List Row → List Row
rest [] = []
rest (x ∷ xs) = xs

kept_self : (x : Row) (xs : List Row) → filter (row_is_at (pane_of x)) (x ∷ xs) ≡ x ∷ filter (row_is_at (pane_of x)) xs
kept_self x xs = ap (λ b. cond b (x ∷ filter (row_is_at (pane_of x)) xs) (filter (row_is_at (pane_of x)) xs)) (self x.start x.key)

-- the first row of the one list is not before the first of the other
not_before : (x : Row) (xs : List Row) (y : Row) (ys : List Row) → IsSortedBy before (y ∷ ys)
    → filter (row_is_at (pane_of x)) (x ∷ xs) ≡ filter (row_is_at (pane_of x)) (y ∷ ys) → (b : Bool) → before x y ≡ b → b ≡ false
not_before x xs y ys up same false e = refl
not_before x xs y ys up same true e =
    let none : All (λ z. row_is_at (pane_of x) z ≡ false) (y ∷ ys) = λ k d k_in.
    let z : Row = get_or (y ∷ ys) k d in
    apart x.start x.key z.start z.key y.start y.key e (least_head y ys up k d k_in) in
    let long : length (x ∷ filter (row_is_at (pane_of x)) xs) ≡ 0 = ap (length {A = Row}) (sym (kept_self x xs) ∙ same ∙ filter_nothing (row_is_at (pane_of x)) (y ∷ ys) none) in
    absurd (omega arith)

drop_same : (b : Bool) (x : Row) (us vs : List Row) → cond b (x ∷ us) us ≡ cond b (x ∷ vs) vs → us ≡ vs
drop_same true x us vs e = ap rest e
drop_same false x us vs e = e

pub rows_unique : (xs ys : List Row) → IsSortedBy before xs → IsSortedBy before ys → ((q : Pane) → filter (row_is_at q) xs ≡ filter (row_is_at q) ys) → xs ≡ ys
rows_unique [] [] up up' same = refl
rows_unique [] (y ∷ ys) up up' same = absurd (let h : 0 ≡ length (y ∷ filter (row_is_at (pane_of y)) ys) = ap (length {A = Row}) (same (pane_of y) ∙ kept_self y ys) in omega arith)
rows_unique (x ∷ xs) [] up up' same = absurd (let h : length (x ∷ filter (row_is_at (pane_of x)) xs) ≡ 0 = ap (length {A = Row}) (sym (kept_self x xs) ∙ same (pane_of x)) in omega arith)
rows_unique (x ∷ xs) (y ∷ ys) up up' same =
    let one : before x y ≡ false = not_before x xs y ys up' (same (pane_of x)) (before x y) refl in
    let two : before y x ≡ false = not_before y ys x xs up (sym (same (pane_of y))) (before y x) refl in
    let level' : (x.start ≡ y.start) × (x.key ≡ y.key) = level x.start y.start x.key y.key one two in
    let pane : pane_of x ≡ pane_of y = λ i. record { start = level'.0 i; key = level'.1 i } in
    let heads : x ≡ y = ap (front_or x) (sym (kept_self x xs) ∙ same (pane_of x) ∙ ap (λ p. filter (row_is_at p) (y ∷ ys)) pane ∙ kept_self y ys) in
    let tails : xs ≡ ys = rows_unique xs ys (tail_sorted x xs up) (tail_sorted y ys up') (λ q.
    drop_same (row_is_at q x) x (filter (row_is_at q) xs) (filter (row_is_at q) ys)
    (same q ∙ (λ i. cond (row_is_at q (sym heads i)) (sym heads i ∷ filter (row_is_at q) ys) (filter (row_is_at q) ys)))) in
    λ i. heads i ∷ tails i

-- there is one text
pub IsTextOf-unique : (f : Pane → Option Row) (s t : List ℕ) → IsTextOf f s → IsTextOf f t → s ≡ t
IsTextOf-unique f s t a b =
    let same : a.rows ≡ b.rows = rows_unique a.rows b.rows a.ordered b.ordered (λ q. a.are q ∙ sym (b.are q)) in
    a.lines ∙ ap (flat_map line_of) same ∙ sym b.lines
