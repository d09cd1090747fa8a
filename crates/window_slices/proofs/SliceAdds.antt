-- Slices of time: what the slices of a window come to, with one slice more or with one record more in one of them.
use Rattle.std.proofs.Common.{◌≡◌, ℕ, zero, suc, ℤ, ◌+◌, ◌<◌, Bool, true, false, cond, ◌&&◌, List, [], ◌∷◌, ◌++◌, length, slice_index_or, slice_set, refl, sym, ap, subst, ◌∙◌, arith, Option, Some, None}
use Rattle.std.specs.Global.{Vec}
use Rattle.std.specs.List.{All}
use Rattle.std.specs.Map.{lookup}
use Rattle.std.specs.Ordering.{int_eq}
use Rattle.std.proofs.lemmas.Int.{ints, clamps}
use Rattle.plan_model.specs.declared.spec.Aggregate.{Aggregate}
use Rattle.plan_model.specs.declared.spec.Aggregate.TheVariants.{Count, Sum, Least, Greatest}
use Rattle.plan_model.specs.declared.spec.Pane.{Pane}
use Rattle.plan_model.specs.declared.spec.WindowSpec.{WindowSpec}
use Rattle.plan_model.specs.Aggregates.{Aggregated, merge_number, merge_numbers, merge}
use Rattle.plan_model.specs.Windows.{is_start, is_within, is_window_of}
use Rattle.plan_model.proofs.Facts.{merge_assoc}
use Rattle.window_slices.specs.declared.key_slices.Slice.{Slice}
use Rattle.window_slices.specs.KeySlices.{IsSliceOf, AreSlices, slices_in, slices_of, slices_total, sliced}

-- ---- merging does not depend on which part comes first

merge_number_commutes : (k : Aggregate) (x y : ℤ) → merge_number k x y ≡ merge_number k y x
merge_number_commutes Count x y = omega (arith, ints)
merge_number_commutes (Sum c) x y = omega (arith, ints)
merge_number_commutes (Least c) x y = omega (arith, ints, clamps)
merge_number_commutes (Greatest c) x y = omega (arith, ints, clamps)

merge_numbers_commutes : (ks : List Aggregate) (xs ys : List ℤ) → merge_numbers ks xs ys ≡ merge_numbers ks ys xs
merge_numbers_commutes [] xs ys = refl
merge_numbers_commutes (k ∷ ks) [] [] = refl
merge_numbers_commutes (k ∷ ks) [] (y ∷ ys) = refl
merge_numbers_commutes (k ∷ ks) (x ∷ xs) [] = refl
merge_numbers_commutes (k ∷ ks) (x ∷ xs) (y ∷ ys) = λ i. merge_number_commutes k x y i ∷ merge_numbers_commutes ks xs ys i

merge_commutes : (ks : List Aggregate) (a b : Option Aggregated) → merge ks a b ≡ merge ks b a
merge_commutes ks None None = refl
merge_commutes ks None (Some b) = refl
merge_commutes ks (Some a) None = refl
merge_commutes ks (Some a) (Some b) =
    let count : a.count + b.count ≡ b.count + a.count = omega arith in
    λ i. Some (record { count = count i; numbers = merge_numbers_commutes ks a.numbers b.numbers i })

-- what comes to the first of two parts comes to both
pub merge_first : (ks : List Aggregate) (a b c : Option Aggregated) → merge ks (merge ks a b) c ≡ merge ks (merge ks a c) b
merge_first ks a b c = merge_assoc ks a b c ∙ ap (merge ks a) (merge_commutes ks b c) ∙ sym (merge_assoc ks a c b)

-- ---- the slices of a window

-- what comes to later slices comes to all
more_later : (ks : List Aggregate) (a b : Bool) (first later one : Option Aggregated)
    → cond a (merge ks first (cond b (merge ks later one) later)) (cond b (merge ks later one) later)
    ≡ cond b (merge ks (cond a (merge ks first later) later) one) (cond a (merge ks first later) later)
more_later ks true true first later one = sym (merge_assoc ks first later one)
more_later ks true false first later one = refl
more_later ks false true first later one = refl
more_later ks false false first later one = refl

-- with one slice more behind them
pub total_push : (w : WindowSpec) (s : ℤ) (xs : List Slice) (x : Slice)
    → slices_total w s (xs ++ x ∷ []) ≡ cond (is_within w s x.start) (merge w.aggregates (slices_total w s xs) (Some x.acc.total)) (slices_total w s xs)
total_push w s [] x = refl
total_push w s (y ∷ ys) x =
    ap (λ t. cond (is_within w s y.start) (merge w.aggregates (Some y.acc.total) t) t) (total_push w s ys x)
    ∙ more_later w.aggregates (is_within w s y.start) (is_within w s x.start) (Some y.acc.total) (slices_total w s ys) (Some x.acc.total)

-- with more in one of them
pub total_set : (w : WindowSpec) (s start : ℤ) (one : Option Aggregated) (xs : List Slice) (i : ℕ) (d new : Slice) → i < length xs → (slice_index_or xs i d).start ≡ start → new.start ≡ start
    → Some new.acc.total ≡ merge w.aggregates (Some (slice_index_or xs i d).acc.total) one
    → slices_total w s (slice_set xs i new) ≡ cond (is_within w s start) (merge w.aggregates (slices_total w s xs) one) (slices_total w s xs)
total_set w s start one [] i d new inside was is more = absurd (omega arith)
total_set w s start one (x ∷ xs) zero d new inside was is more =
    let later = slices_total w s xs in
    let g = λ (b : Bool) (t : Option Aggregated). cond b (merge w.aggregates t later) later in
    (λ i. g (is_within w s (is i)) (more i))
    ∙ here (is_within w s start) later
    ∙ (λ i. let t = g (is_within w s (sym was i)) (Some x.acc.total) in cond (is_within w s start) (merge w.aggregates t one) t)
  where
    here : (b : Bool) (later : Option Aggregated)
        → cond b (merge w.aggregates (merge w.aggregates (Some x.acc.total) one) later) later
        ≡ cond b (merge w.aggregates (cond b (merge w.aggregates (Some x.acc.total) later) later) one) (cond b (merge w.aggregates (Some x.acc.total) later) later)
    here true later = merge_first w.aggregates (Some x.acc.total) one later
    here false later = refl
total_set w s start one (x ∷ xs) (suc i) d new inside was is more =
    ap (λ t. cond (is_within w s x.start) (merge w.aggregates (Some x.acc.total) t) t) (total_set w s start one xs i d new (omega arith) was is more)
    ∙ more_later w.aggregates (is_within w s x.start) (is_within w s start) (Some x.acc.total) (slices_total w s xs) one

-- ---- the slices of a key that are others now

pub others_at : (old new : List (ℤ × Vec Slice)) (key : ℤ) (v : Vec Slice) → ((k : ℤ) → lookup (int_eq k) new ≡ cond (int_eq key k) (Some v) (lookup (int_eq k) old))
    → (k : ℤ) → slices_of new k ≡ cond (int_eq key k) v.items (slices_of old k)
others_at old new key v is k = ap slices_in (is k) ∙ within (int_eq key k)
  where
    within : (b : Bool) → slices_in (cond b (Some v) (lookup (int_eq k) old)) ≡ cond b v.items (slices_of old k)
    within true = refl
    within false = refl

-- the same with the entries and the key as an insertion holds them
pub others_held : (old held new : List (ℤ × Vec Slice)) (key held_key : ℤ) (v : Vec Slice) → held ≡ old → held_key ≡ key
    → ((k : ℤ) → lookup (int_eq k) new ≡ cond (int_eq held_key k) (Some v) (lookup (int_eq k) held)) → (k : ℤ) → slices_of new k ≡ cond (int_eq key k) v.items (slices_of old k)
others_held old held new key held_key v entries same is = others_at old new key v (λ k. is k ∙ (λ i. cond (int_eq (same i) k) (Some v) (lookup (int_eq k) (entries i))))

pub same_key : (a b : ℤ) → int_eq a b ≡ true → a ≡ b
same_key a b h = grind (arith, ints)

-- where more is in the slices of the key, more is in the windows of the time that have the key
pub sliced_more : (w : WindowSpec) (old new : List (ℤ × Vec Slice)) (key start held : ℤ) (was items : List Slice) (one : Option Aggregated) → held ≡ start → was ≡ slices_of old key
    → ((k : ℤ) → slices_of new k ≡ cond (int_eq key k) items (slices_of old k))
    → ((s : ℤ) → slices_total w s items ≡ cond (is_within w s held) (merge w.aggregates (slices_total w s was) one) (slices_total w s was))
    → (q : Pane) → sliced w new q ≡ cond (int_eq key q.key && is_window_of w start q.start) (merge w.aggregates (sliced w old q) one) (sliced w old q)
sliced_more w old new key start held was items one same there others more q =
    ap (λ l. cond (is_start w q.start) (slices_total w q.start l) None) (others q.key) ∙ by_key (int_eq key q.key) refl
  where
    at_start : (b c : Bool) (t : Option Aggregated) → cond b (cond c (merge w.aggregates t one) t) None ≡ cond (b && c) (merge w.aggregates (cond b t None) one) (cond b t None)
    at_start true c t = refl
    at_start false c t = refl

    by_key : (b : Bool) → int_eq key q.key ≡ b
        → cond (is_start w q.start) (slices_total w q.start (cond b items (slices_of old q.key))) None ≡ cond (b && is_window_of w start q.start) (merge w.aggregates (sliced w old q) one) (sliced w old q)
    by_key false other = refl
    by_key true here =
        ap (λ t. cond (is_start w q.start) t None) (more q.start)
        ∙ at_start (is_start w q.start) (is_within w q.start held) (slices_total w q.start was)
        ∙ (λ i. let o = cond (is_start w q.start) (slices_total w q.start (there i)) None in cond (is_window_of w (same i) q.start) (merge w.aggregates o one) o)
        ∙ ap (λ k. let o = cond (is_start w q.start) (slices_total w q.start (slices_of old k)) None in cond (is_window_of w start q.start) (merge w.aggregates o one) o) (same_key key q.key here)

pub others_kinds : (w : WindowSpec) (old new : List (ℤ × Vec Slice)) (key : ℤ) (items : List Slice) → ((k : ℤ) → slices_of new k ≡ cond (int_eq key k) items (slices_of old k))
    → All (IsSliceOf w) items → AreSlices w old → AreSlices w new
others_kinds w old new key items others kinds are k = subst (All (IsSliceOf w)) (sym (others k)) (by_key (int_eq key k))
  where
    by_key : (b : Bool) → All (IsSliceOf w) (cond b items (slices_of old k))
    by_key true = kinds
    by_key false = are k

-- where the slices of the key are those that it had, all are as they were
pub others_same : (old new : List (ℤ × Vec Slice)) (key : ℤ) (items : List Slice) → ((k : ℤ) → slices_of new k ≡ cond (int_eq key k) items (slices_of old k))
    → items ≡ slices_of old key → (k : ℤ) → slices_of new k ≡ slices_of old k
others_same old new key items others is k = others k ∙ by_key (int_eq key k) refl
  where
    by_key : (b : Bool) → int_eq key k ≡ b → cond b items (slices_of old k) ≡ slices_of old k
    by_key true same = is ∙ ap (slices_of old) (same_key key k same)
    by_key false other = refl
