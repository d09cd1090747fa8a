-- The entries of the windows, as a finite map and as rows.
use Rattle.std.proofs.Common.{◌≡◌, ℤ, Bool, true, false, not, cond, ◌&&◌, T, List, [], ◌∷◌, ◌++◌, map, refl, sym, ap, subst, ◌∙◌, arith, append_assoc, Option, Some, None}
use Rattle.std.specs.List.{filter, AllByRecursion, IsDistinct}
use Rattle.std.specs.List.Sorted.{IsStrictlySortedBy}
use Rattle.std.specs.Map.{keys_of, lookup}
use Rattle.std.specs.Option.{is_some, option_map}
use Rattle.std.specs.Ordering.{int_eq, int_cmp, is_eq, is_lt, ordering_then}
use Rattle.std.specs.declared.cmp.Ordering.{Ordering}
use Rattle.std.specs.declared.cmp.Ordering.TheVariants.{Less, Equal}
use Rattle.std.specs.FinMap.{FinMap, from_entries, get, get-from_entries, entries, from_sorted, get-from_sorted, entries-from_sorted, retain_keys, get-retain_keys, same_map}
use Rattle.std.specs.FinMap.Entries.{find, is_sorted, below_all}
use Rattle.std.proofs.lemmas.Int.{ints}
use Rattle.plan_model.specs.declared.spec.WindowSpec.{WindowSpec}
use Rattle.plan_model.specs.declared.spec.Pane.{Pane}
use Rattle.plan_model.specs.declared.spec.Row.{Row}
use Rattle.plan_model.specs.Aggregates.{Aggregated}
use Rattle.plan_model.specs.Rows.{pane_cmp, is_due, row_at}
use Rattle.plan_model.proofs.Facts.{pane_cmp_total, pane_cmp-IsAntisymmetric}
use Rattle.aggregates.specs.Kinds.{AccData, kind_of}
use Rattle.window_state.specs.Windows.{is_pane, acc_at, AreWindows}
use Rattle.window_state.specs.Places.{AreSound}
use Rattle.window_slices.specs.KeySlices.{acc_with}
use Rattle.window_state.specs.Firing.{rows_due}
use Rattle.window_state.specs.Parts.{with_entry, entries_at}

-- ---- the map of entries

pub tied : (p q : Pane) → is_eq (pane_cmp p q) ≡ is_pane p q
tied p q = alike p.start q.start p.key q.key
  where
    alike : (a b c d : ℤ) → is_eq (ordering_then (int_cmp a b) (int_cmp c d)) ≡ (int_eq a b && int_eq c d)
    alike a b c d = grind (arith, ints)

found_in : (es : List (Pane × Aggregated)) (q : Pane) → find pane_cmp q es ≡ lookup (is_pane q) es
found_in [] q = refl
found_in (e ∷ es) q = ap (λ b. cond b (Some e.1) (find pane_cmp q es)) (tied q e.0) ∙ ap (cond (is_pane q e.0) (Some e.1)) (found_in es q)

-- the finite map has in each pane what stands there
pub get-entries : (es : List (Pane × Aggregated)) (q : Pane) → get (from_entries {R = pane_cmp} es) q ≡ lookup (is_pane q) es
get-entries es q = get-from_entries pane_cmp_total es q ∙ found_in es q

-- it has none only where nothing stands
pub no_total : (o : Option AccData) → option_map (λ (a : AccData). a.total) o ≡ None → o ≡ None
no_total None h = refl
no_total (Some a) h = absurd cc

-- what has these numbers
pub with_numbers : (o : Option Aggregated) (zs : List ℤ) → Some zs ≡ option_map (λ (a : Aggregated). a.numbers) o → (a : Aggregated) × (o ≡ Some a) × (zs ≡ a.numbers)
with_numbers None zs h = absurd cc
with_numbers (Some a) zs h = let same : zs ≡ a.numbers = cc in (a, refl, same)

pub without_numbers : (o : Option Aggregated) → (let none : Option (List ℤ) = None in none ≡ option_map (λ (a : Aggregated). a.numbers) o) → o ≡ None
without_numbers None h = refl
without_numbers (Some a) h = absurd cc

-- what the accumulator has
pub with_acc : (w : WindowSpec) (o : Option Aggregated) (a : AccData) → Some a ≡ option_map (acc_with w) o → o ≡ Some a.total
with_acc w None a h = absurd cc
with_acc w (Some t) a h = let same : a.total ≡ t = cc in ap Some (sym same)

pub with_kinds : (w : WindowSpec) (o : Option Aggregated) (a : AccData) → Some a ≡ option_map (acc_with w) o → a.kinds ≡ map kind_of w.aggregates
with_kinds w None a h = absurd cc
with_kinds w (Some t) a h = let same : a.kinds ≡ map kind_of w.aggregates = cc in same

pub without_acc : (w : WindowSpec) (o : Option Aggregated) → (let none : Option AccData = None in none ≡ option_map (acc_with w) o) → o ≡ None
without_acc w None h = refl
without_acc w (Some a) h = absurd cc

-- maps that have the same in each pane are the same
pub same_map_of : (m n : FinMap pane_cmp Aggregated) → ((q : Pane) → get m q ≡ get n q) → m ≡ n
same_map_of m n is = same_map pane_cmp_total pane_cmp-IsAntisymmetric m n is

pub total_cond : (b : Bool) (a o : Option AccData) → option_map (λ (x : AccData). x.total) (cond b a o) ≡ cond b (option_map (λ (x : AccData). x.total) a) (option_map (λ (x : AccData). x.total) o)
total_cond true a o = refl
total_cond false a o = refl

pub none_there : (o : Option AccData) → is_some o ≡ false → o ≡ None
none_there None h = refl
none_there (Some a) h = absurd cc

-- ---- entries in the order of their panes

both_hold : (a b : Bool) → T a → T b → T (a && b)
both_hold true b h k = k
both_hold false b h k = h

module _ {K X : Type 0} (R : K → K → Ordering) where
  below : (x : K) (es : List (K × X)) → AllByRecursion (λ y. R x y ≡ Less) (keys_of es) → T (below_all R x es)
  below x [] h = tt
  below x (e ∷ es) h = both_hold (is_lt (R x e.0)) (below_all R x es) (subst (λ r. T (is_lt r)) (sym h.0) tt) (below x es h.1)

  -- entries whose keys rise are in order
  pub sorted : (es : List (K × X)) → IsStrictlySortedBy R (keys_of es) → T (is_sorted R es)
  unfolding IsStrictlySortedBy
  sorted [] h = tt
  sorted (e ∷ es) h = both_hold (below_all R e.0 es) (is_sorted R es) (below e.0 es h.0) (sorted es h.1)

-- they are the map's own
pub entries-sorted : (es : List (Pane × Aggregated)) → IsStrictlySortedBy pane_cmp (keys_of es) → entries (from_entries {R = pane_cmp} es) ≡ es
entries-sorted es h =
    let rises = sorted pane_cmp es h in
    let same : from_entries {R = pane_cmp} es ≡ from_sorted es =
    same_map pane_cmp_total pane_cmp-IsAntisymmetric _ _ (λ q. get-from_entries pane_cmp_total es q ∙ sym (get-from_sorted pane_cmp es q rises)) in
    ap entries same ∙ entries-from_sorted pane_cmp es rises

-- ---- windows that stay

-- where nothing new stands in any pane
pub windows_fewer : (w : WindowSpec) (m n : List (Pane × AccData)) → AreWindows w m → IsDistinct is_pane (keys_of n) → ((q : Pane) (a : AccData) → acc_at n q ≡ Some a → acc_at m q ≡ Some a) → AreWindows w n
windows_fewer w m n h distinct before = record {
  distinct = distinct;
  kinds = λ q a there. h.kinds q a (before q a there);
  starts = λ q a there. h.starts q a (before q a there);
}

some_of : (b : Bool) (o : Option AccData) (a : AccData) → cond b None o ≡ Some a → o ≡ Some a
some_of true o a h = absurd cc
some_of false o a h = h

-- where one pane is taken out
pub windows_taken : (w : WindowSpec) (p : Pane) (m n : List (Pane × AccData)) → AreWindows w m → IsDistinct is_pane (keys_of n) → ((q : Pane) → acc_at n q ≡ cond (is_pane p q) None (acc_at m q)) → AreWindows w n
windows_taken w p m n h distinct taken = windows_fewer w m n h distinct (λ q a there. some_of (is_pane p q) (acc_at m q) a (sym (taken q) ∙ there))

pub sound_taken : (p : Pane) (m n : List (Pane × AccData)) → AreSound m → ((q : Pane) → acc_at n q ≡ cond (is_pane p q) None (acc_at m q)) → AreSound n
sound_taken p m n h taken q a there = h q a (some_of (is_pane p q) (acc_at m q) a (sym (taken q) ∙ there))

-- ---- rows

-- one window more fires
pub fires_next : (w : WindowSpec) (t : ℤ) (rows : List Row) (row : Row) (e : Pane × Aggregated) (left rest all : List (Pane × Aggregated))
    → rows ++ rows_due w t left ≡ rows_due w t all → left ≡ e ∷ rest → is_due w t e.0.start ≡ true → row ≡ row_at w e.0 e.1
    → (rows ++ row ∷ []) ++ rows_due w t rest ≡ rows_due w t all
fires_next w t rows row e left rest all so_far is due same =
    append_assoc rows (row ∷ []) (rows_due w t rest)
    ∙ ap (λ r. rows ++ r ∷ rows_due w t rest) same
    ∙ sym (ap (λ b. rows ++ map (λ x. row_at w x.0 x.1) (cond b (e ∷ filter (λ x. is_due w t x.0.start) rest) (filter (λ x. is_due w t x.0.start) rest))) due)
    ∙ ap (λ l. rows ++ rows_due w t l) (sym is) ∙ so_far

-- a pane where something stands
pub some_next : (f : Pane → Option Aggregated) (p : Pane) (a : Aggregated) (left rest : List Pane) → left ≡ p ∷ rest → f p ≡ Some a → entries_at f left ≡ (p, a) ∷ entries_at f rest
some_next f p a left rest is some = ap (entries_at f) is ∙ ap (λ o. with_entry p o (entries_at f rest)) some

-- a pane where nothing does
pub none_next : (f : Pane → Option Aggregated) (p : Pane) (left rest : List Pane) → left ≡ p ∷ rest → f p ≡ None → entries_at f left ≡ entries_at f rest
none_next f p left rest is none = ap (entries_at f) is ∙ ap (λ o. with_entry p o (entries_at f rest)) none

-- ---- the map of the windows that stay

pub map_left : (p : Pane → Bool) (m n : FinMap pane_cmp Aggregated) → ((q : Pane) → get n q ≡ cond (p q) None (get m q)) → n ≡ retain_keys m (λ q. not (p q))
map_left p m n is =
    same_map pane_cmp_total pane_cmp-IsAntisymmetric _ _ (λ q.
    let alike = λ (x : Pane) (e : pane_cmp q x ≡ Equal). ap (λ y. not (p y)) (sym (pane_cmp-IsAntisymmetric q x e)) in
    is q ∙ other_way (p q) (get m q) ∙ sym (get-retain_keys m (λ y. not (p y)) q alike))
  where
    other_way : (b : Bool) (o : Option Aggregated) → cond b None o ≡ cond (not b) o None
    other_way true o = refl
    other_way false o = refl
