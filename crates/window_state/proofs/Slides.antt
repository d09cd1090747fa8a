-- A record brought in at several windows, one after another, and several records.
use Rattle.std.proofs.Common.{◌≡◌, ℕ, ℤ, pos, ◌-ℤ◌, ◌+◌, ◌^◌, ◌<◌, ◌≤◌, ◌%◌, Bool, true, false, cond, ◌&&◌, ◌||◌, List, [], ◌∷◌, take, drop, length, get_or, refl, sym, ap, subst, ◌∙◌, arith, Option, Some, None, ◌≤ℤ◌, FitsSigned, to_z, of_z, if◌then◌else◌}
use Rattle.std.specs.Prelude.{int_lt}
use Rattle.std.specs.Int.{int_rem_euclid}
use Rattle.std.specs.FinMap.{FinMap, get}
use Rattle.std.specs.Ordering.{int_eq}
use Rattle.std.specs.Int.{w64, w128}
use Rattle.std.specs.Int.Signed.{pos-nat_abs, yes_non_neg}
use Rattle.std.proofs.Math.IntN.{nat_abs}
use Rattle.std.proofs.lemmas.Int.{ints, to_z-of_z, to_z_pos}
use Rattle.std.proofs.lemmas.List.{take_more, take-append-drop}
use Rattle.std.proofs.lemmas.Cmp.{int_eq_equiv}
use Rattle.std.proofs.Math.Bool.{or-true}
use Rattle.plain_data.specs.Record.{Record, at}
use Rattle.plan_model.specs.declared.spec.Aggregate.{Aggregate}
use Rattle.plan_model.specs.declared.spec.WindowSpec.{WindowSpec}
use Rattle.plan_model.specs.declared.spec.Pane.{Pane}
use Rattle.plan_model.specs.PlanData.{IsWindow}
use Rattle.plan_model.specs.Windows.{IsTime, is_start, is_at, is_window_of}
use Rattle.plan_model.specs.Aggregates.{Aggregated, aggregate_of, merge}
use Rattle.plan_model.specs.Rows.{records_of, aggregate_at, pane_cmp}
use Rattle.plan_model.proofs.Facts.{merge_assoc, pos_same}
use Rattle.plan_model.proofs.Facts.{count_or, count_at, count_merge}
use Rattle.plan_model.proofs.Facts.{aggregate_at-append, merge-one}
use Rattle.plan_model.proofs.Facts.{is_reached, reached_more, reached_once, reached_none, reached_all, remainder}
use Rattle.window_slices.specs.Slices.{slice_start}
use Rattle.window_slices.proofs.Facts.{whole_slides}
use Rattle.window_state.specs.State.{HasRoomFor}
use Rattle.window_state.specs.Windows.{IsStart}

step_bool : (ks : List Aggregate) (x y : Option Aggregated) (p p' e k : Bool) → p' ≡ (p || e) → (e ≡ true → p ≡ false)
    → (if e && k then merge ks (if p && k then merge ks x y else x) y else (if p && k then merge ks x y else x)) ≡ (if p' && k then merge ks x y else x)
step_bool ks x y p p' false k is once = elim p as (λ b. p' ≡ (b || false) → (if b && k then merge ks x y else x) ≡ (if p' && k then merge ks x y else x)) [
  | true ↦ λ e. rw e refl
  | false ↦ λ e. rw e refl
] is
step_bool ks x y p p' true false is once = elim p as (λ b. (if b && false then merge ks x y else x) ≡ (if p' && false then merge ks x y else x)) [
  | true ↦ no_key p'
  | false ↦ no_key p'
] where
  no_key : (b : Bool) → x ≡ (if b && false then merge ks x y else x)
  no_key true = refl
  no_key false = refl
step_bool ks x y p p' true true is once =
    let was : p ≡ false = once refl in
    let now : p' ≡ true = is ∙ ap (λ b. b || true) was in
    rw (was, now) refl

-- what stands in a pane, once the record is in the windows that begin less than b before its time
abbrev pub slid : WindowSpec → Record → Option Aggregated → Pane → ℕ → Option Aggregated
slid w r x q b = if is_reached w (at w.time r) b q.start && int_eq (at w.key r) q.key then merge w.aggregates x (aggregate_of w.aggregates (r ∷ [])) else x

-- one window more
pub slid_step : (w : WindowSpec) (r : Record) (x now : Option Aggregated) (q : Pane) (b n m rest : ℕ) → 0 < n → w.slide ≡ pos n → w.size ≡ pos m
    → int_rem_euclid (at w.time r -ℤ w.offset) (pos n) ≡ pos rest → b % n ≡ rest → b < m → now ≡ slid w r x q b
    → (if int_eq (at w.time r -ℤ pos b) q.start && int_eq (at w.key r) q.key then merge w.aggregates now (aggregate_of w.aggregates (r ∷ [])) else now) ≡ slid w r x q (b + n)
slid_step w r x now q b n m rest h slide size is e low had =
    let t : ℤ = at w.time r in
    let y : Option Aggregated = aggregate_of w.aggregates (r ∷ []) in
    ap (λ o. if int_eq (t -ℤ pos b) q.start && int_eq (at w.key r) q.key then merge w.aggregates o y else o) had
    ∙ step_bool w.aggregates x y (is_reached w t b q.start) (is_reached w t (b + n) q.start) (int_eq (t -ℤ pos b) q.start) (int_eq (at w.key r) q.key)
    (reached_more w t q.start b n m rest h slide size is e low) (reached_once w t q.start b)

pub slid_start : (w : WindowSpec) (r : Record) (x : Option Aggregated) (q : Pane) (n m rest : ℕ) → 0 < n → w.slide ≡ pos n → w.size ≡ pos m
    → int_rem_euclid (at w.time r -ℤ w.offset) (pos n) ≡ pos rest → rest < n → x ≡ slid w r x q rest
slid_start w r x q n m rest h slide size is low =
    sym (ap (λ b. if b && int_eq (at w.key r) q.key then merge w.aggregates x (aggregate_of w.aggregates (r ∷ [])) else x) (reached_none w (at w.time r) q.start n m rest h slide size is low))

pub slid_end : (w : WindowSpec) (r : Record) (x : Option Aggregated) (q : Pane) (b n m rest : ℕ) → 0 < n → w.slide ≡ pos n → w.size ≡ pos m
    → int_rem_euclid (at w.time r -ℤ w.offset) (pos n) ≡ pos rest → m ≤ b → slid w r x q b ≡ merge w.aggregates x (aggregate_at w (r ∷ []) q)
slid_end w r x q b n m rest h slide size is high =
    ap (λ p. if p && int_eq (at w.key r) q.key then merge w.aggregates x (aggregate_of w.aggregates (r ∷ [])) else x) (reached_all w (at w.time r) q.start b n m rest h slide size is high)
    ∙ merge-one w r q x

-- at a window that begins b before the time, the record is not in yet
pub slid_fresh : (w : WindowSpec) (r : Record) (x : Option Aggregated) (q : Pane) (b : ℕ) → int_eq (at w.time r -ℤ pos b) q.start ≡ true → slid w r x q b ≡ x
slid_fresh w r x q b h =
    ap (λ p. if p && int_eq (at w.key r) q.key then merge w.aggregates x (aggregate_of w.aggregates (r ∷ [])) else x) (reached_once w (at w.time r) q.start b h)

is_first : (a b c : Bool) → (a && b) ≡ c → c ≡ true → a ≡ true
is_first true b c e h = refl
is_first false b c e h = absurd cc

-- the record counts at the window that begins b before its time, at its key
pub counts_there : (w : WindowSpec) (r : Record) (q : Pane) (b n m rest : ℕ) → 0 < n → w.slide ≡ pos n → w.size ≡ pos m → int_rem_euclid (at w.time r -ℤ w.offset) (pos n) ≡ pos rest
    → b % n ≡ rest → b < m → at w.time r -ℤ pos b ≡ q.start → at w.key r ≡ q.key → aggregate_at w (r ∷ []) q ≡ aggregate_of w.aggregates (r ∷ [])
counts_there w r q b n m rest h slide size is e low begins key =
    let t : ℤ = at w.time r in
    let y : Option Aggregated = aggregate_of w.aggregates (r ∷ []) in
    let here : int_eq (t -ℤ pos b) q.start ≡ true = ap (λ s. int_eq s q.start) begins ∙ int_eq_equiv.refl q.start in
    let reached : is_reached w t (b + n) q.start ≡ true = reached_more w t q.start b n m rest h slide size is e low ∙ ap (λ x. is_reached w t b q.start || x) here ∙ or-true (is_reached w t b q.start) in
    let window : is_window_of w t q.start ≡ true = is_first (is_window_of w t q.start) _ true reached refl in
    let same : int_eq (at w.key r) q.key ≡ true = ap (λ k. int_eq k q.key) key ∙ int_eq_equiv.refl q.key in
    sym (merge-one w r q None) ∙ (λ i. if window i && same i then merge w.aggregates None y else None)

-- so the window there can take it
pub room_fresh : (w : WindowSpec) (r : Record) (old now : Option Aggregated) (q : Pane) (b n m rest : ℕ) → 0 < n → w.slide ≡ pos n → w.size ≡ pos m → int_rem_euclid (at w.time r -ℤ w.offset) (pos n) ≡ pos rest
    → b % n ≡ rest → b < m → at w.time r -ℤ pos b ≡ q.start → at w.key r ≡ q.key
    → ((x y : Aggregated) → old ≡ Some x → aggregate_at w (r ∷ []) q ≡ Some y → x.count + y.count ≤ 2 ^ 41)
    → now ≡ slid w r old q b → (a : Aggregated) → now ≡ Some a → a.count < 2 ^ 41
room_fresh w r old now q b n m rest h slide size rem e low begins key room is a has =
    let fresh : slid w r old q b ≡ old = slid_fresh w r old q b (ap (λ s. int_eq s q.start) begins ∙ int_eq_equiv.refl q.start) in
    let most = room a _ (sym (is ∙ fresh) ∙ has) (counts_there w r q b n m rest h slide size rem e low begins key) in
    omega (arith, most)

-- ---- several records

-- one record more
pub rows_step : (w : WindowSpec) (rs : List Record) (i : ℕ) (old now after : Option Aggregated) (q : Pane) → i < length rs
    → now ≡ merge w.aggregates old (aggregate_at w (take i rs) q) → after ≡ merge w.aggregates now (aggregate_at w (get_or rs i [] ∷ []) q)
    → after ≡ merge w.aggregates old (aggregate_at w (take (i + 1) rs) q)
rows_step w rs i old now after q h is more =
    more
    ∙ ap (λ o. merge w.aggregates o (aggregate_at w (get_or rs i [] ∷ []) q)) is
    ∙ merge_assoc w.aggregates old (aggregate_at w (take i rs) q) (aggregate_at w (get_or rs i [] ∷ []) q)
    ∙ sym (ap (merge w.aggregates old) (ap (λ l. aggregate_at w l q) (take_more rs i [] h) ∙ aggregate_at-append w (take i rs) (get_or rs i [] ∷ []) q))

-- what some of the records come to in a pane, beside all of them
count_part : (w : WindowSpec) (rs : List Record) (i : ℕ) (q : Pane) → i < length rs → count_or (aggregate_at w (take i rs) q) + count_or (aggregate_at w (get_or rs i [] ∷ []) q) ≤ count_or (aggregate_at w rs q)
count_part w rs i q h =
    let more = ap (λ l. count_or (aggregate_at w l q)) (take_more rs i [] h) ∙ ap count_or (aggregate_at-append w (take i rs) (get_or rs i [] ∷ []) q) ∙ count_merge w.aggregates (aggregate_at w (take i rs) q) (aggregate_at w (get_or rs i [] ∷ []) q) in
    let all = ap (λ l. count_or (aggregate_at w l q)) (sym (take-append-drop (i + 1) rs)) ∙ ap count_or (aggregate_at-append w (take (i + 1) rs) (drop (i + 1) rs) q) ∙ count_merge w.aggregates (aggregate_at w (take (i + 1) rs) q) (aggregate_at w (drop (i + 1) rs) q) in
    omega (arith, more, all)

count_old : (x : Option Aggregated) (n : ℕ) → ((a : Aggregated) → x ≡ Some a → a.count + n ≤ 2 ^ 41) → n ≤ 2 ^ 41 → count_or x + n ≤ 2 ^ 41
count_old None n room few = omega (arith, few)
count_old (Some a) n room few = room a refl

counted : (o : Option Aggregated) → 1 ≤ count_or o → (t : Aggregated) × (o ≡ Some t)
counted None h = absurd (omega arith)
counted (Some t) h = (t, refl)

one_counted : (w : WindowSpec) (r : Record) (q : Pane) (b : Aggregated) → aggregate_at w (r ∷ []) q ≡ Some b → b.count ≡ 1
one_counted w r q b is = elim (is_start w q.start) as (λ s. (if s then aggregate_of w.aggregates (records_of w q (r ∷ [])) else None) ≡ Some b → b.count ≡ 1) [
  | true ↦ λ e. elim (is_at w q r) as (λ x. aggregate_of w.aggregates (cond x (r ∷ []) []) ≡ Some b → b.count ≡ 1) [ true ↦ λ f. sym (ap count_or f) | false ↦ λ f. absurd cc ] e
  | false ↦ λ e. absurd cc
] is

-- after i records there is room for one more
pub room_rows : (w : WindowSpec) (rs : List Record) (i : ℕ) (old now : FinMap pane_cmp Aggregated) → i < length rs → length rs ≤ 2 ^ 41 → HasRoomFor w rs old
    → ((q : Pane) → get now q ≡ merge w.aggregates (get old q) (aggregate_at w (take i rs) q)) → HasRoomFor w (get_or rs i [] ∷ []) now
room_rows w rs i old now h few room is q a b has reached =
    let count = ap count_or (sym has ∙ is q) ∙ count_merge w.aggregates (get old q) (aggregate_at w (take i rs) q) in
    let one = ap count_or reached in
    let single = one_counted w (get_or rs i []) q b reached in
    let part = count_part w rs i q h in
    let all : (x : Aggregated) × (aggregate_at w rs q ≡ Some x) = counted (aggregate_at w rs q) (omega (arith, part, one, single)) in
    let whole = ap count_or all.1 in
    let most = count_old (get old q) all.0.count (λ x there. room q x all.0 there all.1) (omega (arith, whole, count_at w rs q, few)) in
    omega (arith, count, one, part, whole, most)

-- ---- the numbers of a window as the code holds them

pub record Sliding (w : WindowSpec) (r : Record) (n m rest : ℕ) : Type 0 where
  pub slide : w.slide ≡ pos n
  pub size : w.size ≡ pos m
  pub some : 0 < n
  pub slide_small : n ≤ 2 ^ 40
  pub size_small : m ≤ 2 ^ 40
  pub rem : int_rem_euclid (at w.time r -ℤ w.offset) (pos n) ≡ pos rest
  pub low : rest < n

abbrev pub held : ℤ → ℕ
held z = nat_abs (to_z w64 (of_z w64 z))

pub positive_is : (z : ℤ) → FitsSigned w64 z → pos 1 ≤ℤ z → z ≡ pos (held z)
positive_is z fits h =
    let above : pos 0 ≤ℤ z = omega (arith, ints) in
    sym (ap (λ y. pos (nat_abs y)) (to_z-of_z w64 z fits) ∙ pos-nat_abs z (yes_non_neg above))

pub at_least_one : (z : ℤ) (n : ℕ) → z ≡ pos n → pos 1 ≤ℤ z → 0 < n
at_least_one z n e h = omega (arith, ints)

pub at_most : (z : ℤ) (n m : ℕ) → z ≡ pos n → z ≤ℤ pos m → n ≤ m
at_most z n m e h = omega (arith, ints)

pub fits_window : (z : ℤ) → pos 1 ≤ℤ z → z ≤ℤ pos (2 ^ 40) → FitsSigned w64 z
fits_window z h k = grind (arith, ints)

sliding : (w : WindowSpec) (r : Record) (rest : ℕ) → IsWindow w → int_rem_euclid (at w.time r -ℤ w.offset) w.slide ≡ pos rest → Sliding w r (held w.slide) (held w.size) rest
sliding w r rest h is =
    let slide : w.slide ≡ pos (held w.slide) = positive_is w.slide (fits_window w.slide h.slides h.slide_small) h.slides in
    let some : 0 < held w.slide = at_least_one w.slide (held w.slide) slide h.slides in
    let rem : int_rem_euclid (at w.time r -ℤ w.offset) (pos (held w.slide)) ≡ pos rest = ap (int_rem_euclid (at w.time r -ℤ w.offset)) (sym slide) ∙ is in
    let found : (k : ℕ) × (k < held w.slide) × (int_rem_euclid (at w.time r -ℤ w.offset) (pos (held w.slide)) ≡ pos k) = remainder (at w.time r -ℤ w.offset) (held w.slide) some in
    record {
      slide = slide;
      size = positive_is w.size (fits_window w.size h.sized h.size_small) h.sized;
      some = some;
      slide_small = at_most w.slide (held w.slide) (2 ^ 40) slide h.slide_small;
      size_small = at_most w.size (held w.size) (2 ^ 40) (positive_is w.size (fits_window w.size h.sized h.size_small) h.sized) h.size_small;
      rem = rem;
      low = subst (λ k. k < held w.slide) (pos_same found.0 rest (sym found.2 ∙ rem)) found.1;
    }

pub fits_start : (t : ℤ) (b : ℕ) → IsTime t → b ≤ 2 ^ 40 → FitsSigned w64 (t -ℤ pos b)
fits_start t b h k = grind (arith, ints)

-- the start of a window as the code computes it
pub start_is : (t x : ℤ) (b : ℕ) → FitsSigned w64 x → x ≡ t → IsTime t → b ≤ 2 ^ 40 → to_z w64 (of_z w64 (to_z w64 (of_z w64 x) -ℤ to_z w64 b)) ≡ t -ℤ pos b
start_is t x b fits is time small =
    let back : to_z w64 b ≡ pos b = to_z_pos w64 b (omega arith) in
    (λ i. to_z w64 (of_z w64 ((to_z-of_z w64 x fits ∙ is) i -ℤ back i))) ∙ to_z-of_z w64 (t -ℤ pos b) (fits_start t b time small)

-- where a slice starts, as the code has it
pub slice_at : (w : WindowSpec) (t x : ℤ) (b : ℕ) → FitsSigned w64 x → x ≡ t → IsTime t → b ≤ 2 ^ 40 → IsWindow w → int_rem_euclid w.size w.slide ≡ pos 0 → int_rem_euclid (t -ℤ w.offset) w.slide ≡ pos b
    → to_z w64 (of_z w64 (to_z w64 (of_z w64 x) -ℤ to_z w64 b)) ≡ slice_start w t
slice_at w t x b fits is time small range whole rest = start_is t x b fits is time small ∙ ap (λ (z : ℤ). t -ℤ z) (sym rest) ∙ sym (whole_slides w t range.slides range.sized whole)

-- the same of a copy of the window operator
pub sliding_by : (v w : WindowSpec) (r : Record) (rest : ℕ) → w ≡ v → IsWindow v → int_rem_euclid (at v.time r -ℤ v.offset) v.slide ≡ pos rest → Sliding v r (held w.slide) (held w.size) rest
sliding_by v w r rest same range rem = subst (λ (x : WindowSpec). Sliding v r (held x.slide) (held x.size) rest) (sym same) (sliding v r rest range rem)

pub start_in_range : (t : ℤ) (b : ℕ) → IsTime t → b < 2 ^ 40 → IsStart (t -ℤ pos b)
start_in_range t b time small = record { above = grind (arith, ints, time, small); below = grind (arith, ints, time) }

pub key_is : (k x : ℤ) → FitsSigned w64 x → x ≡ k → to_z w64 (of_z w64 x) ≡ k
key_is k x fits is = to_z-of_z w64 x fits ∙ is

-- ---- only windows that begin before a number

pub either_way : {x y : Option Aggregated} (b : Bool) → x ≡ y → x ≡ cond b y x
either_way true is = is
either_way false is = refl

no_pane : (a b f : ℤ) → int_lt a f ≡ false → int_lt b f ≡ true → int_eq b a ≡ false
no_pane a b f h k = grind (arith, ints)

no_pane_back : (a b f : ℤ) → int_lt a f ≡ true → int_lt b f ≡ false → int_eq b a ≡ false
no_pane_back a b f h k = grind (arith, ints)

-- one window more, which begins before it
pub slid_before : (w : WindowSpec) (r : Record) (f : ℤ) (x now after : Option Aggregated) (q : Pane) (b n m rest : ℕ) → 0 < n → w.slide ≡ pos n → w.size ≡ pos m
    → int_rem_euclid (at w.time r -ℤ w.offset) (pos n) ≡ pos rest → b % n ≡ rest → b < m → int_lt (at w.time r -ℤ pos b) f ≡ true
    → now ≡ cond (int_lt q.start f) (slid w r x q b) x
    → after ≡ (if int_eq (at w.time r -ℤ pos b) q.start && int_eq (at w.key r) q.key then merge w.aggregates now (aggregate_of w.aggregates (r ∷ [])) else now)
    → after ≡ cond (int_lt q.start f) (slid w r x q (b + n)) x
slid_before w r f x now after q b n m rest h slide size is e low before had adds = by_case (int_lt q.start f) refl had
  where
    by_case : (t : Bool) → int_lt q.start f ≡ t → now ≡ cond t (slid w r x q b) x → after ≡ cond t (slid w r x q (b + n)) x
    by_case true here was = adds ∙ slid_step w r x now q b n m rest h slide size is e low was
    by_case false other was =
        adds
        ∙ ap (λ t. if t && int_eq (at w.key r) q.key then merge w.aggregates now (aggregate_of w.aggregates (r ∷ [])) else now) (no_pane q.start (at w.time r -ℤ pos b) f other before)
        ∙ was

-- and one that does not
pub slid_later : (w : WindowSpec) (r : Record) (f : ℤ) (x now : Option Aggregated) (q : Pane) (b n m rest : ℕ) → 0 < n → w.slide ≡ pos n → w.size ≡ pos m
    → int_rem_euclid (at w.time r -ℤ w.offset) (pos n) ≡ pos rest → b % n ≡ rest → b < m → int_lt (at w.time r -ℤ pos b) f ≡ false
    → now ≡ cond (int_lt q.start f) (slid w r x q b) x → now ≡ cond (int_lt q.start f) (slid w r x q (b + n)) x
slid_later w r f x now q b n m rest h slide size is e low later had = by_case (int_lt q.start f) refl had
  where
    by_case : (t : Bool) → int_lt q.start f ≡ t → now ≡ cond t (slid w r x q b) x → now ≡ cond t (slid w r x q (b + n)) x
    by_case true here was =
        sym (ap (λ t. if t && int_eq (at w.key r) q.key then merge w.aggregates now (aggregate_of w.aggregates (r ∷ [])) else now) (no_pane_back q.start (at w.time r -ℤ pos b) f here later))
        ∙ slid_step w r x now q b n m rest h slide size is e low was
    by_case false other was = was

fits_wide : (t : ℤ) (b : ℕ) → IsTime t → b ≤ 2 ^ 40 → FitsSigned w128 (t -ℤ pos b)
fits_wide t b h k = grind (arith, ints)

-- a start beside a number, as the code compares them
pub start_side : (t y f : ℤ) (b : ℕ) (d : Bool) → y ≡ t -ℤ pos b → IsTime t → b ≤ 2 ^ 40 → FitsSigned w128 f → int_lt (to_z w128 (of_z w128 y)) (to_z w128 (of_z w128 f)) ≡ d
    → int_lt (t -ℤ pos b) f ≡ d
start_side t y f b d is time small hf h = sym (λ i. int_lt ((ap (λ z. to_z w128 (of_z w128 z)) is ∙ to_z-of_z w128 (t -ℤ pos b) (fits_wide t b time small)) i) (to_z-of_z w128 f hf i)) ∙ h
