-- A record brought in at the slice of its time: its windows, the room in its slice, and the open windows after it.
use Rattle.std.proofs.Common.{◌≡◌, ℕ, zero, suc, ℤ, pos, neg_ℤ, ◌+ℤ◌, ◌-ℤ◌, ◌<ℤ◌, ◌≤ℤ◌, ◌+◌, ◌^◌, ◌<◌, ◌≤◌, Bool, true, false, cond, ◌&&◌, ◌||◌, List, [], ◌∷◌, length, slice_index_or, refl, sym, ap, subst, ◌∙◌, inl, inr, arith, Option, Some, None, is_some, FitsSigned, to_z, of_z}
use Rattle.std.specs.FinMap.{get, from_entries}
use Rattle.indexmap.specs.IndexMap.{IndexMap}
use Rattle.pane_hashes.specs.declared.hashing.HashKeys.{HashKeys}
use Rattle.std.specs.Global.{Vec}
use Rattle.std.specs.Int.{w64, w128, int_rem_euclid}
use Rattle.std.specs.Int.RustNames.{int_lt, int_le}
use Rattle.std.specs.Ordering.{int_eq}
use Rattle.std.proofs.lemmas.Bool.{and_parts, or_cases, or_right, false_from_ne_true}
use Rattle.std.proofs.lemmas.Int.{ints, to_z-of_z}
use Rattle.std.proofs.lemmas.Cmp.{int_eq_equiv}
use Rattle.plain_data.specs.Record.{Record, at}
use Rattle.plan_model.specs.declared.spec.Aggregate.{Aggregate}
use Rattle.plan_model.specs.declared.spec.Pane.{Pane}
use Rattle.plan_model.specs.declared.spec.WindowSpec.{WindowSpec}
use Rattle.plan_model.specs.PlanData.{IsWindow}
use Rattle.plan_model.specs.Aggregates.{Aggregated, aggregate_of, merge}
use Rattle.plan_model.specs.Rows.{aggregate_at}
use Rattle.plan_model.specs.declared.limits.TheConstants.{TIME_LIMIT}
use Rattle.plan_model.specs.Windows.{IsTime, is_start, is_within, is_window_of}
use Rattle.plan_model.proofs.Facts.{count_or, count_at, count_merge, merge-one, reached_none}
use Rattle.window_slices.specs.Slices.{slice_start}
use Rattle.window_slices.proofs.Facts.{last_start, windows_have_whole_slices, wider}
use Rattle.window_slices.specs.declared.key_slices.Slice.{Slice}
use Rattle.window_state.specs.declared.windows.Windows.TheInside.{Inside}
use Rattle.window_state.specs.Open.{has_open, open_panes}
use Rattle.window_state.specs.Parts.{entries_at}
use Rattle.window_slices.specs.KeySlices.{CanTakeOne, IsCounted, has_slice, has_start, sliced, slices_of, slices_total}
use Rattle.window_slices.specs.Spans.{AreInSpans, in_spans, keyed_at, span_start}
use Rattle.window_state.specs.State.{OpenWindows, HasRoomFor, TakesInLater}
use Rattle.window_state.specs.StateView.{standing, windows_view, IsWindowsInside}
use Rattle.window_state.specs.Windows.{IsOperator, IsStart, acc_at, total_at}
use Rattle.window_state.proofs.Slides.{sliding_by, held, start_is, slice_at, key_is, fits_start, fits_window}
use Rattle.window_slices.proofs.Facts.{some_in_span, count_in_span}
use Rattle.window_state.proofs.Openings.{has_at}
use Rattle.window_state.proofs.Standing.{get-view, standing_before, standing_later, whole_kept}

abbrev narrow : ℤ → ℤ
narrow z = to_z w64 (of_z w64 z)

-- ---- the numbers as the code computes them

pub small_first : (w : WindowSpec) (r : Record) (first : ℕ) → IsWindow w → int_rem_euclid (at w.time r -ℤ w.offset) w.slide ≡ pos first → first ≤ 2 ^ 40
small_first w r first range rest =
    let k = sliding_by w w r first refl range rest in
    omega (arith, k.low, k.slide_small)

-- how far the last window of a time begins before it
back_is : (t x : ℤ) (b : ℕ) → FitsSigned w64 x → x ≡ t → IsTime t → b ≤ 2 ^ 40 → narrow x -ℤ narrow (narrow x -ℤ to_z w64 b) ≡ pos b
back_is t x b fits is time small =
    let start = start_is t x b fits is time small in
    let at_time : narrow x ≡ t = to_z-of_z w64 x fits ∙ is in
    omega (arith, ints, start, at_time)

fits_back : (b : ℕ) → b ≤ 2 ^ 40 → FitsSigned w64 (pos b)
fits_back b small = grind (arith, ints, small)

pub back_fits : (t x : ℤ) (b : ℕ) → FitsSigned w64 x → x ≡ t → IsTime t → b ≤ 2 ^ 40 → FitsSigned w64 (narrow x -ℤ narrow (narrow x -ℤ to_z w64 b))
back_fits t x b fits is time small = subst (FitsSigned w64) (sym (back_is t x b fits is time small)) (fits_back b small)

-- beside the size of a window
pub size_test : (w v : WindowSpec) (t x : ℤ) (b : ℕ) (test : Bool) → v ≡ w → IsWindow w → FitsSigned w64 x → x ≡ t → IsTime t → b ≤ 2 ^ 40
    → int_le (narrow v.size) (narrow (narrow x -ℤ narrow (narrow x -ℤ to_z w64 b))) ≡ test → int_le w.size (pos b) ≡ test
size_test w v t x b test same range fits is time small le =
    sym (λ i. int_le ((ap (λ (y : WindowSpec). narrow y.size) same ∙ to_z-of_z w64 w.size (fits_window w.size range.sized range.size_small)) i)
    ((ap narrow (back_is t x b fits is time small) ∙ to_z-of_z w64 (pos b) (fits_back b small)) i)) ∙ le

-- and where the last window begins beside `from`
pub from_test : (t x from : ℤ) (b : ℕ) (test : Bool) → FitsSigned w64 x → x ≡ t → IsTime t → b ≤ 2 ^ 40 → FitsSigned w128 from
    → int_lt (to_z w128 (of_z w128 (narrow (narrow x -ℤ to_z w64 b)))) (to_z w128 (of_z w128 from)) ≡ test → int_lt (t -ℤ pos b) from ≡ test
from_test t x from b test fits is time small from_fits lt =
    sym (λ i. int_lt ((ap (λ z. to_z w128 (of_z w128 z)) (start_is t x b fits is time small) ∙ to_z-of_z w128 (t -ℤ pos b) (wider (t -ℤ pos b) (fits_start t b time small))) i) (to_z-of_z w128 from from_fits i)) ∙ lt

-- ---- at which windows a record comes in

some_merged : (ks : List Aggregate) (x y : Option Aggregated) → is_some (merge ks x y) ≡ true → (is_some x || is_some y) ≡ true
some_merged ks None y h = h
some_merged ks (Some x) y h = refl

-- a window has a time just where it has the start of the time's slice
slice_windows : (w : WindowSpec) (t s : ℤ) → pos 1 ≤ℤ w.slide → is_window_of w (slice_start w t) s ≡ is_window_of w t s
slice_windows w t s slides = by_case (is_start w s) refl
  where
    by_case : (b : Bool) → is_start w s ≡ b → (b && is_within w s (slice_start w t)) ≡ (b && is_within w s t)
    by_case true is = sym (windows_have_whole_slices w s t slides is)
    by_case false is = refl

either_order : {X : Type 0} (a b : Bool) (x y : X) → cond (a && b) x y ≡ cond (b && a) x y
either_order true true x y = refl
either_order true false x y = refl
either_order false true x y = refl
either_order false false x y = refl

-- what a record comes to in a pane, by whether it is there
module _ (w : WindowSpec) (r : Record) (q : Pane) where
  pub there : is_window_of w (at w.time r) q.start ≡ true → int_eq (at w.key r) q.key ≡ true → aggregate_at w (r ∷ []) q ≡ aggregate_of w.aggregates (r ∷ [])
  there window key = sym (merge-one w r q None) ∙ (λ i. cond (window i && key i) (aggregate_of w.aggregates (r ∷ [])) None)

  pub not_there : (x : Option Aggregated) → is_window_of w (at w.time r) q.start ≡ false → merge w.aggregates x (aggregate_at w (r ∷ []) q) ≡ x
  not_there x window = sym (merge-one w r q x) ∙ ap (λ b. cond (b && int_eq (at w.key r) q.key) (merge w.aggregates x (aggregate_of w.aggregates (r ∷ []))) x) window

  pub some_there : is_some (aggregate_at w (r ∷ []) q) ≡ true → (is_window_of w (at w.time r) q.start && int_eq (at w.key r) q.key) ≡ true
  some_there some = by_case (is_window_of w (at w.time r) q.start && int_eq (at w.key r) q.key) (ap is_some (merge-one w r q None) ∙ some)
    where
      by_case : (b : Bool) → is_some (cond b (aggregate_of w.aggregates (r ∷ [])) None) ≡ true → b ≡ true
      by_case true h = refl
      by_case false h = absurd cc

-- ---- a record that is brought in

pub record Brings (s : Inside) (r : Record) (first : ℕ) : Type 0 where
  pub inside : IsWindowsInside s
  pub range : IsWindow s.places.window
  pub time : IsTime (at s.places.window.time r)
  pub rest : int_rem_euclid (at s.places.window.time r -ℤ s.places.window.offset) s.places.window.slide ≡ pos first
  pub room : HasRoomFor s.places.window (r ∷ []) (windows_view s).totals

-- the same, by the view
pub brings : (s : Inside) (v : OpenWindows) (r : Record) (first : ℕ) → IsWindowsInside s → windows_view s ≡ v → IsWindow v.window → IsTime (at v.window.time r)
    → int_rem_euclid (at v.window.time r -ℤ v.window.offset) v.window.slide ≡ pos first → HasRoomFor v.window (r ∷ []) v.totals → Brings s r first
brings s v r first inside view range time rest room = record {
  inside = inside;
  range = subst (λ (x : OpenWindows). IsWindow x.window) (sym view) range;
  time = subst (λ (x : OpenWindows). IsTime (at x.window.time r)) (sym view) time;
  rest = subst (λ (x : OpenWindows). int_rem_euclid (at x.window.time r -ℤ x.window.offset) x.window.slide ≡ pos first) (sym view) rest;
  room = subst (λ (x : OpenWindows). HasRoomFor x.window (r ∷ []) x.totals) (sym view) room;
}

-- where none of its windows begins at `from` or later
pub stays : (v : OpenWindows) (r : Record) → ((q : Pane) → int_lt q.start v.from ≡ false → is_window_of v.window (at v.window.time r) q.start ≡ false) → TakesInLater r v v
stays v r none q = side (int_lt q.start v.from) refl
  where
    side : (b : Bool) → int_lt q.start v.from ≡ b → get v.totals q ≡ cond b (get v.totals q) (merge v.window.aggregates (get v.totals q) (aggregate_at v.window (r ∷ []) q))
    side true before = refl
    side false late = sym (not_there v.window r q (get v.totals q) (none q late))

record InRange (t : ℤ) : Type 0 where
  above : neg_ℤ TIME_LIMIT ≤ℤ t
  below : t <ℤ TIME_LIMIT

in_range : (t : ℤ) → IsTime t → InRange t
in_range t time = record { above = grind (arith, ints, time); below = grind (arith, ints, time) }

-- where the last of them begins at `from` or later, the slide divides the size
pub whole_late : (s : Inside) (r : Record) (first : ℕ) → Brings s r first → int_lt (at s.places.window.time r -ℤ pos first) s.from ≡ false → int_rem_euclid s.places.window.size s.places.window.slide ≡ pos 0
whole_late s r first b late =
    let high = (in_range (at s.places.window.time r) b.time).below in
    let from : s.from ≤ℤ (at s.places.window.time r -ℤ pos first) = grind (arith, ints, late) in
    b.inside.whole (omega (arith, ints, from, high))

-- a window of a time begins at the last of them or before it
module _ (w : WindowSpec) (r : Record) (first : ℕ) (range : IsWindow w) (rest : int_rem_euclid (at w.time r -ℤ w.offset) w.slide ≡ pos first) where
  begins_by : (s : ℤ) → is_window_of w (at w.time r) s ≡ true → s ≤ℤ (at w.time r -ℤ pos first)
  begins_by s window =
      let k = sliding_by w w r first refl range rest in
      let not : int_lt (at w.time r -ℤ pos first) s ≡ false =
      ap (λ b. b && int_lt (at w.time r -ℤ pos first) s) (sym window) ∙ reached_none w (at w.time r) s (held w.slide) (held w.size) first k.some k.slide k.size k.rem k.low in
      grind (arith, ints, not)

  ends_behind : (s : ℤ) → is_window_of w (at w.time r) s ≡ true → at w.time r <ℤ (s +ℤ w.size)
  ends_behind s window =
      let within = (and_parts (is_start w s) (is_within w s (at w.time r)) window).1 in
      grind (arith, ints, within)

  pub none_later : (from s : ℤ) → int_lt (at w.time r -ℤ pos first) from ≡ true → int_lt s from ≡ false → is_window_of w (at w.time r) s ≡ false
  none_later from s before late = false_from_ne_true _ (λ window.
      let by = begins_by s window in
      absurd (grind (arith, ints, by, before, late)))

  pub none_long : (s : ℤ) → int_le w.size (pos first) ≡ true → is_window_of w (at w.time r) s ≡ false
  none_long s short = false_from_ne_true _ (λ window.
      let by = begins_by s window in
      let behind = ends_behind s window in
      absurd (grind (arith, ints, by, behind, short)))

  -- the last of them has the time
  has_time : int_le w.size (pos first) ≡ false → is_window_of w (at w.time r) (at w.time r -ℤ pos first) ≡ true
  has_time long =
      let last = at w.time r -ℤ pos first in
      let start : is_start w last ≡ true = subst (λ (z : ℤ). is_start w z ≡ true) (ap (λ (z : ℤ). at w.time r -ℤ z) rest) (last_start w (at w.time r) range.slides).start in
      let within : is_within w last (at w.time r) ≡ true = grind (arith, ints, long) in
      ap (λ b. b && is_within w last (at w.time r)) start ∙ within

  -- a window of a time in range begins in range
  starts_in : (s : ℤ) → IsTime (at w.time r) → is_window_of w (at w.time r) s ≡ true → IsStart s
  starts_in s time window =
      let few = range.size_small in
      let by = begins_by s window in
      let behind = ends_behind s window in
      let low = (in_range (at w.time r) time).above in
      let high = (in_range (at w.time r) time).below in
      record { above = omega (arith, ints, low, few, behind); below = omega (arith, ints, high, by) }

-- ---- its slice can take it

-- a slice of a window counts there
count_in : (w : WindowSpec) (s : ℤ) (xs : List Slice) (k : ℕ) (d : Slice) → k < length xs → is_within w s (slice_index_or xs k d).start ≡ true
    → (slice_index_or xs k d).acc.total.count ≤ count_or (slices_total w s xs)
count_in w s [] k d inside within = absurd (omega arith)
count_in w s (x ∷ xs) zero d inside within =
    let later = slices_total w s xs in
    let all : count_or (slices_total w s (x ∷ xs)) ≡ x.acc.total.count + count_or later =
    ap (λ b. count_or (cond b (merge w.aggregates (Some x.acc.total) later) later)) within ∙ count_merge w.aggregates (Some x.acc.total) later in
    omega (arith, all)
count_in w s (x ∷ xs) (suc k) d inside within = more (is_within w s x.start) (count_in w s xs k d (omega (arith, inside)) within)
  where
    more : (b : Bool) → (slice_index_or xs k d).acc.total.count ≤ count_or (slices_total w s xs)
        → (slice_index_or xs k d).acc.total.count ≤ count_or (cond b (merge w.aggregates (Some x.acc.total) (slices_total w s xs)) (slices_total w s xs))
    more false few = few
    more true few =
        let all = count_merge w.aggregates (Some x.acc.total) (slices_total w s xs) in
        omega (arith, all, few)

-- what stands in a pane where it comes in has room for it
less_there : (w : WindowSpec) (r : Record) (q : Pane) (old : Option Aggregated) → aggregate_at w (r ∷ []) q ≡ aggregate_of w.aggregates (r ∷ [])
    → ((x y : Aggregated) → old ≡ Some x → aggregate_at w (r ∷ []) q ≡ Some y → x.count + y.count ≤ 2 ^ 41) → count_or old < 2 ^ 41
less_there w r q None is room = omega arith
less_there w r q (Some a) is room =
    let most = room a _ refl is in
    omega (arith, most)

module _ (s : Inside) (r : Record) (first : ℕ) (b : Brings s r first) where
  abbrev w : WindowSpec
  w = s.places.window

  abbrev t : ℤ
  t = at w.time r

  -- what the view has in a pane of a window that begins at `from` or later
  seen : (q : Pane) → int_lt q.start s.from ≡ false → get (windows_view s).totals q ≡ in_spans w s.spans.entries q
  seen q late = get-view s b.inside q ∙ standing_later s q late

  room_at : (q : Pane) → int_lt q.start s.from ≡ false → (x y : Aggregated) → in_spans w s.spans.entries q ≡ Some x → aggregate_at w (r ∷ []) q ≡ Some y → x.count + y.count ≤ 2 ^ 41
  room_at q late x y is one = b.room q x y (seen q late ∙ is) one

  pub can_take : (start key : ℤ) → start ≡ slice_start w t → key ≡ at w.key r → int_lt (t -ℤ pos first) s.from ≡ false → int_le w.size (pos first) ≡ false
      → CanTakeOne start (slices_of (keyed_at s.spans.entries (span_start w start)) key)
  can_take start key start_at key_at late long = λ k d inside at_start.
      let q : Pane = record { start = t -ℤ pos first; key = key } in
      let keyed = keyed_at s.spans.entries (span_start w start) in
      let xs = slices_of keyed key in
      let window = has_time w r first b.range b.rest long in
      let parts = and_parts (is_start w q.start) (is_within w q.start t) window in
      let has : is_within w q.start start ≡ true = ap (is_within w q.start) start_at ∙ sym (windows_have_whole_slices w q.start t b.range.slides parts.0) ∙ parts.1 in
      let within : is_within w q.start (slice_index_or xs k d).start ≡ true = ap (is_within w q.start) at_start ∙ has in
      let same : int_eq (at w.key r) q.key ≡ true = ap (int_eq (at w.key r)) key_at ∙ int_eq_equiv.refl (at w.key r) in
      let less = less_there w r q (in_spans w s.spans.entries q) (there w r q window same) (room_at q late) in
      let all : count_or (sliced w keyed q) ≡ count_or (slices_total w q.start xs) = ap (λ x. count_or (cond x (slices_total w q.start xs) None)) parts.0 in
      let half = count_in_span w s.spans.entries q start b.range.sized has in
      omega (arith, count_in w q.start xs k d inside within, less, all, half)

-- the slice of a record, where the code finds it
pub record IsFound (s : Inside) (r : Record) (first : ℕ) (v : WindowSpec) (slice : Pane) : Type 0 where
  pub start : slice.start ≡ slice_start s.places.window (at s.places.window.time r)
  pub key : slice.key ≡ at s.places.window.key r
  pub room : int_le s.places.window.size (pos first) ≡ false → CanTakeOne slice.start (slices_of (keyed_at s.spans.entries (span_start v slice.start)) slice.key)

-- by a copy of the window operator, and the record's time and key as the code reads them
module _ (s : Inside) (r : Record) (first : ℕ) (b : Brings s r first) (v : WindowSpec) (x : ℤ) (same : v ≡ s.places.window) (fits : FitsSigned w64 x) (is : x ≡ at v.time r) where
  time_is : x ≡ at s.places.window.time r
  time_is = is ∙ ap (λ (u : WindowSpec). at u.time r) same

  few : first ≤ 2 ^ 40
  few = small_first s.places.window r first b.range b.rest

  pub late_found : (test : Bool) → FitsSigned w128 s.from → int_lt (to_z w128 (of_z w128 (narrow (narrow x -ℤ to_z w64 first)))) (to_z w128 (of_z w128 s.from)) ≡ test
      → int_lt (at s.places.window.time r -ℤ pos first) s.from ≡ test
  late_found test from_fits lt = from_test (at s.places.window.time r) x s.from first test fits time_is b.time few from_fits lt

  pub long_found : (test : Bool) → int_le (narrow v.size) (narrow (narrow x -ℤ narrow (narrow x -ℤ to_z w64 first))) ≡ test → int_le s.places.window.size (pos first) ≡ test
  long_found test le = size_test s.places.window v (at s.places.window.time r) x first test same b.range fits time_is b.time few le

  pub slice_found : (y : ℤ) → FitsSigned w64 y → y ≡ at v.key r → int_lt (at s.places.window.time r -ℤ pos first) s.from ≡ false
      → IsFound s r first v (record { start = narrow (narrow x -ℤ to_z w64 first); key = narrow y })
  slice_found y key_fits key late =
      let start = slice_at s.places.window (at s.places.window.time r) x first fits time_is b.time few b.range (whole_late s r first b late) b.rest in
      let own = key_is (at s.places.window.key r) y key_fits (key ∙ ap (λ (u : WindowSpec). at u.key r) same) in
      record {
        start = start;
        key = own;
        room = λ long. subst (λ (u : WindowSpec). CanTakeOne (narrow (narrow x -ℤ to_z w64 first)) (slices_of (keyed_at s.spans.entries (span_start u (narrow (narrow x -ℤ to_z w64 first)))) (narrow y)))
            (sym same) (can_take s r first b _ _ start own late long);
      }

-- ---- what is known after it

-- one of a window's slices makes it that something stands there
some_total : (w : WindowSpec) (s : ℤ) (xs : List Slice) → has_slice w s xs ≡ true → is_some (slices_total w s xs) ≡ true
some_total w s [] has = absurd cc
some_total w s (x ∷ xs) has = by_case (is_within w s x.start) has (some_total w s xs)
  where
    merged : (o : Option Aggregated) → is_some (merge w.aggregates (Some x.acc.total) o) ≡ true
    merged None = refl
    merged (Some a) = refl

    by_case : (b : Bool) → (b || has_slice w s xs) ≡ true → (has_slice w s xs ≡ true → is_some (slices_total w s xs) ≡ true)
        → is_some (cond b (merge w.aggregates (Some x.acc.total) (slices_total w s xs)) (slices_total w s xs)) ≡ true
    by_case true h rest = merged (slices_total w s xs)
    by_case false h rest = rest h

count_both : (old one : Option Aggregated) → IsCounted old → ((a b : Aggregated) → old ≡ Some a → one ≡ Some b → a.count + b.count ≤ 2 ^ 41) → count_or one ≤ 1 → count_or old + count_or one ≤ 2 ^ 41
count_both None one few room single = omega (arith, single)
count_both (Some a) None few room single =
    let most = few a refl in
    omega (arith, most)
count_both (Some a) (Some b) few room single = room a b refl refl

-- what stands in a pane hangs on the slices of its key alone
same_spans : (w : WindowSpec) (new old : List (ℤ × IndexMap ℤ (Vec Slice) HashKeys)) → ((b k : ℤ) → slices_of (keyed_at new b) k ≡ slices_of (keyed_at old b) k) → (q : Pane) → in_spans w new q ≡ in_spans w old q
same_spans w new old same q = λ i. merge w.aggregates (half (span_start w q.start) i) (half (span_start w q.start +ℤ w.size) i)
  where
    half : (b : ℤ) → sliced w (keyed_at new b) q ≡ sliced w (keyed_at old b) q
    half b = ap (λ xs. cond (is_start w q.start) (slices_total w q.start xs) None) (same b q.key)

-- the same slices, and more panes open
pub inside_same : (s t : Inside) → IsWindowsInside s → t.places ≡ s.places → t.from ≡ s.from → AreInSpans t.places.window t.spans.entries
    → ((b k : ℤ) → slices_of (keyed_at t.spans.entries b) k ≡ slices_of (keyed_at s.spans.entries b) k)
    → ((q : Pane) → has_open s.opened.entries q ≡ true → has_open t.opened.entries q ≡ true) → IsWindowsInside t
inside_same s t is places from kinds slices still =
    let same : (q : Pane) → in_spans t.places.window t.spans.entries q ≡ in_spans s.places.window s.spans.entries q =
    λ q. ap (λ p. in_spans p.window t.spans.entries q) places ∙ same_spans s.places.window t.spans.entries s.spans.entries slices q in
    record {
      operator = subst (λ p. IsOperator p.window) (sym places) is.operator;
      whole = whole_kept s.places.window t.places.window s.from t.from (ap (λ p. p.window) places) from is.whole;
      opened = λ q some. still q (is.opened q ((λ i. is_some (cond (int_lt q.start (sym from i)) (total_at (sym places i).entries q) (sym (same q) i))) ∙ some));
      below = λ q some. ap (int_lt q.start) from ∙ is.below q (ap (λ p. is_some (acc_at p.entries q)) (sym places) ∙ some);
      kinds = kinds;
      counted = λ q late. subst IsCounted (sym (same q)) (is.counted q (ap (int_lt q.start) (sym from) ∙ late));
      starts = λ q late some. is.starts q (ap (int_lt q.start) (sym from) ∙ late) (ap is_some (sym (same q)) ∙ some);
    }

-- the slices of a key in the span of a time's slice
abbrev pub slices_beside : WindowSpec → List (ℤ × IndexMap ℤ (Vec Slice) HashKeys) → ℤ → ℤ → List Slice
slices_beside w spans t key = slices_of (keyed_at spans (span_start w (slice_start w t))) key

-- the record in the slices
pub record AddsOne (s t : Inside) (r : Record) : Type 0 where
  pub places : t.places ≡ s.places
  pub from : t.from ≡ s.from
  pub kinds : AreInSpans s.places.window t.spans.entries
  pub added : (q : Pane) → in_spans s.places.window t.spans.entries q ≡ merge s.places.window.aggregates (in_spans s.places.window s.spans.entries q) (aggregate_at s.places.window (r ∷ []) q)
  pub still : (q : Pane) → has_open s.opened.entries q ≡ true → has_open t.opened.entries q ≡ true
  pub opened : (q : Pane) → int_eq (at s.places.window.key r) q.key ≡ true → is_window_of s.places.window (at s.places.window.time r) q.start ≡ true → int_lt q.start s.from ≡ false
      → (has_open t.opened.entries q || has_slice s.places.window q.start (slices_beside s.places.window s.spans.entries (at s.places.window.time r) q.key)) ≡ true

module _ (s t : Inside) (r : Record) (first : ℕ) (b : Brings s r first) (a : AddsOne s t r) where
  abbrev operator : WindowSpec
  operator = s.places.window

  abbrev one : Pane → Option Aggregated
  one q = aggregate_at operator (r ∷ []) q

  more : (q : Pane) → in_spans t.places.window t.spans.entries q ≡ merge operator.aggregates (in_spans operator s.spans.entries q) (one q)
  more q = ap (λ p. in_spans p.window t.spans.entries q) a.places ∙ a.added q

  before : (q : Pane) → int_lt q.start s.from ≡ true → standing t q ≡ standing s q
  before q side = standing_before t q (ap (int_lt q.start) a.from ∙ side) ∙ ap (λ p. total_at p.entries q) a.places ∙ sym (standing_before s q side)

  later : (q : Pane) → int_lt q.start s.from ≡ false → standing t q ≡ merge operator.aggregates (standing s q) (one q)
  later q side = standing_later t q (ap (int_lt q.start) a.from ∙ side) ∙ more q ∙ ap (λ o. merge operator.aggregates o (one q)) (sym (standing_later s q side))

  open_old : (q : Pane) → is_some (standing s q) ≡ true → has_open t.opened.entries q ≡ true
  open_old q some = a.still q (b.inside.opened q some)

  open_one : (q : Pane) → int_lt q.start s.from ≡ false → is_some (one q) ≡ true → has_open t.opened.entries q ≡ true
  open_one q side some =
      let both = and_parts (is_window_of operator (at operator.time r) q.start) (int_eq (at operator.key r) q.key) (some_there operator r q some) in
      let window = and_parts (is_start operator q.start) (is_within operator q.start (at operator.time r)) both.0 in
      let in_slice = sym (windows_have_whole_slices operator q.start (at operator.time r) b.range.slides window.0) ∙ window.1 in
      let xs = slices_beside operator s.spans.entries (at operator.time r) q.key in
      elim (or_cases (has_open t.opened.entries q) (has_slice operator q.start xs) (a.opened q both.1 both.0 side)) [
        | inl now ↦ now
        | inr has ↦
            let half = ap (λ x. is_some (cond x (slices_total operator q.start xs) None)) window.0 ∙ some_total operator q.start xs has in
            let there_is = some_in_span operator s.spans.entries q (slice_start operator (at operator.time r)) b.range.sized in_slice half in
            open_old q (ap is_some (standing_later s q side) ∙ there_is)
      ]

  open_all : (q : Pane) (x : Bool) → int_lt q.start s.from ≡ x → is_some (standing t q) ≡ true → has_open t.opened.entries q ≡ true
  open_all q true side some = open_old q (ap is_some (sym (before q side)) ∙ some)
  open_all q false side some = elim (or_cases (is_some (standing s q)) (is_some (one q)) (some_merged operator.aggregates (standing s q) (one q) (ap is_some (sym (later q side)) ∙ some))) [
    | inl old ↦ open_old q old
    | inr new ↦ open_one q side new
  ]

  counted : (q : Pane) → int_lt q.start s.from ≡ false → IsCounted (in_spans t.places.window t.spans.entries q)
  counted q side = λ x is.
      let old = in_spans operator s.spans.entries q in
      let both : x.count ≡ count_or old + count_or (one q) = sym (ap count_or is) ∙ ap count_or (more q) ∙ count_merge operator.aggregates old (one q) in
      let few = count_both old (one q) (b.inside.counted q side) (room_at s r first b q side) (count_at operator (r ∷ []) q) in
      omega (arith, both, few)

  starts : (q : Pane) → int_lt q.start s.from ≡ false → is_some (in_spans t.places.window t.spans.entries q) ≡ true → IsStart q.start
  starts q side some =
      let old = in_spans operator s.spans.entries q in
      elim (or_cases (is_some old) (is_some (one q)) (some_merged operator.aggregates old (one q) (ap is_some (sym (more q)) ∙ some))) [
        | inl was ↦ b.inside.starts q side was
        | inr new ↦ starts_in operator r first b.range b.rest q.start b.time (and_parts (is_window_of operator (at operator.time r) q.start) (int_eq (at operator.key r) q.key) (some_there operator r q new)).0
      ]

  pub inside_more : IsWindowsInside t
  inside_more = record {
    operator = subst (λ p. IsOperator p.window) (sym a.places) b.inside.operator;
    whole = whole_kept s.places.window t.places.window s.from t.from (ap (λ p. p.window) a.places) a.from b.inside.whole;
    opened = λ q some. open_all q (int_lt q.start s.from) refl some;
    below = λ q some. ap (int_lt q.start) a.from ∙ b.inside.below q (ap (λ p. is_some (acc_at p.entries q)) (sym a.places) ∙ some);
    kinds = subst (λ p. AreInSpans p.window t.spans.entries) (sym a.places) a.kinds;
    counted = λ q late. counted q (ap (int_lt q.start) (sym a.from) ∙ late);
    starts = λ q late some. starts q (ap (int_lt q.start) (sym a.from) ∙ late) some;
  }

  pub added_view : TakesInLater r (windows_view s) (windows_view t)
  added_view q = get-view t inside_more q ∙ side (int_lt q.start s.from) refl ∙ (λ i. let o = sym (get-view s b.inside q) i in cond (int_lt q.start s.from) o (merge operator.aggregates o (one q)))
    where
      side : (x : Bool) → int_lt q.start s.from ≡ x → standing t q ≡ cond x (standing s q) (merge operator.aggregates (standing s q) (one q))
      side true is = before q is
      side false is = later q is

-- ---- as the code has it

-- the same slices make the same windows
pub view_same : (s t : Inside) → t.places ≡ s.places → t.from ≡ s.from → t.opened ≡ s.opened → ((b k : ℤ) → slices_of (keyed_at t.spans.entries b) k ≡ slices_of (keyed_at s.spans.entries b) k)
    → windows_view t ≡ windows_view s
view_same s t places from opened slices =
    let same : (q : Pane) → in_spans t.places.window t.spans.entries q ≡ in_spans s.places.window s.spans.entries q =
    λ q. ap (λ p. in_spans p.window t.spans.entries q) places ∙ same_spans s.places.window t.spans.entries s.spans.entries slices q in
    λ i. record {
      window = (places i).window;
      from = from i;
      totals = from_entries (entries_at (λ q. cond (int_lt q.start (from i)) (total_at (places i).entries q) (same q i)) (open_panes (opened i).entries));
    }

-- where the slice is there, each of its windows has it
pub slice_there : (w v : WindowSpec) (t start key k : ℤ) (opens : Pane → Bool) (spans : List (ℤ × IndexMap ℤ (Vec Slice) HashKeys)) → pos 1 ≤ℤ w.slide → v ≡ w → start ≡ slice_start w t → key ≡ k
    → has_start start (slices_of (keyed_at spans (span_start v start)) key) ≡ true
    → (q : Pane) → int_eq k q.key ≡ true → is_window_of w t q.start ≡ true → (opens q || has_slice w q.start (slices_beside w spans t q.key)) ≡ true
slice_there w v t start key k opens spans slides same at_start at_key has q keyed window =
    let own : k ≡ q.key = grind (arith, ints, keyed) in
    let there : has_start (slice_start w t) (slices_beside w spans t q.key) ≡ true =
    sym (λ i. has_start (at_start i) (slices_of (keyed_at spans (span_start (same i) (at_start i))) ((at_key ∙ own) i))) ∙ has in
    or_right (opens q) (has_slice w q.start (slices_beside w spans t q.key)) (has_at w t q.start (slices_beside w spans t q.key) slides window there)

-- the slices at hand
pub beside : (w v : WindowSpec) (t start span key : ℤ) (at_hand : List Slice) (spans : List (ℤ × IndexMap ℤ (Vec Slice) HashKeys)) → v ≡ w → start ≡ slice_start w t
    → span ≡ span_start v start → at_hand ≡ slices_of (keyed_at spans span) key → at_hand ≡ slices_beside w spans t key
beside w v t start span key at_hand spans same at_start at_span is = is ∙ ap (λ b. slices_of (keyed_at spans b) key) (at_span ∙ (λ i. span_start (same i) (at_start i)))

-- what `open_new` opens
pub opens_new : (w v : WindowSpec) (t time k key from as_held : ℤ) (opens : Pane → Bool) (xs : ℤ → List Slice) (held_slices : List Slice) → v ≡ w → time ≡ t → key ≡ k → as_held ≡ from → held_slices ≡ xs key
    → ((q : Pane) → int_eq key q.key ≡ true → is_window_of v time q.start ≡ true → int_lt q.start as_held ≡ false → (opens q || has_slice v q.start held_slices) ≡ true)
    → (q : Pane) → int_eq k q.key ≡ true → is_window_of w t q.start ≡ true → int_lt q.start from ≡ false → (opens q || has_slice w q.start (xs q.key)) ≡ true
opens_new w v t time k key from as_held opens xs held_slices same at_time at_key at_from at_slices opened q keyed window late =
    let own : int_eq key q.key ≡ true = ap (λ z. int_eq z q.key) at_key ∙ keyed in
    let key_is : key ≡ q.key = grind (arith, ints, own) in
    sym (λ i. opens q || has_slice (same i) q.start ((at_slices ∙ ap xs key_is) i))
    ∙ opened q own ((λ i. is_window_of (same i) (at_time i) q.start) ∙ window) (ap (int_lt q.start) at_from ∙ late)

-- what `add_slice` adds
pub adds_one : (w v : WindowSpec) (r : Record) (start key : ℤ) (old new : List (ℤ × IndexMap ℤ (Vec Slice) HashKeys)) → pos 1 ≤ℤ w.slide → v ≡ w → start ≡ slice_start w (at w.time r) → key ≡ at w.key r
    → ((q : Pane) → in_spans v new q ≡ cond (int_eq key q.key && is_window_of v start q.start) (merge v.aggregates (in_spans v old q) (aggregate_of v.aggregates (r ∷ []))) (in_spans v old q))
    → (q : Pane) → in_spans w new q ≡ merge w.aggregates (in_spans w old q) (aggregate_at w (r ∷ []) q)
adds_one w v r start key old new slides same at_start at_key added q =
    ap (λ x. in_spans x new q) (sym same) ∙ added q
    ∙ (λ i. cond (int_eq (at_key i) q.key && is_window_of (same i) (at_start i) q.start) (merge (same i).aggregates (in_spans (same i) old q) (aggregate_of (same i).aggregates (r ∷ []))) (in_spans (same i) old q))
    ∙ ap (λ b. cond (int_eq (at w.key r) q.key && b) (merge w.aggregates (in_spans w old q) (aggregate_of w.aggregates (r ∷ []))) (in_spans w old q)) (slice_windows w (at w.time r) q.start slides)
    ∙ either_order (int_eq (at w.key r) q.key) (is_window_of w (at w.time r) q.start) _ _
    ∙ merge-one w r q (in_spans w old q)
