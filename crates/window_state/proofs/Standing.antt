-- What stands in the panes of a state, as a finite map.
use Rattle.std.proofs.Common.{◌≡◌, ℤ, Bool, true, false, cond, ◌||◌, List, [], ◌∷◌, refl, sym, ap, subst, ◌∙◌, arith, Option, Some, None, FitsSigned, to_z, of_z}
use Rattle.std.specs.Prelude.{int_lt, ◌<ℤ◌}
use Rattle.std.specs.Int.{w64, w128}
use Rattle.std.specs.Option.{is_some, option_map}
use Rattle.std.specs.Global.{Vec}
use Rattle.std.specs.FinMap.{get, from_entries}
use Rattle.plan_model.specs.declared.spec.Pane.{Pane}
use Rattle.plan_model.specs.declared.spec.WindowSpec.{WindowSpec}
use Rattle.plan_model.specs.Aggregates.{Aggregated, merge}
use Rattle.plan_model.specs.Rows.{pane_cmp}
use Rattle.window_slices.proofs.Facts.{widened}
use Rattle.window_state.specs.declared.windows.Windows.TheInside.{Inside}
use Rattle.window_state.specs.Open.{has_open, open_panes, panes_from, AreOpen}
use Rattle.window_state.specs.Parts.{entries_at}
use Rattle.window_state.specs.StateView.{standing, windows_view, IsWindowsInside}
use Rattle.aggregates.specs.Kinds.{AccData}
use Rattle.window_state.specs.State.{OpenWindows}
use Rattle.std.proofs.lemmas.Int.{ints, to_z-of_z}
use Rattle.std.proofs.lemmas.List.Elements.{All-nil}
use Rattle.plan_model.specs.Windows.{is_start}
use Rattle.window_slices.specs.KeySlices.{IsSliceOf, IsCounted}
use Rattle.window_slices.specs.Spans.{AreInSpans, in_spans}
use Rattle.window_state.specs.Windows.{acc_at, total_at, has_pane, is_pane, AreWhole, IsOperator}
use Rattle.window_state.proofs.Entries.{get-entries, same_map_of, no_total}
use Rattle.window_state.proofs.Sorted.{found_at}
use Rattle.window_state.proofs.Updates.{pane_from_test}
use Rattle.window_state.proofs.Starts.{has_both, panes_of_start}

has_panes : (opened : List (ℤ × Vec ℤ)) (q : Pane) → has_pane (open_panes opened) q ≡ has_open opened q
has_panes [] q = refl
has_panes (e ∷ es) q = has_both (panes_from e.0 e.1.items) (open_panes es) q ∙ (λ i. panes_of_start e.0 e.1.items q i || has_panes es q i)

pub get-standing : (f : Pane → Option Aggregated) (opened : List (ℤ × Vec ℤ)) → AreOpen opened f → (q : Pane) → get (from_entries {R = pane_cmp} (entries_at f (open_panes opened))) q ≡ f q
get-standing f opened are q =
    get-entries (entries_at f (open_panes opened)) q ∙ found_at f (open_panes opened) q (λ some. has_panes opened q ∙ are q some)

-- the view has in each pane what stands there
pub get-view : (s : Inside) → IsWindowsInside s → (q : Pane) → get (windows_view s).totals q ≡ standing s q
get-view s is q = get-standing (standing s) s.opened.entries is.opened q

-- ---- one pane more in the places

pub some_total : (o : Option AccData) → is_some (option_map (λ (a : AccData). a.total) o) ≡ is_some o
some_total None = refl
some_total (Some a) = refl

-- what has not changed, beside the places and the open panes
pub record KeepsSlices (s t : Inside) : Type 0 where
  pub window : t.places.window ≡ s.places.window
  pub from : t.from ≡ s.from
  pub slices : t.spans.entries ≡ s.spans.entries

pub same_sliced : (s t : Inside) → KeepsSlices s t → (q : Pane) → in_spans t.places.window t.spans.entries q ≡ in_spans s.places.window s.spans.entries q
same_sliced s t k q = λ i. in_spans (k.window i) (k.slices i) q

pub whole_kept : (v w : WindowSpec) (f g : ℤ) → w ≡ v → g ≡ f → AreWhole v f → AreWhole w g
whole_kept v w f g window from whole = subst (λ x. AreWhole x g) (sym window) (subst (AreWhole v) (sym from) whole)

-- what is known of the slices stays
pub inside_kept : (s t : Inside) → IsWindowsInside s → KeepsSlices s t → AreOpen t.opened.entries (standing t) → ((q : Pane) → is_some (acc_at t.places.entries q) ≡ true → int_lt q.start t.from ≡ true) → IsWindowsInside t
inside_kept s t is k opened below = record {
  operator = subst IsOperator (sym k.window) is.operator;
  whole = whole_kept s.places.window t.places.window s.from t.from k.window k.from is.whole;
  opened = opened;
  below = below;
  kinds = subst (λ w. AreInSpans w t.spans.entries) (sym k.window) (subst (AreInSpans s.places.window) (sym k.slices) is.kinds);
  counted = λ q later. subst IsCounted (sym (same_sliced s t k q)) (is.counted q (ap (int_lt q.start) (sym k.from) ∙ later));
  starts = λ q later some. is.starts q (ap (int_lt q.start) (sym k.from) ∙ later) (ap is_some (sym (same_sliced s t k q)) ∙ some);
}

-- what stands there, by the side on which the window begins
pub standing_before : (s : Inside) (q : Pane) → int_lt q.start s.from ≡ true → standing s q ≡ total_at s.places.entries q
standing_before s q before = ap (λ b. cond b (total_at s.places.entries q) (in_spans s.places.window s.spans.entries q)) before

pub standing_later : (s : Inside) (q : Pane) → int_lt q.start s.from ≡ false → standing s q ≡ in_spans s.places.window s.spans.entries q
standing_later s q later = ap (λ b. cond b (total_at s.places.entries q) (in_spans s.places.window s.spans.entries q)) later

-- a pane more, in the places and among the open ones
pub placed : (s t : Inside) (p : Pane) → IsWindowsInside s → KeepsSlices s t → int_lt p.start s.from ≡ true
    → ((q : Pane) → is_some (acc_at t.places.entries q) ≡ cond (is_pane p q) true (is_some (acc_at s.places.entries q)))
    → ((q : Pane) → has_open t.opened.entries q ≡ cond (is_pane p q) true (has_open s.opened.entries q)) → IsWindowsInside t
placed s t p is k before put opened = inside_kept s t is k (λ q some. opened q ∙ are q (is_pane p q) refl some) (λ q some. ap (int_lt q.start) k.from ∙ below q (is_pane p q) refl some)
  where
    either : (b c : Bool) → c ≡ true → cond b true c ≡ true
    either true c h = refl
    either false c h = h

    side : (q : Pane) (b : Bool) → int_lt q.start s.from ≡ b → is_some (standing t q) ≡ true → is_pane p q ≡ false → has_open s.opened.entries q ≡ true
    side q true side_is some other =
        let there : is_some (acc_at s.places.entries q) ≡ true =
        sym (put q ∙ ap (λ x. cond x true (is_some (acc_at s.places.entries q))) other) ∙ sym (some_total (acc_at t.places.entries q)) ∙ ap is_some (sym (standing_before t q (ap (int_lt q.start) k.from ∙ side_is))) ∙ some in
        is.opened q (ap is_some (standing_before s q side_is) ∙ some_total (acc_at s.places.entries q) ∙ there)
    side q false side_is some other =
        is.opened q (ap is_some (standing_later s q side_is ∙ sym (same_sliced s t k q) ∙ sym (standing_later t q (ap (int_lt q.start) k.from ∙ side_is))) ∙ some)

    are : (q : Pane) (b : Bool) → is_pane p q ≡ b → is_some (standing t q) ≡ true → cond b true (has_open s.opened.entries q) ≡ true
    are q true here some = refl
    are q false other some = side q (int_lt q.start s.from) refl some other

    below : (q : Pane) (b : Bool) → is_pane p q ≡ b → is_some (acc_at t.places.entries q) ≡ true → int_lt q.start s.from ≡ true
    below q true here some = subst (λ (x : Pane). int_lt x.start s.from ≡ true) (pane_from_test p q here) before
    below q false other some = is.below q (sym (put q ∙ ap (λ x. cond x true (is_some (acc_at s.places.entries q))) other) ∙ some)

-- what stands in the panes is the same
pub same_standing : (s t : Inside) → KeepsSlices s t → t.places.entries ≡ s.places.entries → (q : Pane) → standing t q ≡ standing s q
same_standing s t k places q = λ i. cond (int_lt q.start (k.from i)) (total_at (places i) q) (same_sliced s t k q i)

-- more panes are open
pub opened_more : (s t : Inside) → IsWindowsInside s → KeepsSlices s t → t.places.entries ≡ s.places.entries → ((q : Pane) → has_open s.opened.entries q ≡ true → has_open t.opened.entries q ≡ true) → IsWindowsInside t
opened_more s t is k places still =
    inside_kept s t is k (λ q some. still q (is.opened q (ap is_some (sym (same_standing s t k places q)) ∙ some))) (λ q some. ap (int_lt q.start) k.from ∙ is.below q (ap (λ es. is_some (acc_at es q)) (sym places) ∙ some))

-- more in the places, and more panes open
pub inside_grown : (s t : Inside) → IsWindowsInside s → KeepsSlices s t → AreOpen t.opened.entries (total_at t.places.entries)
    → ((q : Pane) → has_open s.opened.entries q ≡ true → has_open t.opened.entries q ≡ true)
    → ((q : Pane) → is_some (acc_at t.places.entries q) ≡ true → int_lt q.start t.from ≡ true) → IsWindowsInside t
inside_grown s t is k opened still below = inside_kept s t is k (λ q some. side q (int_lt q.start s.from) refl some) below
  where
    side : (q : Pane) (b : Bool) → int_lt q.start s.from ≡ b → is_some (standing t q) ≡ true → has_open t.opened.entries q ≡ true
    side q true before some = opened q (ap is_some (sym (standing_before t q (ap (int_lt q.start) k.from ∙ before))) ∙ some)
    side q false later some =
        still q (is.opened q (ap is_some (standing_later s q later ∙ sym (same_sliced s t k q) ∙ sym (standing_later t q (ap (int_lt q.start) k.from ∙ later))) ∙ some))

-- views that have the same in each pane
pub same_view : (s t : Inside) → IsWindowsInside s → IsWindowsInside t → KeepsSlices s t → ((q : Pane) → standing t q ≡ standing s q) → windows_view t ≡ windows_view s
same_view s t is now k same = λ i. record { window = k.window i; from = k.from i; totals = same_map_of (windows_view t).totals (windows_view s).totals (λ q. get-view t now q ∙ same q ∙ sym (get-view s is q)) i }

pub lt_true : (a b : ℤ) → a <ℤ b → int_lt a b ≡ true
lt_true a b h = grind (arith, ints)

-- where nothing stands in the view of a pane before `from`, it has no place
pub no_place : (s : Inside) (v : OpenWindows) (p : Pane) → IsWindowsInside s → windows_view s ≡ v → int_lt p.start s.from ≡ true → get v.totals p ≡ None → acc_at s.places.entries p ≡ None
no_place s v p is view before none = no_total (acc_at s.places.entries p) (sym (standing_before s p before) ∙ sym (get-view s is p) ∙ ap (λ (x : OpenWindows). get x.totals p) view ∙ none)

-- what stands in the panes after a pane was put into the places
pub put_standing : (s t : Inside) (v : OpenWindows) (p : Pane) (a : Option Aggregated) → IsWindowsInside s → IsWindowsInside t → windows_view s ≡ v → KeepsSlices s t → int_lt p.start s.from ≡ true
    → ((q : Pane) → total_at t.places.entries q ≡ cond (is_pane p q) a (total_at s.places.entries q)) → (q : Pane) → get (windows_view t).totals q ≡ cond (is_pane p q) a (get v.totals q)
put_standing s t v p a is now view k before put q = get-view t now q ∙ by_case (is_pane p q) refl ∙ ap (cond (is_pane p q) a) (sym (get-view s is q) ∙ ap (λ (x : OpenWindows). get x.totals q) view)
  where
    side : (b : Bool) → int_lt q.start s.from ≡ b → is_pane p q ≡ false → standing t q ≡ standing s q
    side true before_q other = standing_before t q (ap (int_lt q.start) k.from ∙ before_q) ∙ put q ∙ ap (λ x. cond x a (total_at s.places.entries q)) other ∙ sym (standing_before s q before_q)
    side false later other = standing_later t q (ap (int_lt q.start) k.from ∙ later) ∙ same_sliced s t k q ∙ sym (standing_later s q later)

    by_case : (b : Bool) → is_pane p q ≡ b → standing t q ≡ cond b a (standing s q)
    by_case true here =
        let before_q : int_lt q.start s.from ≡ true = subst (λ (x : Pane). int_lt x.start s.from ≡ true) (pane_from_test p q here) before in
        standing_before t q (ap (int_lt q.start) k.from ∙ before_q) ∙ put q ∙ ap (λ x. cond x a (total_at s.places.entries q)) here
    by_case false other = side (int_lt q.start s.from) refl other

-- what was open is
pub opens : (b c : Bool) → c ≡ true → cond b true c ≡ true
opens true c h = refl
opens false c h = h

-- ---- a pane that is asked for, by the side on which its window begins

-- a start beside `from`, as the code compares them
pub side_of : (z f : ℤ) (b : Bool) → FitsSigned w64 z → FitsSigned w128 f → int_lt (to_z w128 (of_z w128 (to_z w64 (of_z w64 z)))) (to_z w128 (of_z w128 f)) ≡ b → int_lt z f ≡ b
side_of z f b hz hf is = sym (λ i. int_lt (widened z hz i) (to_z-of_z w128 f hf i)) ∙ is

-- what the view has in a pane of a window that begins before `from`
pub seen_before : (s : Inside) (v : OpenWindows) (q : Pane) → IsWindowsInside s → windows_view s ≡ v → int_lt q.start s.from ≡ true → total_at s.places.entries q ≡ get v.totals q
seen_before s v q is view before = sym (standing_before s q before) ∙ sym (get-view s is q) ∙ ap (λ (x : OpenWindows). get x.totals q) view

-- and in one that begins later
pub seen_later : (s : Inside) (v : OpenWindows) (q : Pane) → IsWindowsInside s → windows_view s ≡ v → int_lt q.start s.from ≡ false → in_spans s.places.window s.spans.entries q ≡ get v.totals q
seen_later s v q is view later = sym (standing_later s q later) ∙ sym (get-view s is q) ∙ ap (λ (x : OpenWindows). get x.totals q) view

pub numbers_total : (o : Option AccData) → option_map (λ (a : AccData). a.total.numbers) o ≡ option_map (λ (a : Aggregated). a.numbers) (option_map (λ (a : AccData). a.total) o)
numbers_total None = refl
numbers_total (Some a) = refl

-- ---- before any record has come

no_slices : (w : WindowSpec) (q : Pane) → in_spans w [] q ≡ None
no_slices w q = (λ i. merge w.aggregates (either (is_start w q.start) i) (either (is_start w q.start) i))
  where
    either : (b : Bool) → (let none : Option Aggregated = None in cond b none none ≡ none)
    either true = refl
    either false = refl

pub none_sliced : (s : Inside) → s.spans.entries ≡ [] → (q : Pane) → in_spans s.places.window s.spans.entries q ≡ None
none_sliced s none q = ap (λ es. in_spans s.places.window es q) none ∙ no_slices s.places.window q

nothing : {X : Type 0} (o : Option Aggregated) → o ≡ None → is_some o ≡ true → X
nothing o none some = absurd (let no : false ≡ true = ap is_some (sym none) ∙ some in cc)

pub inside_first : (s : Inside) → IsOperator s.places.window → AreWhole s.places.window s.from → s.spans.entries ≡ [] → ((q : Pane) → is_some (acc_at s.places.entries q) ≡ true → int_lt q.start s.from ≡ true)
    → ((q : Pane) → is_some (acc_at s.places.entries q) ≡ true → has_open s.opened.entries q ≡ true) → IsWindowsInside s
inside_first s operator whole none below opened = record {
  operator = operator;
  whole = whole;
  opened = λ q some. side q (int_lt q.start s.from) refl some;
  below = below;
  kinds = subst (AreInSpans s.places.window) (sym none) (λ b k. All-nil (IsSliceOf s.places.window));
  counted = λ q later. subst IsCounted (sym (none_sliced s none q)) (λ a is. absurd cc);
  starts = λ q later some. nothing (in_spans s.places.window s.spans.entries q) (none_sliced s none q) some;
}
  where
    side : (q : Pane) (b : Bool) → int_lt q.start s.from ≡ b → is_some (standing s q) ≡ true → has_open s.opened.entries q ≡ true
    side q true before some = opened q (sym (some_total (acc_at s.places.entries q)) ∙ ap is_some (sym (standing_before s q before)) ∙ some)
    side q false later some = nothing (standing s q) (standing_later s q later ∙ none_sliced s none q) some

-- the places hold all that stands anywhere
pub view_first : (s : Inside) (f : Pane → Option Aggregated) → IsWindowsInside s → s.spans.entries ≡ [] → ((q : Pane) → total_at s.places.entries q ≡ f q) → (q : Pane) → get (windows_view s).totals q ≡ f q
view_first s f is none places q = get-view s is q ∙ side (int_lt q.start s.from) refl
  where
    empty : (o : Option AccData) → int_lt q.start s.from ≡ false → (is_some o ≡ true → int_lt q.start s.from ≡ true) → (let none : Option Aggregated = None in none ≡ option_map (λ (a : AccData). a.total) o)
    empty None later h = refl
    empty (Some a) later h = absurd (let no : true ≡ false = sym (h refl) ∙ later in cc)

    side : (b : Bool) → int_lt q.start s.from ≡ b → standing s q ≡ f q
    side true before = standing_before s q before ∙ places q
    side false later = standing_later s q later ∙ none_sliced s none q ∙ empty (acc_at s.places.entries q) later (is.below q) ∙ places q

pub no_entries : {X : Type 0} (es : List (Pane × AccData)) (q : Pane) → es ≡ [] → is_some (acc_at es q) ≡ true → X
no_entries es q none some = absurd (let no : false ≡ true = ap (λ l. is_some (acc_at l q)) (sym none) ∙ some in cc)

-- ---- one record more in a pane that has a place

pub added_inside : (s t : Inside) → IsWindowsInside s → KeepsSlices s t → t.opened.entries ≡ s.opened.entries → ((q : Pane) → is_some (acc_at t.places.entries q) ≡ is_some (acc_at s.places.entries q)) → IsWindowsInside t
added_inside s t is k opened panes =
    inside_kept s t is k (λ q some. ap (λ es. has_open es q) opened ∙ is.opened q (side q (int_lt q.start s.from) refl some)) (λ q some. ap (int_lt q.start) k.from ∙ is.below q (sym (panes q) ∙ some))
  where
    side : (q : Pane) (b : Bool) → int_lt q.start s.from ≡ b → is_some (standing t q) ≡ true → is_some (standing s q) ≡ true
    side q true before some =
        ap is_some (standing_before s q before) ∙ some_total (acc_at s.places.entries q) ∙ sym (panes q) ∙ sym (some_total (acc_at t.places.entries q))
        ∙ ap is_some (sym (standing_before t q (ap (int_lt q.start) k.from ∙ before))) ∙ some
    side q false later some = ap is_some (standing_later s q later ∙ sym (same_sliced s t k q) ∙ sym (standing_later t q (ap (int_lt q.start) k.from ∙ later))) ∙ some

-- what the view has after what stands in a pane before `from` has changed
pub changed_standing : (s t : Inside) (v : OpenWindows) (p : Pane) (g : Option Aggregated → Option Aggregated) → IsWindowsInside s → IsWindowsInside t → windows_view s ≡ v → KeepsSlices s t → int_lt p.start s.from ≡ true
    → ((q : Pane) → total_at t.places.entries q ≡ cond (is_pane p q) (g (total_at s.places.entries q)) (total_at s.places.entries q))
    → (q : Pane) → get (windows_view t).totals q ≡ cond (is_pane p q) (g (get v.totals q)) (get v.totals q)
changed_standing s t v p g is now view k before put q =
    get-view t now q ∙ by_case (is_pane p q) refl ∙ (λ i. cond (is_pane p q) (g (seen i)) (seen i))
  where
    seen : standing s q ≡ get v.totals q
    seen = sym (get-view s is q) ∙ ap (λ (x : OpenWindows). get x.totals q) view

    side : (b : Bool) → int_lt q.start s.from ≡ b → is_pane p q ≡ false → standing t q ≡ standing s q
    side true before_q other =
        standing_before t q (ap (int_lt q.start) k.from ∙ before_q) ∙ put q
        ∙ ap (λ x. cond x (g (total_at s.places.entries q)) (total_at s.places.entries q)) other ∙ sym (standing_before s q before_q)
    side false later other = standing_later t q (ap (int_lt q.start) k.from ∙ later) ∙ same_sliced s t k q ∙ sym (standing_later s q later)

    by_case : (b : Bool) → is_pane p q ≡ b → standing t q ≡ cond b (g (standing s q)) (standing s q)
    by_case true here =
        let before_q : int_lt q.start s.from ≡ true = subst (λ (x : Pane). int_lt x.start s.from ≡ true) (pane_from_test p q here) before in
        standing_before t q (ap (int_lt q.start) k.from ∙ before_q) ∙ put q ∙ ap (λ x. cond x (g (total_at s.places.entries q)) (total_at s.places.entries q)) here
        ∙ ap g (sym (standing_before s q before_q))
    by_case false other = side (int_lt q.start s.from) refl other
