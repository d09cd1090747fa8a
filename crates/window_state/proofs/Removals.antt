-- Windows that fire are taken out: what stood in their panes is gone, and what stands in the others stays.
use Rattle.std.proofs.Common.{◌≡◌, ◌^◌, ℤ, pos, ◌+ℤ◌, ◌-ℤ◌, ◌<ℤ◌, ◌≤ℤ◌, Bool, true, false, not, cond, ◌&&◌, ◌||◌, List, [], ◌∷◌, refl, sym, ap, subst, ◌∙◌, arith, Option, Some, None, FitsSigned, to_z, of_z}
use Rattle.std.specs.Prelude.{int_lt, int_le}
use Rattle.std.specs.Global.{Vec}
use Rattle.std.specs.Int.{w128, int_max}
use Rattle.std.specs.Option.{is_some, option_map}
use Rattle.std.specs.Ordering.{int_eq}
use Rattle.std.specs.List.{All}
use Rattle.std.specs.FinMap.{retain_keys}
use Rattle.std.proofs.lemmas.Int.{ints, to_z-of_z}
use Rattle.std.proofs.lemmas.List.Elements.{All-head, All-tail}
use Rattle.plan_model.specs.declared.spec.Pane.{Pane}
use Rattle.plan_model.specs.declared.spec.WindowSpec.{WindowSpec}
use Rattle.plan_model.specs.Aggregates.{Aggregated, merge}
use Rattle.plan_model.specs.Rows.{is_due}
use Rattle.plan_model.specs.Windows.{is_start}
use Rattle.aggregates.specs.Kinds.{AccData}
use Rattle.window_state.specs.declared.windows.Windows.TheInside.{Inside}
use Rattle.window_state.specs.Open.{has_key, has_open}
use Rattle.window_slices.specs.declared.key_slices.Slice.{Slice}
use Rattle.window_slices.specs.KeySlices.{sliced, slices_total, slices_of, IsCounted}
use Rattle.window_slices.specs.Spans.{in_spans, keyed_at, span_start, AreInSpans}
use Rattle.window_state.specs.State.{OpenWindows}
use Rattle.window_state.specs.StateView.{standing, windows_view, IsWindowsInside}
use Rattle.window_state.specs.Windows.{AreWhole, acc_at, total_at, IsOperator}
use Rattle.window_state.proofs.Entries.{map_left}
use Rattle.window_state.proofs.Standing.{get-view, inside_first, none_sliced, no_entries, some_total, standing_before, standing_later, whole_kept, KeepsSlices}
use Rattle.window_state.proofs.Starts.{due_none}

-- ---- from where on windows are made of slices, once those that fire are gone

-- the new `from` is not less than the one before, windows that fire begin before it, and of those that begin between
-- the two each does
pub record IsRaised (w : WindowSpec) (mark before from : ℤ) : Type 0 where
  pub more : (s : ℤ) → int_lt s before ≡ true → int_lt s from ≡ true
  pub due : (s : ℤ) → is_due w mark s ≡ true → int_lt s from ≡ true
  pub starts : (s : ℤ) → is_start w s ≡ true → int_lt s before ≡ false → int_lt s from ≡ true → is_due w mark s ≡ true

below_first : (s a b : ℤ) → int_lt s a ≡ true → int_lt s (int_max a b) ≡ true
below_first s a b h = by_case (int_lt b a) refl
  where
    by_case : (c : Bool) → int_lt b a ≡ c → int_lt s (cond c a b) ≡ true
    by_case true less = h
    by_case false more = grind (arith, ints)

below_second : (s a b : ℤ) → int_lt s b ≡ true → int_lt s (int_max a b) ≡ true
below_second s a b h = by_case (int_lt b a) refl
  where
    by_case : (c : Bool) → int_lt b a ≡ c → int_lt s (cond c a b) ≡ true
    by_case true less = grind (arith, ints)
    by_case false more = h

between : (s a b : ℤ) → int_lt s a ≡ false → int_lt s (int_max a b) ≡ true → int_lt s b ≡ true
between s a b not_first h = by_case (int_lt b a) h
  where
    by_case : (c : Bool) → int_lt s (cond c a b) ≡ true → int_lt s b ≡ true
    by_case true first = absurd (let no : true ≡ false = sym first ∙ not_first in cc)
    by_case false second = second

-- as the code has a number
abbrev pub wide : ℤ → ℤ
wide z = to_z w128 (of_z w128 z)

-- the greater of the one before and the first start of a window that does not fire
pub raised : (w v : WindowSpec) (mark before undue most : ℤ) → v ≡ w → FitsSigned w128 before → FitsSigned w128 undue → FitsSigned w128 most → most ≡ int_max (wide before) (wide undue)
    → ((s : ℤ) → is_due v mark s ≡ true → int_lt s undue ≡ true) → ((s : ℤ) → is_start v s ≡ true → int_lt s undue ≡ true → is_due v mark s ≡ true) → IsRaised w mark before (wide most)
raised w v mark before undue most window before_fits undue_fits most_fits is due starts = subst (λ x. IsRaised x mark before (wide most)) window (record {
  more = λ s h. ap (int_lt s) from ∙ below_first s before undue h;
  due = λ s h. ap (int_lt s) from ∙ below_second s before undue (due s h);
  starts = λ s at later h. starts s at (between s before undue later (ap (int_lt s) (sym from) ∙ h));
})
  where
    from : wide most ≡ int_max before undue
    from = to_z-of_z w128 most most_fits ∙ is ∙ (λ i. int_max (to_z-of_z w128 before before_fits i) (to_z-of_z w128 undue undue_fits i))

not_more : (w : WindowSpec) (mark before from s : ℤ) → IsRaised w mark before from → int_lt s from ≡ false → int_lt s before ≡ false
not_more w mark before from s r later = by_case (int_lt s before) refl
  where
    by_case : (b : Bool) → int_lt s before ≡ b → b ≡ false
    by_case true less = absurd (let no : true ≡ false = sym (r.more s less) ∙ later in cc)
    by_case false is = refl

pub whole_raised : (w : WindowSpec) (mark before from : ℤ) → IsRaised w mark before from → AreWhole w before → AreWhole w from
whole_raised w mark before from r whole less = whole (by_case (int_lt from before) refl)
  where
    itself : (z : ℤ) → int_lt z z ≡ false
    itself z = grind (arith, ints)

    by_case : (b : Bool) → int_lt from before ≡ b → before <ℤ pos (2 ^ 64)
    by_case true behind = absurd (let no : true ≡ false = sym (r.more from behind) ∙ itself from in cc)
    by_case false not = grind (arith, ints, not, less)

-- the same windows with another `from`
abbrev pub with_from : ℤ → Inside → Inside
with_from from s = record { alloc = s.alloc; keys = s.keys; from = from; places = s.places; spans = s.spans; opened = s.opened }

-- no pane of a window that begins between the two has a place, so that no open pane is missed
pub inside_raised : (s : Inside) (mark from : ℤ) → IsWindowsInside s → IsRaised s.places.window mark s.from from → IsWindowsInside (with_from from s)
inside_raised s mark from is r = record {
  operator = is.operator;
  whole = whole_raised s.places.window mark s.from from r is.whole;
  opened = λ q some. opened q (int_lt q.start from) refl some;
  below = λ q some. r.more q.start (is.below q some);
  kinds = is.kinds;
  counted = λ q later. is.counted q (not_more s.places.window mark s.from from q.start r later);
  starts = λ q later some. is.starts q (not_more s.places.window mark s.from from q.start r later) some;
}
  where
    opened : (q : Pane) (b : Bool) → int_lt q.start from ≡ b → is_some (standing (with_from from s) q) ≡ true → has_open s.opened.entries q ≡ true
    opened q true before some =
        let there : is_some (acc_at s.places.entries q) ≡ true = sym (some_total (acc_at s.places.entries q)) ∙ ap is_some (sym (standing_before (with_from from s) q before)) ∙ some in
        is.opened q (ap is_some (standing_before s q (is.below q there)) ∙ some_total (acc_at s.places.entries q) ∙ there)
    opened q false later some =
        is.opened q (ap is_some (standing_later s q (not_more s.places.window mark s.from from q.start r later) ∙ sym (standing_later (with_from from s) q later)) ∙ some)

-- ---- spans that end before

-- what has not changed, beside the slices and the open panes
pub record KeepsPlaces (s t : Inside) : Type 0 where
  pub window : t.places.window ≡ s.places.window
  pub from : t.from ≡ s.from
  pub places : t.places.entries ≡ s.places.entries

-- what stands in the panes of windows that begin at from or behind it is the same
pub record IsDropped (s t : Inside) : Type 0 where
  pub keeps : KeepsPlaces s t
  pub opened : t.opened.entries ≡ s.opened.entries
  pub slices : (q : Pane) → int_lt q.start s.from ≡ false → in_spans t.places.window t.spans.entries q ≡ in_spans s.places.window s.spans.entries q
  pub kinds : AreInSpans t.places.window t.spans.entries

pub starts_from : (s from : ℤ) → int_lt s from ≡ false → from ≤ℤ s
starts_from s from later = grind (arith, ints)

pub spans_dropped : (s t : Inside) (v : WindowSpec) (x : ℤ) → v ≡ s.places.window → x ≡ s.from → KeepsPlaces s t → t.opened.entries ≡ s.opened.entries
    → ((q : Pane) → x ≤ℤ q.start → in_spans v t.spans.entries q ≡ in_spans v s.spans.entries q) → (AreInSpans v s.spans.entries → AreInSpans v t.spans.entries) → AreInSpans s.places.window s.spans.entries
    → IsDropped s t
spans_dropped s t v x window from keeps opened later kinds are = record {
  keeps = keeps;
  opened = opened;
  slices = λ q late. (λ i. in_spans ((keeps.window ∙ sym window) i) t.spans.entries q) ∙ later q (subst (λ z. z ≤ℤ q.start) (sym from) (starts_from q.start s.from late)) ∙ (λ i. in_spans (window i) s.spans.entries q);
  kinds = subst (λ w. AreInSpans w t.spans.entries) (window ∙ sym keeps.window) (kinds (subst (λ w. AreInSpans w s.spans.entries) (sym window) are));
}

pub inside_dropped : (s t : Inside) → IsWindowsInside s → IsDropped s t → IsWindowsInside t
inside_dropped s t is d = record {
  operator = subst IsOperator (sym d.keeps.window) is.operator;
  whole = whole_kept s.places.window t.places.window s.from t.from d.keeps.window d.keeps.from is.whole;
  opened = λ q some. ap (λ es. has_open es q) d.opened ∙ is.opened q (ap is_some (sym (same q (int_lt q.start s.from) refl)) ∙ some);
  below = λ q some. ap (int_lt q.start) d.keeps.from ∙ is.below q (ap (λ es. is_some (acc_at es q)) (sym d.keeps.places) ∙ some);
  kinds = d.kinds;
  counted = λ q later. let was = ap (int_lt q.start) (sym d.keeps.from) ∙ later in subst IsCounted (sym (d.slices q was)) (is.counted q was);
  starts = λ q later some. let was = ap (int_lt q.start) (sym d.keeps.from) ∙ later in is.starts q was (ap is_some (sym (d.slices q was)) ∙ some);
}
  where
    same : (q : Pane) (b : Bool) → int_lt q.start s.from ≡ b → standing t q ≡ standing s q
    same q true before = standing_before t q (ap (int_lt q.start) d.keeps.from ∙ before) ∙ ap (λ es. total_at es q) d.keeps.places ∙ sym (standing_before s q before)
    same q false later = standing_later t q (ap (int_lt q.start) d.keeps.from ∙ later) ∙ d.slices q later ∙ sym (standing_later s q later)

-- ---- the panes of one start

-- the panes of a start are gone: they are not open, and have no place
pub record IsTaken (start : ℤ) (s t : Inside) : Type 0 where
  pub window : t.places.window ≡ s.places.window
  pub from : t.from ≡ s.from
  pub opened : (q : Pane) → has_open t.opened.entries q ≡ cond (int_eq q.start start) false (has_open s.opened.entries q)
  pub gone : (q : Pane) → int_eq q.start start ≡ true → acc_at t.places.entries q ≡ None
  pub places : (q : Pane) → int_eq q.start start ≡ false → acc_at t.places.entries q ≡ acc_at s.places.entries q
  pub slices : (q : Pane) → int_lt q.start s.from ≡ false → in_spans t.places.window t.spans.entries q ≡ in_spans s.places.window s.spans.entries q
  pub kinds : AreInSpans t.places.window t.spans.entries

-- what has a place had one
still_placed : (start : ℤ) (s t : Inside) (q : Pane) → IsTaken start s t → is_some (acc_at t.places.entries q) ≡ true → is_some (acc_at s.places.entries q) ≡ true
still_placed start s t q k some = by_case (int_eq q.start start) refl
  where
    by_case : (b : Bool) → int_eq q.start start ≡ b → is_some (acc_at s.places.entries q) ≡ true
    by_case true here = absurd (let no : false ≡ true = ap is_some (sym (k.gone q here)) ∙ some in cc)
    by_case false other = ap is_some (sym (k.places q other)) ∙ some

starts_before : (a start from : ℤ) → int_eq a start ≡ true → int_lt start from ≡ true → int_lt a from ≡ true
starts_before a start from same before = grind (arith, ints)

inside_taken : (start : ℤ) (s t : Inside) → IsWindowsInside s → IsTaken start s t → int_lt start s.from ≡ true → IsWindowsInside t
inside_taken start s t is k begins = record {
  operator = subst IsOperator (sym k.window) is.operator;
  whole = whole_kept s.places.window t.places.window s.from t.from k.window k.from is.whole;
  opened = λ q some. k.opened q ∙ opened q (int_eq q.start start) refl (int_lt q.start t.from) refl some;
  below = λ q some. ap (int_lt q.start) k.from ∙ is.below q (still_placed start s t q k some);
  kinds = k.kinds;
  counted = λ q later. let was = ap (int_lt q.start) (sym k.from) ∙ later in subst IsCounted (sym (k.slices q was)) (is.counted q was);
  starts = λ q later some. let was = ap (int_lt q.start) (sym k.from) ∙ later in is.starts q was (ap is_some (sym (k.slices q was)) ∙ some);
}
  where
    opened : (q : Pane) (b : Bool) → int_eq q.start start ≡ b → (c : Bool) → int_lt q.start t.from ≡ c → is_some (standing t q) ≡ true → cond b false (has_open s.opened.entries q) ≡ true
    opened q true here true before some =
        absurd (let no : false ≡ true = ap (λ (o : Option AccData). is_some (option_map (λ (a : AccData). a.total) o)) (sym (k.gone q here)) ∙ ap is_some (sym (standing_before t q before)) ∙ some in cc)
    opened q true here false later some =
        absurd (let no : false ≡ true = sym later ∙ ap (int_lt q.start) k.from ∙ starts_before q.start start s.from here begins in cc)
    opened q false other true before some =
        let there : is_some (acc_at t.places.entries q) ≡ true = sym (some_total (acc_at t.places.entries q)) ∙ ap is_some (sym (standing_before t q before)) ∙ some in
        let was : int_lt q.start s.from ≡ true = ap (int_lt q.start) (sym k.from) ∙ before in
        is.opened q (ap is_some (standing_before s q was) ∙ some_total (acc_at s.places.entries q) ∙ still_placed start s t q k there)
    opened q false other false later some =
        let was : int_lt q.start s.from ≡ false = ap (int_lt q.start) (sym k.from) ∙ later in
        is.opened q (ap is_some (standing_later s q was ∙ sym (k.slices q was) ∙ sym (standing_later t q later)) ∙ some)

-- there is none where there cannot be one
pub no_acc : (o : Option AccData) → (is_some o ≡ true → true ≡ false) → o ≡ None
no_acc None h = refl
no_acc (Some a) h = absurd (let no = h refl in cc)

-- the places of keys that are all those of the start
pub places_taken : (start : ℤ) (keys : List ℤ) (s t : Inside) → IsWindowsInside s → KeepsSlices s t → int_lt start s.from ≡ true
    → ((q : Pane) → has_open t.opened.entries q ≡ cond (int_eq q.start start) false (has_open s.opened.entries q))
    → ((q : Pane) → int_eq q.start start ≡ true → has_open s.opened.entries q ≡ has_key q.key keys)
    → ((q : Pane) → acc_at t.places.entries q ≡ cond (int_eq q.start start && has_key q.key keys) None (acc_at s.places.entries q)) → IsTaken start s t
places_taken start keys s t is k begins opened those taken = record {
  window = k.window;
  from = k.from;
  opened = opened;
  gone = λ q here. taken q ∙ ap (λ b. cond (b && has_key q.key keys) None (acc_at s.places.entries q)) here ∙ gone q here (has_key q.key keys) refl;
  places = λ q other. taken q ∙ ap (λ b. cond (b && has_key q.key keys) None (acc_at s.places.entries q)) other;
  slices = λ q later i. in_spans (k.window i) (k.slices i) q;
  kinds = subst (λ w. AreInSpans w t.spans.entries) (sym k.window) (subst (AreInSpans s.places.window) (sym k.slices) is.kinds);
}
  where
    gone : (q : Pane) → int_eq q.start start ≡ true → (has : Bool) → has_key q.key keys ≡ has → cond has None (acc_at s.places.entries q) ≡ None
    gone q here true has = refl
    gone q here false none =
        no_acc (acc_at s.places.entries q)
        (λ some.
        let there = ap is_some (standing_before s q (starts_before q.start start s.from here begins)) ∙ some_total (acc_at s.places.entries q) ∙ some in
        sym (is.opened q there) ∙ those q here ∙ none)

-- the open panes alone, where none of the start has a place
pub slices_dropped : (start : ℤ) (s t : Inside) → KeepsPlaces s t
    → ((q : Pane) → has_open t.opened.entries q ≡ cond (int_eq q.start start) false (has_open s.opened.entries q))
    → ((q : Pane) → int_eq q.start start ≡ true → acc_at s.places.entries q ≡ None)
    → ((q : Pane) → int_lt q.start s.from ≡ false → in_spans t.places.window t.spans.entries q ≡ in_spans s.places.window s.spans.entries q)
    → AreInSpans t.places.window t.spans.entries → IsTaken start s t
slices_dropped start s t k opened none slices kinds = record {
  window = k.window;
  from = k.from;
  opened = opened;
  gone = λ q here. ap (λ es. acc_at es q) k.places ∙ none q here;
  places = λ q other. ap (λ es. acc_at es q) k.places;
  slices = slices;
  kinds = kinds;
}

pub starts_later : (a start from : ℤ) → int_eq a start ≡ true → int_lt start from ≡ false → int_lt a from ≡ false
starts_later a start from same later = grind (arith, ints)

-- ---- those of all starts so far

-- what is left of s: panes that are gone are of windows that fire
pub record IsLeft (mark : ℤ) (s t : Inside) : Type 0 where
  pub window : t.places.window ≡ s.places.window
  pub from : t.from ≡ s.from
  pub inside : IsWindowsInside t
  pub fewer : (q : Pane) → is_some (acc_at t.places.entries q) ≡ true → is_some (acc_at s.places.entries q) ≡ true
  pub places : (q : Pane) → is_due s.places.window mark q.start ≡ false → acc_at t.places.entries q ≡ acc_at s.places.entries q
  pub slices : (q : Pane) → int_lt q.start s.from ≡ false → in_spans t.places.window t.spans.entries q ≡ in_spans s.places.window s.spans.entries q

pub all_left : (mark : ℤ) (s : Inside) → IsWindowsInside s → IsLeft mark s s
all_left mark s is = record { window = refl; from = refl; inside = is; fewer = λ q some. some; places = λ q undue. refl; slices = λ q later. refl }

-- the same beside what spans were dropped from
pub left_dropped : (mark : ℤ) (s t u : Inside) → IsDropped s t → IsLeft mark t u → IsLeft mark s u
left_dropped mark s t u d l = record {
  window = l.window ∙ d.keeps.window;
  from = l.from ∙ d.keeps.from;
  inside = l.inside;
  fewer = λ q some. ap (λ es. is_some (acc_at es q)) (sym d.keeps.places) ∙ l.fewer q some;
  places = λ q undue. l.places q (ap (λ (w : WindowSpec). is_due w mark q.start) d.keeps.window ∙ undue) ∙ ap (λ es. acc_at es q) d.keeps.places;
  slices = λ q later. l.slices q (ap (int_lt q.start) d.keeps.from ∙ later) ∙ d.slices q later;
}

other_start : (a b size t : ℤ) → int_le (a +ℤ size -ℤ pos 1) t ≡ true → int_le (b +ℤ size -ℤ pos 1) t ≡ false → int_eq b a ≡ false
other_start a b size t due undue = grind (arith, ints)

-- one start less
pub less_left : (mark start : ℤ) (s t u : Inside) → IsLeft mark s t → IsTaken start t u → is_due s.places.window mark start ≡ true → int_lt start s.from ≡ true → IsLeft mark s u
less_left mark start s t u l k due begins = record {
  window = k.window ∙ l.window;
  from = k.from ∙ l.from;
  inside = inside_taken start t u l.inside k (ap (int_lt start) l.from ∙ begins);
  fewer = λ q some. l.fewer q (still_placed start t u q k some);
  places = λ q undue. k.places q (other_start start q.start s.places.window.size mark due undue) ∙ l.places q undue;
  slices = λ q later. k.slices q (ap (int_lt q.start) l.from ∙ later) ∙ l.slices q later;
}

-- ---- what stands in the panes at the end

none_stands : (o : Option Aggregated) → (is_some o ≡ true → true ≡ false) → o ≡ None
none_stands None h = refl
none_stands (Some a) h = absurd (let no = h refl in cc)

no_start : (w : WindowSpec) (keyed : List (ℤ × Vec Slice)) (q : Pane) → is_start w q.start ≡ false → sliced w keyed q ≡ None
no_start w keyed q h = ap (λ b. cond b (slices_total w q.start (slices_of keyed q.key)) None) h

-- a window that begins between the two and does not fire is none of the operator's
none_between : (s : Inside) (mark from : ℤ) (q : Pane) → IsRaised s.places.window mark s.from from → is_due s.places.window mark q.start ≡ false → int_lt q.start s.from ≡ false
    → int_lt q.start from ≡ true → in_spans s.places.window s.spans.entries q ≡ None
none_between s mark from q r undue later before =
    (λ i. merge s.places.window.aggregates (no_start s.places.window (keyed_at s.spans.entries (span_start s.places.window q.start)) q (no (is_start s.places.window q.start) refl) i)
    (no_start s.places.window (keyed_at s.spans.entries (span_start s.places.window q.start +ℤ s.places.window.size)) q (no (is_start s.places.window q.start) refl) i))
  where
    no : (b : Bool) → is_start s.places.window q.start ≡ b → b ≡ false
    no true at = absurd (let no : true ≡ false = sym (r.starts q.start at later before) ∙ undue in cc)
    no false no_start = refl

-- where no open window fires any more
pub left_standing : (s t : Inside) (mark from : ℤ) → IsWindowsInside s → IsRaised s.places.window mark s.from from → IsLeft mark (with_from from s) t
    → All (λ e. is_due s.places.window mark e.0 ≡ false) t.opened.entries → (q : Pane) → standing t q ≡ cond (is_due s.places.window mark q.start) None (standing s q)
left_standing s t mark from is r l none q = by_case (is_due s.places.window mark q.start) refl (due_none s.places.window mark t.opened.entries q none)
  where
    placed : (b : Bool) → int_lt q.start s.from ≡ b → is_due s.places.window mark q.start ≡ false → int_lt q.start from ≡ true → total_at s.places.entries q ≡ standing s q
    placed true before undue below = sym (standing_before s q before)
    placed false later undue below =
        ap (option_map (λ (a : AccData). a.total)) (no_acc (acc_at s.places.entries q) (λ some. sym (is.below q some) ∙ later))
        ∙ sym (standing_later s q later ∙ none_between s mark from q r undue later below)

    side : (b : Bool) → int_lt q.start from ≡ b → is_due s.places.window mark q.start ≡ false → standing t q ≡ standing s q
    side true below undue =
        standing_before t q (ap (int_lt q.start) l.from ∙ below) ∙ ap (option_map (λ (a : AccData). a.total)) (l.places q undue) ∙ placed (int_lt q.start s.from) refl undue below
    side false later undue =
        standing_later t q (ap (int_lt q.start) l.from ∙ later) ∙ l.slices q later ∙ sym (standing_later s q (not_more s.places.window mark s.from from q.start r later))

    by_case : (b : Bool) → is_due s.places.window mark q.start ≡ b → (is_due s.places.window mark q.start && has_open t.opened.entries q) ≡ false → standing t q ≡ cond b None (standing s q)
    by_case true due gone = none_stands (standing t q) (λ some. sym (l.inside.opened q some) ∙ ap (λ d. d && has_open t.opened.entries q) (sym due) ∙ gone)
    by_case false undue gone = side (int_lt q.start from) refl undue

-- ---- where all windows fire

-- no pane is open of a window that does not
none_undue : (w : WindowSpec) (mark : ℤ) (es : List (ℤ × Vec ℤ)) (q : Pane) → All (λ e. is_due w mark e.0 ≡ true) es → is_due w mark q.start ≡ false → has_open es q ≡ false
none_undue w mark [] q all undue = refl
none_undue w mark (e ∷ es) q all undue =
    let first : is_due w mark e.0 ≡ true = All-head (λ (e : ℤ × Vec ℤ). is_due w mark e.0 ≡ true) e es all in
    (λ i. (other_start e.0 q.start w.size mark first undue i && has_key q.key e.1.items) || has_open es q)
    ∙ none_undue w mark es q (All-tail (λ (e : ℤ × Vec ℤ). is_due w mark e.0 ≡ true) e es all) undue

pub inside_cleared : (s : Inside) → IsOperator s.places.window → AreWhole s.places.window s.from → s.places.entries ≡ [] → s.spans.entries ≡ [] → IsWindowsInside s
inside_cleared s operator whole places slices = inside_first s operator whole slices (λ q some. no_entries s.places.entries q places some) (λ q some. no_entries s.places.entries q places some)

pub cleared_standing : (s t : Inside) (mark : ℤ) → IsWindowsInside s → t.places.entries ≡ [] → t.spans.entries ≡ [] → All (λ e. is_due s.places.window mark e.0 ≡ true) s.opened.entries
    → (q : Pane) → standing t q ≡ cond (is_due s.places.window mark q.start) None (standing s q)
cleared_standing s t mark is places slices all q = empty (int_lt q.start t.from) refl ∙ by_case (is_due s.places.window mark q.start) refl
  where
    empty : (b : Bool) → int_lt q.start t.from ≡ b → standing t q ≡ None
    empty true before = standing_before t q before ∙ ap (λ es. total_at es q) places
    empty false later = standing_later t q later ∙ none_sliced t slices q

    by_case : (b : Bool) → is_due s.places.window mark q.start ≡ b → None ≡ cond b None (standing s q)
    by_case true due = refl
    by_case false undue = sym (none_stands (standing s q) (λ some. sym (is.opened q some) ∙ none_undue s.places.window mark s.opened.entries q all undue))

-- ---- the map

-- the map of the windows that do not fire
pub totals_left : (s t : Inside) (old : OpenWindows) (mark : ℤ) → IsWindowsInside s → IsWindowsInside t → windows_view s ≡ old
    → ((q : Pane) → standing t q ≡ cond (is_due s.places.window mark q.start) None (standing s q)) → (windows_view t).totals ≡ retain_keys old.totals (λ q. not (is_due old.window mark q.start))
totals_left s t old mark is now view left =
    map_left (λ q. is_due s.places.window mark q.start) (windows_view s).totals (windows_view t).totals
    (λ q. get-view t now q ∙ left q ∙ ap (cond (is_due s.places.window mark q.start) None) (sym (get-view s is q)))
    ∙ ap (λ (v : OpenWindows). retain_keys v.totals (λ q. not (is_due v.window mark q.start))) view
