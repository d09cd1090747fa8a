-- Windows that fire by a watermark, and windows that are opened.
use Rattle.std.proofs.Common.{◌≡◌, ℕ, ℤ, pos, neg_ℤ, ◌+ℤ◌, ◌-ℤ◌, ◌<ℤ◌, ◌≤ℤ◌, ◌^◌, ◌+◌, ◌<◌, ◌≤◌, ◌%◌, Bool, true, false, true≢false, ◌&&◌, ◌||◌, if◌then◌else◌, refl, inl, inr, Option, Some, None, List, [], ◌∷◌, length, take, get_or, FitsSigned, to_z, of_z, ap, sym, subst, ◌∙◌, arith}
use Rattle.std.specs.Prelude.{MatchOption, IfSome, IsTrue}
use Rattle.std.specs.Int.{w64, w128, int_rem_euclid}
use Rattle.std.specs.Int.RustNames.{int_lt, int_le}
use Rattle.std.proofs.lemmas.Int.{ints, to_z-of_z, to_z_pos, by_lt_z}
use Rattle.std.specs.Global.{Vec}
use Rattle.std.specs.List.{All}
use Rattle.std.specs.Ordering.{int_eq}
use Rattle.std.proofs.lemmas.Bool.{or_cases, or_left, or_right}
use Rattle.std.proofs.lemmas.List.Elements.{All-more, All-weaker}
use Rattle.plan_model.specs.declared.spec.WindowSpec.{WindowSpec}
use Rattle.plan_model.specs.PlanData.{IsWindow}
use Rattle.plan_model.specs.declared.spec.Pane.{Pane}
use Rattle.plan_model.specs.Windows.{IsTime, is_start, is_within, is_window_of}
use Rattle.plan_model.specs.Rows.{is_due}
use Rattle.plan_model.proofs.Facts.{is_reached, reached_more, reached_none, reached_all, remainder, pos_same}
use Rattle.window_slices.specs.Slices.{last_start_by, slice_start}
use Rattle.packed_parts.specs.declared.part.Part.{Part}
use Rattle.window_slices.specs.declared.key_slices.Slice.{Slice}
use Rattle.window_state.specs.Open.{has_open, OpensOnly}
use Rattle.window_slices.specs.KeySlices.{has_start, has_slice}
use Rattle.window_state.specs.Windows.{is_pane}
use Rattle.window_state.proofs.Slides.{held, positive_is, at_least_one, at_most, fits_window, fits_start}
use Rattle.window_slices.proofs.Facts.{last_start, next_start, slices_start_at_boundaries, windows_have_whole_slices}

abbrev pub narrow : ℤ → ℤ
narrow z = to_z w64 (of_z w64 z)

abbrev pub wide : ℤ → ℤ
wide z = to_z w128 (of_z w128 z)

-- a number of less than 67 bits
record IsNear (z : ℤ) : Type 0 where
  above : neg_ℤ (pos (2 ^ 66)) ≤ℤ z
  below : z ≤ℤ pos (2 ^ 66)

near_fits : (z : ℤ) → IsNear z → FitsSigned w128 z
near_fits z h =
    let low = h.above in
    let high = h.below in
    grind (arith, ints, low, high)

wide_is : (z : ℤ) → IsNear z → wide z ≡ z
wide_is z h = to_z-of_z w128 z (near_fits z h)

-- one of 64 bits
record IsWord (z : ℤ) : Type 0 where
  above : neg_ℤ (pos (2 ^ 63)) ≤ℤ z
  below : z ≤ℤ pos (2 ^ 63)

fits_word : (z : ℤ) → FitsSigned w64 z → IsWord z
fits_word z h = record { above = grind (arith, ints); below = grind (arith, ints) }

small_fits : (z : ℤ) → neg_ℤ (pos (2 ^ 40)) ≤ℤ z → z ≤ℤ pos (2 ^ 40) → FitsSigned w64 z
small_fits z h k = grind (arith, ints)

word_near : (z : ℤ) → IsWord z → IsNear z
word_near z h =
    let low = h.above in
    let high = h.below in
    record { above = omega (arith, ints, low); below = omega (arith, ints, high) }

widened : (z : ℤ) → FitsSigned w64 z → wide (narrow z) ≡ z
widened z h = ap wide (to_z-of_z w64 z h) ∙ wide_is z (word_near z (fits_word z h))

-- ---- from where on windows are made of slices

-- one part more begins before a number that is more than its start and no less than what the others begin before
pub before_more : (parts : List Part) (i : ℕ) (part : Part) (old new : ℤ) → i < length parts → part ≡ get_or parts i part → FitsSigned w64 part.pane.start
    → All (λ (p : Part). p.pane.start <ℤ old) (take i parts) → old ≤ℤ new → wide (wide (narrow part.pane.start) +ℤ pos 1) ≤ℤ new → All (λ (p : Part). p.pane.start <ℤ new) (take (i + 1) parts)
before_more parts i part old new h is fits all le reached =
    let word = fits_word part.pane.start fits in
    let low = word.above in
    let high = word.below in
    let near : IsNear (part.pane.start +ℤ pos 1) = record { above = omega (arith, ints, low); below = omega (arith, ints, high) } in
    let sum : wide (wide (narrow part.pane.start) +ℤ pos 1) ≡ part.pane.start +ℤ pos 1 = ap (λ (z : ℤ). wide (z +ℤ pos 1)) (widened part.pane.start fits) ∙ wide_is _ near in
    let here : part.pane.start <ℤ new = omega (arith, ints, sum, reached) in
    All-more (λ (p : Part). p.pane.start <ℤ new) parts i part h
    (All-weaker (λ (p : Part). p.pane.start <ℤ old) (λ (p : Part). p.pane.start <ℤ new) (λ p lt. omega (arith, ints, lt, le)) (take i parts) all)
    (subst (λ (p : Part). p.pane.start <ℤ new) is here)

-- ---- the first window that does not fire by a watermark

-- a window that fires begins at this at most
abbrev last_due : WindowSpec → ℤ → ℤ
last_due w mark = (mark -ℤ w.size) +ℤ pos 1

abbrev pub undue : WindowSpec → ℤ → ℤ
undue w mark = last_start_by w (last_due w mark) +ℤ w.slide

pub due_before : (w : WindowSpec) (mark s : ℤ) → IsWindow w → is_due w mark s ≡ true → int_lt s (undue w mark) ≡ true
due_before w mark s range h =
    let near = (last_start w (last_due w mark) range.slides).near in
    grind (arith, ints, near, h)

pub start_due : (w : WindowSpec) (mark s : ℤ) → IsWindow w → is_start w s ≡ true → int_lt s (undue w mark) ≡ true → is_due w mark s ≡ true
start_due w mark s range is h = by_lt_z (last_due w mark) s
    (λ lt. let next = next_start w (last_due w mark) s range.slides is lt in absurd (grind (arith, ints, next, h)))
    (λ le. grind (arith, ints, le))

-- the same as the code computes it
module _ (w : WindowSpec) (mark : ℤ) (range : IsWindow w) (fits : FitsSigned w64 mark) where
  size_is : wide (narrow w.size) ≡ w.size
  size_is =
      let some = range.sized in
      let few = range.size_small in
      widened w.size (small_fits w.size (omega (arith, ints, some)) (omega (arith, ints, few)))

  slide_is : wide (narrow w.slide) ≡ w.slide
  slide_is =
      let some = range.slides in
      let few = range.slide_small in
      widened w.slide (small_fits w.slide (omega (arith, ints, some)) (omega (arith, ints, few)))

  offset_is : wide (narrow w.offset) ≡ w.offset
  offset_is =
      let low = range.offset_above in
      let high = range.offset_below in
      let few = range.slide_small in
      widened w.offset (small_fits w.offset (omega (arith, ints, low, few)) (omega (arith, ints, high, few)))

  abbrev machine_last : ℤ
  machine_last = wide (wide (wide (narrow mark) -ℤ wide (narrow w.size)) +ℤ pos 1)

  last_is : machine_last ≡ last_due w mark
  last_is =
      let word = fits_word mark fits in
      let low = word.above in
      let high = word.below in
      let some = range.sized in
      let few = range.size_small in
      let first : IsNear (mark -ℤ w.size) = record { above = omega (arith, ints, low, few); below = omega (arith, ints, high, some) } in
      let second : IsNear (last_due w mark) = record { above = omega (arith, ints, low, few); below = omega (arith, ints, high, some) } in
      let inner : wide (wide (narrow mark) -ℤ wide (narrow w.size)) ≡ mark -ℤ w.size = (λ i. wide (widened mark fits i -ℤ size_is i)) ∙ wide_is (mark -ℤ w.size) first in
      ap (λ (z : ℤ). wide (z +ℤ pos 1)) inner ∙ wide_is (last_due w mark) second

  module _ (rest : ℤ) (is : rest ≡ int_rem_euclid (wide (machine_last -ℤ wide (narrow w.offset))) (wide (narrow w.slide))) where
    rest_is : rest ≡ int_rem_euclid (last_due w mark -ℤ w.offset) w.slide
    rest_is =
        let word = fits_word mark fits in
        let low = word.above in
        let high = word.below in
        let some = range.sized in
        let few = range.size_small in
        let offset_low = range.offset_above in
        let offset_high = range.offset_below in
        let slide_few = range.slide_small in
        let near : IsNear (last_due w mark -ℤ w.offset) = record {
          above = omega (arith, ints, low, few, offset_high, slide_few);
          below = omega (arith, ints, high, some, offset_low, slide_few);
        } in
        let left : wide (machine_last -ℤ wide (narrow w.offset)) ≡ last_due w mark -ℤ w.offset = (λ i. wide (last_is i -ℤ offset_is i)) ∙ wide_is (last_due w mark -ℤ w.offset) near in
        is ∙ (λ i. int_rem_euclid (left i) (slide_is i))

    -- the remainder is less than a slide
    record IsRest : Type 0 where
      least : pos 0 ≤ℤ rest
      most : rest <ℤ w.slide

    rest_range : IsRest
    rest_range =
        let reached = last_start w (last_due w mark) range.slides in
        let before = reached.before in
        let near = reached.near in
        let e = rest_is in
        record { least = omega (arith, ints, before, e); most = omega (arith, ints, near, e) }

    abbrev machine_start : ℤ
    machine_start = wide (machine_last -ℤ wide rest)

    abbrev pub machine_undue : ℤ
    machine_undue = wide (machine_start +ℤ wide (narrow w.slide))

    start_near : IsNear (last_due w mark -ℤ rest) × IsNear ((last_due w mark -ℤ rest) +ℤ w.slide) × IsNear rest
    start_near =
        let word = fits_word mark fits in
        let low = word.above in
        let high = word.below in
        let some = range.sized in
        let few = range.size_small in
        let slide_some = range.slides in
        let slide_few = range.slide_small in
        let least = rest_range.least in
        let most = rest_range.most in (
          record { above = omega (arith, ints, low, few, most, slide_few); below = omega (arith, ints, high, some, least) },
          record { above = omega (arith, ints, low, few, most, slide_few, slide_some); below = omega (arith, ints, high, some, least, slide_few) },
          record { above = omega (arith, ints, least); below = omega (arith, ints, most, slide_few) },
        )

    inner_is : machine_last -ℤ wide rest ≡ last_due w mark -ℤ rest
    inner_is = λ i. last_is i -ℤ wide_is rest start_near.2 i

    start_is : machine_start ≡ last_due w mark -ℤ rest
    start_is = ap wide inner_is ∙ wide_is _ start_near.0

    outer_is : machine_start +ℤ wide (narrow w.slide) ≡ (last_due w mark -ℤ rest) +ℤ w.slide
    outer_is = λ i. start_is i +ℤ slide_is i

    pub undue_is : machine_undue ≡ undue w mark
    undue_is = ap wide outer_is ∙ wide_is _ start_near.1 ∙ ap (λ (r : ℤ). (last_due w mark -ℤ r) +ℤ w.slide) rest_is

    pub start_fits : FitsSigned w128 (machine_last -ℤ wide rest)
    start_fits = subst (FitsSigned w128) (sym inner_is) (near_fits _ start_near.0)

    pub undue_fits : FitsSigned w128 (machine_start +ℤ wide (narrow w.slide))
    undue_fits = subst (FitsSigned w128) (sym outer_is) (near_fits _ start_near.1)

-- ---- the windows of a time that are opened

both_hold : (x y : Bool) → (x && y) ≡ true → (x ≡ true) × (y ≡ true)
both_hold true y h = (refl, h)
both_hold false y h = absurd cc

-- a window that has a time has the start of the time's slice, which is at most the time
record HasTime (w : WindowSpec) (t s : ℤ) : Type 0 where
  before : s ≤ℤ slice_start w t
  reached : slice_start w t ≤ℤ t
  within : t <ℤ (s +ℤ w.size)

has_time : (w : WindowSpec) (t s : ℤ) → pos 1 ≤ℤ w.slide → is_window_of w t s ≡ true → HasTime w t s
has_time w t s slides window =
    let is : is_start w s ≡ true = (both_hold (is_start w s) (is_within w s t) window).0 in
    let has : is_within w s t ≡ true = (both_hold (is_start w s) (is_within w s t) window).1 in
    let first : is_within w s (slice_start w t) ≡ true = sym (windows_have_whole_slices w s t slides is) ∙ has in
    record {
      before = grind (arith, ints, first);
      reached = (slices_start_at_boundaries w t slides).reached;
      within = grind (arith, ints, has);
    }

in_window : (w : WindowSpec) (s b : ℤ) → s ≤ℤ b → b <ℤ (s +ℤ w.size) → is_within w s b ≡ true
in_window w s b h k = grind (arith, ints)

has_there : (w : WindowSpec) (s b : ℤ) (xs : List Slice) → has_start b xs ≡ true → is_within w s b ≡ true → has_slice w s xs ≡ true
has_there w s b [] h k = absurd cc
has_there w s b (x ∷ xs) h k = elim (or_cases (int_eq b x.start) (has_start b xs) h) [
  | inl same ↦
      let at : b ≡ x.start = grind (arith, ints, same) in
      or_left (is_within w s x.start) (has_slice w s xs) (ap (is_within w s) (sym at) ∙ k)
  | inr later ↦ or_right (is_within w s x.start) (has_slice w s xs) (has_there w s b xs later k)
]

-- it has the slice of the time, one before that which does not start before the window, and one after it that starts
-- before the window's end
pub has_at : (w : WindowSpec) (t s : ℤ) (xs : List Slice) → pos 1 ≤ℤ w.slide → is_window_of w t s ≡ true → has_start (slice_start w t) xs ≡ true → has_slice w s xs ≡ true
has_at w t s xs slides window has =
    let time = has_time w t s slides window in
    let reached = time.reached in
    let within = time.within in
    has_there w s (slice_start w t) xs has (in_window w s _ time.before (omega (arith, ints, reached, within)))

has_below : (w : WindowSpec) (t s b : ℤ) (xs : List Slice) → pos 1 ≤ℤ w.slide → is_window_of w t s ≡ true → (b <ℤ slice_start w t) × (has_start b xs ≡ true) → s ≤ℤ b → has_slice w s xs ≡ true
has_below w t s b xs slides window below le =
    let time = has_time w t s slides window in
    let reached = time.reached in
    let within = time.within in
    let lt = below.0 in
    has_there w s b xs below.1 (in_window w s b le (omega (arith, ints, reached, within, lt)))

has_above : (w : WindowSpec) (t s b : ℤ) (xs : List Slice) → pos 1 ≤ℤ w.slide → is_window_of w t s ≡ true → (slice_start w t <ℤ b) × (has_start b xs ≡ true) → b <ℤ (s +ℤ w.size) → has_slice w s xs ≡ true
has_above w t s b xs slides window above lt =
    let time = has_time w t s slides window in
    let before = time.before in
    let gt = above.0 in
    has_there w s b xs above.1 (in_window w s b (omega (arith, ints, before, gt)) lt)

-- a key's panes at windows of a time that begin at `from` or later are open, or have slices
abbrev IsSeen : WindowSpec → ℤ → ℤ → List (ℤ × Vec ℤ) → List Slice → (ℤ → Bool) → Type 0
IsSeen w key from opened xs test = (q : Pane) → int_eq key q.key ≡ true → test q.start ≡ true → int_lt q.start from ≡ false → (has_open opened q || has_slice w q.start xs) ≡ true

-- those at windows that begin less than b before it
abbrev pub IsSeenTo : WindowSpec → ℤ → ℤ → ℤ → List (ℤ × Vec ℤ) → List Slice → ℕ → Type 0
IsSeenTo w t key from opened xs b = IsSeen w key from opened xs (is_reached w t b)

-- and those at all
abbrev pub AreSeen : WindowSpec → ℤ → ℤ → ℤ → List (ℤ × Vec ℤ) → List Slice → Type 0
AreSeen w t key from opened xs = IsSeen w key from opened xs (is_window_of w t)

-- the window operator's numbers and the time's remainder as the code walks by them
pub record Walk (w : WindowSpec) (t : ℤ) (n m rest : ℕ) : Type 0 where
  pub slides : pos 1 ≤ℤ w.slide
  pub slide : w.slide ≡ pos n
  pub size : w.size ≡ pos m
  pub some : 0 < n
  pub slide_small : n ≤ 2 ^ 40
  pub size_small : m ≤ 2 ^ 40
  pub rem : int_rem_euclid (t -ℤ w.offset) (pos n) ≡ pos rest
  pub low : rest < n

pub walk : (w : WindowSpec) (t : ℤ) (rest : ℕ) → IsWindow w → int_rem_euclid (t -ℤ w.offset) w.slide ≡ pos rest → Walk w t (held w.slide) (held w.size) rest
walk w t rest range is =
    let slide : w.slide ≡ pos (held w.slide) = positive_is w.slide (fits_window w.slide range.slides range.slide_small) range.slides in
    let size : w.size ≡ pos (held w.size) = positive_is w.size (fits_window w.size range.sized range.size_small) range.sized in
    let some : 0 < held w.slide = at_least_one w.slide (held w.slide) slide range.slides in
    let rem : int_rem_euclid (t -ℤ w.offset) (pos (held w.slide)) ≡ pos rest = ap (int_rem_euclid (t -ℤ w.offset)) (sym slide) ∙ is in
    let found : (k : ℕ) × (k < held w.slide) × (int_rem_euclid (t -ℤ w.offset) (pos (held w.slide)) ≡ pos k) = remainder (t -ℤ w.offset) (held w.slide) some in
    record {
      slides = range.slides;
      slide = slide;
      size = size;
      some = some;
      slide_small = at_most w.slide (held w.slide) (2 ^ 40) slide range.slide_small;
      size_small = at_most w.size (held w.size) (2 ^ 40) size range.size_small;
      rem = rem;
      low = subst (λ k. k < held w.slide) (pos_same found.0 rest (sym found.2 ∙ rem)) found.1;
    }

more_open : (a b s : Bool) → (a ≡ true → b ≡ true) → (a || s) ≡ true → (b || s) ≡ true
more_open a b s f h = elim (or_cases a s h) [ inl x ↦ or_left b s (f x) | inr y ↦ or_right b s y ]

-- what was open is still, where a pane is opened
pub put_kept : (o a b : Bool) → b ≡ (if o then true else a) → a ≡ true → b ≡ true
put_kept true a b is h = is
put_kept false a b is h = is ∙ h

-- where a pane of the key at a window of the time is opened, no other is
pub only_opened : (w : WindowSpec) (t key : ℤ) (n m rest : ℕ) (k : Walk w t n m rest) (old mid new : List (ℤ × Vec ℤ)) (p : Pane) (b : ℕ) → b % n ≡ rest → b < m → OpensOnly w key t old mid → p.start ≡ t -ℤ pos b → p.key ≡ key
    → ((q : Pane) → has_open new q ≡ (if is_pane p q then true else has_open mid q)) → OpensOnly w key t old new
only_opened w t key n m rest k old mid new p b e low only start key_is put q h = side (is_pane p q) refl
  where
    side : (o : Bool) → is_pane p q ≡ o → (has_open old q || (int_eq key q.key && is_window_of w t q.start)) ≡ true
    side true same =
        let at : (int_eq (t -ℤ pos b) q.start && int_eq key q.key) ≡ true = (λ i. int_eq (sym start i) q.start && int_eq (sym key_is i) q.key) ∙ same in
        let both = both_hold (int_eq (t -ℤ pos b) q.start) (int_eq key q.key) at in
        let reached = reached_more w t q.start b n m rest k.some k.slide k.size k.rem e low ∙ or_right (is_reached w t b q.start) (int_eq (t -ℤ pos b) q.start) both.0 in
        let window = (both_hold (is_window_of w t q.start) (int_lt (t -ℤ pos (b + n)) q.start) reached).0 in
        or_right (has_open old q) (int_eq key q.key && is_window_of w t q.start) (λ i. both.1 i && window i)
    side false other = only q (ap (λ o. if o then true else has_open mid q) (sym other) ∙ sym (put q) ∙ h)

module _ (w : WindowSpec) (t key from : ℤ) (xs : List Slice) (n m rest : ℕ) (k : Walk w t n m rest) where
  -- at first
  pub seen_none : (opened : List (ℤ × Vec ℤ)) → IsSeenTo w t key from opened xs rest
  seen_none opened q same reached late = absurd (true≢false (sym reached ∙ reached_none w t q.start n m rest k.some k.slide k.size k.rem k.low))

  -- one window more
  seen_more : (old new : List (ℤ × Vec ℤ)) (b : ℕ) → b % n ≡ rest → b < m → IsSeenTo w t key from old xs b → ((q : Pane) → has_open old q ≡ true → has_open new q ≡ true)
      → ((q : Pane) → int_eq key q.key ≡ true → is_window_of w t q.start ≡ true → int_eq (t -ℤ pos b) q.start ≡ true → (has_open new q || has_slice w q.start xs) ≡ true)
      → IsSeenTo w t key from new xs (b + n)
  seen_more old new b e low seen grows here q same reached late =
      elim (or_cases (is_reached w t b q.start) (int_eq (t -ℤ pos b) q.start) (sym (reached_more w t q.start b n m rest k.some k.slide k.size k.rem e low) ∙ reached)) [
        | inl before ↦ more_open (has_open old q) (has_open new q) (has_slice w q.start xs) (grows q) (seen q same before late)
        | inr begins ↦ here q same (both_hold (is_window_of w t q.start) (int_lt (t -ℤ pos (b + n)) q.start) reached).0 begins
      ]

  -- a pane that is opened
  pub seen_opened : (old new : List (ℤ × Vec ℤ)) (p : Pane) (b : ℕ) → b % n ≡ rest → b < m → IsSeenTo w t key from old xs b → p.start ≡ t -ℤ pos b → p.key ≡ key
      → ((q : Pane) → has_open new q ≡ (if is_pane p q then true else has_open old q)) → IsSeenTo w t key from new xs (b + n)
  seen_opened old new p b e low seen start key_is put =
      seen_more old new b e low seen (λ q. put_kept (is_pane p q) (has_open old q) (has_open new q) (put q))
      (λ q same window begins.
      let is : is_pane p q ≡ true = ap (λ s. int_eq s q.start && int_eq p.key q.key) start ∙ (λ i. begins i && int_eq (key_is i) q.key) ∙ same in
      or_left (has_open new q) (has_slice w q.start xs) (put q ∙ ap (λ o. if o then true else has_open old q) is))

  -- one that has slices
  pub seen_kept : (opened : List (ℤ × Vec ℤ)) (b : ℕ) (above : ℤ) → b % n ≡ rest → b < m → IsSeenTo w t key from opened xs b
      → (slice_start w t <ℤ above) × (has_start above xs ≡ true) → above <ℤ ((t -ℤ pos b) +ℤ w.size) → IsSeenTo w t key from opened xs (b + n)
  seen_kept opened b above e low seen has less =
      seen_more opened opened b e low seen (λ q h. h)
      (λ q same window begins.
      let at : t -ℤ pos b ≡ q.start = grind (arith, ints, begins) in
      or_right (has_open opened q) (has_slice w q.start xs) (has_above w t q.start above xs k.slides window has (subst (λ s. above <ℤ (s +ℤ w.size)) at less)))

  -- in the end all are seen
  pub seen_all : (opened : List (ℤ × Vec ℤ)) (b : ℕ) → m ≤ b → IsSeenTo w t key from opened xs b → AreSeen w t key from opened xs
  seen_all opened b high seen q same window late = seen q same (reached_all w t q.start b n m rest k.some k.slide k.size k.rem high ∙ window) late

-- those not reached begin some way before the time
not_reached : (w : WindowSpec) (t s : ℤ) (b : ℕ) → is_window_of w t s ≡ true → is_reached w t b s ≡ false → s ≤ℤ (t -ℤ pos b)
not_reached w t s b window none =
    let first : int_lt (t -ℤ pos b) s ≡ false = ap (λ x. x && int_lt (t -ℤ pos b) s) (sym window) ∙ none in
    grind (arith, ints, first)

-- all are seen where those that are not reached begin before `from` or have a slice
module _ (w : WindowSpec) (t key from : ℤ) (xs : List Slice) (opened : List (ℤ × Vec ℤ)) (b : ℕ) (seen : IsSeenTo w t key from opened xs b) where
  seen_before : ((s : ℤ) → is_window_of w t s ≡ true → int_lt s from ≡ false → s ≤ℤ (t -ℤ pos b) → has_slice w s xs ≡ true) → AreSeen w t key from opened xs
  seen_before f q same window late = by_case (is_reached w t b q.start) refl
    where
      by_case : (x : Bool) → is_reached w t b q.start ≡ x → (has_open opened q || has_slice w q.start xs) ≡ true
      by_case true reached = seen q same reached late
      by_case false not_yet = or_right (has_open opened q) (has_slice w q.start xs) (f q.start window late (not_reached w t q.start b window not_yet))

  pub seen_from : (t -ℤ pos b) <ℤ from → AreSeen w t key from opened xs
  seen_from lt = seen_before (λ s window late le. absurd (grind (arith, ints, late, le, lt)))

  pub seen_below : (below : ℤ) → pos 1 ≤ℤ w.slide → (below <ℤ slice_start w t) × (has_start below xs ≡ true) → (t -ℤ pos b) ≤ℤ below → AreSeen w t key from opened xs
  seen_below below slides has le = seen_before (λ s window late before. has_below w t s below xs slides window has (omega (arith, ints, before, le)))

-- a test of a value that there is
pub of_some : {X : Type 0} (o : Option X) (result : Bool) (P : X → Type 0) (test : X → Bool) → MatchOption o (result ≡ false) P → ((x : X) → P x → result ≡ test x) → result ≡ true → (x : X) × (o ≡ Some x) × (test x ≡ true)
of_some None result P test h f is = absurd (true≢false (sym is ∙ h))
of_some (Some x) result P test h f is = (x, refl, sym (f x h) ∙ is)

pub of_none_or : {X : Type 0} (o : Option X) (result : Bool) (P : X → Type 0) (test : X → Bool) → MatchOption o (IsTrue result) P → ((x : X) → P x → result ≡ test x) → result ≡ false → (x : X) × (o ≡ Some x) × (test x ≡ false)
of_none_or None true P test h f is = absurd (true≢false is)
of_none_or None false P test h f is = absurd cc
of_none_or (Some x) result P test h f is = (x, refl, sym (f x h) ∙ is)

pub at_some : {X : Type 0} (o : Option X) (x : X) (P : X → Type 0) → IfSome o P → o ≡ Some x → P x
at_some {X = X} o x P h is = subst (λ (y : Option X). IfSome y P) is h

-- ---- the numbers as the code computes them

pub from_is : (from : ℤ) → FitsSigned w128 from → wide from ≡ from
from_is from fits = to_z-of_z w128 from fits

pub back_fits : (t : ℤ) (b : ℕ) → FitsSigned w64 t → IsTime t → b ≤ 2 ^ 40 → FitsSigned w64 (narrow t -ℤ to_z w64 b)
back_fits t b fits time small =
    let back : to_z w64 b ≡ pos b = to_z_pos w64 b (omega arith) in
    subst (FitsSigned w64) (sym (λ i. to_z-of_z w64 t fits i -ℤ back i)) (fits_start t b time small)

module _ (w : WindowSpec) (t start : ℤ) (b : ℕ) (range : IsWindow w) (time : IsTime t) (small : b ≤ 2 ^ 40) (is : start ≡ t -ℤ pos b) where
  sum_is : start +ℤ narrow w.size ≡ (t -ℤ pos b) +ℤ w.size
  sum_is = λ i. is i +ℤ to_z-of_z w64 w.size (fits_window w.size range.sized range.size_small) i

  sum_fits : FitsSigned w64 ((t -ℤ pos b) +ℤ w.size)
  sum_fits =
      let some = range.sized in
      let few = range.size_small in
      grind (arith, ints, some, few, small)

  pub end_fits : FitsSigned w64 (start +ℤ narrow w.size)
  end_fits = subst (FitsSigned w64) (sym sum_is) sum_fits

  pub end_is : narrow (start +ℤ narrow w.size) ≡ (t -ℤ pos b) +ℤ w.size
  end_is = ap narrow sum_is ∙ to_z-of_z w64 _ sum_fits

  pub before_from : (from : ℤ) → int_lt (wide start) from ≡ true → (t -ℤ pos b) <ℤ from
  before_from from lt =
      let word = fits_word (t -ℤ pos b) (fits_start t b time small) in
      let same : wide start ≡ t -ℤ pos b = ap wide is ∙ wide_is (t -ℤ pos b) (word_near (t -ℤ pos b) word) in
      let less : int_lt (t -ℤ pos b) from ≡ true = ap (λ (z : ℤ). int_lt z from) (sym same) ∙ lt in
      grind (arith, ints, less)

  pub at_below : (below : ℤ) → FitsSigned w64 below → int_le start (narrow below) ≡ true → (t -ℤ pos b) ≤ℤ below
  at_below below fits le =
      let less : int_le (t -ℤ pos b) below ≡ true = (λ i. int_le (sym is i) (sym (to_z-of_z w64 below fits) i)) ∙ le in
      grind (arith, ints, less)

  pub above_in : (above : ℤ) → FitsSigned w64 above → int_le (narrow (start +ℤ narrow w.size)) (narrow above) ≡ false → above <ℤ ((t -ℤ pos b) +ℤ w.size)
  above_in above fits le =
      let less : int_le ((t -ℤ pos b) +ℤ w.size) above ≡ false = (λ i. int_le (sym end_is i) (sym (to_z-of_z w64 above fits) i)) ∙ le in
      grind (arith, ints, less)
