use Rattle.std.proofs.Common.{◌≡◌, ◌∙◌, ◌+◌, ◌-◌, ◌*◌, ◌≤◌, ℤ, false, length, take, get_or, None, sym, ap, arith, if◌then◌else◌}
use Rattle.std.specs.List.{list_any, CopiedTo, SameBelow, SameFrom}
use Rattle.std.specs.Option.{is_some}
use Rattle.std.proofs.lemmas.List.{with_items_is}
use Rattle.window_state.specs.Windows.{acc_at, is_pane}
use Rattle.place_words.specs.Words.{entries_in}
use Rattle.window_state.specs.Places.{PlacesData}
use Rattle.window_state.proofs.Spread.{takes_place}
use Rattle.window_state.proofs.Placed.{kinds_of, its_place, no_place, distinct_panes, kept_taken, none_taken}
use Rattle.window_state.proofs.places.Places.remove.Goals as goal

pub overflow_mul-place : goal.overflow_mul-place
overflow_mul-place c =
    let s = c.self.inside in
    let st = its_place s.window s.stride s.panes.keys s.words.items c.args.pane.now c.in-Some.place c.self.invariant (sym c.in-Some.ensures.index) in
    omega (arith, st.room, c.as_mut_slice-words.ensures.len, ap (length {A = ℤ}) c.as_mut_slice-words.ensures.value)

pub copy_within-requires-clause-dest_in_bounds : goal.copy_within-requires-clause-dest_in_bounds
copy_within-requires-clause-dest_in_bounds c =
    let s = c.self.inside in
    let st = its_place s.window s.stride s.panes.keys s.words.items c.args.pane.now c.in-Some.place c.self.invariant (sym c.in-Some.ensures.index) in
    omega (arith, st.room, c.self.invariant.stride, c.len.ensures, c.as_mut_slice-words.ensures.len, ap (length {A = ℤ}) c.as_mut_slice-words.ensures.value)

pub invariant_of-self : goal.invariant_of-self
invariant_of-self c =
    let s = c.self.inside in
    let w = s.window in
    let n = s.stride in
    let ks = kinds_of w in
    let ws = s.words.items in
    let us = c.copy_within.new.self in
    let vs = c.truncate.new.self.items in
    let qs = c.swap_remove_full.new.self.keys in
    let p = c.args.pane.now in
    let i = c.in-Some.place in
    let index = sym c.in-Some.ensures.index in
    let st = its_place w n s.panes.keys ws p i c.self.invariant index in
    let lent = c.as_mut_slice-words.ensures.value in
    let many : c.len.result ≡ length ws = c.len.ensures ∙ sym c.as_mut_slice-words.ensures.len ∙ ap (length {A = ℤ}) lent in
    let room : i * n + n ≤ length ws = omega (arith, st.room, c.self.invariant.stride) in
    let all : length c.as_mut_slice-words.result.now ≡ length ws = ap (length {A = ℤ}) lent in
    let from : c.len.result - n ≡ length ws - n = ap (λ l. l - n) many in
    let copied : CopiedTo ws us (length ws - n) (i * n) n = λ k d low high.
    c.copy_within.ensures.by_index.0 k d low (omega (arith, high, all, from, room)) ∙ (λ t. get_or (lent t) (from t + (k - i * n)) d) in
    let below : SameBelow ws us (i * n) = λ k d l. c.copy_within.ensures.by_index.1 k d l ∙ (λ t. get_or (lent t) k d) in
    let above : SameFrom ws us (i * n + n) = λ k d l. c.copy_within.ensures.by_index.2 k d (omega (arith, l, all, from, room)) ∙ (λ t. get_or (lent t) k d) in
    let whole : length us ≡ length ws = c.copy_within.ensures.len ∙ all in
    let got = with_items_is s.words us (c.copy_within.ensures.len ∙ c.as_mut_slice-words.ensures.len) in
    let cut : vs ≡ take (length ws - n) us = c.truncate.ensures.items ∙ (λ t. take (from t) (got t)) in
    let taken = takes_place ks ws us vs s.panes.keys qs n p i c.self.invariant.stride c.self.invariant.len (distinct_panes w n s.panes.keys ws c.self.invariant) index c.swap_remove_full.ensures.keys cut whole copied below above in
    kept_taken w n s.panes.keys qs ws us vs p c.self.invariant c.in-Some.ensures.len c.swap_remove_full.ensures.unique cut whole taken

pub returns-in-Some-clause-taken : goal.returns-in-Some-clause-taken
returns-in-Some-clause-taken c = λ q.
    let s = c.self.inside in
    let w = s.window in
    let n = s.stride in
    let ks = kinds_of w in
    let ws = s.words.items in
    let us = c.copy_within.new.self in
    let vs = c.truncate.new.self.items in
    let qs = c.swap_remove_full.new.self.keys in
    let p = c.args.pane.now in
    let i = c.in-Some.place in
    let index = sym c.in-Some.ensures.index in
    let st = its_place w n s.panes.keys ws p i c.self.invariant index in
    let lent = c.as_mut_slice-words.ensures.value in
    let many : c.len.result ≡ length ws = c.len.ensures ∙ sym c.as_mut_slice-words.ensures.len ∙ ap (length {A = ℤ}) lent in
    let room : i * n + n ≤ length ws = omega (arith, st.room, c.self.invariant.stride) in
    let all : length c.as_mut_slice-words.result.now ≡ length ws = ap (length {A = ℤ}) lent in
    let from : c.len.result - n ≡ length ws - n = ap (λ l. l - n) many in
    let copied : CopiedTo ws us (length ws - n) (i * n) n = λ k d low high.
    c.copy_within.ensures.by_index.0 k d low (omega (arith, high, all, from, room)) ∙ (λ t. get_or (lent t) (from t + (k - i * n)) d) in
    let below : SameBelow ws us (i * n) = λ k d l. c.copy_within.ensures.by_index.1 k d l ∙ (λ t. get_or (lent t) k d) in
    let above : SameFrom ws us (i * n + n) = λ k d l. c.copy_within.ensures.by_index.2 k d (omega (arith, l, all, from, room)) ∙ (λ t. get_or (lent t) k d) in
    let whole : length us ≡ length ws = c.copy_within.ensures.len ∙ all in
    let got = with_items_is s.words us (c.copy_within.ensures.len ∙ c.as_mut_slice-words.ensures.len) in
    let cut : vs ≡ take (length ws - n) us = c.truncate.ensures.items ∙ (λ t. take (from t) (got t)) in
    let taken = takes_place ks ws us vs s.panes.keys qs n p i c.self.invariant.stride c.self.invariant.len (distinct_panes w n s.panes.keys ws c.self.invariant) index c.swap_remove_full.ensures.keys cut whole copied below above in
    taken q ∙ ap (λ (v : PlacesData). if is_pane p q then None else acc_at v.entries q) c.self.view_is

pub returns-in_default-clause-taken : goal.returns-in_default-clause-taken
returns-in_default-clause-taken c = λ q.
    let s = c.self.inside in
    let ks = kinds_of s.window in
    let p = c.args.pane.now in
    let none : list_any (is_pane p) s.panes.keys ≡ false = sym c.swap_remove_full.ensures.found ∙ ap is_some c.in_default.is in
    ap (λ ps. acc_at (entries_in ks s.words.items 0 ps) q) c.in_default.ensures.unchanged
    ∙ none_taken (entries_in ks s.words.items 0 s.panes.keys) p q (no_place ks s.words.items s.panes.keys p none)
    ∙ ap (λ (v : PlacesData). if is_pane p q then None else acc_at v.entries q) c.self.view_is
