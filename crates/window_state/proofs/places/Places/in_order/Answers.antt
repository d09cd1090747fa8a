use Rattle.std.proofs.Common.{◌≡◌, ◌<◌, ◌∙◌, Some, get_or, length, List, pos, sym, ap, subst, arith, rules}
use Rattle.std.specs.List.{All, IsDistinct}
use Rattle.std.specs.Map.{keys_of}
use Rattle.std.specs.Option.{is_some}
use Rattle.std.specs.Prelude.{slice_get}
use Rattle.std.proofs.lemmas.List.{take_all}
use Rattle.std.proofs.lemmas.List.Elements.{All-push}
use Rattle.std.proofs.lemmas.List.Sorted.{answers_always, All-permutation}
use Rattle.std.proofs.lemmas.Option.{slice_get-get_or}
use Rattle.plan_model.specs.declared.spec.Pane.{Pane}
use Rattle.window_state.specs.declared.places.Placed.{Placed}
use Rattle.window_state.specs.Places.{PlacesData}
use Rattle.window_state.specs.Placing.{panes_placed, IsPlaceIn}
use Rattle.window_state.specs.Windows.{acc_at, has_pane, is_pane}
use Rattle.window_state.proofs.InOrder.{next_placed, same_placed, sorted_placed}
use Rattle.window_state.proofs.Placed.{kinds_of, distinct_panes}
use Rattle.window_state.proofs.Sorted.{any_pane}
use Rattle.window_state.proofs.Spread.{found-any, keys-entries}
use Rattle.window_state.proofs.places.Places.in_order.Goals as goal

abbrev IsAt : List Pane → Placed → Type 0
IsAt ps it = slice_get ps it.place ≡ Some it.pane

pub loop-place-preserved : goal.loop-place-preserved
loop-place-preserved c =
    let ps = c.as_slice-pane-items.result.now in
    let i = c.loop-place.place in
    let p : Pane = get_or ps i (record { start = pos 0; key = pos 0 }) in
    let low : i < length ps = omega (arith, c.loop-place-test.true, c.loop-place.auto.place-end) in
    record {
      panes = next_placed ps c.loop-place.placed.items c.push.new.self.items i _ low c.in_ok-push.ensures.items c.loop-place.invariant.panes;
      places = subst (All (IsAt ps)) (sym c.in_ok-push.ensures.items)
          (All-push (IsAt ps) c.loop-place.placed.items (record { pane = p; place = i }) c.loop-place.invariant.places (slice_get-get_or ps i _ low));
    }

pub returns-clause-ordered : goal.returns-clause-ordered
returns-clause-ordered c =
    let s = c.self.inside in
    let before = c.loop-place.placed.items in
    let all : panes_placed before ≡ s.panes.keys = c.loop-place.invariant.panes ∙ take_all c.loop-place.place c.as_slice-pane-items.result.now (omega (arith, c.loop-place.auto.place-end, c.loop-place-test.false)) ∙ c.as_slice-pane-items.ensures.keys in
    let distinct = subst (IsDistinct is_pane) (sym all) (distinct_panes s.window s.stride s.panes.keys s.words.items c.self.invariant) in
    sorted_placed before c.sort_unstable_by_key.new.self.items distinct c.sort_unstable_by_key.ensures.permutation (c.sort_unstable_by_key.ensures.sorted (λ it. it.pane) (answers_always _ _ _ (λ f a r g h. search rules)))

pub returns-clause-those : goal.returns-clause-those
returns-clause-those c = λ q.
    let s = c.self.inside in
    let before = c.loop-place.placed.items in
    let all : panes_placed before ≡ s.panes.keys = c.loop-place.invariant.panes ∙ take_all c.loop-place.place c.as_slice-pane-items.result.now (omega (arith, c.loop-place.auto.place-end, c.loop-place-test.false)) ∙ c.as_slice-pane-items.ensures.keys in
    same_placed before c.sort_unstable_by_key.new.self.items q c.sort_unstable_by_key.ensures.permutation ∙ ap (λ l. has_pane l q) all ∙ any_pane s.panes.keys q
    ∙ sym (found-any (kinds_of s.window) s.words.items 0 s.panes.keys q) ∙ ap (λ (v : PlacesData). is_some (acc_at v.entries q)) c.self.view_is

pub returns-clause-places : goal.returns-clause-places
returns-clause-places c =
    let s = c.self.inside in
    let keys : c.as_slice-pane-items.result.now ≡ keys_of c.args.self.now.entries =
    c.as_slice-pane-items.ensures.keys ∙ sym (keys-entries (kinds_of s.window) s.words.items 0 s.panes.keys) ∙ ap (λ (v : PlacesData). keys_of v.entries) c.self.view_is in
    All-permutation (IsPlaceIn c.args.self.now.entries) _ _ c.sort_unstable_by_key.ensures.permutation (subst (λ l. All (IsAt l) c.loop-place.placed.items) keys c.loop-place.invariant.places)
