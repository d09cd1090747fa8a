use Rattle.std.proofs.Common.{◌≡◌, ◌∙◌, ◌+◌, ◌*◌, ◌^◌, ◌<◌, ◌≤◌, ◌++◌, ◌∷◌, [], T, length, map, Some, pos, sym, ap, subst, arith, rules, nat_abs, Fits, FitsSigned, to_z, of_z}
use lib.Signed.{non_neg}
use Rattle.std.specs.Int.{w64}
use Rattle.std.proofs.lemmas.List.{get_or_default}
use Rattle.std.specs.Option.{is_some}
use Rattle.std.proofs.lemmas.Int.{ints}
use Rattle.aggregates.specs.Kinds.{AccData, IsAcc, kind_of}
use Rattle.place_words.specs.Words.{width, word, numbers_at, acc_in}
use Rattle.window_state.specs.Windows.{acc_at}
use Rattle.window_state.specs.Places.{PlacesData}
use Rattle.window_state.proofs.Placed.{kinds_of, cast_fits, on_ok, read_acc}
use Rattle.window_state.proofs.InOrder.{stands_in}
use Rattle.window_state.proofs.places.Places.push_part.Goals as goal

pub overflow_cast-count : goal.overflow_cast-count
overflow_cast-count c =
    let s = c.self.inside in
    let at = c.args.placed.place * s.stride in
    let st = stands_in s c.args.self.now c.args.placed c.self.invariant c.self.view_is c.requires.place in
    let here : c.index.result.now ≡ word s.words.items at = c.index.ensures ∙ get_or_default s.words.items at c.index.result.now (pos 0) (omega (arith, st.room)) in
    let read : FitsSigned w64 c.index.result.now = search rules in
    let counted = (c.self.invariant.sound c.args.placed.pane (acc_in (kinds_of s.window) s.words.items at) st.here).counted in
    subst (λ z. T (non_neg (to_z w64 (of_z w64 z))) × Fits w64 (nat_abs (to_z w64 (of_z w64 z)))) (sym here) (cast_fits (word s.words.items at) (subst (FitsSigned w64) here read) counted)

pub overflow_mul-at : goal.overflow_mul-at
overflow_mul-at c =
    let s = c.self.inside in
    let st = stands_in s c.args.self.now c.args.placed c.self.invariant c.self.view_is c.requires.place in
    let few : length s.words.items < 2 ^ 63 = search rules in
    grind (arith, ints, st.room, few)

pub index-requires : goal.index-requires
index-requires c =
    let s = c.self.inside in
    let st = stands_in s c.args.self.now c.args.placed c.self.invariant c.self.view_is c.requires.place in
    omega (arith, st.room)

pub overflow_add-at : goal.overflow_add-at
overflow_add-at c =
    let s = c.self.inside in
    let st = stands_in s c.args.self.now c.args.placed c.self.invariant c.self.view_is c.requires.place in
    let few : length s.words.items < 2 ^ 63 = search rules in
    grind (arith, ints, st.room, few)

pub copy_narrow-requires-clause-words : goal.copy_narrow-requires-clause-words
copy_narrow-requires-clause-words c =
    let s = c.self.inside in
    let st = stands_in s c.args.self.now c.args.placed c.self.invariant c.self.view_is c.requires.place in
    let room : c.args.placed.place * s.stride + 1 + width (kinds_of s.window) ≤ length s.words.items = omega (arith, st.room) in
    subst (λ l. c.args.placed.place * s.stride + 1 + width (map kind_of l) ≤ length c.as_slice.result.now) (sym c.as_slice-aggregates.ensures)
    (subst (λ l. c.args.placed.place * s.stride + 1 + width (kinds_of s.window) ≤ length l) (sym c.as_slice.ensures.value) room)

pub push_entry-requires : goal.push_entry-requires
push_entry-requires c =
    let s = c.self.inside in
    let at = c.args.placed.place * s.stride in
    let st = stands_in s c.args.self.now c.args.placed c.self.invariant c.self.view_is c.requires.place in
    let here : c.index.result.now ≡ word s.words.items at = c.index.ensures ∙ get_or_default s.words.items at c.index.result.now (pos 0) (omega (arith, st.room)) in
    let read : FitsSigned w64 c.index.result.now = search rules in
    let sound = c.self.invariant.sound c.args.placed.pane (acc_in (kinds_of s.window) s.words.items at) st.here in
    let kinds = c.requires.kinds ∙ ap (λ (v : PlacesData). kinds_of v.window) (sym c.self.view_is) in
    let all = c.copy_narrow.ensures.copied c.if-copy_narrow.true ∙ (λ t. numbers_at (nat_abs (to_z w64 (of_z w64 c.index.result.now))) (map kind_of (c.as_slice-aggregates.ensures t)) (c.as_slice.ensures.value t) (at + 1)) in
    subst IsAcc (read_acc s at c.index.result.now _ _ kinds here read sound.counted all) sound

pub returns-then-copy_narrow-clause-pushed : goal.returns-then-copy_narrow-clause-pushed
returns-then-copy_narrow-clause-pushed c =
    let s = c.self.inside in
    let p = c.args.placed.pane in
    let at = c.args.placed.place * s.stride in
    let st = stands_in s c.args.self.now c.args.placed c.self.invariant c.self.view_is c.requires.place in
    let here : c.index.result.now ≡ word s.words.items at = c.index.ensures ∙ get_or_default s.words.items at c.index.result.now (pos 0) (omega (arith, st.room)) in
    let read : FitsSigned w64 c.index.result.now = search rules in
    let sound = c.self.invariant.sound p (acc_in (kinds_of s.window) s.words.items at) st.here in
    let kinds = c.requires.kinds ∙ ap (λ (v : PlacesData). kinds_of v.window) (sym c.self.view_is) in
    let all = c.copy_narrow.ensures.copied c.if-copy_narrow.true ∙ (λ t. numbers_at (nat_abs (to_z w64 (of_z w64 c.index.result.now))) (map kind_of (c.as_slice-aggregates.ensures t)) (c.as_slice.ensures.value t) (at + 1)) in
    let is = read_acc s at c.index.result.now _ _ kinds here read sound.counted all in
    on_ok c.push_entry.result (λ ok a there. ok ∙ (λ t. record {
      kinds = c.args.parts.now.kinds;
      parts = c.args.parts.now.parts ++ record { pane = p; acc = (sym is ∙ one (sym st.here ∙ ap (λ (v : PlacesData). acc_at v.entries p) c.self.view_is ∙ there)) t } ∷ [];
    })) c.push_entry.ensures.ok
  where
    one : {x y : AccData} → Some x ≡ Some y → x ≡ y
    one h = cc

pub returns-then-copy_narrow-clause-there : goal.returns-then-copy_narrow-clause-there
returns-then-copy_narrow-clause-there c =
    let s = c.self.inside in
    let st = stands_in s c.args.self.now c.args.placed c.self.invariant c.self.view_is c.requires.place in
    ap (λ (v : PlacesData). is_some (acc_at v.entries c.args.placed.pane)) (sym c.self.view_is) ∙ ap is_some st.here

pub returns-then-copy_narrow-clause-sound : goal.returns-then-copy_narrow-clause-sound
returns-then-copy_narrow-clause-sound c a there =
    let s = c.self.inside in
    let window = ap (λ (v : PlacesData). v.window) c.self.view_is in
    let here = ap (λ (v : PlacesData). acc_at v.entries c.args.placed.pane) c.self.view_is ∙ there in record {
      kinds = c.self.invariant.windows.kinds c.args.placed.pane a here ∙ ap kinds_of window;
      start = c.self.invariant.windows.starts c.args.placed.pane a here;
    }
