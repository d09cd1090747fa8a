use Rattle.std.proofs.Common.{◌≡◌, ◌∙◌, ◌+◌, ◌*◌, T, false, map, Some, pos, sym, ap, subst, arith, rules, nat_abs, Fits, FitsSigned, to_z, of_z}
use lib.Signed.{non_neg}
use Rattle.std.specs.Int.{w64}
use Rattle.std.specs.Option.{is_some, option_map}
use Rattle.std.specs.List.{list_any}
use Rattle.std.proofs.lemmas.List.{get_or_default}
use Rattle.aggregates.specs.Kinds.{AccData, kind_of}
use Rattle.window_state.specs.Windows.{acc_at, is_pane}
use Rattle.place_words.specs.Words.{word, count_of, numbers_at, acc_in}
use Rattle.window_state.specs.Places.{PlacesData}
use Rattle.window_state.proofs.Placed.{kinds_of, its_place, no_place, cast_fits, cast_is}
use Rattle.window_state.proofs.places.Places.numbers.Goals as goal

pub overflow_cast-count : goal.overflow_cast-count
overflow_cast-count c =
    let s = c.self.inside in
    let at = c.in-Some.place * s.stride in
    let st = its_place s.window s.stride s.panes.keys s.words.items c.args.pane.now c.in-Some.place c.self.invariant (sym c.in-Some.ensures.index) in
    let here : c.index.result.now ≡ word s.words.items at = c.index.ensures ∙ get_or_default s.words.items at c.index.result.now (pos 0) (omega (arith, st.room)) in
    let read : FitsSigned w64 c.index.result.now = search rules in
    let counted = (c.self.invariant.sound c.args.pane.now (acc_in (kinds_of s.window) s.words.items at) st.here).counted in
    subst (λ z. T (non_neg (to_z w64 (of_z w64 z))) × Fits w64 (nat_abs (to_z w64 (of_z w64 z)))) (sym here) (cast_fits (word s.words.items at) (subst (FitsSigned w64) here read) counted)

pub returns-in_default-clause-numbers : goal.returns-in_default-clause-numbers
returns-in_default-clause-numbers c =
    let s = c.self.inside in
    let p = c.args.pane.now in
    let none : list_any (is_pane p) s.panes.keys ≡ false = sym c.get_index_of.ensures.found ∙ ap is_some c.in_default.is in
    sym (ap (option_map (λ (a : AccData). a.total.numbers)) (sym (ap (λ (v : PlacesData). acc_at v.entries p) c.self.view_is) ∙ no_place (kinds_of s.window) s.words.items s.panes.keys p none))

pub returns-clause-numbers : goal.returns-clause-numbers
returns-clause-numbers c =
    let s = c.self.inside in
    let at = c.in-Some.place * s.stride in
    let st = its_place s.window s.stride s.panes.keys s.words.items c.args.pane.now c.in-Some.place c.self.invariant (sym c.in-Some.ensures.index) in
    let here : c.index.result.now ≡ word s.words.items at = c.index.ensures ∙ get_or_default s.words.items at c.index.result.now (pos 0) (omega (arith, st.room)) in
    let read : FitsSigned w64 c.index.result.now = search rules in
    let counted = (c.self.invariant.sound c.args.pane.now (acc_in (kinds_of s.window) s.words.items at) st.here).counted in
    let count : nat_abs (to_z w64 (of_z w64 c.index.result.now)) ≡ count_of (word s.words.items at) =
    ap (λ z. nat_abs (to_z w64 (of_z w64 z))) here ∙ cast_is (word s.words.items at) (subst (FitsSigned w64) here read) counted in
    let numbers = c.in_ok-numbers.ensures ∙ (λ t. numbers_at (count t) (map kind_of (c.as_slice-aggregates.ensures t)) (c.as_slice.ensures.value t) (at + 1)) in
    ap Some numbers ∙ sym (ap (option_map (λ (a : AccData). a.total.numbers)) (sym (ap (λ (v : PlacesData). acc_at v.entries c.args.pane.now) c.self.view_is) ∙ st.here))

pub returns-clause-start : goal.returns-clause-start
returns-clause-start c =
    let s = c.self.inside in
    let st = its_place s.window s.stride s.panes.keys s.words.items c.args.pane.now c.in-Some.place c.self.invariant (sym c.in-Some.ensures.index) in
    c.self.invariant.windows.starts c.args.pane.now (acc_in (kinds_of s.window) s.words.items (c.in-Some.place * s.stride)) st.here
