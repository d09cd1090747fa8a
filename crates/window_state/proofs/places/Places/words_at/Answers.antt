use Rattle.std.proofs.Common.{◌≡◌, ◌∙◌, ◌*◌, Some, false, sym, ap}
use Rattle.std.specs.List.{list_any}
use Rattle.std.specs.Map.{keys_of}
use Rattle.std.specs.Option.{is_some}
use Rattle.std.specs.Prelude.{slice_get}
use Rattle.std.proofs.lemmas.Option.{slice_get-get_or}
use Rattle.place_words.specs.Words.{stride}
use Rattle.window_state.specs.Windows.{acc_at, is_pane}
use Rattle.window_state.specs.Places.{PlacesData}
use Rattle.window_state.proofs.Placed.{kinds_of, its_place, no_place}
use Rattle.window_state.proofs.Spread.{keys-entries}
use Rattle.window_state.proofs.places.Places.words_at.Goals as goal

pub returns-in_default-clause-there : goal.returns-in_default-clause-there
returns-in_default-clause-there c =
    let s = c.self.inside in
    let p = c.args.pane.now in
    let none : list_any (is_pane p) s.panes.keys ≡ false = sym c.get_index_of.ensures.found ∙ ap is_some c.in_default.is in
    sym (ap is_some (sym (ap (λ (v : PlacesData). acc_at v.entries p) c.self.view_is) ∙ no_place (kinds_of s.window) s.words.items s.panes.keys p none))

pub returns-clause-there : goal.returns-clause-there
returns-clause-there c =
    let s = c.self.inside in
    let p = c.args.pane.now in
    let st = its_place s.window s.stride s.panes.keys s.words.items p c.in-Some.place c.self.invariant (sym c.in-Some.ensures.index) in
    sym (ap is_some (sym (ap (λ (v : PlacesData). acc_at v.entries p) c.self.view_is) ∙ st.here))

pub returns-clause-at : goal.returns-clause-at
returns-clause-at c =
    let s = c.self.inside in
    let p = c.args.pane.now in
    let i = c.in-Some.place in
    let st = its_place s.window s.stride s.panes.keys s.words.items p i c.self.invariant (sym c.in-Some.ensures.index) in
    record {
      place = i;
      there = ap (λ (v : PlacesData). slice_get (keys_of v.entries) i) (sym c.self.view_is) ∙ ap (λ l. slice_get l i) (keys-entries (kinds_of s.window) s.words.items 0 s.panes.keys) ∙ slice_get-get_or s.panes.keys i p st.low ∙ ap Some (st.at p);
      begins = ap (λ n. i * n) c.self.invariant.stride ∙ ap (λ (v : PlacesData). i * stride (kinds_of v.window)) c.self.view_is;
    }
