use Rattle.std.proofs.Common.{◌≡◌, ◌∙◌, ◌+◌, ◌*◌, ◌<◌, ◌^◌, ℤ, List, [], ◌∷◌, map, Some, get_or, sym, ap, subst, if◌then◌else◌, Option}
use Rattle.std.specs.Option.{is_some, option_map}
use Rattle.std.proofs.lemmas.List.{with_items_is}
use Rattle.plain_data.specs.Record.{Record}
use Rattle.plan_model.specs.declared.spec.Aggregate.{Aggregate}
use Rattle.plan_model.specs.Aggregates.{Aggregated, aggregate_of, merge}
use Rattle.aggregates.specs.Kinds.{AccData, IsAcc, kind_of}
use Rattle.window_state.specs.Windows.{acc_at, total_at, is_pane}
use Rattle.place_words.specs.Words.{stride, word, count_of, acc_in, entries_in, IsWritten}
use Rattle.window_state.specs.Places.{PlacesData, ArePlaces}
use Rattle.window_state.proofs.Entries.{total_cond}
use Rattle.window_state.proofs.Updates.{written_there}
use Rattle.window_state.proofs.Spread.{found-any, writes_place}
use Rattle.window_state.proofs.Placed.{kinds_of, its_place, distinct_panes, kept_written, total_more}
use Rattle.window_state.proofs.places.Places.add.Goals as goal

pub returns-in_default-clause-found : goal.returns-in_default-clause-found
returns-in_default-clause-found c =
    let s = c.self.inside in
    sym (ap is_some c.in_default.is) ∙ c.get_index_of.ensures.found ∙ sym (found-any (kinds_of s.window) s.words.items 0 s.panes.keys c.args.pane.now)
    ∙ ap (λ (v : PlacesData). is_some (acc_at v.entries c.args.pane.now)) c.self.view_is

pub add_record-requires-clause-sound : goal.add_record-requires-clause-sound
add_record-requires-clause-sound c =
    let s = c.self.inside in
    let at = c.in-Some.place * s.stride in
    let st = its_place s.window s.stride s.panes.keys s.words.items c.args.pane.now c.in-Some.place c.self.invariant (sym c.in-Some.ensures.index) in
    subst (λ (l : List ℤ). IsAcc (acc_in (map kind_of c.as_slice-aggregates.result.now) l at)) (sym c.as_mut_slice.ensures.value)
    (subst (λ (l : List Aggregate). IsAcc (acc_in (map kind_of l) s.words.items at)) (sym c.as_slice-aggregates.ensures)
    (c.self.invariant.sound c.args.pane.now (acc_in (kinds_of s.window) s.words.items at) st.here))

pub add_record-requires-clause-few : goal.add_record-requires-clause-few
add_record-requires-clause-few c =
    let s = c.self.inside in
    let at = c.in-Some.place * s.stride in
    let st = its_place s.window s.stride s.panes.keys s.words.items c.args.pane.now c.in-Some.place c.self.invariant (sym c.in-Some.ensures.index) in
    subst (λ (l : List ℤ). count_of (word l at) < 2 ^ 41) (sym c.as_mut_slice.ensures.value)
    (c.requires.room (acc_in (kinds_of s.window) s.words.items at) (sym (ap (λ (v : PlacesData). acc_at v.entries c.args.pane.now) c.self.view_is) ∙ st.here))

pub invariant_of-self : goal.invariant_of-self
invariant_of-self c =
    let s = c.self.inside in
    let at = c.in-Some.place * s.stride in
    let new = c.add_record.new.words in
    let st = its_place s.window s.stride s.panes.keys s.words.items c.args.pane.now c.in-Some.place c.self.invariant (sym c.in-Some.ensures.index) in
    let got = with_items_is s.words new (c.add_record.ensures.others.len ∙ c.as_mut_slice.ensures.len) in
    subst (ArePlaces s.window s.stride s.panes.keys) (sym got)
    (kept_written s.window s.stride s.panes.keys s.words.items new c.args.pane.now c.in-Some.place c.self.invariant st
    (subst (λ (l : List ℤ). IsWritten at (at + stride (kinds_of s.window)) l new) c.as_mut_slice.ensures.value
    (subst (λ (l : List Aggregate). IsWritten at (at + stride (map kind_of l)) c.as_mut_slice.result.now new) c.as_slice-aggregates.ensures c.add_record.ensures.others))
    (subst (λ (l : List Aggregate). IsAcc (acc_in (map kind_of l) new at)) c.as_slice-aggregates.ensures c.add_record.ensures.sound))

pub returns-clause-found : goal.returns-clause-found
returns-clause-found c =
    let s = c.self.inside in
    let st = its_place s.window s.stride s.panes.keys s.words.items c.args.pane.now c.in-Some.place c.self.invariant (sym c.in-Some.ensures.index) in
    sym (ap is_some st.here) ∙ ap (λ (v : PlacesData). is_some (acc_at v.entries c.args.pane.now)) c.self.view_is

pub returns-clause-added : goal.returns-clause-added
returns-clause-added c = λ _ q.
    let s = c.self.inside in
    let p = c.args.pane.now in
    let w = s.window in
    let r : Record = get_or c.args.batch.now.rows c.args.row [] in
    let at = c.in-Some.place * s.stride in
    let new = c.add_record.new.words in
    let m = entries_in (kinds_of w) s.words.items 0 s.panes.keys in
    let st = its_place w s.stride s.panes.keys s.words.items p c.in-Some.place c.self.invariant (sym c.in-Some.ensures.index) in
    let written = subst (λ (l : List ℤ). IsWritten at (at + stride (kinds_of w)) l new) c.as_mut_slice.ensures.value
    (subst (λ (l : List Aggregate). IsWritten at (at + stride (map kind_of l)) c.as_mut_slice.result.now new) c.as_slice-aggregates.ensures c.add_record.ensures.others) in
    let writes = writes_place (kinds_of w) s.words.items new s.panes.keys s.stride p c.in-Some.place c.self.invariant.stride (distinct_panes w s.stride s.panes.keys s.words.items c.self.invariant) st written in
    let a = acc_in (kinds_of w) new at in
    let g = λ (o : Option Aggregated). merge w.aggregates o (aggregate_of w.aggregates (r ∷ [])) in
    let here : total_at m p ≡ Some (acc_in (kinds_of w) s.words.items at).total = ap (option_map (λ (x : AccData). x.total)) st.here in
    let more = total_more w.aggregates c.as_slice-aggregates.result.now r s.words.items c.as_mut_slice.result.now new at c.as_slice-aggregates.ensures c.as_mut_slice.ensures.value
    c.add_record.ensures.count c.add_record.ensures.added in
    let got = with_items_is s.words new (c.add_record.ensures.others.len ∙ c.as_mut_slice.ensures.len) in
    ap (λ l. total_at (entries_in (kinds_of w) l 0 s.panes.keys) q) got
    ∙ ap (option_map (λ (x : AccData). x.total)) (writes.at q)
    ∙ total_cond (is_pane p q) (Some a) (acc_at m q)
    ∙ written_there p (total_at m) (Some a.total) g (more ∙ ap g (sym here)) q
    ∙ ap (λ (v : PlacesData). if is_pane p q then merge v.window.aggregates (total_at v.entries q) (aggregate_of v.window.aggregates (r ∷ [])) else total_at v.entries q) c.self.view_is

pub returns-clause-panes : goal.returns-clause-panes
returns-clause-panes c = λ q.
    let s = c.self.inside in
    let got = with_items_is s.words c.add_record.new.words (c.add_record.ensures.others.len ∙ c.as_mut_slice.ensures.len) in
    ap (λ l. is_some (acc_at (entries_in (kinds_of s.window) l 0 s.panes.keys) q)) got
    ∙ found-any (kinds_of s.window) c.add_record.new.words 0 s.panes.keys q ∙ sym (found-any (kinds_of s.window) s.words.items 0 s.panes.keys q)
    ∙ ap (λ (v : PlacesData). is_some (acc_at v.entries q)) c.self.view_is
