use Rattle.std.proofs.Common.{◌≡◌, ◌∙◌, [], ◌∷◌, Option, None, cond, get_or, refl, sym, ap}
use Rattle.std.specs.Prelude.{int_lt}
use Rattle.std.specs.FinMap.{get}
use Rattle.std.specs.Option.{option_map}
use Rattle.plain_data.specs.Record.{Record}
use Rattle.plan_model.specs.Aggregates.{Aggregated, aggregate_of, merge}
use Rattle.aggregates.specs.Kinds.{AccData}
use Rattle.window_state.specs.declared.windows.Windows.TheInside.{Inside}
use Rattle.window_state.specs.Places.{PlacesData}
use Rattle.window_state.specs.State.{OpenWindows}
use Rattle.window_state.specs.Windows.{acc_at, is_pane}
use Rattle.window_state.proofs.Entries.{none_there}
use Rattle.window_state.proofs.Updates.{written_there}
use Rattle.window_state.proofs.Placed.{on_ok}
use Rattle.window_state.proofs.Standing.{get-view, lt_true, seen_before, standing_before, added_inside, changed_standing, opened_more, same_standing, same_view, KeepsSlices}
use Rattle.window_state.proofs.adding.add_at.Goals as goal

pub add-requires-clause-room : goal.add-requires-clause-room
add-requires-clause-room c = λ a is.
    let p = c.args.pane in
    let before = ap (λ (v : OpenWindows). int_lt p.start v.from) c.windows.view_is ∙ lt_true p.start c.args.windows.now.from c.requires.before in
    c.requires.room a.total (sym (seen_before c.windows.inside c.args.windows.now p c.windows.invariant c.windows.view_is before) ∙ ap (option_map (λ (x : AccData). x.total)) is)

pub returns-then-add-clause-added : goal.returns-then-add-clause-added
returns-then-add-clause-added c = λ q.
    let s = c.windows.inside in
    let p = c.args.pane in
    let v = c.args.windows.now in
    let r : Record = get_or c.args.batch.now.rows c.args.row [] in
    let before = ap (λ (x : OpenWindows). int_lt p.start x.from) c.windows.view_is ∙ lt_true p.start v.from c.requires.before in
    let t : Inside = record s { places = c.add.new.self } in
    let k : KeepsSlices s t = record { window = c.add.ensures.window_stays; from = refl; slices = refl } in
    let now = added_inside s t c.windows.invariant k refl c.add.ensures.panes in
    let g = λ (w : Option Aggregated). merge s.places.window.aggregates w (aggregate_of s.places.window.aggregates (r ∷ [])) in
    changed_standing s t v p g c.windows.invariant now c.windows.view_is k before (c.add.ensures.added c.if-add.true) q
    ∙ ap (λ (x : OpenWindows). cond (is_pane p q) (merge x.window.aggregates (get v.totals q) (aggregate_of x.window.aggregates (r ∷ []))) (get v.totals q)) c.windows.view_is

pub put_first-requires-clause-absent : goal.put_first-requires-clause-absent
put_first-requires-clause-absent c =
    let s = c.windows.inside in
    let p = c.args.pane in
    let before = ap (λ (x : OpenWindows). int_lt p.start x.from) c.windows.view_is ∙ lt_true p.start c.args.windows.now.from c.requires.before in
    let t : Inside = record s { places = c.add.new.self } in
    let same = c.add.ensures.none c.if-add.false in
    let k : KeepsSlices s t = record { window = ap (λ (x : PlacesData). x.window) same; from = refl; slices = refl } in
    let now = opened_more s t c.windows.invariant k (ap (λ (x : PlacesData). x.entries) same) (λ q some. some) in
    get-view t now p ∙ standing_before t p before
    ∙ ap (λ (x : PlacesData). option_map (λ (a : AccData). a.total) (acc_at x.entries p)) same
    ∙ ap (option_map (λ (a : AccData). a.total)) (none_there (acc_at s.places.entries p) (sym c.add.ensures.found ∙ c.if-add.false))

pub returns-clause-added : goal.returns-clause-added
returns-clause-added c =
    let s = c.windows.inside in
    let p = c.args.pane in
    let v = c.args.windows.now in
    let r : Record = get_or c.args.batch.now.rows c.args.row [] in
    let before = ap (λ (x : OpenWindows). int_lt p.start x.from) c.windows.view_is ∙ lt_true p.start v.from c.requires.before in
    let t : Inside = record s { places = c.add.new.self } in
    let same = c.add.ensures.none c.if-add.false in
    let places = ap (λ (x : PlacesData). x.entries) same in
    let k : KeepsSlices s t = record { window = ap (λ (x : PlacesData). x.window) same; from = refl; slices = refl } in
    let now = opened_more s t c.windows.invariant k places (λ q some. some) in
    let view = same_view s t c.windows.invariant now k (same_standing s t k places) ∙ c.windows.view_is in
    let nothing : get v.totals p ≡ None =
    sym (seen_before s v p c.windows.invariant c.windows.view_is before) ∙ ap (option_map (λ (a : AccData). a.total)) (none_there (acc_at s.places.entries p) (sym c.add.ensures.found ∙ c.if-add.false)) in
    let one = aggregate_of v.window.aggregates (r ∷ []) in
    let g = λ (o : Option Aggregated). merge v.window.aggregates o one in
    on_ok c.put_first.result (λ put q.
    put q
    ∙ ap (λ (x : OpenWindows). cond (is_pane p q) (aggregate_of x.window.aggregates (r ∷ [])) (get x.totals q)) view
    ∙ written_there p (get v.totals) one g (ap g (sym nothing)) q)
    c.put_first.ensures.put

pub invariant_of-windows : goal.invariant_of-windows
invariant_of-windows c =
    added_inside c.windows.inside _ c.windows.invariant (record { window = c.add.ensures.window_stays; from = refl; slices = refl }) refl c.add.ensures.panes
