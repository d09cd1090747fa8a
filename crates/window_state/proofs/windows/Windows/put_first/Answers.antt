use Rattle.std.proofs.Common.{◌∙◌, [], ◌∷◌, cond, get_or, refl, ap}
use Rattle.std.specs.Prelude.{int_lt}
use Rattle.std.specs.FinMap.{get}
use Rattle.plain_data.specs.Record.{Record}
use Rattle.plan_model.specs.Aggregates.{aggregate_of}
use Rattle.window_state.specs.Open.{has_open}
use Rattle.window_state.specs.Places.{PlacesData}
use Rattle.window_state.specs.State.{OpenWindows}
use Rattle.window_state.specs.Windows.{is_pane}
use Rattle.window_state.proofs.Placed.{on_err}
use Rattle.window_state.proofs.Standing.{placed, opened_more, same_standing, same_view, put_standing, no_place, lt_true, opens, KeepsSlices}
use Rattle.window_state.proofs.windows.Windows.put_first.Goals as goal

pub returns-in_err-open_pane-clause-err : goal.returns-in_err-open_pane-clause-err
returns-in_err-open_pane-clause-err c =
    let s = c.self.inside in
    let k : KeepsSlices s (record s { opened = c.open_pane.new.opened }) = record { window = refl; from = refl; slices = refl } in
    let now = opened_more s _ c.self.invariant k refl (λ q some. c.in_err-open_pane.ensures.err q ∙ some) in
    on_err c.from_residual.result (same_view s _ c.self.invariant now k (same_standing s _ k refl) ∙ c.self.view_is)

pub push_first-requires-clause-absent : goal.push_first-requires-clause-absent
push_first-requires-clause-absent c =
    let p = c.args.pane in
    let before = ap (λ (v : OpenWindows). int_lt p.start v.from) c.self.view_is ∙ lt_true p.start c.args.self.now.from c.requires.before in
    no_place c.self.inside c.args.self.now p c.self.invariant c.self.view_is before c.requires.absent

pub invariant_of-self-in_err-push_first : goal.invariant_of-self-in_err-push_first
invariant_of-self-in_err-push_first c =
    let s = c.self.inside in
    let same = c.in_err-push_first.ensures.err in
    opened_more s _ c.self.invariant (record { window = ap (λ (v : PlacesData). v.window) same; from = refl; slices = refl }) (ap (λ (v : PlacesData). v.entries) same)
    (λ q some. c.in_ok-open_pane.ensures.opened q ∙ opens (is_pane c.args.pane q) (has_open s.opened.entries q) some)

pub returns-in_err-push_first-clause-err : goal.returns-in_err-push_first-clause-err
returns-in_err-push_first-clause-err c =
    let s = c.self.inside in
    let same = c.in_err-push_first.ensures.err in
    let k : KeepsSlices s (record s { places = c.push_first.new.self; opened = c.open_pane.new.opened }) = record { window = ap (λ (v : PlacesData). v.window) same; from = refl; slices = refl } in
    let places = ap (λ (v : PlacesData). v.entries) same in
    let now = opened_more s _ c.self.invariant k places (λ q some. c.in_ok-open_pane.ensures.opened q ∙ opens (is_pane c.args.pane q) (has_open s.opened.entries q) some) in
    on_err c.from_residual-in_err-push_first.result (same_view s _ c.self.invariant now k (same_standing s _ k places) ∙ c.self.view_is)

pub invariant_of-self-2 : goal.invariant_of-self-2
invariant_of-self-2 c =
    let p = c.args.pane in
    let before = ap (λ (v : OpenWindows). int_lt p.start v.from) c.self.view_is ∙ lt_true p.start c.args.self.now.from c.requires.before in
    placed c.self.inside _ p c.self.invariant (record { window = c.push_first.ensures.window_stays; from = refl; slices = refl }) before c.in_ok-push_first.ensures.panes c.in_ok-open_pane.ensures.opened

pub returns-clause-put : goal.returns-clause-put
returns-clause-put c = λ q.
    let s = c.self.inside in
    let p = c.args.pane in
    let r : Record = get_or c.args.batch.now.rows c.args.row [] in
    let before = ap (λ (v : OpenWindows). int_lt p.start v.from) c.self.view_is ∙ lt_true p.start c.args.self.now.from c.requires.before in
    let k : KeepsSlices s (record s { places = c.push_first.new.self; opened = c.open_pane.new.opened }) = record { window = c.push_first.ensures.window_stays; from = refl; slices = refl } in
    let now = placed s _ p c.self.invariant k before c.in_ok-push_first.ensures.panes c.in_ok-open_pane.ensures.opened in
    put_standing s _ c.args.self.now p (aggregate_of s.places.window.aggregates (r ∷ [])) c.self.invariant now c.self.view_is k before c.in_ok-push_first.ensures.added q
    ∙ ap (λ (v : OpenWindows). cond (is_pane p q) (aggregate_of v.window.aggregates (r ∷ [])) (get c.args.self.now.totals q)) c.self.view_is
