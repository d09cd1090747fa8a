use Rattle.std.proofs.Common.{cond, ◌≡◌, [], ◌∷◌, ◌∙◌, pos, false, get_or, rules, sym, ap, subst, FitsSigned}
use Rattle.std.specs.Prelude.{int_lt}
use Rattle.std.specs.FinMap.{get}
use Rattle.std.specs.Int.{w64, w128, int_rem_euclid}
use Rattle.plain_data.specs.Record.{Record, at}
use Rattle.plan_model.specs.declared.spec.WindowSpec.{WindowSpec}
use Rattle.plan_model.specs.Aggregates.{merge}
use Rattle.plan_model.specs.Rows.{aggregate_at}
use Rattle.window_state.specs.State.{OpenWindows}
use Rattle.window_state.proofs.Apart.{oldest, oldest_fits, oldest_side, late_below, none_before, both_sides, one_side, unreached}
use Rattle.window_state.proofs.SliceFits.{small_first}
use Rattle.window_state.proofs.adding.add_record.Goals as goal

pub overflow_sub-oldest-3 : goal.overflow_sub-oldest-3
overflow_sub-oldest-3 c =
    let v = c.args.windows.now.window in
    let r : Record = get_or c.args.batch.now.rows c.args.row [] in
    let range = c.requires.window.operator.range in
    let fits : FitsSigned w64 c.value-time.result = search rules in
    oldest_fits v c.window-w.result.now (at v.time r) c.value-time.result c.args.first c.window-w.ensures range c.requires.time (small_first v r c.args.first range c.requires.rest) fits
    (c.value-time.ensures ∙ ap (λ (x : WindowSpec). at x.time r) c.window-w.ensures)

pub add_from-requires-clause-room : goal.add_from-requires-clause-room
add_from-requires-clause-room c = λ q before a b has reached.
    let v = c.args.windows.now in
    let r : Record = get_or c.args.batch.now.rows c.args.row [] in
    let old = get v.totals q in
    let one = aggregate_at v.window (r ∷ []) q in
    let there : get c.add_later.new.windows.totals q ≡ old =
    c.in_ok-add_later.ensures.added q ∙ ap (λ t. cond t old (merge v.window.aggregates old one)) (ap (int_lt q.start) (sym c.add_later.ensures.from_stays) ∙ before) in
    c.requires.room q a b (sym there ∙ has) (ap (λ (w : WindowSpec). aggregate_at w (r ∷ []) q) (sym c.add_later.ensures.window_stays) ∙ reached)

pub returns-in_ok-add_from-clause-added : goal.returns-in_ok-add_from-clause-added
returns-in_ok-add_from-clause-added c = λ q.
    let v = c.args.windows.now in
    let r : Record = get_or c.args.batch.now.rows c.args.row [] in
    let mid = c.add_later.new.windows in
    let window = c.add_later.ensures.window_stays in
    let from = c.add_later.ensures.from_stays in
    both_sides (int_lt q.start v.from) v.window.aggregates (get v.totals q) (get mid.totals q) (get c.add_from.new.windows.totals q) (aggregate_at v.window (r ∷ []) q) (c.in_ok-add_later.ensures.added q)
    (c.in_ok-add_from.ensures.added q ∙ (λ i. cond (int_lt q.start (from i)) (merge (window i).aggregates (get mid.totals q) (aggregate_at (window i) (r ∷ []) q)) (get mid.totals q)))

pub returns-else-oldest-windows-clause-added : goal.returns-else-oldest-windows-clause-added
returns-else-oldest-windows-clause-added c = λ q.
    let v = c.args.windows.now in
    let w = v.window in
    let r : Record = get_or c.args.batch.now.rows c.args.row [] in
    let t = at w.time r in
    let s = c.windows.inside in
    let range = c.requires.window.operator.range in
    let small = small_first w r c.args.first range c.requires.rest in
    let fits : FitsSigned w64 c.value-time.result = search rules in
    let from_fits : FitsSigned w128 s.from = search rules in
    let from = ap (λ (x : OpenWindows). x.from) c.windows.view_is ∙ c.add_later.ensures.from_stays in
    let window : s.places.window ≡ w = ap (λ (x : OpenWindows). x.window) c.windows.view_is ∙ c.add_later.ensures.window_stays in
    let same = c.value-time.ensures ∙ ap (λ (x : WindowSpec). at x.time r) c.window-w.ensures in
    let side = oldest_side w c.window-w.result.now t c.value-time.result c.args.first c.window-w.ensures range c.requires.time small fits same s.from false from_fits c.if-oldest-windows.false in
    let whole = subst (λ (x : WindowSpec). int_rem_euclid x.size x.slide ≡ pos 0) window (c.windows.invariant.whole (late_below w c.window-w.result.now t c.value-time.result c.args.first c.window-w.ensures range c.requires.time small fits same s.from side)) in
    one_side (int_lt q.start v.from) w.aggregates (get v.totals q) (get c.add_later.new.windows.totals q) (aggregate_at w (r ∷ []) q) (c.in_ok-add_later.ensures.added q)
    (λ before. unreached w r q (get v.totals q) (none_before w q.start t v.from c.args.first range whole c.requires.rest (ap (int_lt (oldest w t c.args.first)) (sym from) ∙ side) before))
