use Rattle.std.proofs.Common.{to_z, of_z, ◌+◌, ◌-ℤ◌, pos, true, false, cond, ◌≤◌, ◌^◌, [], ◌∷◌, ◌∙◌, get_or, sym, ap, subst, refl, arith, rules, FitsSigned, if◌then◌else◌, ◌&&◌}
use Rattle.std.specs.Prelude.{int_lt}
use Rattle.std.specs.FinMap.{get}
use Rattle.std.specs.Ordering.{int_eq}
use Rattle.std.specs.Int.{w64, w128}
use Rattle.std.proofs.Math.Nat.{add-mod_right, mod-eq_of_lt}
use Rattle.plain_data.specs.Record.{Record, at}
use Rattle.plan_model.specs.declared.spec.WindowSpec.{WindowSpec}
use Rattle.plan_model.specs.declared.spec.Pane.{Pane}
use Rattle.plan_model.specs.Aggregates.{aggregate_of, merge}
use Rattle.window_state.specs.Windows.{IsStart}
use Rattle.plan_model.proofs.Facts.{lt_from_test}
use Rattle.window_state.proofs.Slides.{Sliding, sliding_by, held, start_is, start_in_range, key_is, slid_start, slid, slid_end, slid_before, slid_later, start_side, room_fresh, either_way}
use Rattle.window_state.specs.State.{OpenWindows}
use Rattle.window_state.proofs.adding.add_from.Goals as goal
use Rattle.window_state.proofs.adding.add_from.Goals.{then-start-windows+in_ok-add_at, else-start-windows}

pub loop-back-init : goal.loop-back-init
loop-back-init c =
    let v = c.args.windows.now.window in
    let w = c.window-w.result.now in
    let r : Record = get_or c.args.batch.now.rows c.args.row [] in
    let s : Sliding v r (held w.slide) (held w.size) c.args.first = sliding_by v w r c.args.first c.window-w.ensures c.requires.window.operator.range c.requires.rest in
    record {
      high = omega (arith, s.low, s.slide_small);
      rem = mod-eq_of_lt s.low;
      window = refl;
      from = refl;
      added = λ q. either_way (int_lt q.start c.args.windows.now.from) (slid_start v r (get c.args.windows.now.totals q) q (held w.slide) (held w.size) c.args.first s.some s.slide s.size s.rem s.low);
    }

pub add_at-requires-clause-start : goal.add_at-requires-clause-start
add_at-requires-clause-start c =
    let v = c.args.windows.now.window in
    let w = c.window-w.result.now in
    let r : Record = get_or c.args.batch.now.rows c.args.row [] in
    let s : Sliding v r (held w.slide) (held w.size) c.args.first = sliding_by v w r c.args.first c.window-w.ensures c.requires.window.operator.range c.requires.rest in
    let ft : FitsSigned w64 c.value-time.result = search rules in
    let small : c.loop-back.back ≤ 2 ^ 40 = omega (arith, s.size_small) in
    let start = start_is (at v.time r) c.value-time.result c.loop-back.back ft (c.value-time.ensures ∙ ap (λ (x : WindowSpec). at x.time r) c.window-w.ensures) c.requires.time small in
    subst IsStart (sym start) (start_in_range (at v.time r) c.loop-back.back c.requires.time (omega (arith, s.size_small)))

pub add_at-requires-clause-before : goal.add_at-requires-clause-before
add_at-requires-clause-before c =
    let v = c.args.windows.now.window in
    let w = c.window-w.result.now in
    let r : Record = get_or c.args.batch.now.rows c.args.row [] in
    let s : Sliding v r (held w.slide) (held w.size) c.args.first = sliding_by v w r c.args.first c.window-w.ensures c.requires.window.operator.range c.requires.rest in
    let ft : FitsSigned w64 c.value-time.result = search rules in
    let small : c.loop-back.back ≤ 2 ^ 40 = omega (arith, s.size_small) in
    let start = start_is (at v.time r) c.value-time.result c.loop-back.back ft (c.value-time.ensures ∙ ap (λ (x : WindowSpec). at x.time r) c.window-w.ensures) c.requires.time small in
    let now = c.windows-in-loop-back.inside in
    let ff : FitsSigned w128 now.from = search rules in
    let side = start_side (at v.time r) _ now.from c.loop-back.back true start c.requires.time small ff c.if-start-windows.true in
    let same = ap (λ (x : OpenWindows). x.from) c.windows-in-loop-back.view_is in
    lt_from_test _ c.loop-back.windows.from ((λ i. int_lt (start i) (sym same i)) ∙ side)

pub add_at-requires-clause-room : goal.add_at-requires-clause-room
add_at-requires-clause-room c =
    let v = c.args.windows.now.window in
    let w = c.window-w.result.now in
    let r : Record = get_or c.args.batch.now.rows c.args.row [] in
    let s : Sliding v r (held w.slide) (held w.size) c.args.first = sliding_by v w r c.args.first c.window-w.ensures c.requires.window.operator.range c.requires.rest in
    let ft : FitsSigned w64 c.value-time.result = search rules in
    let small : c.loop-back.back ≤ 2 ^ 40 = omega (arith, s.size_small) in
    let start = start_is (at v.time r) c.value-time.result c.loop-back.back ft (c.value-time.ensures ∙ ap (λ (x : WindowSpec). at x.time r) c.window-w.ensures) c.requires.time small in
    let fk : FitsSigned w64 c.value-key.result = search rules in
    let key = key_is (at v.key r) c.value-key.result fk (c.value-key.ensures ∙ ap (λ (x : WindowSpec). at x.key r) c.window-w.ensures) in
    let now = c.windows-in-loop-back.inside in
    let ff : FitsSigned w128 now.from = search rules in
    let side = start_side (at v.time r) _ now.from c.loop-back.back true start c.requires.time small ff c.if-start-windows.true in
    let same = ap (λ (x : OpenWindows). x.from) c.windows-in-loop-back.view_is ∙ c.loop-back.invariant.from in
    let before = (λ i. int_lt (start i) (sym same i)) ∙ side in
    let p : Pane = record { start = to_z w64 (of_z w64 (to_z w64 (of_z w64 c.value-time.result) -ℤ to_z w64 c.loop-back.back)); key = to_z w64 (of_z w64 c.value-key.result) } in
    room_fresh v r (get c.args.windows.now.totals p) (get c.loop-back.windows.totals p) p c.loop-back.back (held w.slide) (held w.size) c.args.first
    s.some s.slide s.size s.rem c.loop-back.invariant.rem c.loop-back-test.true (sym start) (sym key) (c.requires.room p before)
    (c.loop-back.invariant.added p ∙ ap (λ b. cond b (slid v r (get c.args.windows.now.totals p) p c.loop-back.back) (get c.args.windows.now.totals p)) before)

pub loop-back-preserved : goal.loop-back-preserved
loop-back-preserved c =
    let v = c.args.windows.now.window in
    let w = c.window-w.result.now in
    let r : Record = get_or c.args.batch.now.rows c.args.row [] in
    let s : Sliding v r (held w.slide) (held w.size) c.args.first = sliding_by v w r c.args.first c.window-w.ensures c.requires.window.operator.range c.requires.rest in
    let ft : FitsSigned w64 c.value-time.result = search rules in
    let small : c.loop-back.back ≤ 2 ^ 40 = omega (arith, s.size_small) in
    let start = start_is (at v.time r) c.value-time.result c.loop-back.back ft (c.value-time.ensures ∙ ap (λ (x : WindowSpec). at x.time r) c.window-w.ensures) c.requires.time small in
    let fk : FitsSigned w64 c.value-key.result = search rules in
    let key = key_is (at v.key r) c.value-key.result fk (c.value-key.ensures ∙ ap (λ (x : WindowSpec). at x.key r) c.window-w.ensures) in
    let now = c.windows-in-loop-back.inside in
    let ff : FitsSigned w128 now.from = search rules in
    let from = ap (λ (x : OpenWindows). x.from) c.windows-in-loop-back.view_is ∙ c.loop-back.invariant.from in
    let same = c.loop-back.invariant.window in
    let high : c.loop-back.back + held w.slide ≤ 2 ^ 41 = omega (arith, small, s.slide_small) in
    let rem = add-mod_right c.loop-back.back (held w.slide) ∙ c.loop-back.invariant.rem in
    elim c.if-start-windows.branch [
      | then-start-windows+in_ok-add_at b ↦
          let side = ap (int_lt (at v.time r -ℤ pos c.loop-back.back)) (sym from) ∙ start_side (at v.time r) _ now.from c.loop-back.back true start c.requires.time small ff b.if-start-windows.true in
          record {
            high = high;
            rem = rem;
            window = ap (λ (x : OpenWindows). x.window) b.windows-is ∙ b.add_at.ensures.window_stays ∙ same;
            from = ap (λ (x : OpenWindows). x.from) b.windows-is ∙ b.add_at.ensures.from_stays ∙ c.loop-back.invariant.from;
            added = λ q. slid_before v r c.args.windows.now.from (get c.args.windows.now.totals q) (get c.loop-back.windows.totals q) _ q c.loop-back.back (held w.slide) (held w.size) c.args.first
                s.some s.slide s.size s.rem c.loop-back.invariant.rem c.loop-back-test.true side (c.loop-back.invariant.added q)
                (ap (λ (x : OpenWindows). get x.totals q) b.windows-is ∙ b.in_ok-add_at.ensures.added q
                ∙ (λ i. if int_eq (start i) q.start && int_eq (key i) q.key then merge (same i).aggregates (get c.loop-back.windows.totals q) (aggregate_of (same i).aggregates (r ∷ [])) else get c.loop-back.windows.totals q));
          }
      | else-start-windows b ↦
          let side = ap (int_lt (at v.time r -ℤ pos c.loop-back.back)) (sym from) ∙ start_side (at v.time r) _ now.from c.loop-back.back false start c.requires.time small ff b.if-start-windows.false in
          record {
            high = high;
            rem = rem;
            window = ap (λ (x : OpenWindows). x.window) b.windows-is ∙ same;
            from = ap (λ (x : OpenWindows). x.from) b.windows-is ∙ c.loop-back.invariant.from;
            added = λ q. ap (λ (x : OpenWindows). get x.totals q) b.windows-is
                ∙ slid_later v r c.args.windows.now.from (get c.args.windows.now.totals q) (get c.loop-back.windows.totals q) q c.loop-back.back (held w.slide) (held w.size) c.args.first
                s.some s.slide s.size s.rem c.loop-back.invariant.rem c.loop-back-test.true side (c.loop-back.invariant.added q);
          }
    ]

pub returns-clause-added : goal.returns-clause-added
returns-clause-added c = λ q.
    let v = c.args.windows.now.window in
    let w = c.window-w.result.now in
    let r : Record = get_or c.args.batch.now.rows c.args.row [] in
    let s : Sliding v r (held w.slide) (held w.size) c.args.first = sliding_by v w r c.args.first c.window-w.ensures c.requires.window.operator.range c.requires.rest in
    c.loop-back.invariant.added q
    ∙ ap (λ o. cond (int_lt q.start c.args.windows.now.from) o (get c.args.windows.now.totals q))
    (slid_end v r (get c.args.windows.now.totals q) q c.loop-back.back (held w.slide) (held w.size) c.args.first s.some s.slide s.size s.rem c.loop-back-test.false)
