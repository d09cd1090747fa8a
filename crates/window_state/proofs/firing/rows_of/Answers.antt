use Rattle.std.proofs.Common.{◌≡◌, pos, get_or, ℤ, ◌&&◌, ◌+◌, ◌++◌, [], ◌∷◌, drop, arith, true, None, rules, ap, sym, subst, ◌∙◌, to_z, of_z}
use Rattle.std.specs.FinMap.{get}
use Rattle.std.specs.Int.{w64}
use Rattle.std.specs.List.Sorted.{IsSortedByKey}
use Rattle.std.specs.Global.{Vec}
use Rattle.std.specs.Option.{is_some}
use Rattle.plan_model.specs.declared.spec.Row.{Row}
use Rattle.std.proofs.lemmas.Int.{to_z-of_z}
use Rattle.std.proofs.lemmas.List.{append-nil, drop_all, drop_more}
use Rattle.std.proofs.lemmas.List.Elements.{All-head, All-tail}
use Rattle.plan_model.specs.declared.spec.Pane.{Pane}
use Rattle.plan_model.specs.Rows.{pane_cmp, pane_of, row_at, is_due, AreRowsOf}
use Rattle.window_state.specs.State.{OpenWindows, fired}
use Rattle.window_state.specs.Windows.{has_pane, IsOperator}
use Rattle.window_state.specs.Firing.{rows_due, AllDue}
use Rattle.window_state.specs.Open.{has_open}
use Rattle.window_state.specs.Parts.{entries_at}
use Rattle.window_state.proofs.Entries.{fires_next, some_next, none_next, with_numbers, without_numbers}
use Rattle.window_state.proofs.Starts.{each_pane, both_first, found_due}
use Rattle.window_state.proofs.Standing.{get-view}
use Rattle.window_state.proofs.Rows.{rows_fired, rows_ordered}
use Rattle.window_state.proofs.Sorted.{entries_strict, found_at}
use Rattle.window_state.proofs.firing.rows_of.Goals as goal
use Rattle.window_state.proofs.firing.rows_of.Goals.{in-Some+in_ok-push, in_default}

pub row_of-requires-clause-operator : goal.row_of-requires-clause-operator
row_of-requires-clause-operator c = subst IsOperator (sym c.window-in-Some.ensures) c.in_ok-numbers.ensures.operator

pub loop-pane-init : goal.loop-pane-init
loop-pane-init c =
    let v = c.args.windows.now in
    let w = v.window in
    let t = to_z w64 (of_z w64 c.args.watermark) in
    let ps = c.in_ok-panes.panes.items in
    let opened = c.windows.inside.opened.entries in
    let due = each_pane (λ (p : Pane). is_due w t p.start ≡ true) ps (λ q has. both_first (is_due w t q.start) (has_open opened q) (has_pane ps q) (c.in_ok-panes.ensures.those q ∙ (λ i. is_due (c.window.ensures i) t q.start && has_open opened q)) has) in
    let gives : c.deref-pane-items.result.now ≡ ps = search rules in
    record {
      rows = ap (λ l. l ++ rows_due w t (entries_at (get v.totals) c.deref-pane-items.result.now)) c.in_ok-rows.ensures.items;
      due = subst (AllDue w t) (sym gives) due;
    }

pub loop-pane-preserved : goal.loop-pane-preserved
loop-pane-preserved c =
    let v = c.args.windows.now in
    let f = get v.totals in
    let w = v.window in
    let t = to_z w64 (of_z w64 c.args.watermark) in
    let items = c.deref-pane-items.result.now in
    let p : Pane = get_or items c.loop-pane.pane-index (record { start = pos 0; key = pos 0 }) in
    let left = drop c.loop-pane.pane-index items in
    let rest = drop (c.loop-pane.pane-index + 1) items in
    let next : left ≡ p ∷ rest = drop_more items c.loop-pane.pane-index _ c.loop-pane-test.true in
    let all = subst (AllDue w t) next c.loop-pane.invariant.due in
    let later = All-tail (λ (x : Pane). is_due w t x.start ≡ true) p rest all in
    elim c.match-branch-4.branch [
      | in-Some+in_ok-push b ↦
          let there = with_numbers (f p) b.in-Some.numbers (sym b.in-Some.is ∙ c.in_ok-numbers.ensures.numbers) in
          let a = there.0 in
          let due : is_due w t p.start ≡ true = All-head (λ (x : Pane). is_due w t x.start ≡ true) p rest all in
          let row : b.row_of.result ≡ row_at w p a = b.row_of.ensures a.count ∙ (λ i. row_at (b.window-in-Some.ensures i) p (record { count = a.count; numbers = there.2 i })) in
          record {
            rows =
                ap (λ (r : Vec Row). r.items ++ rows_due w t (entries_at f rest)) b.rows-is
                ∙ ap (λ l. l ++ rows_due w t (entries_at f rest)) b.in_ok-push.ensures.items
                ∙ fires_next w t c.loop-pane.rows.items b.row_of.result (p, a) (entries_at f left) (entries_at f rest) (entries_at f items)
                c.loop-pane.invariant.rows (some_next f p a left rest next there.1) due row;
            due = later;
          }
      | in_default b ↦
          let none : f p ≡ None = without_numbers (f p) (sym b.in_default.is ∙ c.in_ok-numbers.ensures.numbers) in
          record {
            rows =
                ap (λ (r : Vec Row). r.items ++ rows_due w t (entries_at f rest)) b.rows-is
                ∙ ap (λ l. c.loop-pane.rows.items ++ rows_due w t l) (sym (none_next f p left rest next none)) ∙ c.loop-pane.invariant.rows;
            due = later;
          }
    ]

pub returns : goal.returns
returns c =
    let s = c.windows.inside in
    let v = c.args.windows.now in
    let f = get v.totals in
    let w = v.window in
    let opened = s.opened.entries in
    let t = c.args.watermark in
    let ps = c.in_ok-panes.panes.items in
    let rows = c.loop-pane.rows.items in
    let sorted = entries_at f ps in
    let strict = entries_strict f ps c.in_ok-panes.ensures.ordered in
    let gives : c.deref-pane-items.result.now ≡ ps = search rules in
    let none : drop c.loop-pane.pane-index c.deref-pane-items.result.now ≡ [] = drop_all c.loop-pane.pane-index c.deref-pane-items.result.now (omega arith) in
    let held : ℤ = to_z w64 (of_z w64 t) in
    let same : held ≡ t = to_z-of_z w64 t c.ranges.watermark in
    let is : rows ≡ rows_due w held sorted = sym (append-nil rows) ∙ ap (λ l. rows ++ rows_due w held (entries_at f l)) (sym none) ∙ c.loop-pane.invariant.rows ∙ ap (λ l. rows_due w held (entries_at f l)) gives in
    let are : rows ≡ rows_due w t sorted = is ∙ ap (λ x. rows_due w x sorted) same in
    let those = λ (q : Pane). c.in_ok-panes.ensures.those q ∙ (λ i. is_due (c.window.ensures i) (same i) q.start && has_open opened q) in
    let there = λ (q : Pane) (some : is_some (f q) ≡ true). c.windows.invariant.opened q (ap is_some (sym (get-view s c.windows.invariant q) ∙ ap (λ (x : OpenWindows). get x.totals q) c.windows.view_is) ∙ some) in
    let found = λ (q : Pane) (due : is_due w t q.start ≡ true). found_at f ps q (λ some. found_due (is_due w t q.start) (has_open opened q) (has_pane ps q) (those q) due ∙ there q some) in
    record {
      rows = subst (AreRowsOf (fired w t f)) (sym are) (rows_fired w t f sorted strict found);
      ordered = subst (IsSortedByKey pane_of pane_cmp) (sym are) (rows_ordered w t sorted strict);
    }
