use Rattle.std.proofs.Common.{◌≡◌, ◌∙◌, ℤ, true, false, not, cond, ◌&&◌, ◌<◌, None, length, refl, rules, ap, sym, subst, FitsSigned, to_z, of_z}
use Rattle.std.specs.Prelude.{int_lt}
use Rattle.std.specs.Int.{w64, w128}
use Rattle.std.specs.FinMap.{retain_keys}
use Rattle.std.specs.List.{All}
use Rattle.std.specs.Ordering.{int_eq}
use Rattle.std.proofs.lemmas.Int.{to_z-of_z}
use Rattle.plan_model.specs.declared.spec.WindowSpec.{WindowSpec}
use Rattle.plan_model.specs.declared.spec.Pane.{Pane}
use Rattle.plan_model.specs.Rows.{is_due}
use Rattle.window_state.specs.declared.windows.Windows.TheInside.{Inside}
use Rattle.window_state.specs.Open.{has_key, has_open}
use Rattle.window_state.specs.Places.{PlacesData}
use Rattle.window_state.specs.StateView.{IsWindowsInside}
use Rattle.window_state.specs.Windows.{acc_at, AreWhole, IsOperator}
use Rattle.window_state.proofs.Removals.{IsDropped, IsLeft, all_left, cleared_standing, inside_cleared, inside_dropped, inside_raised, left_dropped, left_standing, less_left, no_acc, places_taken, raised, slices_dropped, spans_dropped, starts_later, totals_left, whole_raised, wide, with_from}
use Rattle.window_state.proofs.Standing.{opened_more, side_of}
use Rattle.window_state.proofs.firing.remove_due.Goals as goal
use Rattle.window_state.proofs.firing.remove_due.Goals.{then-start-from, else-start-from}

pub invariant_of-windows : goal.invariant_of-windows
invariant_of-windows c =
    let now : Inside =
    record { alloc = c.windows.inside.alloc; keys = c.windows.inside.keys; from = wide c.max-windows-inside.result; places = c.clear-then-are_all_due.new.self; spans = c.clear-then-are_all_due-2.new.self; opened = c.clear.new.self } in
    let operator = subst (λ (v : WindowSpec). IsOperator v) (ap (λ (v : PlacesData). v.window) (sym c.clear-then-are_all_due.ensures)) c.windows.invariant.operator in
    let s = c.windows.inside in
    let held : ℤ = to_z w64 (of_z w64 c.args.watermark) in
    let before_fits : FitsSigned w128 s.from = search rules in
    let undue_fits : FitsSigned w128 c.first_undue.result = search rules in
    let most_fits : FitsSigned w128 c.max-windows-inside.result = search rules in
    let r = raised s.places.window c.window.result.now held s.from c.first_undue.result c.max-windows-inside.result c.window.ensures before_fits undue_fits most_fits c.max-windows-inside.ensures.value c.first_undue.ensures.due
    c.first_undue.ensures.starts in
    let whole = subst (λ (v : WindowSpec). AreWhole v now.from) (ap (λ (v : PlacesData). v.window) (sym c.clear-then-are_all_due.ensures)) (whole_raised s.places.window held s.from now.from r c.windows.invariant.whole) in
    inside_cleared now operator whole (ap (λ (v : PlacesData). v.entries) c.clear-then-are_all_due.ensures) c.clear-then-are_all_due-2.ensures.empty

pub loop-start-init : goal.loop-start-init
loop-start-init c =
    let s = c.windows.inside in
    let held : ℤ = to_z w64 (of_z w64 c.args.watermark) in
    let from : ℤ = wide c.max-windows-inside.result in
    let before_fits : FitsSigned w128 s.from = search rules in
    let undue_fits : FitsSigned w128 c.first_undue.result = search rules in
    let most_fits : FitsSigned w128 c.max-windows-inside.result = search rules in
    let r =
    raised s.places.window c.window.result.now held s.from c.first_undue.result c.max-windows-inside.result c.window.ensures before_fits undue_fits most_fits c.max-windows-inside.ensures.value c.first_undue.ensures.due
    c.first_undue.ensures.starts in
    let first : Inside = record { alloc = s.alloc; keys = s.keys; from = from; places = s.places; spans = c.drop_spans.new.spans; opened = s.opened } in
    let dropped : IsDropped (with_from from s) first =
    spans_dropped (with_from from s) first c.window-2.result.now _ c.window-2.ensures (to_z-of_z w128 from (subst (FitsSigned w128) (sym (to_z-of_z w128 c.max-windows-inside.result most_fits)) most_fits))
    (record { window = refl; from = refl; places = refl }) refl c.drop_spans.ensures.later c.drop_spans.ensures.kinds c.windows.invariant.kinds in
    all_left held first (inside_dropped (with_from from s) first (inside_raised s held from c.windows.invariant r) dropped)

pub loop-start-smaller : goal.loop-start-smaller
loop-start-smaller c =
    let old = c.loop-start.windows-inside in
    let fewer = c.in-Some.ensures.fewer in
    elim c.if-start-from.branch [
      | then-start-from w ↦ subst (λ (v : Inside). length v.opened.entries < length old.opened.entries) (sym w.windows-inside-is) fewer
      | else-start-from w ↦ subst (λ (v : Inside). length v.opened.entries < length old.opened.entries) (sym w.windows-inside-is) fewer
    ]

pub loop-start-preserved : goal.loop-start-preserved
loop-start-preserved c =
    let s = c.windows.inside in
    let held : ℤ = to_z w64 (of_z w64 c.args.watermark) in
    let from : ℤ = wide c.max-windows-inside.result in
    let before_fits : FitsSigned w128 s.from = search rules in
    let undue_fits : FitsSigned w128 c.first_undue.result = search rules in
    let most_fits : FitsSigned w128 c.max-windows-inside.result = search rules in
    let r =
    raised s.places.window c.window.result.now held s.from c.first_undue.result c.max-windows-inside.result c.window.ensures before_fits undue_fits most_fits c.max-windows-inside.ensures.value c.first_undue.ensures.due
    c.first_undue.ensures.starts in
    let first : Inside = record { alloc = s.alloc; keys = s.keys; from = from; places = s.places; spans = c.drop_spans.new.spans; opened = s.opened } in
    let dropped : IsDropped (with_from from s) first =
    spans_dropped (with_from from s) first c.window-2.result.now _ c.window-2.ensures (to_z-of_z w128 from (subst (FitsSigned w128) (sym (to_z-of_z w128 c.max-windows-inside.result most_fits)) most_fits))
    (record { window = refl; from = refl; places = refl }) refl c.drop_spans.ensures.later c.drop_spans.ensures.kinds c.windows.invariant.kinds in
    let t = c.loop-start.windows-inside in
    let left : IsLeft held first t = c.loop-start.invariant in
    let start = c.in-Some.start in
    let start_fits : FitsSigned w64 start = search rules in
    let due : is_due s.places.window held start ≡ true = ap (λ (v : WindowSpec). is_due v held start) (sym (c.window-in-loop-start.ensures ∙ left.window)) ∙ c.in-Some.ensures.due in
    let begins : int_lt start from ≡ true = r.due start due in
    elim c.if-start-from.branch [
      | then-start-from w ↦
          let keys = c.in-Some.keys.items in
          let now : Inside = record { alloc = t.alloc; keys = t.keys; from = t.from; places = w.remove_keys.new.self; spans = t.spans; opened = c.pop_due.new.opened } in
          let taken : (q : Pane) → acc_at w.remove_keys.new.self.entries q ≡ cond (int_eq q.start start && has_key q.key keys) None (acc_at t.places.entries q) =
          λ q. w.remove_keys.ensures.taken q ∙ (λ i. cond (int_eq q.start (to_z-of_z w64 start start_fits i) && has_key q.key (w.as_slice.ensures.value i)) None (acc_at t.places.entries q)) in
          subst (IsLeft held first) (sym w.windows-inside-is)
          (less_left held start first t now left
          (places_taken start keys t now left.inside (record { window = w.remove_keys.ensures.window_stays; from = refl; slices = refl }) (ap (int_lt start) left.from ∙ begins) c.in-Some.ensures.taken c.in-Some.ensures.those taken) due begins)
      | else-start-from w ↦
          let now : Inside = record { alloc = t.alloc; keys = t.keys; from = t.from; places = t.places; spans = t.spans; opened = c.pop_due.new.opened } in
          let side : int_lt start s.from ≡ false = side_of start s.from false start_fits before_fits w.if-start-from.false in
          subst (IsLeft held first) (sym w.windows-inside-is)
          (less_left held start first t now left
          (slices_dropped start t now (record { window = refl; from = refl; places = refl }) c.in-Some.ensures.taken
          (λ q here. no_acc (acc_at t.places.entries q) (λ some. sym (c.windows.invariant.below q (left.fewer q some)) ∙ starts_later q.start start s.from here side))
          (λ q later. refl) left.inside.kinds) due begins)
    ]

pub invariant_of-windows-in_default : goal.invariant_of-windows-in_default
invariant_of-windows-in_default c =
    let t = c.loop-start.windows-inside in
    let now : Inside = record { alloc = t.alloc; keys = t.keys; from = t.from; places = t.places; spans = t.spans; opened = c.pop_due.new.opened } in
    opened_more t now c.loop-start.invariant.inside (record { window = refl; from = refl; slices = refl }) refl (λ q has. ap (λ es. has_open es q) c.in_default.ensures.same ∙ has)

pub returns-then-are_all_due-clause-left : goal.returns-then-are_all_due-clause-left
returns-then-are_all_due-clause-left c =
    let s = c.windows.inside in
    let mark = c.args.watermark in
    let mark_fits : FitsSigned w64 mark = c.ranges.watermark in
    let now : Inside =
    record { alloc = s.alloc; keys = s.keys; from = wide c.max-windows-inside.result; places = c.clear-then-are_all_due.new.self; spans = c.clear-then-are_all_due-2.new.self; opened = c.clear.new.self } in
    let places = ap (λ (v : PlacesData). v.entries) c.clear-then-are_all_due.ensures in
    let slices = c.clear-then-are_all_due-2.ensures.empty in
    let all = subst (λ (v : WindowSpec). All (λ e. is_due v mark e.0 ≡ true) s.opened.entries) c.window-then-is_filled.ensures
    (subst (λ (z : ℤ). All (λ e. is_due c.window-then-is_filled.result.now z e.0 ≡ true) s.opened.entries) (to_z-of_z w64 mark mark_fits) (c.are_all_due.ensures.0 c.if-are_all_due.true)) in
    let operator = subst (λ (v : WindowSpec). IsOperator v) (ap (λ (v : PlacesData). v.window) (sym c.clear-then-are_all_due.ensures)) c.windows.invariant.operator in
    let held : ℤ = to_z w64 (of_z w64 c.args.watermark) in
    let before_fits : FitsSigned w128 s.from = search rules in
    let undue_fits : FitsSigned w128 c.first_undue.result = search rules in
    let most_fits : FitsSigned w128 c.max-windows-inside.result = search rules in
    let r = raised s.places.window c.window.result.now held s.from c.first_undue.result c.max-windows-inside.result c.window.ensures before_fits undue_fits most_fits c.max-windows-inside.ensures.value c.first_undue.ensures.due
    c.first_undue.ensures.starts in
    let whole = subst (λ (v : WindowSpec). AreWhole v now.from) (ap (λ (v : PlacesData). v.window) (sym c.clear-then-are_all_due.ensures)) (whole_raised s.places.window held s.from now.from r c.windows.invariant.whole) in
    totals_left s now c.args.windows.now mark c.windows.invariant (inside_cleared now operator whole places slices) c.windows.view_is (cleared_standing s now mark c.windows.invariant places slices all)

pub returns-in_default-clause-left : goal.returns-in_default-clause-left
returns-in_default-clause-left c =
    let s = c.windows.inside in
    let held : ℤ = to_z w64 (of_z w64 c.args.watermark) in
    let from : ℤ = wide c.max-windows-inside.result in
    let before_fits : FitsSigned w128 s.from = search rules in
    let undue_fits : FitsSigned w128 c.first_undue.result = search rules in
    let most_fits : FitsSigned w128 c.max-windows-inside.result = search rules in
    let r =
    raised s.places.window c.window.result.now held s.from c.first_undue.result c.max-windows-inside.result c.window.ensures before_fits undue_fits most_fits c.max-windows-inside.ensures.value c.first_undue.ensures.due
    c.first_undue.ensures.starts in
    let first : Inside = record { alloc = s.alloc; keys = s.keys; from = from; places = s.places; spans = c.drop_spans.new.spans; opened = s.opened } in
    let dropped : IsDropped (with_from from s) first =
    spans_dropped (with_from from s) first c.window-2.result.now _ c.window-2.ensures (to_z-of_z w128 from (subst (FitsSigned w128) (sym (to_z-of_z w128 c.max-windows-inside.result most_fits)) most_fits))
    (record { window = refl; from = refl; places = refl }) refl c.drop_spans.ensures.later c.drop_spans.ensures.kinds c.windows.invariant.kinds in
    let mark = c.args.watermark in
    let mark_fits : FitsSigned w64 mark = c.ranges.watermark in
    let t = c.loop-start.windows-inside in
    let left : IsLeft held (with_from from s) t = left_dropped held (with_from from s) first t dropped c.loop-start.invariant in
    let none = subst (λ (v : WindowSpec). All (λ e. is_due v held e.0 ≡ false) t.opened.entries) (c.window-in-loop-start.ensures ∙ left.window) c.in_default.ensures.none in
    let now : Inside = record { alloc = t.alloc; keys = t.keys; from = t.from; places = t.places; spans = t.spans; opened = c.pop_due.new.opened } in
    let inside : IsWindowsInside now = opened_more t now left.inside (record { window = refl; from = refl; slices = refl }) refl (λ q has. ap (λ es. has_open es q) c.in_default.ensures.same ∙ has) in
    totals_left s now c.args.windows.now held c.windows.invariant inside c.windows.view_is (left_standing s t held from c.windows.invariant r left none)
    ∙ ap (λ z. retain_keys c.args.windows.now.totals (λ q. not (is_due c.args.windows.now.window z q.start))) (to_z-of_z w64 mark mark_fits)
