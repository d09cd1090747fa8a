use Rattle.std.proofs.Common.{◌≡◌, ◌++◌, ◌&&◌, ℤ, false, ◌∙◌, sym, ap, subst, rules, FitsSigned, to_z, of_z}
use Rattle.std.specs.Int.{w64}
use Rattle.std.specs.Global.{Vec}
use Rattle.std.specs.List.{All}
use Rattle.std.specs.List.Sorted.{IsStrictlySortedBy}
use Rattle.std.specs.Map.{keys_of}
use Rattle.std.specs.Ordering.{int_cmp}
use Rattle.std.proofs.lemmas.Int.{to_z-of_z}
use Rattle.std.proofs.lemmas.List.Elements.{All-nil}
use Rattle.plan_model.specs.Rows.{is_due}
use Rattle.window_state.specs.Open.{has_key, has_open, panes_from}
use Rattle.window_state.proofs.Rising.{none_rise, next_rises}
use Rattle.window_state.proofs.Starts.{next_taken, none_from, all_so_far, starts_left}
use Rattle.window_state.proofs.opened.due_panes.Goals as goal
use Rattle.window_state.proofs.opened.due_panes.Goals.{in-None, in-Some+then-not-is_due}

pub loop-start-init : goal.loop-start-init
loop-start-init c = record {
  those = search rules;
  ordered = search rules;
  rises = none_rise c.new-panes.result.items c.into_iter-start-iterator.result c.new-panes.ensures.items;
}

pub loop-start-preserved : goal.loop-start-preserved
loop-start-preserved c =
    let w = c.args.w.now in
    let held : ℤ = to_z w64 (of_z w64 c.args.watermark) in
    let s = c.in-Some.start.now in
    let e : ℤ × Vec ℤ = (s, c.in-Some.keys.now) in
    let fits : FitsSigned w64 s = search rules in
    let due = ap (is_due w held) (sym (to_z-of_z w64 s fits)) ∙ sym c.if-not-is_due.ensures in
    let pushed = c.in_ok-push_panes.ensures in
    let keys = pushed.0 in
    let same = λ (k : ℤ). pushed.2 k ∙ ap (has_key k) c.as_slice.ensures.value in
    let is = pushed.3 ∙ (λ i. c.loop-start.panes.items ++ panes_from (to_z-of_z w64 s fits i) keys) in
    record {
      those = λ q.
          next_taken (is_due w held) c.loop-start.panes.items c.push_panes.new.panes.items e keys c.loop-start.start-iterator c.next.new.self q is same c.in-Some.ensures.steps due
          ∙ c.loop-start.invariant.those q;
      rises = next_rises c.loop-start.panes.items c.push_panes.new.panes.items e keys c.loop-start.start-iterator c.next.new.self is c.in-Some.ensures.steps c.loop-start.invariant.ordered pushed.1 c.loop-start.invariant.rises;
      ordered = starts_left e c.loop-start.start-iterator c.next.new.self c.loop-start.invariant.ordered c.in-Some.ensures.steps;
    }

pub returns-clause-ordered : goal.returns-clause-ordered
returns-clause-ordered c = c.loop-start.invariant.rises.strict

pub returns-clause-those : goal.returns-clause-those
returns-clause-those c = λ q.
    let w = c.args.w.now in
    let held : ℤ = to_z w64 (of_z w64 c.args.watermark) in
    let left = c.loop-start.start-iterator in
    let same : held ≡ c.args.watermark = to_z-of_z w64 c.args.watermark c.ranges.watermark in
    let none : All (λ e. is_due w held e.0 ≡ false) left =
    elim c.match-next.branch [
      | in-None v ↦ subst (All (λ (e : ℤ × Vec ℤ). is_due w held e.0 ≡ false)) (sym v.in-None.ensures.steps.0) (All-nil (λ (e : ℤ × Vec ℤ). is_due w held e.0 ≡ false))
      | in-Some+then-not-is_due v ↦
          let s = v.in-Some.start.now in
          let e : ℤ × Vec ℤ = (s, v.in-Some.keys.now) in
          let fits : FitsSigned w64 s = search rules in
          let undue = ap (is_due w held) (sym (to_z-of_z w64 s fits)) ∙ sym v.if-not-is_due.ensures in
          let steps = v.in-Some.ensures.steps in
          subst (All (λ (e : ℤ × Vec ℤ). is_due w held e.0 ≡ false)) (sym steps)
          (none_from w held e c.next.new.self (subst (λ l. IsStrictlySortedBy int_cmp (keys_of l)) steps c.loop-start.invariant.ordered) undue)
    ] in
    all_so_far w held c.loop-start.panes.items left c.args.opened.now.entries q none (c.loop-start.invariant.those q)
    ∙ ap (λ t. is_due w t q.start && has_open c.args.opened.now.entries q) same
