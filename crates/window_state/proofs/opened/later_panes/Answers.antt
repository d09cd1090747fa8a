use Rattle.std.proofs.Common.{◌≡◌, ◌++◌, ◌&&◌, ℤ, Bool, true, false, not, ◌∙◌, sym, ap, arith, rules, FitsSigned, to_z, of_z}
use Rattle.std.specs.Int.{w64, w128}
use Rattle.std.specs.Global.{Vec}
use Rattle.std.specs.Prelude.{int_lt, int_le}
use Rattle.std.proofs.lemmas.Int.{ints, to_z-of_z}
use Rattle.window_slices.proofs.Facts.{widened}
use Rattle.window_state.specs.Open.{has_key, has_open, panes_from}
use Rattle.window_state.proofs.Rising.{none_rise, next_rises, left_rises}
use Rattle.window_state.proofs.Starts.{next_taken, next_left, no_more, starts_left}
use Rattle.window_state.proofs.opened.later_panes.Goals as goal

not_below : (a f : ℤ) (b : Bool) → int_le f a ≡ b → not (int_lt a f) ≡ b
not_below a f true h = grind (arith, ints)
not_below a f false h = grind (arith, ints)

pub loop-start-init : goal.loop-start-init
loop-start-init c = record {
  those = search rules;
  ordered = search rules;
  rises = none_rise c.new-panes.result.items c.into_iter-start-iterator.result c.new-panes.ensures.items;
}

pub loop-start-preserved : goal.loop-start-preserved
loop-start-preserved c =
    let held : ℤ = to_z w128 (of_z w128 c.args.from) in
    let s = c.in-Some.start.now in
    let e : ℤ × Vec ℤ = (s, c.in-Some.keys.now) in
    let left = c.loop-start.start-iterator in
    let steps = c.in-Some.ensures.steps in
    let fits : FitsSigned w64 s = search rules in
    let before = not_below s held false (ap (int_le held) (sym (widened s fits)) ∙ c.if-from-start.false) in
    record {
      those = λ q. next_left (λ x. not (int_lt x held)) c.loop-start.panes.items e left c.next.new.self q steps before ∙ c.loop-start.invariant.those q;
      ordered = starts_left e left c.next.new.self c.loop-start.invariant.ordered steps;
      rises = left_rises c.loop-start.panes.items e left c.next.new.self steps c.loop-start.invariant.rises;
    }

pub loop-start-preserved-in-Continue-1 : goal.loop-start-preserved-in-Continue-1
loop-start-preserved-in-Continue-1 c =
    let held : ℤ = to_z w128 (of_z w128 c.args.from) in
    let s = c.in-Some.start.now in
    let e : ℤ × Vec ℤ = (s, c.in-Some.keys.now) in
    let left = c.loop-start.start-iterator in
    let steps = c.in-Some.ensures.steps in
    let fits : FitsSigned w64 s = search rules in
    let later = not_below s held true (ap (int_le held) (sym (widened s fits)) ∙ c.if-from-start.true) in
    let pushed = c.in_ok-push_panes.ensures in
    let keys = pushed.0 in
    let same = λ (k : ℤ). pushed.2 k ∙ ap (has_key k) c.as_slice.ensures.value in
    let is = pushed.3 ∙ (λ i. c.loop-start.panes.items ++ panes_from (to_z-of_z w64 s fits i) keys) in
    record {
      those = λ q.
          next_taken (λ x. not (int_lt x held)) c.loop-start.panes.items c.push_panes.new.panes.items e keys left c.next.new.self q is same steps later ∙ c.loop-start.invariant.those q;
      ordered = starts_left e left c.next.new.self c.loop-start.invariant.ordered steps;
      rises = next_rises c.loop-start.panes.items c.push_panes.new.panes.items e keys left c.next.new.self is steps c.loop-start.invariant.ordered pushed.1 c.loop-start.invariant.rises;
    }

pub returns-clause-ordered : goal.returns-clause-ordered
returns-clause-ordered c = c.loop-start.invariant.rises.strict

pub returns-clause-those : goal.returns-clause-those
returns-clause-those c = λ q.
    let held : ℤ = to_z w128 (of_z w128 c.args.from) in
    let same : held ≡ c.args.from = to_z-of_z w128 c.args.from c.ranges.from in
    no_more (λ x. not (int_lt x held)) c.loop-start.panes.items c.loop-start.start-iterator q c.in-None.ensures.steps.0 ∙ c.loop-start.invariant.those q
    ∙ ap (λ t. not (int_lt q.start t) && has_open c.args.opened.now.entries q) same
