use Rattle.std.proofs.Common.{◌≡◌, ℕ, ◌<◌, ◌⊎◌, false, length, option_map, Option, Some, sym, subst, ◌∙◌, arith}
use Rattle.std.specs.Prelude.{IfSome}
use Rattle.std.specs.Ordering.{is_gt}
use Rattle.plan_model.specs.declared.spec.Pane.{Pane}
use Rattle.plan_model.specs.Rows.{pane_cmp}
use Rattle.row_merges.specs.Merges.{HasRowAt, IsFirst, pane_in}
use Rattle.row_merges.proofs.Passing.{found_some, found_none}
use Rattle.row_merges.proofs.Firsts.{IsLeast, at_more, least_more, least_of_all, first_of_all}
use Rattle.row_merges.proofs.merge.Merge.first.Goals as goal

pub loop-place-init : goal.loop-place-init
loop-place-init g c = record { some = tt; none = λ e k d lt. absurd (omega arith); at = tt; least = tt }

pub loop-place-preserved : goal.loop-place-preserved
loop-place-preserved g c =
    let heads = c.args.self.now.heads.items in
    let place = c.loop-place.place in
    let head = c.index-head.result.now in
    let found = c.loop-place.found in
    let inside : place < length heads = omega (arith, c.loop-place-test.true, c.len-place-end.ensures) in
    let next = c.earlier-found.result in
    let some : IfSome next (λ at. (found ≡ Some at) ⊎ ((at.0 ≡ place) × (option_map pane_in head.row ≡ Some at.1))) =
    subst (λ (p : Option Pane). IfSome next (λ at. (found ≡ Some at) ⊎ ((at.0 ≡ place) × (p ≡ Some at.1)))) c.pane.ensures c.earlier-found.ensures.some in
    record {
      some = found_some heads place head found next inside c.index-head.ensures c.loop-place.invariant.some some;
      at = at_more heads place head inside c.index-head.ensures found next c.loop-place.invariant.at some;
      least = least_more heads place head inside c.index-head.ensures found next c.loop-place.invariant.none c.loop-place.invariant.least
          (subst (λ (p : Option Pane). IfSome next (λ at. IfSome found (λ other. is_gt (pane_cmp at.1 other.1) ≡ false) × IfSome p (λ q. is_gt (pane_cmp at.1 q) ≡ false))) c.pane.ensures c.earlier-found.ensures.least);
      none = λ e.
          let both = c.earlier-found.ensures.none e in
          found_none heads place head inside c.index-head.ensures (c.loop-place.invariant.none both.0) (sym c.pane.ensures ∙ both.1);
    }

pub returns-in-Some-clause-some : goal.returns-in-Some-clause-some
returns-in-Some-clause-some g c = subst (λ (o : Option (ℕ × Pane)). IfSome o (λ at. HasRowAt c.args.self.now.heads.items at.0)) c.in-Some.is c.loop-place.invariant.some

pub returns-in-Some-clause-least : goal.returns-in-Some-clause-least
returns-in-Some-clause-least g c =
    let heads = c.args.self.now.heads.items in
    let all : IsLeast heads (length heads) c.loop-place.found = least_of_all heads c.loop-place.place c.loop-place.found (omega (arith, c.loop-place-test.false, c.len-place-end.ensures)) c.loop-place.invariant.least in
    subst (λ (o : Option (ℕ × Pane)). IfSome o (λ at. IsFirst heads at.0)) c.in-Some.is (first_of_all heads c.loop-place.found c.loop-place.invariant.at all)

pub returns-in-None-clause-none : goal.returns-in-None-clause-none
returns-in-None-clause-none g c = λ e k d lt. c.loop-place.invariant.none c.in-None.is k d (omega (arith, lt, c.loop-place-test.false, c.len-place-end.ensures))
