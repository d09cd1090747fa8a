use Rattle.std.proofs.Common.{◌≡◌, ◌+◌, ◌<◌, ◌∙◌, ◌&&◌, true, false, not, refl, sym, ap, subst, arith, length, get_or, pos, None, cond, rules, FitsSigned, to_z, of_z}
use Rattle.std.specs.FinMap.{get}
use Rattle.std.specs.Int.{w128}
use Rattle.std.proofs.lemmas.Int.{to_z-of_z}
use Rattle.std.proofs.lemmas.List.{get_or_default}
use Rattle.std.specs.List.Sorted.{IsStrictlySortedBy}
use Rattle.std.specs.Prelude.{int_lt, IfSome}
use Rattle.plan_model.specs.declared.spec.Pane.{Pane}
use Rattle.plan_model.specs.Rows.{pane_cmp}
use Rattle.aggregates.specs.Kinds.{AccData}
use Rattle.window_state.specs.declared.windows.Windows.TheInside.{Inside}
use Rattle.window_state.specs.Parts.{IsPartOf}
use Rattle.window_state.specs.Open.{has_open}
use Rattle.window_state.specs.Windows.{has_pane}
use Rattle.window_state.proofs.Entries.{with_acc, with_kinds, without_acc}
use Rattle.window_state.proofs.Joined.{later_side, opened_later, starts_at}
use Rattle.window_state.proofs.Pushing.{pushed_some, pushed_none, pushed_all}
use Rattle.window_state.proofs.parts.push_later.Goals as goal
use Rattle.window_state.proofs.parts.push_later.Goals.{in-Some+in_ok-push, in_default}

-- the number as the code hands it on
held : (s : Inside) (q : Pane) → FitsSigned w128 s.from → (not (int_lt q.start (to_z w128 (of_z w128 s.from))) && has_open s.opened.entries q) ≡ (not (int_lt q.start s.from) && has_open s.opened.entries q)
held s q fits = ap (λ f. not (int_lt q.start f) && has_open s.opened.entries q) (to_z-of_z w128 s.from fits)

pub loop-pane-init : goal.loop-pane-init
loop-pane-init c = record { kinds = refl; same = refl; sound = c.requires.sound }

pub later_acc-requires : goal.later_acc-requires
later_acc-requires c =
    let s = c.windows.inside in
    let v = c.args.windows.now in
    let items = c.deref-pane-items.result.now in
    let i = c.loop-pane.pane-index in
    let low : i < length items = omega (arith, c.loop-pane-test.true, c.loop-pane.auto.pane-index-end) in
    let from : FitsSigned w128 s.from = search rules in
    starts_at s v c.windows.invariant c.windows.view_is items i _ low (λ q. ap (λ l. has_pane l q) c.deref-pane-items.ensures.value ∙ c.in_ok-panes.ensures.those q ∙ held s q from)

pub push-requires : goal.push-requires
push-requires c =
    let v = c.args.windows.now in
    let p : Pane = get_or c.deref-pane-items.result.now c.loop-pane.pane-index (record { start = pos 0; key = pos 0 }) in
    with_kinds v.window (get v.totals p) c.in-Some.acc (sym c.in-Some.is ∙ c.later_acc.ensures.acc) ∙ sym (c.loop-pane.invariant.kinds ∙ c.requires.kinds)

pub loop-pane-preserved : goal.loop-pane-preserved
loop-pane-preserved c =
    let s = c.windows.inside in
    let v = c.args.windows.now in
    let w = v.window in
    let items = c.deref-pane-items.result.now in
    let i = c.loop-pane.pane-index in
    let p : Pane = get_or items i (record { start = pos 0; key = pos 0 }) in
    let low : i < length items = omega (arith, c.loop-pane-test.true, c.loop-pane.auto.pane-index-end) in
    let from : FitsSigned w128 s.from = search rules in
    let later = starts_at s v c.windows.invariant c.windows.view_is items i _ low (λ q. ap (λ l. has_pane l q) c.deref-pane-items.ensures.value ∙ c.in_ok-panes.ensures.those q ∙ held s q from) in
    let here : later_side v p ≡ get v.totals p = ap (λ b. cond b None (get v.totals p)) later in
    elim c.match-later_acc.branch [
      | in-Some+in_ok-push b ↦
          let a = b.in-Some.acc in
          let there = with_acc w (get v.totals p) a (sym b.in-Some.is ∙ c.later_acc.ensures.acc) in
          let part : IsPartOf w (record { pane = p; acc = a }) = subst (λ o. IfSome o (λ (x : AccData). IsPartOf w (record { pane = p; acc = x }))) b.in-Some.is c.later_acc.ensures.part in
          pushed_some w c.args.parts.now.kinds (later_side v) items c.args.parts.now i p a c.loop-pane.parts _ low (get_or_default items i (record { start = pos 0; key = pos 0 }) p low) (here ∙ there) c.requires.kinds part
          (b.parts-is ∙ b.in_ok-push.ensures.ok) c.loop-pane.invariant
      | in_default b ↦
          let none = without_acc w (get v.totals p) (sym b.in_default.is ∙ c.later_acc.ensures.acc) in
          pushed_none w c.args.parts.now.kinds (later_side v) items c.args.parts.now i p c.loop-pane.parts _ low (get_or_default items i (record { start = pos 0; key = pos 0 }) p low) (here ∙ none) b.parts-is c.loop-pane.invariant
    ]

pub returns-clause-pushed : goal.returns-clause-pushed
returns-clause-pushed c =
    let s = c.windows.inside in
    let v = c.args.windows.now in
    let items = c.deref-pane-items.result.now in
    let gives = c.deref-pane-items.ensures.value in
    let from : FitsSigned w128 s.from = search rules in
    let ordered : IsStrictlySortedBy pane_cmp items = subst (IsStrictlySortedBy pane_cmp) (sym gives) c.in_ok-panes.ensures.ordered in
    pushed_all v.window c.args.parts.now.kinds (later_side v) items c.args.parts.now c.loop-pane.pane-index c.loop-pane.parts
    (omega (arith, c.loop-pane-test.false, c.loop-pane.auto.pane-index-end)) refl ordered
    (λ q some. ap (λ l. has_pane l q) gives ∙ c.in_ok-panes.ensures.those q ∙ held s q from ∙ opened_later s v c.windows.invariant c.windows.view_is q some) c.loop-pane.invariant

pub returns-clause-sound : goal.returns-clause-sound
returns-clause-sound c = c.loop-pane.invariant.sound
