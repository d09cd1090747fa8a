use Rattle.std.proofs.Common.{◌≡◌, true, false, refl, sym, ap, subst, ◌∙◌, Option, Some, None}
use Rattle.std.specs.Prelude.{int_lt, IfSome}
use Rattle.std.specs.Option.{is_some, option_map}
use Rattle.plan_model.specs.declared.spec.Pane.{Pane}
use Rattle.plan_model.specs.declared.spec.WindowSpec.{WindowSpec}
use Rattle.plan_model.specs.Aggregates.{Aggregated}
use Rattle.aggregates.specs.Kinds.{AccData}
use Rattle.window_slices.specs.KeySlices.{acc_with}
use Rattle.window_slices.specs.Spans.{in_spans}
use Rattle.window_state.specs.Parts.{IsPartOf}
use Rattle.window_state.specs.State.{OpenWindows}
use Rattle.window_state.specs.Windows.{IsStart}
use Rattle.window_state.proofs.Standing.{seen_later}
use Rattle.window_state.proofs.windows.Windows.later_acc.Goals as goal

pub returns-clause-acc : goal.returns-clause-acc
returns-clause-acc c =
    let s = c.self.inside in
    let v = c.args.self.now in
    let p = c.args.pane.now in
    let later : int_lt p.start s.from ≡ false = ap (λ (x : OpenWindows). int_lt p.start x.from) c.self.view_is ∙ c.requires in
    let window = c.window.ensures ∙ ap (λ (x : OpenWindows). x.window) c.self.view_is in
    c.pane_total.ensures
    ∙ (λ i. option_map (acc_with (window i)) (in_spans (c.window.ensures i) s.spans.entries p))
    ∙ ap (option_map (acc_with v.window)) (seen_later s v p c.self.invariant c.self.view_is later)

part_later : (w : WindowSpec) (p : Pane) (t : Option Aggregated) (o : Option AccData) → o ≡ option_map (acc_with w) t → (is_some t ≡ true → IsStart p.start) → IfSome o (λ a. IsPartOf w (record { pane = p; acc = a }))
part_later w p t o is start = subst (λ x. IfSome x (λ a. IsPartOf w (record { pane = p; acc = a }))) (sym is) (by_case t start)
  where
    by_case : (t : Option Aggregated) → (is_some t ≡ true → IsStart p.start) → IfSome (option_map (acc_with w) t) (λ a. IsPartOf w (record { pane = p; acc = a }))
    by_case None h = tt
    by_case (Some a) h = record { kinds = refl; start = h refl }

pub returns-clause-part : goal.returns-clause-part
returns-clause-part c =
    let s = c.self.inside in
    let v = c.args.self.now in
    let p = c.args.pane.now in
    let later : int_lt p.start s.from ≡ false = ap (λ (x : OpenWindows). int_lt p.start x.from) c.self.view_is ∙ c.requires in
    let window = c.window.ensures ∙ ap (λ (x : OpenWindows). x.window) c.self.view_is in
    let t = in_spans c.window.result.now s.spans.entries p in
    subst (λ (w : WindowSpec). IfSome c.pane_total.result (λ a. IsPartOf w (record { pane = p; acc = a }))) window
    (part_later c.window.result.now p t c.pane_total.result c.pane_total.ensures
    (λ some. c.self.invariant.starts p later (ap (λ (w : WindowSpec). is_some (in_spans w s.spans.entries p)) (sym c.window.ensures) ∙ some)))
