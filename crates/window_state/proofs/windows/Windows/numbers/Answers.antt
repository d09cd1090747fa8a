use Rattle.std.proofs.Common.{◌≡◌, true, false, Some, rules, sym, ap, subst, ◌∙◌, FitsSigned}
use Rattle.std.specs.Prelude.{IfOk}
use Rattle.std.specs.Int.{w64, w128}
use Rattle.std.specs.Option.{is_some, option_map}
use Rattle.plan_model.specs.declared.spec.WindowSpec.{WindowSpec}
use Rattle.plan_model.specs.Aggregates.{Aggregated}
use Rattle.window_slices.specs.Spans.{in_spans}
use Rattle.window_state.proofs.Entries.{with_acc, without_acc}
use Rattle.window_state.proofs.Standing.{side_of, seen_before, seen_later, numbers_total}
use Rattle.window_state.proofs.windows.Windows.numbers.Goals as goal

pub returns-then-pane-self-clause-numbers : goal.returns-then-pane-self-clause-numbers
returns-then-pane-self-clause-numbers c =
    let s = c.self.inside in
    let p = c.args.pane.now in
    let fits : FitsSigned w64 p.start = search rules in
    let from : FitsSigned w128 s.from = search rules in
    let before = side_of p.start s.from true fits from c.if-pane-self.true in
    subst (λ x. IfOk c.numbers.result (λ found. found ≡ x))
    (numbers_total _ ∙ ap (option_map (λ (a : Aggregated). a.numbers)) (seen_before s c.args.self.now p c.self.invariant c.self.view_is before)) c.numbers.ensures.numbers

pub returns-in_ok-numbers_of-in-Some-clause-numbers : goal.returns-in_ok-numbers_of-in-Some-clause-numbers
returns-in_ok-numbers_of-in-Some-clause-numbers c =
    let s = c.self.inside in
    let p = c.args.pane.now in
    let fits : FitsSigned w64 p.start = search rules in
    let from : FitsSigned w128 s.from = search rules in
    let later = side_of p.start s.from false fits from c.if-pane-self.false in
    let w = c.window.result.now in
    let there = with_acc w (in_spans w s.spans.entries p) c.in-Some.acc (sym c.in-Some.is ∙ c.pane_total.ensures) in
    ap Some (c.in_ok-numbers_of-in-Some.ensures ∙ c.numbers-in-Some.ensures)
    ∙ ap (option_map (λ (a : Aggregated). a.numbers)) (sym there ∙ ap (λ (x : WindowSpec). in_spans x s.spans.entries p) c.window.ensures ∙ seen_later s c.args.self.now p c.self.invariant c.self.view_is later)

pub returns-in_ok-numbers_of-in-Some-clause-start : goal.returns-in_ok-numbers_of-in-Some-clause-start
returns-in_ok-numbers_of-in-Some-clause-start c =
    let s = c.self.inside in
    let p = c.args.pane.now in
    let fits : FitsSigned w64 p.start = search rules in
    let from : FitsSigned w128 s.from = search rules in
    let later = side_of p.start s.from false fits from c.if-pane-self.false in
    let w = c.window.result.now in
    let there = with_acc w (in_spans w s.spans.entries p) c.in-Some.acc (sym c.in-Some.is ∙ c.pane_total.ensures) in
    c.self.invariant.starts p later (ap is_some (ap (λ (x : WindowSpec). in_spans x s.spans.entries p) (sym c.window.ensures) ∙ there))

pub returns-in-None-clause-numbers : goal.returns-in-None-clause-numbers
returns-in-None-clause-numbers c =
    let s = c.self.inside in
    let p = c.args.pane.now in
    let fits : FitsSigned w64 p.start = search rules in
    let from : FitsSigned w128 s.from = search rules in
    let later = side_of p.start s.from false fits from c.if-pane-self.false in
    let w = c.window.result.now in
    let none = without_acc w (in_spans w s.spans.entries p) (sym c.in-None.is ∙ c.pane_total.ensures) in
    ap (option_map (λ (a : Aggregated). a.numbers)) (sym none ∙ ap (λ (x : WindowSpec). in_spans x s.spans.entries p) c.window.ensures ∙ seen_later s c.args.self.now p c.self.invariant c.self.view_is later)
