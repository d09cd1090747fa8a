use Rattle.std.proofs.Common.{◌≡◌, ◌≤ℤ◌, length}
use Rattle.plan_model.specs.declared.spec.Pane.{Pane}
use Rattle.window_slices.specs.Spans.{AreInSpans, in_spans}
use Rattle.window_slices.proofs.spans.drop_spans.Given as goal

abbrev pub invariant-loop-span : goal.invariant-loop-span
invariant-loop-span l = record {
  later : (q : Pane) → l.from ≤ℤ q.start → in_spans l.w l.spans.entries q ≡ in_spans l.w l.fn.spans.entries q;
  kinds : AreInSpans l.w l.fn.spans.entries → AreInSpans l.w l.spans.entries;
}

abbrev pub decreases-loop-span : goal.decreases-loop-span
decreases-loop-span l = length l.spans.entries
