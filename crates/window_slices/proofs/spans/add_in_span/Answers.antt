use Rattle.std.proofs.Common.{◌≡◌, ◌∙◌, [], ◌∷◌, sym, ap, subst, slice_index_or, rules, FitsSigned}
use Rattle.std.specs.Int.{w64, w128}
use Rattle.std.specs.Option.{is_some}
use Rattle.std.proofs.lemmas.Int.{to_z-of_z}
use Rattle.std.proofs.lemmas.Result.{on_ok_weaker, on_err_weaker}
use Rattle.plan_model.specs.Aggregates.{aggregate_of}
use Rattle.window_slices.specs.KeySlices.{AreSlices, CanTakeOne, slices_of}
use Rattle.window_slices.specs.Spans.{keyed_in, keyed_at, span_start}
use Rattle.window_slices.proofs.SpanAdds.{has_at, has_held, in_spans_more, in_spans_kinds, in_spans_same}
use Rattle.window_slices.proofs.spans.add_in_span.Goals as goal

pub add_slice-requires-clause-kinds : goal.add_slice-requires-clause-kinds
add_slice-requires-clause-kinds c = subst (AreSlices c.args.w.now) (sym (ap keyed_in c.in-Some.ensures.value)) (c.requires.kinds _)

pub add_slice-requires-clause-room : goal.add_slice-requires-clause-room
add_slice-requires-clause-room c =
    let w = c.args.w.now in
    let start = c.args.slice.start in
    let old = c.args.spans.now.entries in
    let span = c.span_of-span.result in
    let fits : FitsSigned w64 start = search rules in
    let span_fits : FitsSigned w128 span = search rules in
    let is : span ≡ span_start w start = c.span_of-span.ensures ∙ ap (span_start w) (to_z-of_z w64 start fits) in
    let there = ap keyed_in c.in-Some.ensures.value ∙ ap (keyed_at old) (to_z-of_z w128 span span_fits ∙ is) in
    subst (λ l. CanTakeOne start (slices_of l c.args.slice.key)) (sym there) c.requires.room

pub returns-in-Some-clause-added : goal.returns-in-Some-clause-added
returns-in-Some-clause-added c =
    let w = c.args.w.now in
    let start = c.args.slice.start in
    let old = c.args.spans.now.entries in
    let m = c.add_slice.new.slices in
    let new = (c.get_mut.follows.lender m).entries in
    let span = c.span_of-span.result in
    let fits : FitsSigned w64 start = search rules in
    let span_fits : FitsSigned w128 span = search rules in
    let is : span ≡ span_start w start = c.span_of-span.ensures ∙ ap (span_start w) (to_z-of_z w64 start fits) in
    let same = to_z-of_z w128 span span_fits in
    let there = c.in-Some.ensures.value in
    let one = aggregate_of w.aggregates (slice_index_or c.args.batch.now.rows c.args.row [] ∷ []) in
    let has = has_at old new span _ m same ((c.get_mut.follows.holds m).3 (ap is_some (sym there))).0 in
    let sized = c.requires.window.sized in
    let was = ap keyed_in there ∙ ap (keyed_at old) same in
    on_ok_weaker c.add_slice.result (in_spans_more w old new span c.args.slice.key start _ m one sized is was has) c.add_slice.ensures.added

pub returns-in-Some-clause-kinds : goal.returns-in-Some-clause-kinds
returns-in-Some-clause-kinds c =
    let old = c.args.spans.now.entries in
    let m = c.add_slice.new.slices in
    let new = (c.get_mut.follows.lender m).entries in
    let span = c.span_of-span.result in
    let span_fits : FitsSigned w128 span = search rules in
    let has = has_at old new span _ m (to_z-of_z w128 span span_fits) ((c.get_mut.follows.holds m).3 (ap is_some (sym c.in-Some.ensures.value))).0 in
    in_spans_kinds c.args.w.now old new span m has c.add_slice.ensures.kinds c.requires.kinds

pub returns-in-Some-clause-err : goal.returns-in-Some-clause-err
returns-in-Some-clause-err c =
    let old = c.args.spans.now.entries in
    let m = c.add_slice.new.slices in
    let new = (c.get_mut.follows.lender m).entries in
    let span = c.span_of-span.result in
    let span_fits : FitsSigned w128 span = search rules in
    let same = to_z-of_z w128 span span_fits in
    let there = c.in-Some.ensures.value in
    let has = has_at old new span _ m same ((c.get_mut.follows.holds m).3 (ap is_some (sym there))).0 in
    on_err_weaker c.add_slice.result (in_spans_same old new span _ m (ap keyed_in there ∙ ap (keyed_at old) same) has) c.add_slice.ensures.err

pub returns-in-Ok-clause-added : goal.returns-in-Ok-clause-added
returns-in-Ok-clause-added c =
    let w = c.args.w.now in
    let start = c.args.slice.start in
    let old = c.args.spans.now.entries in
    let m = c.add_slice-2.new.slices in
    let new = c.insert.new.self.entries in
    let span = c.span_of-span.result in
    let fits : FitsSigned w64 start = search rules in
    let span_fits : FitsSigned w128 span = search rules in
    let is : span ≡ span_start w start = c.span_of-span.ensures ∙ ap (span_start w) (to_z-of_z w64 start fits) in
    let same = to_z-of_z w128 span span_fits in
    let one = aggregate_of w.aggregates (slice_index_or c.args.batch.now.rows c.args.row [] ∷ []) in
    let has = has_held old _ new span _ m (λ i. (c.get_mut.follows.holds-at-none i).entries) same c.in-Ok.ensures.updates.0 in
    let none = c.with_hasher-first.ensures.empty ∙ ap keyed_in c.in_default.ensures.value ∙ ap (keyed_at old) same in
    in_spans_more w old new span c.args.slice.key start _ m one c.requires.window.sized is none has c.in_ok-add_slice.ensures.added

pub returns-in-Ok-clause-kinds : goal.returns-in-Ok-clause-kinds
returns-in-Ok-clause-kinds c =
    let old = c.args.spans.now.entries in
    let m = c.add_slice-2.new.slices in
    let new = c.insert.new.self.entries in
    let span = c.span_of-span.result in
    let span_fits : FitsSigned w128 span = search rules in
    let has = has_held old _ new span _ m (λ i. (c.get_mut.follows.holds-at-none i).entries) (to_z-of_z w128 span span_fits) c.in-Ok.ensures.updates.0 in
    in_spans_kinds c.args.w.now old new span m has c.in_ok-add_slice.ensures.kinds c.requires.kinds
