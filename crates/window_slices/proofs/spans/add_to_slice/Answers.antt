use Rattle.std.proofs.Common.{◌≡◌, ◌∙◌, [], ◌∷◌, sym, ap, subst, slice_index_or, rules, FitsSigned}
use Rattle.std.specs.Int.{w64, w128}
use Rattle.std.specs.Option.{is_some}
use Rattle.std.proofs.lemmas.Int.{to_z-of_z}
use Rattle.plan_model.specs.Aggregates.{aggregate_of}
use Rattle.window_slices.specs.KeySlices.{AreSlices, CanTakeOne, has_start, slices_of}
use Rattle.window_slices.specs.Spans.{keyed_in, keyed_at, span_start}
use Rattle.window_slices.proofs.SpanAdds.{has_at, in_spans_more, in_spans_kinds, in_spans_same}
use Rattle.window_slices.proofs.spans.add_to_slice.Goals as goal

pub add_to_known-requires-clause-kinds : goal.add_to_known-requires-clause-kinds
add_to_known-requires-clause-kinds c = subst (AreSlices c.args.w.now) (sym (ap keyed_in c.in-Some.ensures.value)) (c.requires.kinds _)

pub add_to_known-requires-clause-room : goal.add_to_known-requires-clause-room
add_to_known-requires-clause-room c =
    let w = c.args.w.now in
    let start = c.args.slice.start in
    let old = c.args.spans.now.entries in
    let span = c.span_of.result in
    let fits : FitsSigned w64 start = search rules in
    let span_fits : FitsSigned w128 span = search rules in
    let is : span ≡ span_start w start = c.span_of.ensures ∙ ap (span_start w) (to_z-of_z w64 start fits) in
    let there = ap keyed_in c.in-Some.ensures.value ∙ ap (keyed_at old) (to_z-of_z w128 span span_fits ∙ is) in
    subst (λ l. CanTakeOne start (slices_of l c.args.slice.key)) (sym there) c.requires.room

pub returns-in-Some-clause-there : goal.returns-in-Some-clause-there
returns-in-Some-clause-there c =
    let w = c.args.w.now in
    let start = c.args.slice.start in
    let old = c.args.spans.now.entries in
    let span = c.span_of.result in
    let fits : FitsSigned w64 start = search rules in
    let span_fits : FitsSigned w128 span = search rules in
    let is : span ≡ span_start w start = c.span_of.ensures ∙ ap (span_start w) (to_z-of_z w64 start fits) in
    let there = ap keyed_in c.in-Some.ensures.value ∙ ap (keyed_at old) (to_z-of_z w128 span span_fits ∙ is) in
    c.add_to_known.ensures.there ∙ ap (λ l. has_start start (slices_of l c.args.slice.key)) there

pub returns-in-Some-clause-added : goal.returns-in-Some-clause-added
returns-in-Some-clause-added c =
    let w = c.args.w.now in
    let start = c.args.slice.start in
    let old = c.args.spans.now.entries in
    let m = c.add_to_known.new.slices in
    let new = (c.get_mut.follows.lender m).entries in
    let span = c.span_of.result in
    let fits : FitsSigned w64 start = search rules in
    let span_fits : FitsSigned w128 span = search rules in
    let is : span ≡ span_start w start = c.span_of.ensures ∙ ap (span_start w) (to_z-of_z w64 start fits) in
    let same = to_z-of_z w128 span span_fits in
    let there = c.in-Some.ensures.value in
    let one = aggregate_of w.aggregates (slice_index_or c.args.batch.now.rows c.args.row [] ∷ []) in
    let has = has_at old new span _ m same ((c.get_mut.follows.holds m).3 (ap is_some (sym there))).0 in
    let sized = c.requires.window.sized in
    let was = ap keyed_in there ∙ ap (keyed_at old) same in
    λ yes. in_spans_more w old new span c.args.slice.key start _ m one sized is was has (c.add_to_known.ensures.added yes)

pub returns-in-Some-clause-kinds : goal.returns-in-Some-clause-kinds
returns-in-Some-clause-kinds c =
    let old = c.args.spans.now.entries in
    let m = c.add_to_known.new.slices in
    let new = (c.get_mut.follows.lender m).entries in
    let span = c.span_of.result in
    let span_fits : FitsSigned w128 span = search rules in
    let has = has_at old new span _ m (to_z-of_z w128 span span_fits) ((c.get_mut.follows.holds m).3 (ap is_some (sym c.in-Some.ensures.value))).0 in
    in_spans_kinds c.args.w.now old new span m has c.add_to_known.ensures.kinds c.requires.kinds

pub returns-in-Some-clause-same : goal.returns-in-Some-clause-same
returns-in-Some-clause-same c =
    let old = c.args.spans.now.entries in
    let m = c.add_to_known.new.slices in
    let new = (c.get_mut.follows.lender m).entries in
    let span = c.span_of.result in
    let span_fits : FitsSigned w128 span = search rules in
    let same = to_z-of_z w128 span span_fits in
    let there = c.in-Some.ensures.value in
    let has = has_at old new span _ m same ((c.get_mut.follows.holds m).3 (ap is_some (sym there))).0 in
    λ no. in_spans_same old new span _ m (ap keyed_in there ∙ ap (keyed_at old) same) has (c.add_to_known.ensures.same no)
