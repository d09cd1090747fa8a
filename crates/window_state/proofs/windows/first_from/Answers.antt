use Rattle.std.proofs.Common.{◌<ℤ◌, ◌≤ℤ◌, ◌+ℤ◌, pos, ◌<◌, ◌≡◌, List, length, rules, arith, sym, subst, take, ◌+◌, FitsSigned, to_z, of_z}
use Rattle.std.specs.Int.{w64, w128}
use Rattle.std.specs.List.{All}
use Rattle.std.proofs.lemmas.Int.{ints, to_z-of_z}
use Rattle.std.proofs.lemmas.List.{take_all}
use Rattle.savepoint_codec.specs.EntriesData.{EntryData}
use Rattle.packed_parts.specs.declared.part.Part.{Part}
use Rattle.packed_parts.proofs.Places.{part_at}
use Rattle.window_state.proofs.Openings.{before_more, narrow, wide}
use Rattle.window_state.proofs.windows.first_from.Goals as goal

pub loop-i-preserved : goal.loop-i-preserved
loop-i-preserved c =
    let part = part_at c.args.parts.now c.loop-i.i _ c.entry.ensures.is in
    let low : c.loop-i.i < length c.args.parts.now = omega (arith, c.len-i-end.ensures, c.loop-i-test.true) in
    let here_fits : FitsSigned w64 c.entry.result.pane.start = search rules in
    let start_fits : FitsSigned w64 part.0.pane.start = subst (λ (e : EntryData). FitsSigned w64 e.pane.start) (sym part.2) here_fits in
    let fits : FitsSigned w128 c.max-from.result = search rules in
    let same : to_z w128 (of_z w128 c.max-from.result) ≡ c.max-from.result = to_z-of_z w128 c.max-from.result fits in
    let bounds = c.max-from.ensures in
    let own = bounds.self_bound in
    let reached = subst (λ (e : EntryData). wide (wide (narrow e.pane.start) +ℤ pos 1) ≤ℤ c.max-from.result) (sym part.2) bounds.other_bound in
    record {
      parts = subst (λ n. All (λ (p : Part). p.pane.start <ℤ n) (take (c.loop-i.i + 1) c.args.parts.now)) (sym same)
          (before_more c.args.parts.now c.loop-i.i part.0 _ c.max-from.result low part.1 start_fits c.loop-i.invariant.parts bounds.self_bound reached);
      whole = λ less. c.loop-i.invariant.whole (omega (arith, ints, less, same, own));
    }

pub returns-clause-parts : goal.returns-clause-parts
returns-clause-parts c = subst (λ (parts : List Part). All (λ (p : Part). p.pane.start <ℤ to_z w128 c.loop-i.from-bits) parts) (take_all c.loop-i.i c.args.parts.now (omega arith)) c.loop-i.invariant.parts
