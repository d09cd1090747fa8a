use Rattle.std.proofs.Common.{◌∙◌, [], ◌∷◌, sym, ap, slice_index_or, rules, FitsSigned}
use Rattle.std.specs.Int.{w64}
use Rattle.std.specs.Option.{is_some}
use Rattle.std.proofs.lemmas.Int.{to_z-of_z}
use Rattle.plan_model.specs.Aggregates.{aggregate_of}
use Rattle.window_slices.specs.KeySlices.{slices_in}
use Rattle.window_slices.proofs.SliceAdds.{others_at, others_kinds, others_same, sliced_more}
use Rattle.window_slices.proofs.key_slices.add_to_known.Goals as goal

pub returns-in-Some-clause-added : goal.returns-in-Some-clause-added
returns-in-Some-clause-added c =
    let w = c.args.w.now in
    let old = c.args.slices.now.entries in
    let v = c.add_there.new.slices in
    let new = (c.get_mut.follows.lender v).entries in
    let key = c.args.slice.key in
    let start = c.args.slice.start in
    let fits : FitsSigned w64 start = search rules in
    let there = c.in-Some.ensures.value in
    let one = aggregate_of w.aggregates (slice_index_or c.args.batch.now.rows c.args.row [] ∷ []) in
    let others = others_at old new key v ((c.get_mut.follows.holds v).3 (ap is_some (sym there))).0 in
    λ yes. sliced_more w old new key start _ _ v.items one (to_z-of_z w64 start fits) (ap slices_in there) others (c.add_there.ensures.added yes)

pub returns-in-Some-clause-kinds : goal.returns-in-Some-clause-kinds
returns-in-Some-clause-kinds c =
    let old = c.args.slices.now.entries in
    let v = c.add_there.new.slices in
    let new = (c.get_mut.follows.lender v).entries in
    let others = others_at old new c.args.slice.key v ((c.get_mut.follows.holds v).3 (ap is_some (sym c.in-Some.ensures.value))).0 in
    others_kinds c.args.w.now old new c.args.slice.key v.items others c.add_there.ensures.kinds c.requires.kinds

pub returns-in-Some-clause-same : goal.returns-in-Some-clause-same
returns-in-Some-clause-same c =
    let old = c.args.slices.now.entries in
    let v = c.add_there.new.slices in
    let new = (c.get_mut.follows.lender v).entries in
    let there = c.in-Some.ensures.value in
    let others = others_at old new c.args.slice.key v ((c.get_mut.follows.holds v).3 (ap is_some (sym there))).0 in
    λ no. others_same old new c.args.slice.key v.items others (c.add_there.ensures.same no ∙ ap slices_in there)
