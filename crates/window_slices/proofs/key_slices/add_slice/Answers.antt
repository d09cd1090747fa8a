use Rattle.std.proofs.Common.{◌∙◌, [], ◌∷◌, sym, ap, slice_index_or, rules, FitsSigned}
use Rattle.std.specs.Int.{w64}
use Rattle.std.specs.Option.{is_some}
use Rattle.std.proofs.lemmas.Int.{to_z-of_z}
use Rattle.std.proofs.lemmas.Result.{on_ok_weaker, on_err_weaker}
use Rattle.plan_model.specs.Aggregates.{aggregate_of}
use Rattle.window_slices.specs.KeySlices.{slices_in}
use Rattle.window_slices.proofs.SliceAdds.{others_at, others_held, others_kinds, others_same, sliced_more}
use Rattle.window_slices.proofs.key_slices.add_slice.Goals as goal

pub returns-in-Some-clause-added : goal.returns-in-Some-clause-added
returns-in-Some-clause-added c =
    let w = c.args.w.now in
    let old = c.args.slices.now.entries in
    let v = c.add_to.new.slices in
    let new = (c.get_mut.follows.lender v).entries in
    let key = c.args.slice.key in
    let start = c.args.slice.start in
    let fits : FitsSigned w64 start = search rules in
    let there = c.in-Some.ensures.value in
    let one = aggregate_of w.aggregates (slice_index_or c.args.batch.now.rows c.args.row [] ∷ []) in
    let others = others_at old new key v ((c.get_mut.follows.holds v).3 (ap is_some (sym there))).0 in
    on_ok_weaker c.add_to.result (sliced_more w old new key start _ _ v.items one (to_z-of_z w64 start fits) (ap slices_in there) others) c.add_to.ensures.added

pub returns-in-Some-clause-kinds : goal.returns-in-Some-clause-kinds
returns-in-Some-clause-kinds c =
    let old = c.args.slices.now.entries in
    let v = c.add_to.new.slices in
    let new = (c.get_mut.follows.lender v).entries in
    let others = others_at old new c.args.slice.key v ((c.get_mut.follows.holds v).3 (ap is_some (sym c.in-Some.ensures.value))).0 in
    others_kinds c.args.w.now old new c.args.slice.key v.items others c.add_to.ensures.kinds c.requires.kinds

pub returns-in-Some-clause-err : goal.returns-in-Some-clause-err
returns-in-Some-clause-err c =
    let old = c.args.slices.now.entries in
    let v = c.add_to.new.slices in
    let new = (c.get_mut.follows.lender v).entries in
    let there = c.in-Some.ensures.value in
    let others = others_at old new c.args.slice.key v ((c.get_mut.follows.holds v).3 (ap is_some (sym there))).0 in
    on_err_weaker c.add_to.result (λ same. others_same old new c.args.slice.key v.items others (same ∙ ap slices_in there)) c.add_to.ensures.err

pub returns-in-Ok-clause-added : goal.returns-in-Ok-clause-added
returns-in-Ok-clause-added c =
    let w = c.args.w.now in
    let old = c.args.slices.now.entries in
    let v = c.add_to-2.new.slices in
    let new = c.insert.new.self.entries in
    let key = c.args.slice.key in
    let start = c.args.slice.start in
    let fits : FitsSigned w64 start = search rules in
    let key_fits : FitsSigned w64 key = search rules in
    let one = aggregate_of w.aggregates (slice_index_or c.args.batch.now.rows c.args.row [] ∷ []) in
    let others = others_held old _ new key _ v (λ i. (c.get_mut.follows.holds-at-none i).entries) (to_z-of_z w64 key key_fits) c.in-Ok.ensures.updates.0 in
    sliced_more w old new key start _ _ v.items one (to_z-of_z w64 start fits) (c.in_ok-first.ensures.items ∙ ap slices_in c.in_default.ensures.value) others c.in_ok-add_to.ensures.added

pub returns-in-Ok-clause-kinds : goal.returns-in-Ok-clause-kinds
returns-in-Ok-clause-kinds c =
    let old = c.args.slices.now.entries in
    let v = c.add_to-2.new.slices in
    let new = c.insert.new.self.entries in
    let key = c.args.slice.key in
    let key_fits : FitsSigned w64 key = search rules in
    let others = others_held old _ new key _ v (λ i. (c.get_mut.follows.holds-at-none i).entries) (to_z-of_z w64 key key_fits) c.in-Ok.ensures.updates.0 in
    others_kinds c.args.w.now old new key v.items others c.in_ok-add_to.ensures.kinds c.requires.kinds
