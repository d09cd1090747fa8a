use Rattle.std.proofs.Common.{◌≡◌, map, rules, arith, refl, ap, sym, subst, ◌∙◌, FitsSigned}
use Rattle.std.specs.Prelude.{unsigned_abs}
use Rattle.std.specs.Int.{w64}
use Rattle.std.specs.List.{All}
use Rattle.plan_model.specs.declared.spec.WindowSpec.{WindowSpec}
use Rattle.plan_model.specs.PlanData.{plan_data_of, uids}
use Rattle.logical_plan.specs.Answer.{source_data, filter_data, having_data, window_data, plan_data}
use Rattle.logical_plan.proofs.Meets.{meets, named_parts, is_plan, same_uids, is_small, is_small_place, having_places}
use Rattle.logical_plan.proofs.building.plan_of.Goals as goal

pub narrow-requires : goal.narrow-requires
narrow-requires c =
    let m = meets c.args.text c.requires.met in
    let small = is_small_place c.args.text.columns c.args.text.time m.columns m.time in
    search rules

pub narrow-requires-2 : goal.narrow-requires-2
narrow-requires-2 c =
    let m = meets c.args.text c.requires.met in
    let small = is_small_place c.args.text.columns c.args.text.key m.columns m.key in
    search rules

pub window_spec-requires-clause-columns : goal.window_spec-requires-clause-columns
window_spec-requires-clause-columns c = let m = (meets c.args.text c.requires.met).columns in search rules

pub window_spec-requires-clause-aggregates : goal.window_spec-requires-clause-aggregates
window_spec-requires-clause-aggregates c = let m = (meets c.args.text c.requires.met).aggregate_columns in search rules

pub window_spec-requires-clause-having : goal.window_spec-requires-clause-having
window_spec-requires-clause-having c = having_places c.args.text (meets c.args.text c.requires.met)

pub window_spec-requires-clause-uid : goal.window_spec-requires-clause-uid
window_spec-requires-clause-uid c = (named_parts c.args.text (meets c.args.text c.requires.met)).window

pub source_specs-requires-clause-uids : goal.source_specs-requires-clause-uids
source_specs-requires-clause-uids c = (named_parts c.args.text (meets c.args.text c.requires.met)).sources

pub source_specs-requires-clause-partitions : goal.source_specs-requires-clause-partitions
source_specs-requires-clause-partitions c = (meets c.args.text c.requires.met).partitions

pub filter_specs-requires-clause-uids : goal.filter_specs-requires-clause-uids
filter_specs-requires-clause-uids c = (named_parts c.args.text (meets c.args.text c.requires.met)).filters

pub filter_specs-requires-clause-columns : goal.filter_specs-requires-clause-columns
filter_specs-requires-clause-columns c = let m = (meets c.args.text c.requires.met).columns in search rules

pub filter_specs-requires-clause-within : goal.filter_specs-requires-clause-within
filter_specs-requires-clause-within c = let m = (meets c.args.text c.requires.met).filter_columns in search rules

pub narrow-requires-3 : goal.narrow-requires-3
narrow-requires-3 c =
    let small = is_small c.args.text.columns 16 (omega arith) (meets c.args.text c.requires.met).columns in
    search rules

pub narrow-requires-4 : goal.narrow-requires-4
narrow-requires-4 c =
    let small = is_small c.args.text.max 32768 (omega arith) (meets c.args.text c.requires.met).max in
    search rules

built : (c : goal.After-narrow-4) → plan_data_of c.narrow-3.result c.narrow-4.result c.in_ok-sources.sources c.in_ok-filters.filters c.in_ok-window.window ≡ plan_data c.args.text
built c =
    let columns : c.narrow-3.result ≡ unsigned_abs c.args.text.columns = search rules in
    let max : c.narrow-4.result ≡ unsigned_abs c.args.text.max = search rules in
    let time : c.narrow.result ≡ unsigned_abs c.args.text.time = search rules in
    let key : c.narrow-2.result ≡ unsigned_abs c.args.text.key = search rules in
    let sources : c.in_ok-sources.sources ≡ map source_data c.args.text.sources = search rules in
    let filters : c.in_ok-filters.filters ≡ map filter_data c.args.text.filters = search rules in
    let window : c.in_ok-window.window ≡ window_data c.narrow.result c.narrow-2.result c.args.text.window = search rules in
    rw (columns, max, sources, filters, window, time, key) refl

pub new-requires-clause-sound : goal.new-requires-clause-sound
new-requires-clause-sound c =
    let filters : c.in_ok-filters.filters ≡ map filter_data c.args.text.filters = search rules in
    let having : c.in_ok-window.window.having ≡ map having_data c.args.text.window.having = ap (λ (w : WindowSpec). w.having) c.in_ok-window.ensures.says in
    let filters_fit = subst (All (λ f. FitsSigned w64 f.value)) filters c.in_ok-filters.ensures.fit in
    let having_fit = subst (All (λ h. FitsSigned w64 h.value)) having c.in_ok-window.ensures.fit in
    rw (built c) (is_plan c.args.text (meets c.args.text c.requires.met) filters_fit having_fit)

pub new-requires-clause-places : goal.new-requires-clause-places
new-requires-clause-places c = c.requires.places ∙ sym (ap uids (built c) ∙ same_uids c.args.text)
