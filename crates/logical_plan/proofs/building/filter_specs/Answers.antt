use Rattle.std.proofs.Common.{rules, sym, [], ◌∷◌}
use Rattle.std.proofs.lemmas.List.{map-append}
use Rattle.std.proofs.lemmas.Int.{to_z-of_z}
use Rattle.logical_plan.specs.Answer.{filter_data}
use Rattle.logical_plan.proofs.Items.{first_passes}
use Rattle.logical_plan.specs.declared.text.FilterText.{FilterText}
use Rattle.plan_model.specs.Uids.{is_uid}
use Rattle.json_parts.specs.Tests.{is_place}
use Rattle.logical_plan.proofs.building.filter_specs.Goals as goal

pub loop-filter-init : goal.loop-filter-init
loop-filter-init c = record {
  says = search rules;
  fit = search rules;
  uids = rw (c.into_iter-filter-iterator.ensures.into_iter_gives.0, c.into_vec-filter-items.ensures) c.requires.uids;
  places = let fits = c.ranges.columns in simp to_z-of_z (rw (c.into_iter-filter-iterator.ensures.into_iter_gives.0, c.into_vec-filter-items.ensures) c.requires.within);
}

pub filter_spec-requires-clause-uid : goal.filter_spec-requires-clause-uid
filter_spec-requires-clause-uid c = (first_passes (λ (f : FilterText). is_uid f.uid) _ _ _ c.in-Some.ensures.steps.0 c.loop-filter.invariant.uids).0

pub filter_spec-requires-clause-column : goal.filter_spec-requires-clause-column
filter_spec-requires-clause-column c = (first_passes (λ (f : FilterText). is_place _ f.column) _ _ _ c.in-Some.ensures.steps.0 c.loop-filter.invariant.places).0

pub loop-filter-preserved : goal.loop-filter-preserved
loop-filter-preserved c = record {
  says = rw (c.in_ok-push.ensures.items, c.loop-filter.invariant.says, c.filter_spec.ensures.says) (sym (map-append filter_data c.loop-filter.yielded (c.in-Some.filter ∷ [])));
  fit = search rules;
  uids = (first_passes (λ (f : FilterText). is_uid f.uid) _ _ _ c.in-Some.ensures.steps.0 c.loop-filter.invariant.uids).1;
  places = (first_passes (λ (f : FilterText). is_place _ f.column) _ _ _ c.in-Some.ensures.steps.0 c.loop-filter.invariant.places).1;
}
