use Rattle.std.proofs.Common.{◌≡◌, true, map, FitsSigned}
use Rattle.std.specs.Int.{w64}
use Rattle.std.specs.List.{All, list_all}
use Rattle.json_parts.specs.Tests.{is_place}
use Rattle.plan_model.specs.Uids.{is_uid}
use Rattle.logical_plan.specs.Answer.{filter_data}
use Rattle.logical_plan.proofs.building.filter_specs.Given as goal

abbrev pub invariant-loop-filter : goal.invariant-loop-filter
invariant-loop-filter l = record {
  says : l.specs.items ≡ map filter_data l.yielded;
  fit : All (λ f. FitsSigned w64 f.value) l.specs.items;
  uids : list_all (λ f. is_uid f.uid) l.filter-iterator.rest.items ≡ true;
  places : list_all (λ f. is_place l.columns f.column) l.filter-iterator.rest.items ≡ true;
}
