use Rattle.std.proofs.Common.{◌≡◌, map}
use Rattle.logical_plan.specs.Answer.{source_data}
use Rattle.logical_plan.proofs.building.source_specs.Given as goal

abbrev pub invariant-loop-source : goal.invariant-loop-source
invariant-loop-source l = l.specs.items ≡ map source_data l.yielded
