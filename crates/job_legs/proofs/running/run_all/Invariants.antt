use Rattle.std.proofs.Common.{◌+◌, length}
use Rattle.std.specs.List.{All}
use Rattle.layout_rules.specs.Scale.{IsScale}
use Rattle.job_legs.proofs.Turned.{AreTurned, IsRestOf}
use Rattle.job_legs.proofs.UnderWay.{IsOnWay, turns_behind}
use Rattle.job_legs.proofs.running.run_all.Given as goal

abbrev pub invariant-turns : goal.invariant-turns
invariant-turns g l = record {
  way : IsOnWay l.plan l.input l.legs l.rest l.saves l.reached;
  scales : All (λ leg. IsScale l.plan leg.scale) l.rest;
  turned : AreTurned g.W.Way.goes_by l.plan l.input l.legs l.lists l.rest l.reached;
  kept : IsRestOf l.rest l.saves;
}

abbrev pub decreases-turns : goal.decreases-turns
decreases-turns g l = length l.saves + turns_behind l.rest
