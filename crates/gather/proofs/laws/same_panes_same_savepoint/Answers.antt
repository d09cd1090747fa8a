use Rattle.std.proofs.Common.{ap}
use Rattle.std.specs.FinMap.{same_map}
use Rattle.plan_model.proofs.Facts.{pane_cmp_total, pane_cmp-IsAntisymmetric}
use Rattle.gather.specs.Saved.{savepoint_of}
use Rattle.gather.proofs.laws.same_panes_same_savepoint.Goals as goal

pub returns : goal.returns
returns c = λ p sources windows others number same. ap (λ w. savepoint_of p sources w number) (same_map pane_cmp_total pane_cmp-IsAntisymmetric windows others same)
