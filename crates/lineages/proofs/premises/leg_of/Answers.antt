use Rattle.std.proofs.Common.{◌≡◌, ap, Option, Some, None}
use Rattle.std.specs.Prelude.{IfSome, MatchOption}
use Rattle.std.proofs.lemmas.Result.{IfOk-weaker}
use Rattle.dataflow_model.specs.Leg.{Until}
use Rattle.legs.specs.declared.stop.Stop.{Stop}
use Rattle.legs.specs.Stops.{until_of}
use Rattle.core_steps.specs.declared.finish.Finish.{Finish}
use Rattle.core_steps.specs.Finishing.{HasFinished, IsFinishIn}
use Rattle.core_steps.specs.World.{WorldData, IsWorld}
use Rattle.lineages.specs.Lineage.{IsLeg, end_in}
use Rattle.lineages.proofs.Gives.{finished_is_leg}
use Rattle.lineages.proofs.premises.leg_of.Goals as goal

finished : (w : WorldData) → IsWorld w → (answer : Option Finish) → MatchOption answer (HasFinished w → ⊥) (λ finish. HasFinished w × IsFinishIn w finish) → IfSome answer (λ _. (stop : Stop) → w.given.until ≡ until_of stop → IsLeg w.given.plan w.given.input w.given.start w.given.saves stop (end_in w))
finished w world None is = tt
finished w world (Some finish) is = λ stop goes. finished_is_leg w.given.plan w.given.input w.given.start w.given.saves stop w (record { layout = w.given.layout; given = ap (λ (until : Until). record w.given { until = until }) goes; world = world }) is.0

pub returns-clause-leg : goal.returns-clause-leg
returns-clause-leg c = IfOk-weaker c.finish.result _ _ (finished c.args.world c.has_failed-failed.ensures.sound) c.finish.ensures.is
