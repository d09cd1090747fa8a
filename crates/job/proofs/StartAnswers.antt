-- What is answered of a leg whose texts are read.
use Rattle.std.proofs.Common.{◌≡◌, [], Result, Ok, Err, refl, inl, inr}
use Rattle.std.specs.Prelude.{MatchResult}
use Rattle.plan_model.specs.PlanData.{PlanData}
use Rattle.stream_model.specs.InputData.{InputData}
use Rattle.legs.specs.declared.fault.LegFault.TheVariants.{StopRange}
use Rattle.legs.specs.declared.stop.Stop.{Stop}
use Rattle.legs.specs.Stops.{until_of}
use Rattle.redistribute.specs.StartData.{StartData, offsets_of}
use Rattle.redistribute.specs.Stopping.{CanStop}
use Rattle.redistribute.proofs.Facts.{no_saves}
use Rattle.job_texts.specs.declared.fault.JobFault.{JobFault}
use Rattle.job_texts.specs.declared.fault.JobFault.TheVariants.{Leg}
use Rattle.job_texts.specs.Fault.{is_memory}
use Rattle.job.specs.Leg.{LegAims, leg_job}
use Rattle.job.specs.Start.{BeginsLeg}
use Rattle.job.proofs.LegAnswers.{given}

-- where a leg stops that takes no savepoint on its way
abbrev pub to_stop : Stop → LegAims
to_stop stop = record { saves = []; stop = stop }

pub begins : (p : PlanData) (i : InputData) (s : StartData) (stop : Stop) (result : Result (Unit {0}) JobFault) → MatchResult result (λ _. CanStop i.sources (offsets_of s) stop) (λ fault. (fault ≡ Leg StopRange) × ¬ CanStop i.sources (offsets_of s) stop)
    → BeginsLeg (Ok (leg_job p i s (to_stop stop))) result
begins p i s stop (Ok done) can = (leg_job p i s (to_stop stop), refl, (can, no_saves i.sources (offsets_of s) (until_of stop)), tt)
begins p i s stop (Err fault) cannot = given (is_memory fault) (inr (leg_job p i s (to_stop stop), refl, inl (StopRange, cannot.0, cannot.1)))
