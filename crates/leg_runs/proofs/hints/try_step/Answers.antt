use Rattle.leg_runs.proofs.Tries.{refused}
use Rattle.leg_runs.proofs.hints.try_step.Goals as goal

pub returns-in-Err-NotEnabled-clause-tries : goal.returns-in-Err-NotEnabled-clause-tries
returns-in-Err-NotEnabled-clause-tries c = refused _ _ _ c.in-Err-NotEnabled.field-0 c.in-Err-NotEnabled.field-0-is c.in-Err-NotEnabled.ensures
