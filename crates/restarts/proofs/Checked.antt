-- The check of a savepoint at a cut, with the snapshot of the cut in its windows, answers the start there, unless
-- memory runs out.
use Rattle.std.proofs.Common.{◌≡◌, Bool, true, false, Result, Ok, Err, refl, subst}
use Rattle.answers.specs.Answer.{unless}
use Rattle.plan_record.specs.Laws.{AscendingIsInOrder}
use Rattle.redistribute.specs.StartData.{StartData}
use Rattle.legs.specs.declared.restore_fault.RestoreFault.{RestoreFault}
use Rattle.restore.specs.Answer.{is_memory, start_of}
use Rattle.restarts.specs.Laws.{ChecksGoOn, IsStartAt, savepoint_at}
use Rattle.restarts.proofs.Passing.{snapshots_pass}
use Rattle.restarts.proofs.Restarting.{snapshots_restart}

same_start : (a b : StartData) (said : Result StartData RestoreFault) → said ≡ Ok a → said ≡ Ok b → a ≡ b
same_start a b said h k = cc

only_memory : (b : Bool) (a : StartData) (fault : RestoreFault) (said : Result StartData RestoreFault) → said ≡ Ok a → unless b (said ≡ Err fault) → b ≡ true
only_memory true a fault said h k = refl
only_memory false a fault said h k = absurd cc

pub checks_go_on : AscendingIsInOrder → ChecksGoOn
checks_go_on rising p i cut windows number (Ok d) h few gives =
    subst (IsStartAt p i cut number) (same_start (start_of p (savepoint_at p i cut windows number)) d _ (snapshots_pass rising p i cut windows number h few) gives) (snapshots_restart rising p i cut windows number h few)
checks_go_on rising p i cut windows number (Err fault) h few gives =
    only_memory (is_memory fault) (start_of p (savepoint_at p i cut windows number)) fault _ (snapshots_pass rising p i cut windows number h few) gives
