-- PUBLIC: the lemmas that crates above cite. Nothing else of proofs/ is theirs to import.
use Rattle.std.proofs.Common.{◌≡◌, Result, Ok, Err, refl, ap}
use Rattle.job_texts.specs.declared.fault.JobFault.{JobFault}
use Rattle.job.specs.Ends.{and_then, as_job}

pub ok_is : {X F : Type 0} (x y : X) → ◌≡◌ {A = Result X F} (Ok x) (Ok y) → x ≡ y
ok_is x y e = cc

-- of an answer that goes on with another and is Ok, so are both
pub then_ok : {X Y : Type 0} (more : X → Result Y JobFault) (said : Result X JobFault) (y : Y) → and_then more said ≡ Ok y → (x : X) × (said ≡ Ok x) × (more x ≡ Ok y)
then_ok more (Ok x) y e = (x, refl, e)
then_ok more (Err fault) y e = absurd cc

pub job_ok : {X F : Type 0} (fault_of : F → JobFault) (said : Result X F) (x : X) → as_job fault_of said ≡ Ok x → said ≡ Ok x
job_ok fault_of (Ok y) x e = let same : y ≡ x = cc in ap Ok same
job_ok fault_of (Err fault) x e = absurd cc
