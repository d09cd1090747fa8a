-- What a job by choices has written.
use Rattle.std.proofs.Common.{Result, Ok, Err, IfOk}

-- what is said of an answer holds of what follows from it
pub so : {X E : Type 0} (r : Result X E) (P Q : X → Type 0) → ((x : X) → P x → Q x) → IfOk r P → IfOk r Q
so (Ok x) P Q f h = f x h
so (Err e) P Q f h = tt
