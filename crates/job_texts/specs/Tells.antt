-- What a call that reads texts and writes one answers.
use Rattle.std.specs.Prelude.{◌≡◌, ◌≢◌, ℕ, List, Option, Result, Ok, Err, IsOk, IfErr}
use Rattle.job_texts.specs.declared.fault.JobFault.{JobFault}
use Rattle.job_texts.specs.declared.fault.JobFault.TheVariants.{Write, Memory}

abbrev pub Wrote : {X : Type 0} → (X → Type 0) → Result X JobFault → Type 0
Wrote writes (Ok x) = writes x
Wrote writes (Err fault) = ⊥

-- where the answer is Ok, what the texts say is written; a refusal is the one that the texts give; a failed write comes
-- after all are read
abbrev pub Tells : {X : Type 0} → (X → Type 0) → Result X JobFault → Result (Unit {0}) JobFault → Type 0
Tells writes said (Ok _) = Wrote writes said
Tells writes said (Err Memory) = Unit {0}
Tells writes said (Err Write) = IsOk said
Tells writes said (Err fault) = said ≡ Err fault

-- every refusal but a failed write leaves what the writer held as it was
abbrev pub KeepsWriter : {X : Type 0} → Result X JobFault → Option (List ℕ) → Option (List ℕ) → Type 0
KeepsWriter result old new = IfErr result (λ fault. fault ≢ Write → new ≡ old)
