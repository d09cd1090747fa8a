-- Parts are written over neither the plan nor the input, as their paths are given.
use Rattle.std.specs.Prelude.{◌≡◌, ◌⊎◌, ℕ, ◌<◌, List, ◌++◌, codes, decimal, Result, Ok, Err}
use Rattle.job_texts.specs.declared.fault.JobFault.{JobFault}
use Rattle.job_texts.specs.declared.fault.JobFault.TheVariants.{Write, Memory}

-- the path of the part at a place
abbrev pub path_of_part : List ℕ → ℕ → List ℕ
path_of_part out place = out ++ (codes "." ++ decimal place)

-- it is the plan's or the input's
abbrev pub IsTaken : List ℕ → List ℕ → List ℕ → Type 0
IsTaken plan input path = (path ≡ plan) ⊎ (path ≡ input)

-- it is neither, or refused
abbrev pub ChecksApart : List ℕ → List ℕ → List ℕ → Result (Unit {0}) JobFault → Type 0
ChecksApart plan input path (Ok _) = IsTaken plan input path → ⊥
ChecksApart plan input path (Err fault) = (fault ≡ Write) × IsTaken plan input path

-- none of so many parts' paths is, or one is refused, or there is no memory
abbrev pub ChecksAllApart : List ℕ → List ℕ → List ℕ → ℕ → Result (Unit {0}) JobFault → Type 0
ChecksAllApart plan input out parts (Ok _) = (place : ℕ) → place < parts → IsTaken plan input (path_of_part out place) → ⊥
ChecksAllApart plan input out parts (Err Write) = (place : ℕ) × (place < parts) × IsTaken plan input (path_of_part out place)
ChecksAllApart plan input out parts (Err Memory) = Unit {0}
ChecksAllApart plan input out parts (Err fault) = ⊥
