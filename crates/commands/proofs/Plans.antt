-- A plan that is read of the text of a file.
use Rattle.std.proofs.Common.{ℕ, List, Result, Ok, Err, inr}
use Rattle.job_texts.specs.declared.fault.JobFault.{JobFault}
use Rattle.commands.specs.Importing.{ReadsPlan, ReadsText}

pub of_text : {P : Type 0} (text : List ℕ) (result : Result P JobFault) → ReadsText text result → ReadsPlan result
of_text text (Ok plan) reads = tt
of_text text (Err fault) reads = inr (inr (text, reads.0, reads.1, reads.2))
