-- What the command `import` answers.
use Rattle.std.specs.Prelude.{◌≡◌, ◌⊎◌, ℕ, List, Result, Ok, Err}
use Rattle.import_words.specs.declared.refusal.ImportFault.{ImportFault}
use Rattle.job_texts.specs.Fault.{plan_fault}
use Rattle.job_texts.specs.declared.fault.JobFault.{JobFault}
use Rattle.job_texts.specs.declared.fault.JobFault.TheVariants.{Read, Memory}
use Rattle.logical_plan.specs.Answer.{Fails, is_memory, plan_of_bytes}
use Rattle.logical_plan.specs.declared.fault.PlanFault.{PlanFault}
use Rattle.commands.specs.declared.fault.CommandFault.{CommandFault}
use Rattle.commands.specs.declared.fault.CommandFault.TheVariants.{Job, Import}

-- a text is a plan, or this is why it is none
abbrev pub ReadsText : {P : Type 0} → List ℕ → Result P JobFault → Type 0
ReadsText text (Ok plan) = Unit {0}
ReadsText text (Err fault) = (why : PlanFault) × Fails is_memory why (plan_of_bytes text) × (fault ≡ plan_fault why)

-- a plan's file is not read, or its text is refused
abbrev pub HasNoPlan : JobFault → Type 0
HasNoPlan fault = (fault ≡ Read) ⊎ ((fault ≡ Memory) ⊎ ((text : List ℕ) × (why : PlanFault) × Fails is_memory why (plan_of_bytes text) × (fault ≡ plan_fault why)))

abbrev pub ReadsPlan : {P : Type 0} → Result P JobFault → Type 0
ReadsPlan (Ok plan) = Unit {0}
ReadsPlan (Err fault) = HasNoPlan fault

-- what comes of an import
abbrev pub after_import : Result (Unit {0}) ImportFault → Result (Unit {0}) CommandFault
after_import (Ok _) = Ok tt
after_import (Err fault) = Err (Import fault)

-- there is no plan, or this is what comes of some import
abbrev pub AnswersImport : Result (Unit {0}) CommandFault → Type 0
AnswersImport result =
    ((fault : JobFault) × HasNoPlan fault × (result ≡ Err (Job fault))) ⊎ ((answer : Result (Unit {0}) ImportFault) × (result ≡ after_import answer))
