-- How an input is dealt out to parts.
use Rattle.std.specs.Prelude.{◌≡◌, ℕ, true, false, List, Option, Some, None, Result, Ok, Err}
use Rattle.std.specs.Borrow.{Bor}
use Rattle.plan_model.specs.PlanData.{PlanData}
use Rattle.dealt_texts.specs.declared.dealing.Dealing.{Dealing}
use Rattle.import_words.specs.Judging.{IsRefusal}
use Rattle.import_words.specs.declared.refusal.ImportCode.TheVariants.{Number, Options}
use Rattle.import_words.specs.declared.refusal.ImportFault.{ImportFault}
use Rattle.import_command.specs.Apart.{is_device}
use Rattle.import_command.specs.Numbers.{parts_said}
use Rattle.import_command.specs.declared.words.ImportWords.{ImportWords}

-- rows are dealt out to so many parts by the key groups of a plan, and the column of its keys
pub record IsByPlan (plan : PlanData) (parts : ℕ) (dealing : Dealing) : Type 0 where
  pub max : dealing.max ≡ plan.max
  pub count : dealing.parts ≡ parts
  pub key : dealing.key ≡ plan.window.key

-- of so many parts, if a word says how many: the dealing, where the input is no device, beside which they have no
-- files; or the refusal of the one or the other
abbrev pub GivesParts : Option ℕ → List ℕ → PlanData → Result (Option Dealing) ImportFault → Type 0
GivesParts (Some n) input plan (Ok (Some dealing)) = IsByPlan plan n dealing × (is_device input ≡ false)
GivesParts (Some n) input plan (Err fault) = (is_device input ≡ true) × IsRefusal Options fault
GivesParts None input plan (Err fault) = IsRefusal Number fault
GivesParts said input plan (Ok other) = ⊥

-- just where a word says in how many parts the input is dealt out, and so; or why it is not
abbrev pub GivesDealingOf : Option (Bor (List ℕ)) → List ℕ → PlanData → Result (Option Dealing) ImportFault → Type 0
GivesDealingOf None input plan answer = answer ≡ Ok None
GivesDealingOf (Some word) input plan answer = GivesParts (parts_said plan.max word.now) input plan answer

abbrev pub GivesDealing : ImportWords → PlanData → Result (Option Dealing) ImportFault → Type 0
GivesDealing words plan answer = GivesDealingOf words.ranges words.input.now plan answer
