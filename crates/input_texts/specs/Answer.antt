-- What reading an input answers of the bytes.
use Rattle.std.specs.Prelude.{ℕ, Bool, true, false, List, Result, Ok, Err}
use Rattle.std.specs.Option.{option_map_or, ok_or}
use Rattle.json_parts.specs.Parts.{json_of}
use Rattle.answers.specs.Answer.{value_or_fault}
pub use Rattle.answers.specs.Answer.{Fails, Gives}
use Rattle.plan_model.specs.PlanData.{PlanData}
use Rattle.input_texts.specs.declared.fault.InputFault.{InputFault}
use Rattle.input_texts.specs.declared.fault.InputFault.TheVariants.{NotJson, Member, Memory}
use Rattle.stream_model.specs.InputData.{InputData}
use Rattle.input_texts.specs.InputText.{InputText, input_text}
use Rattle.input_texts.specs.Said.{input_of}
use Rattle.input_texts.specs.Requirements.{requirements}

-- a fault that says nothing of the text
abbrev pub is_memory : InputFault → Bool
is_memory Memory = true
is_memory fault = false

abbrev pub if_ok : {X Y : Type 0} → Result X InputFault → (X → Result Y InputFault) → Result Y InputFault
if_ok (Ok x) f = f x
if_ok (Err fault) f = Err fault

-- the input that a text is, or the first fault
abbrev pub input_or_fault : PlanData → InputText → Result InputData InputFault
input_or_fault plan = value_or_fault (requirements plan) (input_of plan)

-- what the bytes say, or the fault
unfoldable pub text_of_bytes : List ℕ → Result InputText InputFault
text_of_bytes bytes = option_map_or (λ d. ok_or (input_text d) Member) (json_of bytes) (Err NotJson)

-- the input that the bytes are, or the first fault
unfoldable pub input_of_bytes : PlanData → List ℕ → Result InputData InputFault
input_of_bytes plan bytes = if_ok (text_of_bytes bytes) (input_or_fault plan)
