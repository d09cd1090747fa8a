-- What is answered of sources that meet the requirements up to the range of times.
use Rattle.std.proofs.Common.{◌≡◌, ℕ, Bool, true, false, cond, List, Option, Some, None, Ok, Err, option_and_then, length, refl, ap, ◌∙◌}
use Rattle.std.specs.Prelude.{nat_le, IsUtf8}
use Rattle.std.specs.Str.{is_utf8}
use Rattle.std.proofs.lemmas.Str.{IsUtf8-from_is_utf8, is_utf8-from_IsUtf8}
use Rattle.serde_json.specs.Data.{Data}
use Rattle.serde_json.specs.Read.{read}
use Rattle.json_parts.specs.Parts.{json_of}
use Rattle.plan_model.specs.declared.limits.TheConstants.{MOST_RECORDS}
use Rattle.plan_model.specs.PlanData.{PlanData}
use Rattle.stream_model.specs.declared.entry.Marked.{Marked}
use Rattle.input_texts.specs.declared.fault.InputFault.TheVariants.{NotJson, Member, TooMany}
use Rattle.stream_model.specs.InputData.{input_data_of, all_records}
use Rattle.input_texts.specs.InputText.{InputText, input_text}
use Rattle.stream_model.specs.Late.{first_late}
use Rattle.input_texts.specs.Fault.{late_fault}
use Rattle.input_texts.specs.Requirements.{requirements, late_record, is_few}
use Rattle.input_texts.specs.Answer.{if_ok, text_of_bytes, input_or_fault, input_of_bytes}
use Rattle.input_texts.specs.Document.{said_by, said_in}
use Rattle.std.specs.Option.{ok_or, option_map_or}
use Rattle.stream_input.specs.Fit.{AreOf}

pub late_said : (plan : PlanData) (sources : List (List (List Marked))) (text : InputText) (place : ℕ × (ℕ × ℕ)) → AreOf plan sources text → first_late plan.window.time sources ≡ Some place
    → input_or_fault plan text ≡ Err (late_fault place)
unfolding requirements late_record
late_said plan sources text place of h = let late = rw of.1 at h in rw (of.0.named, of.0.counted, of.0.wide, of.0.whole, of.0.sized, of.0.timely, of.0.kinds, late) refl

pub many_said : (plan : PlanData) (sources : List (List (List Marked))) (text : InputText) → AreOf plan sources text → first_late plan.window.time sources ≡ None
    → nat_le (length (all_records sources)) MOST_RECORDS ≡ false → input_or_fault plan text ≡ Err TooMany
unfolding requirements late_record is_few
many_said plan sources text of none h =
    let late = rw of.1 at none in
    let many = rw of.1 at h in
    rw (of.0.named, of.0.counted, of.0.wide, of.0.whole, of.0.sized, of.0.timely, of.0.kinds, late, many) refl

pub none_said : (plan : PlanData) (sources : List (List (List Marked))) (text : InputText) → AreOf plan sources text → first_late plan.window.time sources ≡ None
    → nat_le (length (all_records sources)) MOST_RECORDS ≡ true → input_or_fault plan text ≡ Ok (input_data_of plan.columns plan.window.time sources)
unfolding requirements late_record is_few
none_said plan sources text of none h =
    let late = rw of.1 at none in
    let few = rw of.1 at h in
    rw (of.1, of.0.named, of.0.counted, of.0.wide, of.0.whole, of.0.sized, of.0.timely, of.0.kinds, late, few) refl

pub json_of_text : (bytes : List ℕ) → IsUtf8 bytes → json_of bytes ≡ read bytes
unfolding json_of
json_of_text bytes utf8 = rw (is_utf8-from_IsUtf8 bytes utf8) refl

none_unless : (b : Bool) (o : Option Data) → (b ≡ true → ⊥) → cond b o None ≡ None
none_unless true o never = absurd (never refl)
none_unless false o never = refl

pub json_of_other : (bytes : List ℕ) → (IsUtf8 bytes → ⊥) → json_of bytes ≡ None
unfolding json_of
json_of_other bytes other = none_unless (is_utf8 bytes) (read bytes) (λ e. other (IsUtf8-from_is_utf8 bytes e))

of_data : (o : Option Data) (text : InputText) → option_and_then input_text o ≡ Some text → (d : Data) × (o ≡ Some d) × (input_text d ≡ Some text)
of_data None text h = absurd (cc)
of_data (Some d) text h = (d, refl, h)

pub text_said : (bytes : List ℕ) (text : InputText) → option_and_then input_text (json_of bytes) ≡ Some text → text_of_bytes bytes ≡ Ok text
unfolding text_of_bytes
text_said bytes text h = let d = of_data (json_of bytes) text h in rw (d.1, d.2) refl

said_of : (plan : PlanData) (o : Option Data) → if_ok (option_map_or (λ d. ok_or (input_text d) Member) o (Err NotJson)) (input_or_fault plan) ≡ option_map_or (said_by plan) o (Err NotJson)
said_of plan None = refl
said_of plan (Some d) = refl

pub text_read : (plan : PlanData) (bytes : List ℕ) → IsUtf8 bytes → input_of_bytes plan bytes ≡ said_in plan bytes
unfolding input_of_bytes text_of_bytes
text_read plan bytes utf8 = ap (λ o. if_ok (option_map_or (λ d. ok_or (input_text d) Member) o (Err NotJson)) (input_or_fault plan)) (json_of_text bytes utf8) ∙ said_of plan (read bytes)

pub none_told : (plan : PlanData) (bytes : List ℕ) → json_of bytes ≡ None → input_of_bytes plan bytes ≡ Err NotJson
unfolding input_of_bytes text_of_bytes
none_told plan bytes none = rw none refl
