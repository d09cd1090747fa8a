-- The record of an object.
use Rattle.std.specs.Prelude.{◌≡◌, List, [], ◌∷◌, ◌++◌, ℕ, map, take, slice_get, Option, Some, None, option_and_then, Result, Ok, Err, IsUtf8}
use Rattle.std.specs.List.{flat_map}
use Rattle.asked_fields.specs.Asked.{part_names, all_of}
use Rattle.asked_fields.specs.Joined.{byte_of, joint_text}
use Rattle.asked_fields.specs.declared.asked.AskedField.{AskedField}
use Rattle.json.specs.Json.{Members, document}
use Rattle.json.specs.Find.{as_object}
use Rattle.object_lines.specs.Members.{member_text, asked_text}
use Rattle.object_lines.specs.declared.fault.MemberFault.{MemberFault}
use Rattle.object_lines.specs.declared.fault.LineFault.{LineFault}
use Rattle.object_lines.specs.declared.fault.LineFault.TheVariants.{Read, NoObject, Member, Memory}

-- the texts of the parts of a name were put together, or this is the first fault
abbrev pub IsJoined : List ℕ → Members → AskedField → Option MemberFault → Type 0
IsJoined text ms asked None = (texts : List (List ℕ)) × (all_of (map (member_text ms) (part_names asked)) ≡ Ok texts) × (text ≡ flat_map (joint_text (byte_of asked.joint)) texts)
IsJoined text ms asked (Some fault) = all_of (map (member_text ms) (part_names asked)) ≡ Err fault

-- one more text is there, or this is why not
abbrev pub IsPushed : List (List ℕ) → List (List ℕ) → Result (List ℕ) MemberFault → Option MemberFault → Type 0
IsPushed old new said None = (text : List ℕ) × (said ≡ Ok text) × (new ≡ old ++ text ∷ [])
IsPushed old new said (Some fault) = (said ≡ Err fault) × (new ≡ old)

-- these are the texts of fields
abbrev pub AreTexts : Members → List AskedField → List (List ℕ) → Type 0
AreTexts ms asked texts = map (asked_text ms) asked ≡ map Ok texts

-- the fields are the texts of all that are asked for, or of those before the first that has none
abbrev pub IsFilled : List AskedField → List (List ℕ) → Members → Result (Unit {0}) LineFault → Type 0
IsFilled asked fields ms (Ok _) = AreTexts ms asked fields
IsFilled asked fields ms (Err (Member i fault)) = (field : AskedField) × (slice_get asked i ≡ Some field) × (asked_text ms field ≡ Err fault) × AreTexts ms (take i asked) fields
IsFilled asked fields ms (Err Memory) = Unit {0}
IsFilled asked fields ms (Err NoObject) = ⊥
IsFilled asked fields ms (Err Read) = ⊥

-- so it is with an object's members, and any other value is refused
abbrev pub IsAnswer : List AskedField → List (List ℕ) → Option Members → Result (Unit {0}) LineFault → Type 0
IsAnswer asked fields None answer = answer ≡ Err NoObject
IsAnswer asked fields (Some ms) answer = IsFilled asked fields ms answer

-- the object of a text, if it is one
abbrev pub object_in : List ℕ → Option Members
object_in text = option_and_then as_object (document text)

-- so it is with a text that is an object, and any other is refused
abbrev pub IsRead : List AskedField → List (List ℕ) → List ℕ → Result (Unit {0}) LineFault → Type 0
IsRead asked fields text (Ok done) = (ms : Members) × IsUtf8 text × (object_in text ≡ Some ms) × IsFilled asked fields ms (Ok done)
IsRead asked fields text (Err (Member i fault)) = (ms : Members) × IsUtf8 text × (object_in text ≡ Some ms) × IsFilled asked fields ms (Err (Member i fault))
IsRead asked fields text (Err NoObject) = IsUtf8 text → object_in text ≡ None
IsRead asked fields text (Err Memory) = Unit {0}
IsRead asked fields text (Err Read) = ⊥
