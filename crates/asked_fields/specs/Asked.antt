-- A field that is asked for, and its text.
use Rattle.std.specs.Prelude.{◌≡◌, ℕ, List, [], ◌∷◌, map, Option, Some, None, Result, Ok, Err}
use Rattle.asked_fields.specs.Joined.{byte_of, parts_in, joined}
use Rattle.asked_fields.specs.declared.asked.AskedField.{AskedField}
use Rattle.asked_fields.specs.declared.joint.Joint.{Joint}

-- the names of the fields whose texts are put together
abbrev pub part_names : AskedField → List (List ℕ)
part_names asked = map (λ part. part.now) asked.parts.items

-- the field of this name, and of its parts where it has a joint
abbrev pub IsAsked : List ℕ → Option Joint → AskedField → Type 0
IsAsked name None asked = (asked.name.now ≡ name) × (asked.parts.items ≡ [])
IsAsked name (Some joint) asked = (asked.name.now ≡ name) × (asked.joint ≡ joint) × (part_names asked ≡ parts_in joint name)

abbrev pub with_text : {E : Type 0} → List ℕ → Result (List (List ℕ)) E → Result (List (List ℕ)) E
with_text text (Ok texts) = Ok (text ∷ texts)
with_text text (Err fault) = Err fault

-- all texts, or the first fault
abbrev pub all_of : {E : Type 0} → List (Result (List ℕ) E) → Result (List (List ℕ)) E
all_of [] = Ok []
all_of (Err fault ∷ more) = Err fault
all_of (Ok text ∷ more) = with_text text (all_of more)

-- texts that are put together, or the first fault
abbrev pub joined_of : {E : Type 0} → Joint → Result (List (List ℕ)) E → Result (List ℕ) E
joined_of joint (Ok texts) = Ok (joined (byte_of joint) texts)
joined_of joint (Err fault) = Err fault
