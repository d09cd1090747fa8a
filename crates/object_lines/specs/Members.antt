-- The texts of members.
use Rattle.std.specs.Prelude.{◌≡◌, ◌==◌, nat_lt, Bool, List, [], ◌∷◌, length, map, ℕ, zero, suc, codes, bytes_eq, Option, Some, None, Result, Ok, Err, ok_or, if◌then◌else◌}
use Rattle.std.specs.List.{position_or_len, before_first, after_first}
use Rattle.asked_fields.specs.Asked.{part_names, all_of, joined_of}
use Rattle.asked_fields.specs.declared.asked.AskedField.{AskedField}
use Rattle.std.specs.Borrow.{Bor}
use Rattle.json.specs.Json.{Json, null, boolean, number, string, array, object, Members, no_members, member}
use Rattle.json.specs.Find.{as_object}
use Rattle.json.specs.Value.{value_view}
use Rattle.json.specs.declared.value.Value.{Value}
use Rattle.object_lines.specs.declared.fault.MemberFault.{MemberFault}
use Rattle.object_lines.specs.declared.fault.MemberFault.TheVariants.{Missing, Twice, NoText}

-- the values of the members of a name
abbrev pub values_of : List ℕ → Members → List Json
values_of name no_members = []
values_of name (member k j ms) = if bytes_eq k name then j ∷ values_of name ms else values_of name ms

-- the text of a value, if it has one
abbrev pub text_said : Json → Option (List ℕ)
text_said null = None
text_said (boolean b) = Some (if b then codes "true" else codes "false")
text_said (number s) = Some s
text_said (string s) = Some s
text_said (array js) = None
text_said (object ms) = None

-- the value, where there is just one
abbrev pub only : List Json → Result Json MemberFault
only [] = Err Missing
only (j ∷ []) = Ok j
only (j ∷ k ∷ js) = Err Twice

-- an answer, or another where nothing is there
abbrev pub or_missing : {A : Type 0} → Result A MemberFault → Result A MemberFault → Result A MemberFault
or_missing (Err Missing) other = other
or_missing said other = said

-- what is found in an object's members
abbrev pub in_members : Option Members → (Members → Result Json MemberFault) → Result Json MemberFault
in_members None look = Err Missing
in_members (Some ms) look = look ms

abbrev pub within : Result Json MemberFault → (Members → Result Json MemberFault) → Result Json MemberFault
within (Ok j) look = in_members (as_object j) look
within (Err fault) look = Err fault

abbrev pub is_dot : ℕ → Bool
is_dot b = b == 46

abbrev pub has_dot : List ℕ → Bool
has_dot name = nat_lt (position_or_len is_dot name) (length name)

-- the value of a name, in so many objects in one another at most: of the member that has it, or else, by what stands
-- behind its first dot, in the member of what stands before that
unfoldable pub nested : ℕ → List ℕ → Members → Result Json MemberFault
nested zero name ms = only (values_of name ms)
nested (suc depth) name ms =
    or_missing (only (values_of name ms))
    (if has_dot name then within (only (values_of (before_first is_dot name) ms)) (nested depth (after_first is_dot name)) else Err Missing)

-- the value of a name, which has no more dots than bytes
abbrev pub member_said : Members → List ℕ → Result Json MemberFault
member_said ms name = nested (length name) name ms

abbrev pub text_from : Result Json MemberFault → Result (List ℕ) MemberFault
text_from (Ok j) = ok_or (text_said j) NoText
text_from (Err fault) = Err fault

-- the text of a name
abbrev pub member_text : Members → List ℕ → Result (List ℕ) MemberFault
member_text ms name = text_from (member_said ms name)

-- the texts of the parts of a name, put together
abbrev pub parts_text : Members → AskedField → Result (List ℕ) MemberFault
parts_text ms asked = joined_of asked.joint (all_of (map (member_text ms) (part_names asked)))

-- the text of a field that is asked for: that of its name, or else that of the parts that its name may have
abbrev pub asked_from : Members → AskedField → List (Bor (List ℕ)) → Result (List ℕ) MemberFault
asked_from ms asked [] = member_text ms asked.name.now
asked_from ms asked (part ∷ more) = or_missing (member_text ms asked.name.now) (parts_text ms asked)

abbrev pub asked_text : Members → AskedField → Result (List ℕ) MemberFault
asked_text ms asked = asked_from ms asked asked.parts.items

-- the answer is this value, or this fault
abbrev pub IsValue : {A : Type 0} → Result Json MemberFault → Result (Bor (Value A)) MemberFault → Type 0
IsValue said (Ok v) = said ≡ Ok (value_view v.now)
IsValue said (Err fault) = said ≡ Err fault

-- the answer is this text, or this fault
abbrev pub IsText : Result (List ℕ) MemberFault → Result (Bor (List ℕ)) MemberFault → Type 0
IsText said (Ok text) = said ≡ Ok text.now
IsText said (Err fault) = said ≡ Err fault
