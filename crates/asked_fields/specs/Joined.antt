-- Texts that are put together as one.
use Rattle.std.specs.Prelude.{ℕ, ◌==◌, ◌||◌, List, [], ◌∷◌, drop, if◌then◌else◌}
use Rattle.std.specs.List.{flat_map, slice_split}
use Rattle.asked_fields.specs.declared.joint.Joint.{Joint}
use Rattle.asked_fields.specs.declared.joint.Joint.TheVariants.{Plus, Times}

abbrev pub byte_of : Joint → ℕ
byte_of Plus = 43
byte_of Times = 42

-- the parts of a name, with a joint between
abbrev pub parts_in : Joint → List ℕ → List (List ℕ)
parts_in joint name = slice_split (λ b. b == byte_of joint) name

-- a byte, behind a backslash where it is the joint or a backslash
abbrev pub escaped_byte : ℕ → ℕ → List ℕ
escaped_byte joint b = if (b == joint) || (b == 92) then 92 ∷ b ∷ [] else b ∷ []

-- a text behind a joint
abbrev pub joint_text : ℕ → List ℕ → List ℕ
joint_text joint text = joint ∷ flat_map (escaped_byte joint) text

-- texts with a joint between
abbrev pub joined : ℕ → List (List ℕ) → List ℕ
joined joint texts = drop 1 (flat_map (joint_text joint) texts)
