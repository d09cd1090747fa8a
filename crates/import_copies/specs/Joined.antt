-- Texts of several fields that are put together as one.
use Rattle.std.specs.Prelude.{◌≡◌, ℕ, List, ◌∷◌}
use Rattle.asked_fields.specs.Joined.{byte_of, joined}
use Rattle.asked_fields.specs.declared.joint.Joint.{Joint}

-- they are the same together just where all of them are
abbrev pub JoinedTextsTell : Type 0
JoinedTextsTell = (joint : Joint) (x y : List ℕ) (xs ys : List (List ℕ)) → joined (byte_of joint) (x ∷ xs) ≡ joined (byte_of joint) (y ∷ ys) → x ∷ xs ≡ y ∷ ys
