-- The names of a plan's operators, and their field.
use Rattle.std.specs.Prelude.{ℕ, Bool, true, not, ◌&&◌, ◌||◌, ◌==◌, nat_le, List, [], ◌∷◌, length, bytes_eq}
use Rattle.std.specs.List.{list_all, list_any}
use Rattle.byte_fields.specs.declared.fault.FieldFault.TheVariants.{Range}
use Rattle.byte_fields.specs.Format.{Format, where_it}
use Rattle.byte_fields.specs.Lists.{sized}
use Rattle.byte_fields.specs.Fields.{few_field}
use Rattle.plan_model.specs.declared.limits.TheConstants.{LONGEST_UID}

abbrev pub is_nat_within : ℕ → ℕ → ℕ → Bool
is_nat_within low high n = nat_le low n && nat_le n high

abbrev pub is_uid_byte : ℕ → Bool
is_uid_byte b = is_nat_within 97 122 b || is_nat_within 48 57 b || b == 45

-- 1 to 64 characters of a-z, 0-9, hyphen
abbrev pub is_uid : List ℕ → Bool
is_uid bytes = is_nat_within 1 LONGEST_UID (length bytes) && list_all is_uid_byte bytes

-- a uid, its length before it
unfoldable pub uid_field : Format (List ℕ)
uid_field = where_it (list_all is_uid_byte) Range (sized (few_field LONGEST_UID))

-- no two of the texts are the same
abbrev pub are_distinct : List (List ℕ) → Bool
are_distinct [] = true
are_distinct (x ∷ xs) = not (list_any (bytes_eq x) xs) && are_distinct xs
