-- The field of uids is exact, and its characters are ASCII.
use Rattle.std.proofs.Common.{◌≡◌, ℕ, zero, suc, ◌<◌, true, List, [], ◌∷◌, length, refl, arith}
use Rattle.std.specs.Prelude.{nat_le}
use Rattle.std.specs.List.{list_all}
use Rattle.std.specs.Str.{IsAscii}
use Rattle.std.proofs.lemmas.Bool.{leb-true, lt-ltb, eq-eqb}
use Rattle.std.proofs.lemmas.Grind.{common_steps}
use Rattle.byte_fields.specs.declared.fault.FieldFault.TheVariants.{Range}
use Rattle.byte_fields.specs.Fields.{u8_field, few_field}
use Rattle.byte_fields.specs.Lists.{sized}
use Rattle.byte_fields.proofs.Exact.{IsExact, both, and_true, where_exact, sized_exact, few_exact}
use Rattle.plan_model.specs.declared.limits.TheConstants.{LONGEST_UID}
use Rattle.plan_model.specs.Uids.{is_nat_within, is_uid_byte, is_uid, uid_field}

low : (b : ℕ) → is_uid_byte b ≡ true → b < 128
low b h = grind (arith, common_steps)

pub ascii_of_uid : (bytes : List ℕ) → list_all is_uid_byte bytes ≡ true → IsAscii bytes
ascii_of_uid [] h i = omega arith
ascii_of_uid (b ∷ bytes) h zero = low b (both (is_uid_byte b) (list_all is_uid_byte bytes) h).0
ascii_of_uid (b ∷ bytes) h (suc i) = ascii_of_uid bytes (both (is_uid_byte b) (list_all is_uid_byte bytes) h).1 i

pub uid_exact : IsExact uid_field
unfolding uid_field
uid_exact = where_exact (list_all is_uid_byte) Range (sized (few_field LONGEST_UID)) (sized_exact (few_field LONGEST_UID) (few_exact LONGEST_UID))

-- each uid has a spelling
pub uid_fits : (uid : List ℕ) → is_uid uid ≡ true → uid_field.fits uid ≡ true
unfolding uid_field sized few_field u8_field
uid_fits uid h =
    let parts = both (is_nat_within 1 LONGEST_UID (length uid)) (list_all is_uid_byte uid) h in
    let most = leb-true (length uid) LONGEST_UID (both (nat_le 1 (length uid)) (nat_le (length uid) LONGEST_UID) parts.0).1 in
    let byte = lt-ltb (length uid) 256 (omega (arith, most)) in
    and_true _ _ (and_true _ _ (and_true _ _ byte parts.0) (eq-eqb (length uid) (length uid) refl)) parts.1
