-- The fields of numbers. Opaque, so that goals show the field and not its bytes.
use Rattle.std.specs.Prelude.{ℕ, ◌+◌, ◌*◌, ◌/◌, ◌%◌, ◌^◌, ℤ, pos, negsuc, Bool, ◌&&◌, nat_le, nat_lt}
use Rattle.std.specs.Int.{w8, w16, w64, w128, cast_signed, cast_unsigned}
use Rattle.byte_fields.specs.declared.fault.FieldFault.TheVariants.{Range}
use Rattle.byte_fields.specs.Format.{Format, number, where_it, before, seen_as}

unfoldable pub u8_field : Format ℕ
u8_field = number w8

-- a number from 1 to a bound, in a byte
unfoldable pub few_field : ℕ → Format ℕ
few_field most = where_it (λ n. nat_le 1 n && nat_le n most) Range u8_field

unfoldable pub u16_field : Format ℕ
u16_field = number w16

unfoldable pub u64_field : Format ℕ
u64_field = number w64

abbrev pub is_i64 : ℤ → Bool
is_i64 (pos n) = nat_lt n (2 ^ 63)
is_i64 (negsuc n) = nat_lt n (2 ^ 63)

-- two's complement
unfoldable pub i64_field : Format ℤ
i64_field = seen_as (cast_signed w64) (cast_unsigned w64) is_i64 u64_field

-- two numbers of eight bytes, the high one first
unfoldable pub u128_field : Format ℕ
u128_field = seen_as (λ p. p.0 * 2 ^ 64 + p.1) (λ n. (n / 2 ^ 64, n % 2 ^ 64)) (λ n. nat_lt n (2 ^ 128)) (before u64_field (λ _. u64_field))

abbrev pub is_i128 : ℤ → Bool
is_i128 (pos n) = nat_lt n (2 ^ 127)
is_i128 (negsuc n) = nat_lt n (2 ^ 127)

-- two's complement
unfoldable pub i128_field : Format ℤ
i128_field = seen_as (cast_signed w128) (cast_unsigned w128) is_i128 u128_field
