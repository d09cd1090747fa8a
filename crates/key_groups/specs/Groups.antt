-- The group of a key.
use Rattle.std.specs.Prelude.{ℕ, ℤ, ◌%◌, ◌/◌, ◌^◌, bit_xor}
use Rattle.std.specs.Int.{cast_unsigned, w64}
use Rattle.lane_kernels.specs.Mix.{murmur_hash}

-- Java's `Long.hashCode`: the low 32 bits of `v ^ (v >>> 32)`, over the 64 bits of v in two's complement
abbrev pub hash_code : ℤ → ℕ
hash_code v = bit_xor (cast_unsigned w64 v) (cast_unsigned w64 v / 2 ^ 32) % 2 ^ 32

-- Flink's `KeyGroupRangeAssignment.assignToKeyGroup`
abbrev pub key_group : ℕ → ℤ → ℕ
key_group max key = murmur_hash (hash_code key) % max
