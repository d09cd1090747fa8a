-- The text of a digest is plain.
use Rattle.std.proofs.Common.{◌≡◌, ◌<◌, ◌/◌, ◌%◌, ℕ, zero, suc, true, List, [], ◌∷◌, slice_index, refl, arith}
use Rattle.std.specs.List.{list_all}
use Rattle.hex.specs.Hex.{IsBytes, encode_lower, encode_with, lower_digits}
use Rattle.receipts.specs.ReadBack.{is_plain}

digit_plain : (k : ℕ) → k < 16 → is_plain (slice_index lower_digits k) ≡ true
digit_plain zero h = refl
digit_plain (suc zero) h = refl
digit_plain (suc (suc zero)) h = refl
digit_plain (suc (suc (suc zero))) h = refl
digit_plain (suc (suc (suc (suc zero)))) h = refl
digit_plain (suc (suc (suc (suc (suc zero))))) h = refl
digit_plain (suc (suc (suc (suc (suc (suc zero)))))) h = refl
digit_plain (suc (suc (suc (suc (suc (suc (suc zero))))))) h = refl
digit_plain (suc (suc (suc (suc (suc (suc (suc (suc zero)))))))) h = refl
digit_plain (suc (suc (suc (suc (suc (suc (suc (suc (suc zero))))))))) h = refl
digit_plain (suc (suc (suc (suc (suc (suc (suc (suc (suc (suc zero)))))))))) h = refl
digit_plain (suc (suc (suc (suc (suc (suc (suc (suc (suc (suc (suc zero))))))))))) h = refl
digit_plain (suc (suc (suc (suc (suc (suc (suc (suc (suc (suc (suc (suc zero)))))))))))) h = refl
digit_plain (suc (suc (suc (suc (suc (suc (suc (suc (suc (suc (suc (suc (suc zero))))))))))))) h = refl
digit_plain (suc (suc (suc (suc (suc (suc (suc (suc (suc (suc (suc (suc (suc (suc zero)))))))))))))) h = refl
digit_plain (suc (suc (suc (suc (suc (suc (suc (suc (suc (suc (suc (suc (suc (suc (suc zero))))))))))))))) h = refl
digit_plain (suc (suc (suc (suc (suc (suc (suc (suc (suc (suc (suc (suc (suc (suc (suc (suc n)))))))))))))))) h = absurd (omega (arith, h))

pub hex_plain : (bytes : List ℕ) → IsBytes bytes → list_all is_plain (encode_lower bytes) ≡ true
unfolding encode_with
hex_plain [] is = refl
hex_plain (b ∷ rest) is =
    let byte : b < 256 = is 0 in
    rw (digit_plain (b / 16) (omega (arith, byte)), digit_plain (b % 16) (omega arith)) (hex_plain rest (λ i. is (suc i)))
