use Rattle.std.proofs.Common.{◌≡◌, ℕ, ◌/◌, ◌%◌, ◌^◌, ◌++◌, ◌∷◌, [], List, OnOk, ap, subst, ◌∙◌, append-nil, arith}
use Rattle.std.specs.Int.{w64, to_be_bytes}
use Rattle.std.specs.List.{flat_map}
use Rattle.byte_fields.specs.Fields.{u64_field, u128_field}
use Rattle.byte_fields.proofs.writing.put_u128.Goals as goal

-- the two halves of a number, one behind the other, spell it
halves : (n a b : ℕ) → a ≡ n / 2 ^ 64 → b ≡ n % 2 ^ 64 → flat_map (λ (x : List ℕ). x) (to_be_bytes w64 a ∷ to_be_bytes w64 b ∷ []) ≡ u128_field.spell n
unfolding u64_field u128_field
halves n a b high low = (λ t. to_be_bytes w64 (high t) ++ to_be_bytes w64 (low t) ++ []) ∙ ap (λ l. to_be_bytes w64 (n / 2 ^ 64) ++ l) (append-nil (to_be_bytes w64 (n % 2 ^ 64)))

pub returns : goal.returns
returns c = subst (λ bytes. OnOk c.put_bytes.result (c.put_bytes.new.out.items ≡ c.args.out.now.items ++ bytes))
    (c.as_flattened.ensures.value ∙ (λ t. flat_map (λ (x : List ℕ). x) (c.to_be_bytes.ensures t ∷ c.to_be_bytes-2.ensures t ∷ [])) ∙ halves c.args.number _ _ (omega (arith, c.ranges.number.fits)) (omega (arith, c.ranges.number.fits)))
    c.put_bytes.ensures
