use Rattle.std.proofs.Common.{◌≡◌, ℕ, ℤ, ◌%◌, ◌∷◌, [], List, map, refl, ap, ◌∙◌}
use Rattle.lane_kernels.specs.Mix.{murmur_hash}
use Rattle.key_groups.specs.Groups.{hash_code, key_group}
use Rattle.key_groups.proofs.group.chunk_groups.Goals as goal

-- each key hashed, mixed and reduced in turn has its group
in_turn : (max : ℕ) (keys : List ℤ) → map (λ hash. hash % max) (map murmur_hash (map hash_code keys)) ≡ map (key_group max) keys
in_turn max [] = refl
in_turn max (key ∷ keys) = ap (λ t. key_group max key ∷ t) (in_turn max keys)

pub returns : goal.returns
returns c =
    let mixed : c.mix_into.new.out ≡ map murmur_hash (map hash_code c.args.keys.now) = c.mix_into.ensures ∙ ap (map murmur_hash) c.hash_codes_into.ensures in
    c.remainders.ensures ∙ ap (map (λ hash. hash % c.args.max)) mixed ∙ in_turn c.args.max c.args.keys.now
