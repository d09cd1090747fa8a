use Rattle.std.proofs.Common.{ℕ, ℤ, ◌<◌, ◌≤◌, get_or, map, sym, ap, subst, ◌∙◌, arith}
use Rattle.std.specs.Prelude.{pos, List}
use Rattle.std.specs.List.{All}
use Rattle.std.proofs.Math.Nat.{mod-lt}
use Rattle.std.proofs.lemmas.List.{get_or-map, length-map}
use Rattle.std.proofs.lemmas.Simd.{map-map}
use Rattle.key_groups.specs.Groups.{key_group, hash_code}
use Rattle.lane_kernels.specs.Mix.{murmur_hash}
use Rattle.key_groups.specs.Ranges.{group_owner}
use Rattle.key_dealing.proofs.dealing.owners_of_keys.Goals as goal

groups_below : (max : ℕ) (keys : List ℤ) → 1 ≤ max → All (λ group. group < max) (map (key_group max) keys)
groups_below max keys some k d h =
    subst (λ g. g < max) (sym (get_or-map (key_group max) keys k (pos 0) d (omega (arith, h, length-map keys (key_group max))))) (mod-lt (murmur_hash (hash_code (get_or keys k (pos 0)))) some)

pub owners_into-requires-clause-groups : goal.owners_into-requires-clause-groups
owners_into-requires-clause-groups c = subst (All (λ group. group < c.args.max)) (sym c.groups_into.ensures) (groups_below c.args.max c.args.keys.now c.get-groups.ensures.positive)

pub returns-clause-owners : goal.returns-clause-owners
returns-clause-owners c =
    c.owners_into.ensures.owners ∙ ap (map (group_owner c.args.max c.args.par)) c.groups_into.ensures ∙ map-map (group_owner c.args.max c.args.par) (key_group c.args.max) c.args.keys.now
