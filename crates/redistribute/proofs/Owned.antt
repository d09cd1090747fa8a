-- The window's tasks have the key groups that they own.
use Rattle.std.proofs.Common.{◌≡◌, ℕ, suc, ◌+◌, ◌-◌, ◌<◌, ◌≤◌, ℤ, true, eqb, leb, length, sym, ap, ◌∙◌, arith, rules}
use Rattle.std.proofs.lemmas.Bool.{leb-true, le-leb, eqb-true, eq-eqb, and_parts, and_from}
use Rattle.std.proofs.lemmas.Nat.{mod_below}
use Rattle.key_groups.specs.Groups.{key_group, hash_code}
use Rattle.key_groups.specs.Ranges.{group_range}
use Rattle.key_groups.specs.Laws.{Has, OwnersHaveRanges}
use Rattle.key_groups.specs.declared.ranges.GroupRange.{GroupRange}
use Rattle.lane_kernels.specs.Mix.{murmur_hash}
use Rattle.plan_model.specs.PlanData.{PlanData, IsPlan}
use Rattle.layout_rules.specs.Below.{sum_below}
use Rattle.layout_rules.specs.Rules.{window_of, stages_of}
use Rattle.layout_rules.specs.Scale.{ScaleData, IsScale}
use Rattle.layout_rules.specs.Layouts.{owner_of}
use Rattle.layout_rules.specs.Stages.{parallelism_at, stage_of, groups_of}
use Rattle.layout_rules.proofs.Facts.{stages_are_bounded, row_at}
use Rattle.redistribute.specs.Parts.{is_group_of}
use Rattle.std.specs.Cmp.{both_ways}

pub owners : OwnersHaveRanges
owners max par i group some fits within few = search rules

pub has : (r : GroupRange) (g : ℕ) → is_group_of r g ≡ true → Has r g
has r g e = let h = and_parts (leb r.first g) (leb g r.last) e in (leb-true r.first g h.0, leb-true g r.last h.1)

is_had : (r : GroupRange) (g : ℕ) → Has r g → is_group_of r g ≡ true
is_had r g h = and_from (leb r.first g) (leb g r.last) (le-leb r.first g h.0) (le-leb g r.last h.1)

-- a task of the window has a key's group just where it owns the key
pub owns : (p : PlanData) (c : ScaleData) (u : ℕ) (key : ℤ) → IsPlan p → IsScale p c → let stages = stages_of p c in let f = parallelism_at stages in let w = window_of stages in
    sum_below f w ≤ u → u < sum_below f (suc w) → is_group_of (groups_of p.max stages u) (key_group p.max key) ≡ eqb (sum_below f w + owner_of p (f w) key) u
owns p c u key ip sc from to =
    let stages = stages_of p c in
    let f = parallelism_at stages in
    let w = window_of stages in
    let known = stages_are_bounded p c ip sc in
    let n = f w in
    let i = u - sum_below f w in
    let there : w < length stages = (let m = known.more in let s = ip.sourced in omega (arith, m, s)) in
    let wide = known.parallelism w there in
    let less : i < n = omega (arith, from, to) in
    let place : sum_below f w + i ≡ u = omega (arith, from) in
    let stage : stage_of stages u ≡ w = ap (stage_of stages) (sym place) ∙ (row_at f (length stages) w i there less).0 in
    let range : groups_of p.max stages u ≡ group_range p.max n i = (λ j. group_range p.max (f (stage j)) (u - sum_below f (stage j))) in
    let g = key_group p.max key in
    let law = owners p.max n i g wide.some wide.grouped less (mod_below (murmur_hash (hash_code key)) p.max ip.grouped) in
    ap (λ r. is_group_of r g) range
    ∙ both_ways (is_group_of (group_range p.max n i) g) (eqb (sum_below f w + owner_of p n key) u)
    (λ e. let o : owner_of p n key ≡ i = law.1 (has (group_range p.max n i) g e) in eq-eqb (sum_below f w + owner_of p n key) u (omega (arith, o, place)))
    (λ e. let o : owner_of p n key ≡ i = (let z = eqb-true (sum_below f w + owner_of p n key) u e in omega (arith, z)) in is_had (group_range p.max n i) g (law.0 o))
