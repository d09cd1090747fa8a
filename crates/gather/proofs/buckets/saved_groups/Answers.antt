use Rattle.std.proofs.Common.{◌≡◌, ℕ, ◌<◌, ◌^◌, length, map, get_or, sym, ap, subst, ◌∙◌, arith}
use Rattle.std.specs.List.{All, flat_map, range_with_len}
use Rattle.std.proofs.lemmas.List.FromFn.{get_or-map-range_with_len, length-map-range_with_len}
use Rattle.savepoint_codec.specs.EntriesData.{EntriesData}
use Rattle.gather.specs.Saved.{entries_in_group, saved_groups}
use Rattle.gather.specs.Parts.{panes_in, windows_in}
use Rattle.gather.specs.Buckets.{bucket, no_entries, groups_from}
use Rattle.gather.proofs.Filled.{filled, groups_are}
use Rattle.gather.proofs.Windows.{in_group, same_groups, if_ok}
use Rattle.gather.proofs.buckets.saved_groups.Goals as goal

pub kept_groups-requires : goal.kept_groups-requires
kept_groups-requires c =
    let all = flat_map panes_in c.args.parts.now in
    let positive = c.all_buckets.ensures.positive in
    let small = c.all_buckets.ensures.small in
    let items = c.in_ok-buckets.ensures.says ∙ filled c.args.max c.args.width all (omega (arith, positive)) in
    omega (arith, small, ap length items, length-map-range_with_len (bucket c.args.max c.args.width all) 0 c.args.max)

pub returns-clause-says : goal.returns-clause-says
returns-clause-says c =
    let max = c.args.max in
    let width = c.args.width in
    let all = flat_map panes_in c.args.parts.now in
    let positive = c.all_buckets.ensures.positive in
    let items = c.in_ok-buckets.ensures.says ∙ filled max width all (omega (arith, positive)) in
    if_ok c.kept_groups.result (λ groups. groups ≡ groups_from 0 c.in_ok-buckets.buckets.items) (λ groups. groups ≡ saved_groups max width (windows_in c.args.parts.now))
    (λ groups e. e ∙ ap (groups_from 0) items ∙ groups_are (bucket max width all) width 0 max (λ g. (λ i. width)) ∙ same_groups max width all c.requires.ordered) c.kept_groups.ensures.says

pub returns-clause-long : goal.returns-clause-long
returns-clause-long c =
    let max = c.args.max in
    let width = c.args.width in
    let all = flat_map panes_in c.args.parts.now in
    let positive = c.all_buckets.ensures.positive in
    let items = c.in_ok-buckets.ensures.says ∙ filled max width all (omega (arith, positive)) in
    let short : EntriesData → Type 0 = λ b. length b.entries < 2 ^ 64 in
    if_ok c.kept_groups.result (λ groups. All short c.in_ok-buckets.buckets.items) (λ groups. (g : ℕ) → g < max → length (entries_in_group max (windows_in c.args.parts.now) g) < 2 ^ 64)
    (λ groups h g l.
    let there = length-map-range_with_len (bucket max width all) 0 max in
    let here : short (get_or (map (bucket max width all) (range_with_len 0 max)) g (no_entries 0)) = subst (All short) items h g (no_entries 0) (omega (arith, there)) in
    let this : short (bucket max width all g) = subst short (get_or-map-range_with_len (bucket max width all) 0 max g g (no_entries 0) l (omega arith)) here in
    subst (λ es. length es < 2 ^ 64) (sym (in_group max g all (c.requires.ordered g))) this) c.kept_groups.ensures.long
