use Rattle.std.proofs.Common.{ap, sym, ◌∙◌, ◌<◌, length, arith, rules}
use Rattle.gather.proofs.Filled.{on_ok, widths_kept}
use Rattle.gather.proofs.buckets.push_entry.Goals as goal

pub push-requires : goal.push-requires
push-requires c =
    let within : c.group_of-group.result < length c.args.buckets.now = omega (arith, c.group_of-group.ensures.below, c.requires.groups) in
    sym (c.requires.widths c.group_of-group.result c.index-buckets-group.result within)

pub returns-clause-widths : goal.returns-clause-widths
returns-clause-widths c =
    let g = c.group_of-group.result in
    let within : g < length c.args.buckets.now = omega (arith, c.group_of-group.ensures.below, c.requires.groups) in
    on_ok c.push.result _ _ (λ e n h. widths_kept n c.args.buckets.now g c.push.new.self within (ap (λ b. b.width) e ∙ h g c.index-buckets-group.result within ∙ sym (h g c.push.new.self within)) h) c.push.ensures.ok

pub returns-clause-typed : goal.returns-clause-typed
returns-clause-typed c = (search rules, search rules)
