use Rattle.std.proofs.Common.{◌<◌, ◌^◌, ◌++◌, length, sym, ap, ◌∙◌, arith}
use Rattle.std.proofs.lemmas.List.{length_push}
use Rattle.std.proofs.lemmas.List.Elements.{All-push}
use Rattle.savepoint_codec.specs.EntriesData.{EntriesData}
use Rattle.gather.specs.Saved.{saved_group}
use Rattle.gather.proofs.Filled.{groups_push}
use Rattle.gather.proofs.buckets.kept_groups.Goals as goal

pub loop-entries-preserved : goal.loop-entries-preserved
loop-entries-preserved c =
    let e = c.in-Some.entries in
    let seen = c.loop-entries.yielded in
    let count = c.loop-entries.invariant.count in
    record {
      count = omega (arith, count, length_push seen e);
      says = c.in_ok-push_group.ensures.says ∙ ap (λ gs. gs ++ saved_group e.width c.loop-entries.group e.entries) c.loop-entries.invariant.says ∙ sym (groups_push seen e c.loop-entries.group count);
      long = All-push (λ (b : EntriesData). length b.entries < 2 ^ 64) seen e c.loop-entries.invariant.long c.in_ok-push_group.ensures.long;
    }
