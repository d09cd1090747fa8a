use Rattle.std.proofs.Common.{ap, map, ◌∙◌}
use Rattle.std.specs.Ordering.{nat_cmp}
use Rattle.std.specs.Cmp.Lexicographic.{slice_cmp}
use Rattle.plan_model.specs.Uids.{is_uid}
use Rattle.plan_record.proofs.Facts.{keys_more, map_insert_key, all_insert_key}
use Rattle.gather.proofs.sources.source_uids.Goals as goal

pub loop-source-preserved : goal.loop-source-preserved
loop-source-preserved c =
    let keys = ap (map (λ uid. uid.now)) c.in_ok-insert.ensures.keys ∙ map_insert_key (slice_cmp nat_cmp) (λ uid. uid.now) c.loop-source.uids.keys c.as_str.result in
    record {
      says = keys_more (slice_cmp nat_cmp) (λ s. s.uid) c.args.sources.now c.loop-source.source-index _ _ _ _ c.loop-source-test.true c.loop-source.invariant.says (c.as_str.ensures.says ∙ ap (λ s. s.uid) c.source-item.is) keys;
      named = rw c.in_ok-insert.ensures.keys (all_insert_key _ (λ uid. is_uid uid.now) c.loop-source.uids.keys c.as_str.result c.loop-source.invariant.named (rw c.as_str.ensures.says c.as_str.ensures.sound));
    }
