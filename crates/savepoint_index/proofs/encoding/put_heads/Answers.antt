use Rattle.std.proofs.Common.{◌≡◌, ◌+◌, ◌*◌, sym, ◌∙◌}
use Rattle.savepoint_index.proofs.IndexSteps.{heads_put, ok_some}
use Rattle.savepoint_index.proofs.encoding.put_heads.Goals as goal

pub loop-group-preserved : goal.loop-group-preserved
loop-group-preserved c =
    let next = ok_some c.next_place.result _ c.in_ok-place.place (λ n. n ≡ c.loop-group.place + c.args.size * c.len-count.result) (sym c.ok_or.ensures.value ∙ c.in_ok-place.was) c.next_place.ensures in
    heads_put c.args.size c.args.first c.args.groups.now c.loop-group.group-index _ c.group-item.result c.args.out.now.items _ _ c.loop-group.place _ _ c.loop-group-test.true c.group-item.is c.len-count.ensures c.loop-group.invariant c.in_ok-put_head.ensures next
