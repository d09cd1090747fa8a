use Rattle.std.proofs.Common.{List, refl, ap, ◌∙◌, arith}
use Rattle.aggregates.specs.declared.kind.Kind.{Kind}
use Rattle.savepoint_index.specs.Index.{entry_length}
use Rattle.savepoint_index.proofs.IndexSteps.{same_put}
use Rattle.savepoint_index.proofs.encoding.put_groups.Goals as goal

pub returns : goal.returns
returns c =
    same_put c.put_lists.result c.args.contents.now.max c.args.contents.now.kinds c.args.contents.now.groups c.as_slice-groups.result.now c.args.out.now.items _ _ _ _ _ _ _ c.requires.short.groups c.as_slice-groups.ensures
    refl (c.entry_size-size.ensures ∙ ap (λ (kinds : List Kind). entry_length kinds) c.as_slice.ensures) (omega (arith, c.len-begin.ensures)) c.in_ok-put_u16.ensures c.in_ok-end.ensures c.in_ok-reserve_exact.ensures.items c.put_lists.ensures
