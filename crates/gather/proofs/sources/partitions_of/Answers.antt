use Rattle.std.proofs.Common.{[], ◌∷◌, ◌++◌, sym, ap, subst, ◌∙◌, arith}
use Rattle.std.proofs.lemmas.List.Elements.{All-push}
use Rattle.std.proofs.lemmas.List.FromFn.{map-range_with_len_more}
use Rattle.gather.specs.Parts.{partition_in}
use Rattle.gather.specs.Sources.{AreTyped, IsTypedPartition}
use Rattle.gather.proofs.sources.partitions_of.Goals as goal

pub loop-partition-preserved : goal.loop-partition-preserved
loop-partition-preserved c =
    let f = partition_in c.args.starts.now in
    let q = c.loop-partition.partition in
    let old = c.loop-partition.saved.items in
    record {
      says = c.in_ok-push.ensures.items ∙ ap (λ x. old ++ x ∷ []) c.partition_in.ensures.says ∙ ap (λ xs. xs ++ f q ∷ []) c.loop-partition.invariant.says ∙ sym (map-range_with_len_more f 0 q q (omega arith));
      typed = subst AreTyped (sym c.in_ok-push.ensures.items) (All-push IsTypedPartition old c.partition_in.result c.loop-partition.invariant.typed c.partition_in.ensures.typed);
    }
