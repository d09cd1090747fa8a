use Rattle.std.proofs.Common.{refl, [], ◌∙◌, map}
use Rattle.known_records.specs.Known.{keys_in}
use Rattle.import_copies.proofs.Sorting.{one_more_file}
use Rattle.import_copies.proofs.files.import_partition.Goals as goal

pub loop-file-init : goal.loop-file-init
loop-file-init g c = record {
  rule = c.in_ok-partition.ensures.rule;
  dealing = c.in_ok-partition.ensures.dealing;
  sorts = ([], refl, c.in_ok-partition.ensures.none (map g.W.Write.contents c.args.outs.now));
}

pub loop-file-preserved : goal.loop-file-preserved
loop-file-preserved g c = record {
  rule = c.copy_file.ensures.rule ∙ c.loop-file.invariant.rule;
  dealing = c.copy_file.ensures.dealing ∙ c.loop-file.invariant.dealing;
  sorts = one_more_file c.args.rule.entries (keys_in c.args.known.now) (map g.W.Write.contents c.args.outs.now) (map g.W.Write.contents c.loop-file.outs) (map g.W.Write.contents c.copy_file.new.outs) c.loop-file.known c.copy_file.new.known c.loop-file.partition c.copy_file.new.partition c.in_ok-told.told.counts c.loop-file.invariant.rule c.loop-file.invariant.sorts c.in_ok-told.ensures.sorts;
}
