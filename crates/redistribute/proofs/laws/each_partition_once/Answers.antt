use Rattle.redistribute.proofs.Dealt.{each_partition_once}
use Rattle.redistribute.proofs.laws.each_partition_once.Goals as goal

pub returns : goal.returns
returns c = each_partition_once
