use Rattle.std.proofs.Common.{◌∙◌, ◌++◌, ◌≤◌, ap, length, arith, string_bytes}
use Rattle.std.proofs.lemmas.List.{take_all}
use Rattle.std.proofs.lemmas.List.FromFn.{length-enumerate_from}
use Rattle.std.specs.List.{flat_map, enumerate_from}
use Rattle.job_texts.specs.ShowText.{partition_line}
use Rattle.job_texts.proofs.Lines.{item_more, numbered_at}
use Rattle.job_texts.proofs.show_text.write_partitions.Goals as goal

pub loop-i-preserved : goal.loop-i-preserved
loop-i-preserved c =
    item_more (partition_line c.args.uid.now) (enumerate_from 0 c.args.partitions.now) c.loop-i.i _ (string_bytes c.args.text.now) (string_bytes c.loop-i.text) (string_bytes c.write_partition.new.text)
    (numbered_at c.args.partitions.now c.loop-i.i _ c.loop-i-test.true) c.in_ok-write_partition.ensures c.loop-i.invariant

pub returns : goal.returns
returns c =
    let partitions = c.args.partitions.now in
    let all : length (enumerate_from 0 partitions) ≤ c.loop-i.i = omega (arith, length-enumerate_from 0 partitions) in
    c.loop-i.invariant ∙ ap (λ xs. string_bytes c.args.text.now ++ flat_map (partition_line c.args.uid.now) xs) (take_all c.loop-i.i (enumerate_from 0 partitions) all)
