use Rattle.std.proofs.Common.{◌∙◌, ◌++◌, ◌≤◌, ap, length, arith, string_bytes}
use Rattle.std.proofs.lemmas.List.{take_all}
use Rattle.std.proofs.lemmas.List.FromFn.{length-enumerate_from}
use Rattle.std.specs.List.{flat_map, enumerate_from}
use Rattle.job_texts.proofs.Facts.{item_more, numbered_at}
use Rattle.cut_texts.specs.Extents.{extent_line}
use Rattle.cut_texts.proofs.extents.push_extents.Goals as goal

pub loop-number-preserved : goal.loop-number-preserved
loop-number-preserved c =
    item_more (extent_line c.args.uid.now) (enumerate_from 0 c.args.extents.now) c.loop-number.number _ (string_bytes c.args.text.now) (string_bytes c.loop-number.text) (string_bytes c.push_extent.new.text)
    (numbered_at c.args.extents.now c.loop-number.number _ c.loop-number-test.true) c.in_ok-push_extent.ensures c.loop-number.invariant

pub returns : goal.returns
returns c =
    let extents = c.args.extents.now in
    let all : length (enumerate_from 0 extents) ≤ c.loop-number.number = omega (arith, length-enumerate_from 0 extents) in
    c.loop-number.invariant ∙ ap (λ xs. string_bytes c.args.text.now ++ flat_map (extent_line c.args.uid.now) xs) (take_all c.loop-number.number (enumerate_from 0 extents) all)
