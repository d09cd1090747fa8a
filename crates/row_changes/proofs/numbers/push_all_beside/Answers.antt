use Rattle.std.proofs.Common.{◌≡◌, ◌++◌, string_bytes, rules, sym, ap, ◌∙◌, arith, to_z, of_z}
use Rattle.std.specs.Int.{w128}
use Rattle.std.specs.List.{flat_map, zip}
use Rattle.std.proofs.lemmas.Int.{to_z-of_z}
use Rattle.row_changes.specs.Changes.{beside}
use Rattle.row_changes.proofs.Beside.{pair_more, all_pairs}
use Rattle.row_changes.proofs.numbers.push_all_beside.Goals as goal

pub loop-index-preserved : goal.loop-index-preserved
loop-index-preserved c =
    let x = c.unwrap.result in
    let y = c.unwrap-in-loop-index.result in
    let x_back : to_z w128 (of_z w128 x) ≡ x = to_z-of_z w128 x (search rules) in
    let y_back : to_z w128 (of_z w128 y) ≡ y = to_z-of_z w128 y (search rules) in
    pair_more beside c.args.old.now c.args.new.now c.loop-index.index x y (string_bytes c.args.text.now) (string_bytes c.loop-index.text) (string_bytes c.push_beside.new.text)
    (sym c.get.ensures ∙ c.unwrap.ensures) (sym c.get-in-loop-index.ensures ∙ c.unwrap-in-loop-index.ensures)
    (c.in_ok-push_beside.ensures ∙ (λ i. string_bytes c.loop-index.text ++ beside (x_back i, y_back i))) c.loop-index.invariant

pub returns : goal.returns
returns c =
    let count = c.len-index-end.ensures in
    c.loop-index.invariant ∙ ap (λ pairs. string_bytes c.args.text.now ++ flat_map beside pairs) (all_pairs c.args.old.now c.args.new.now c.loop-index.index (omega arith))
