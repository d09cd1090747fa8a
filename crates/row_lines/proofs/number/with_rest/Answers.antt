use Rattle.row_lines.proofs.Fronts.{size_printed}
use Rattle.row_lines.proofs.number.with_rest.Goals as goal

pub returns-then-are_plain : goal.returns-then-are_plain
returns-then-are_plain c =
    size_printed c.args.text.now c.split_at.result.0.now c.split_at.result.1.now c.args.count c.args.size c.split_at.ensures.by_index.0 c.split_at.ensures.front c.requires.size (c.are_plain.ensures.some c.if-are_plain.true) (c.are_plain.ensures.zero c.if-are_plain.true)
