use Rattle.std.proofs.Common.{◌≡◌, ◌+◌, ◌-◌, ◌*◌, ◌<◌, length, take, drop, sym, ap, ◌∙◌, arith}
use Rattle.plain_data.specs.Record.{column_of}
use Rattle.columns.specs.Table.{Table}
use Rattle.columns.proofs.Columns.{length-rows_of, column_ends, column_is, few_numbers}
use Rattle.columns.proofs.Batch.column.Goals as goal

pub overflow_mul-start : goal.overflow_mul-start
overflow_mul-start c =
    let in_width : c.args.c < c.self.inside.width = rw (← c.self.view_is) at c.requires in
    let count : c.len.result ≡ c.self.inside.count = c.len.ensures.says ∙ sym (ap (λ (t : Table). length t.rows) c.self.view_is) ∙ length-rows_of _ _ in
    let product : c.args.c * c.len.result ≡ c.args.c * c.self.inside.count = ap (λ n. c.args.c * n) count in
    omega (arith, column_ends c.self.inside.width c.self.inside.count c.args.c in_width, few_numbers c.self.inside.numbers.items c.self.inside.width c.self.inside.count c.self.invariant)

pub slice_bounds-result-end : goal.slice_bounds-result-end
slice_bounds-result-end c =
    let in_width : c.args.c < c.self.inside.width = rw (← c.self.view_is) at c.requires in
    let count : c.len.result ≡ c.self.inside.count = c.len.ensures.says ∙ sym (ap (λ (t : Table). length t.rows) c.self.view_is) ∙ length-rows_of _ _ in
    let product : c.args.c * c.len.result ≡ c.args.c * c.self.inside.count = ap (λ n. c.args.c * n) count in
    omega (arith, column_ends c.self.inside.width c.self.inside.count c.args.c in_width, c.self.invariant.whole, c.as_slice-numbers.ensures.len)

pub returns : goal.returns
returns c =
    let n = c.self.inside.count in
    let start = c.args.c * n in
    let in_width : c.args.c < c.self.inside.width = rw (← c.self.view_is) at c.requires in
    let count : c.len.result ≡ n = c.len.ensures.says ∙ sym (ap (λ (t : Table). length t.rows) c.self.view_is) ∙ length-rows_of _ _ in
    let again : c.len-2.result ≡ n = omega arith in
    let long : start + n - start ≡ n = omega arith in
    (λ o. take (c.args.c * count o + again o - c.args.c * count o) (drop (c.args.c * count o) (c.as_slice-numbers.ensures.value o)))
    ∙ ap (λ m. take m (drop start c.self.inside.numbers.items)) long
    ∙ column_is c.self.inside.numbers.items c.self.inside.width n c.args.c c.self.invariant.whole in_width
    ∙ ap (λ (t : Table). column_of c.args.c t.rows) c.self.view_is
