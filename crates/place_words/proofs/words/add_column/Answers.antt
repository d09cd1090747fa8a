use Rattle.std.proofs.Common.{◌≡◌, true, ◌∙◌, ◌+◌, [], get_or, refl, sym, subst}
use Rattle.byte_fields.specs.Fields.{is_i64}
use Rattle.aggregates.specs.declared.kind.Kind.TheVariants.{Sum, Least, Greatest}
use Rattle.plan_model.specs.declared.spec.Aggregate.TheVariants as aggregate
use Rattle.plan_model.specs.Aggregates.{number_of}
use Rattle.place_words.specs.Words.{number_at}
use Rattle.place_words.specs.PlacedRows.{rows_to}
use Rattle.place_words.proofs.Placed.{IsMerged, HaveFew, HaveFit, in_column, merged_same, merged_count, column_same, column_sum, small_sum}
use Rattle.place_words.proofs.words.add_column.Goals as goal

pub add_sums-requires-clause-small : goal.add_sums-requires-clause-small
add_sums-requires-clause-small c =
    let few = subst (HaveFew c.args.rows.now c.args.offset c.args.words.now) c.in-Sum.is c.requires.few in
    λ k d low.
    let h = few k d low in
    let x = (get_or c.args.rows.now k d).at in
    small_sum h.0 (rows_to x c.args.rows.now) (number_at h.0 Sum c.args.words.now (x + c.args.offset)) h.1 h.2

pub returns-in-Count-clause-added : goal.returns-in-Count-clause-added
returns-in-Count-clause-added c =
    subst (IsMerged c.args.batch.now.rows c.args.rows.now c.args.offset c.args.words.now c.args.words.now) (sym c.in-Count.is)
    (λ n x apart. sym (merged_count _ x c.args.rows.now n (λ r. refl)))

pub returns-in-Sum-clause-added : goal.returns-in-Sum-clause-added
returns-in-Sum-clause-added c =
    let records = c.args.batch.now.rows in
    let rows = c.args.rows.now in
    let numbers = c.column.result.now in
    subst (IsMerged records rows c.args.offset c.args.words.now c.add_sums.new.words) (sym c.in-Sum.is)
    (λ n x apart. c.add_sums.ensures.added x apart
    ∙ merged_same Sum (in_column numbers) (λ r. number_of (aggregate.Sum c.in-Sum.c) (get_or records r.row []) []) x rows _
    (column_sum c.in-Sum.c records numbers rows c.column.ensures c.requires.rows_in))

pub returns-in-Least-clause-added : goal.returns-in-Least-clause-added
returns-in-Least-clause-added c =
    let records = c.args.batch.now.rows in
    let rows = c.args.rows.now in
    let numbers = c.column-in-Least.result.now in
    subst (IsMerged records rows c.args.offset c.args.words.now c.put_least.new.words) (sym c.in-Least.is)
    (λ n x apart. c.put_least.ensures.put x
    ∙ merged_same Least (in_column numbers) (λ r. number_of (aggregate.Least c.in-Least.c) (get_or records r.row []) []) x rows _
    (column_same c.in-Least.c records numbers rows c.column-in-Least.ensures c.requires.rows_in))

pub returns-in-Greatest-clause-added : goal.returns-in-Greatest-clause-added
returns-in-Greatest-clause-added c =
    let records = c.args.batch.now.rows in
    let rows = c.args.rows.now in
    let numbers = c.column-in-Greatest.result.now in
    subst (IsMerged records rows c.args.offset c.args.words.now c.put_greatest.new.words) (sym c.in-Greatest.is)
    (λ n x apart. c.put_greatest.ensures.put x
    ∙ merged_same Greatest (in_column numbers) (λ r. number_of (aggregate.Greatest c.in-Greatest.c) (get_or records r.row []) []) x rows _
    (column_same c.in-Greatest.c records numbers rows c.column-in-Greatest.ensures c.requires.rows_in))

pub returns-in-Count-clause-fit : goal.returns-in-Count-clause-fit
returns-in-Count-clause-fit c =
    subst (HaveFit c.args.batch.now.rows c.args.rows.now) (sym c.in-Count.is) (λ k d low. refl)

pub returns-in-Sum-clause-fit : goal.returns-in-Sum-clause-fit
returns-in-Sum-clause-fit c =
    let records = c.args.batch.now.rows in
    let rows = c.args.rows.now in
    subst (HaveFit records rows) (sym c.in-Sum.is) (λ k d low.
    subst (λ z. is_i64 z ≡ true) (column_sum c.in-Sum.c records c.column.result.now rows c.column.ensures c.requires.rows_in k d low)
    (c.add_sums.ensures.fit k d low))

pub returns-in-Least-clause-fit : goal.returns-in-Least-clause-fit
returns-in-Least-clause-fit c =
    let records = c.args.batch.now.rows in
    let rows = c.args.rows.now in
    subst (HaveFit records rows) (sym c.in-Least.is) (λ k d low.
    subst (λ z. is_i64 z ≡ true) (column_same c.in-Least.c records c.column-in-Least.result.now rows c.column-in-Least.ensures c.requires.rows_in k d low)
    (c.put_least.ensures.fit k d low))

pub returns-in-Greatest-clause-fit : goal.returns-in-Greatest-clause-fit
returns-in-Greatest-clause-fit c =
    let records = c.args.batch.now.rows in
    let rows = c.args.rows.now in
    subst (HaveFit records rows) (sym c.in-Greatest.is) (λ k d low.
    subst (λ z. is_i64 z ≡ true)
    (column_same c.in-Greatest.c records c.column-in-Greatest.result.now rows c.column-in-Greatest.ensures c.requires.rows_in k d low)
    (c.put_greatest.ensures.fit k d low))
