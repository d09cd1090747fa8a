use Rattle.std.proofs.Common.{ap, ◌∙◌}
use Rattle.plan_model.specs.Windows.{passes}
use Rattle.columns.specs.Parts.{with_rows, kept_rows}
use Rattle.columns.proofs.Facts.{kept-map_test}
use Rattle.filtering.proofs.passing.Goals as goal

pub returns-in-Ok : goal.returns-in-Ok
returns-in-Ok c =
    let batch = c.args.batch.now in
    c.in-Ok.ensures.kept
    ∙ ap (with_rows batch)
    (ap (λ mask. kept_rows mask batch.rows) (c.deref.ensures.value ∙ c.in_ok-mask.ensures) ∙ kept-map_test (passes c.args.filters.now) batch.rows)
