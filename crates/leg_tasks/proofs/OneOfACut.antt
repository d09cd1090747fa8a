-- A cut of an input has one savepoint of a number.
use Rattle.std.proofs.Common.{sym, ◌∙◌}
use Rattle.redistribute.specs.Snapshots.{saved_sources}
use Rattle.gather.specs.Laws.{SamePanesSameSavepoint}
use Rattle.leg_tasks.specs.Saved.{SavedAtIsOne}

pub saved_at_is_one : SamePanesSameSavepoint → SavedAtIsOne
saved_at_is_one same p i cut number s other a b =
    a.is ∙ same p (saved_sources i.sources cut) a.windows b.windows number (λ q. a.snapshot q ∙ sym (b.snapshot q)) ∙ sym b.is
