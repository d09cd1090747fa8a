-- PUBLIC: the lemmas that crates above cite. Nothing else of proofs/ is theirs to import.
pub use Rattle.plan_model.proofs.Aggs.{merge_assoc}
pub use Rattle.plan_model.proofs.Bags.{IsSameBag-filter}
pub use Rattle.plan_model.proofs.Counts.{count_or, count_at, count_merge, count_of_some, count_merged}
pub use Rattle.plan_model.proofs.PaneMaps.{pane_cmp_total, pane_cmp-IsAntisymmetric}
pub use Rattle.plan_model.proofs.PaneTotals.{aggregate_at-append, aggregate_at-same, merge-one, merge_None}
pub use Rattle.plan_model.proofs.Starts.{is_reached, reached_more, reached_once, reached_none, reached_all, lifted, natural, remainder, pos_same, and_false, and_true, or_false, rem-add}
pub use Rattle.plan_model.proofs.UidField.{uid_exact, uid_fits}
pub use Rattle.plan_model.proofs.WindowLaw.{natural_above, le_from_test, lt_from_test, test_from_le}
