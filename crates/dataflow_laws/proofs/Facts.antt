-- PUBLIC: the laws that proofs in crates above cite. Nothing else of proofs/ is theirs to import.
pub use Rattle.dataflow_laws.proofs.Needs.{step_needs, needs_step}
pub use Rattle.dataflow_laws.proofs.Worlds.{worlds_are_histories}
pub use Rattle.dataflow_laws.proofs.Admission.{rings_are_admitted}
pub use Rattle.dataflow_laws.proofs.Going.{progress}
pub use Rattle.dataflow_laws.proofs.Falling.{falls}
pub use Rattle.dataflow_laws.proofs.Admitted.{input_is_admitted, few_before}
pub use Rattle.dataflow_laws.proofs.Compiled.{compiled_leg_delivers, compiled_leg_delivers_at, compiled_leg_delivers_all, compiled_leg_so_far}
pub use Rattle.dataflow_laws.proofs.Owned.{compiled_leg_keeps_panes, compiled_leg_keeps_panes_at}
pub use Rattle.dataflow_laws.proofs.Comings.{compiled_leg_comes}
pub use Rattle.dataflow_laws.proofs.Completing.{aligned_is_complete}
pub use Rattle.dataflow_laws.proofs.Keeping.{compiled_savepoint_delivers}
pub use Rattle.dataflow_laws.proofs.KeptPanes.{compiled_savepoint_keeps_panes}
pub use Rattle.dataflow_laws.proofs.Counted.{kept_is_counted}
pub use Rattle.dataflow_laws.proofs.Halting.{stopped_is_complete}
