-- PUBLIC: the lemmas that crates above cite. Nothing else of proofs/ is theirs to import.
pub use Rattle.task_setups.proofs.Standing.{every_task_stands}
pub use Rattle.task_setups.proofs.Reading.{every_task_reads}
pub use Rattle.task_setups.proofs.Beginning.{every_task_begins}
pub use Rattle.task_setups.proofs.Counted.{few_pass, few_inputs}
