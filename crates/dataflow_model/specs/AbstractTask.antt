-- One task in the abstract: its place in a layout and a leg, and the partitions that it reads.
use Rattle.std.specs.Prelude.{ℕ, ℤ, Bool}
use Rattle.plain_data.specs.Record.{Record}
use Rattle.dataflow_model.specs.declared.role.Role.{Role}
use Rattle.dataflow_model.specs.declared.ending.Ending.{Ending}
use Rattle.dataflow_model.specs.declared.message.Message.{Message}

-- where a task sends its records
pub data Routing : Type 0 where
  -- whole batches in turn; to one output that is forward
  Whole : Routing
  -- each record to the output that owns its key
  Split : (owner : ℤ → ℕ) → Routing

pub record AbstractTask : Type 0 where
  pub role : Role
  -- how many rings come in (of a source: how many partitions it has), and how many lead out
  pub inputs : ℕ
  pub outputs : ℕ
  pub routing : Routing
  -- what its filters keep
  pub keeps : Record → Bool
  -- of a source: its number among the sources, and the number there of the partition at each place
  pub source : ℕ
  pub partition : ℕ → ℕ
  -- of a source, partition by partition: its entries, the watermark that an entry brings, the watermark after n
  -- entries, and how many there are
  pub entry : ℕ → ℕ → Message
  pub brings : ℕ → ℕ → ℤ
  pub watermark : ℕ → ℕ → ℤ
  pub size : ℕ → ℕ
  -- of the leg: the number of its first barrier, how many savepoints are taken while it goes on, how far a partition is
  -- read until savepoint m is taken, and how it ends
  pub first : ℕ
  pub saves : ℕ
  pub limit : ℕ → ℕ → ℕ
  pub ending : Ending
