-- The rings between tasks, by sender and receiver.
use Rattle.std.specs.Prelude.{◌≡◌, ℕ, ◌+◌, ◌*◌, ◌<◌, ◌≤◌, ◌==◌, List, [], ◌∷◌, map, length, slice_index, slice_index_or, nat_lt, if◌then◌else◌}
use Rattle.dataflow_model.specs.declared.message.Message.{Message}
use Rattle.layout_rules.specs.declared.stage.Stage.{Stage}
use Rattle.layout_rules.specs.Stages.{task_count, outputs_of}
use Rattle.core_steps.specs.Queues.{Queue, queue_of, no_queue}
use Rattle.core_steps.specs.declared.rings.Rings.TheInside.{Inside}

-- the rings between so many tasks: those of the first sender to each receiver, then those of the next
pub record RingsData : Type 0 where
  pub tasks : ℕ
  pub queues : List Queue

abbrev pub rings_view : Inside → RingsData
rings_view r = record { tasks = r.tasks; queues = map queue_of r.queues.items }

-- the ring from s to t
abbrev pub queue_at : RingsData → ℕ → ℕ → Queue
queue_at r s t = if nat_lt t r.tasks then slice_index_or r.queues (s * r.tasks + t) no_queue else no_queue

-- the ring from s to t is q now, and no other ring has changed
pub record ChangesQueue (s t : ℕ) (q : Queue) (old new : RingsData) : Type 0 where
  pub tasks : new.tasks ≡ old.tasks
  pub queues : (x y : ℕ) → queue_at new x y ≡ (if x == s then (if y == t then q else queue_at old x y) else queue_at old x y)

-- m, put first on the ring from s to t, is there no more
pub record PopsMessage (s t : ℕ) (m : Message) (old new : RingsData) : Type 0 where
  pub rest : List Message
  pub first : (queue_at old s t).messages ≡ m ∷ rest
  pub changes : ChangesQueue s t (record (queue_at old s t) { messages = rest }) old new

-- the rings of stages are empty, and each has room for so many messages
pub record AreNewRings (stages : List Stage) (capacity : ℕ) (r : RingsData) : Type 0 where
  pub tasks : r.tasks ≡ task_count stages
  pub messages : (s t : ℕ) → (queue_at r s t).messages ≡ []
  pub room : (s j : ℕ) → s < task_count stages → j < length (outputs_of stages s) → capacity ≤ (queue_at r s (slice_index (outputs_of stages s) j)).room
