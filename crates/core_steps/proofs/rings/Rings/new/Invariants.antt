use Rattle.std.proofs.Common.{◌≡◌, ℕ, ◌<◌, ◌/◌, ◌%◌, length, get_or}
use Rattle.std.specs.declared.alloc.Global.{Global}
use Rattle.std.specs.declared.collections.VecDeque.{VecDeque}
use Rattle.dataflow_model.specs.declared.message.Message.{Message}
use Rattle.core_steps.specs.Queues.{queue_of, IsNewQueue}
use Rattle.core_steps.proofs.rings.Rings.new.Given as goal

abbrev pub invariant-loop-place : goal.invariant-loop-place
invariant-loop-place l = (length l.queues.items ≡ l.place) × ((k : ℕ) (d : VecDeque Message Global) → k < l.place → IsNewQueue l.layout.stages l.layout.capacity (k / l.tasks) (k % l.tasks) (queue_of (get_or l.queues.items k d)))
