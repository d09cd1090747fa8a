-- One ring: its messages and its room.
use Rattle.std.specs.Prelude.{◌≡◌, ℕ, ◌≤◌, List, [], ◌∷◌, ◌++◌}
use Rattle.std.specs.List.{Contains}
use Rattle.std.specs.VecDeque.{deque_capacity}
use Rattle.std.specs.declared.alloc.Global.{Global}
use Rattle.std.specs.declared.collections.VecDeque.{VecDeque}
use Rattle.dataflow_model.specs.declared.message.Message.{Message}
use Rattle.layout_rules.specs.declared.stage.Stage.{Stage}
use Rattle.layout_rules.specs.Stages.{outputs_of}

-- the messages on a ring, the one that was put first at the front, and for how many it has room
pub record Queue : Type 0 where
  pub messages : List Message
  pub room : ℕ

abbrev pub queue_of : VecDeque Message Global → Queue
queue_of q = record { messages = q.items; room = deque_capacity q }

abbrev pub no_queue : Queue
no_queue = record { messages = []; room = 0 }

-- a ring with one more message
abbrev pub with_message : Queue → Message → Queue
with_message q m = record q { messages = q.messages ++ m ∷ [] }

-- it is empty, and if it leads from s to t there is room for so many messages
pub record IsNewQueue (stages : List Stage) (capacity s t : ℕ) (q : Queue) : Type 0 where
  pub messages : q.messages ≡ []
  pub room : Contains (outputs_of stages s) t → capacity ≤ q.room
