-- What a contract sees of a ring's ends.
use Rattle.std.specs.Prelude.{◌≡◌, ℕ, List, ◌++◌, length}
use Rattle.std.specs.declared.alloc.Global.{Global}
use Rattle.rtrb.specs.Ring.{sent, received, known_free, known_items}
use Rattle.rtrb.specs.Shared.{Names}
use denote.RawPtr.{Ptr}
use Rattle.dataflow_model.specs.declared.message.Message.{Message}
use Rattle.thread_runner.specs.declared.ends.Sender.{Sender}
use Rattle.thread_runner.specs.declared.ends.Receiver.{Receiver}

-- every message put so far, oldest first
abbrev pub put_of : Sender → List Message
put_of s = sent s.inner

-- every message taken so far, oldest first
abbrev pub taken_of : Receiver → List Message
taken_of r = received r.inner

-- the messages that it has seen in the ring and not taken
abbrev pub seen_of : Receiver → List Message
seen_of r = known_items r.inner

-- for how many messages the sender knows room
abbrev pub room_of : Sender → ℕ
room_of s = known_free s.inner

-- which ring an end is of
abbrev pub RingName : Type 0
RingName = Ptr × (Ptr × (Names × Global))

abbrev pub ring_of : Sender → RingName
ring_of s = (s.inner.end.words, (s.inner.end.slots, (s.inner.end.names, s.inner.end.heap)))

abbrev pub ring_at : Receiver → RingName
ring_at r = (r.inner.end.words, (r.inner.end.slots, (r.inner.end.names, r.inner.end.heap)))

-- what was put is what was taken, followed by n messages
abbrev pub LeavesOver : List Message → List Message → ℕ → Type 0
LeavesOver put taken n = (left : List Message) × (put ≡ taken ++ left) × (length left ≡ n)
