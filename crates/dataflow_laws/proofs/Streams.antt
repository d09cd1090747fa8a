-- Records and watermarks in messages and in logs. A log has its newest message first.
use Rattle.std.specs.Prelude.{◌≡◌, ℕ, ◌+◌, ◌<◌, ℤ, int_lt, List, [], ◌∷◌, cond, Option, Some, None}
use Rattle.plain_data.specs.Record.{Record, at}
use Rattle.dataflow_model.specs.declared.message.Message.{Message}
use Rattle.dataflow_model.specs.declared.message.Message.TheVariants.{Rows, Fired, Watermark, Barrier, End}
use Rattle.dataflow_model.specs.AbstractTask.{Routing, Whole, Split}
pub use Rattle.dataflow_laws.specs.Edges.{mark_after, mark_of}

-- the sum of h over records, over the records of a message, and over those of a log
abbrev pub weigh : (Record → ℕ) → List Record → ℕ
weigh h [] = 0
weigh h (r ∷ rs) = h r + weigh h rs

abbrev pub weigh_message : (Record → ℕ) → Message → ℕ
weigh_message h (Rows t) = weigh h t.rows
weigh_message h (Fired rows) = 0
weigh_message h (Watermark t) = 0
weigh_message h (Barrier n) = 0
weigh_message h End = 0

abbrev pub weigh_log : (Record → ℕ) → List Message → ℕ
weigh_log h [] = 0
weigh_log h (m ∷ log) = weigh_message h m + weigh_log h log

-- 1 for a record whose time, in column c, is not above the watermark
abbrev pub late : ℕ → ℤ → Record → ℕ
late c w r = cond (int_lt w (at c r)) 0 1

-- no record in a log comes after a watermark that has its time
abbrev pub IsOrderly : ℕ → List Message → Type 0
IsOrderly c [] = Unit {0}
IsOrderly c (m ∷ log) = (weigh_message (late c (mark_of log)) m ≡ 0) × IsOrderly c log

-- whether a task sends this record to output j, by the key in a column
abbrev pub Owns : ℕ → Routing → ℕ → Record → Type 0
Owns key Whole j r = Unit {0}
Owns key (Split owner) j r = owner (at key r) ≡ j

-- whether a task sends to outputs below n alone, where the next batch goes to this one
abbrev pub Reaches : Routing → ℕ → ℕ → Type 0
Reaches Whole n cursor = cursor < n
Reaches (Split owner) n cursor = (key : ℤ) → owner key < n

-- a message without records or watermark
abbrev pub IsPlain : Message → Type 0
IsPlain (Rows t) = ⊥
IsPlain (Fired rows) = Unit {0}
IsPlain (Watermark t) = ⊥
IsPlain (Barrier n) = Unit {0}
IsPlain End = Unit {0}

-- the message that tells a new watermark, if there is one
abbrev pub told : Option ℤ → List Message
told None = []
told (Some t) = Watermark t ∷ []
