-- The inputs of a task: how far each has come in event time, and whether a barrier holds it or it has ended.
use Rattle.std.specs.Prelude.{◌≡◌, ℕ, ℤ, pos, int_lt, List, [], ◌∷◌, Bool, true, false, map, slice_index_or, slice_set, Option, Some, None, if◌then◌else◌, length}
use Rattle.std.specs.Int.{int_min, int_max}
use Rattle.plain_data.specs.Times.{highest}
use Rattle.input_state.specs.declared.inputs.Shut.{Shut}
use Rattle.input_state.specs.declared.inputs.Shut.TheVariants.{Free, Held, Ended}
use Rattle.input_state.specs.declared.inputs.Aligned.{Aligned}
use Rattle.input_state.specs.declared.inputs.Aligned.TheVariants.{Waiting, Barrier, AllEnded}

-- the watermark of each input, and whether it is shut
pub record InputsData : Type 0 where
  pub marks : List ℤ
  pub shut : List Shut

abbrev pub inputs_from : List ℤ → List Shut → InputsData
inputs_from marks shut = record { marks = marks; shut = shut }

-- the least watermark: without inputs the greatest i64
abbrev pub least : List ℤ → ℤ
least [] = highest
least (t ∷ ts) = int_min t (least ts)

-- the watermark of input i moved up to t, or left where it is higher
abbrev pub raised : List ℤ → ℕ → ℤ → List ℤ
raised marks i t = slice_set marks i (int_max (slice_index_or marks i (pos 0)) t)

-- the new least, if it rose
abbrev pub risen : ℤ → ℤ → Option ℤ
risen old new = if int_lt old new then Some new else None

-- what moving input i up to t makes of the least of all
abbrev pub rise : List ℤ → ℕ → ℤ → Option ℤ
rise marks i t = risen (least marks) (least (raised marks i t))

-- neither held nor ended
abbrev pub is_free : Shut → Bool
is_free Free = true
is_free Held = false
is_free Ended = false

abbrev pub is_held : Shut → Bool
is_held Free = false
is_held Held = true
is_held Ended = false

-- how input i stands; one that is not there counts as ended
abbrev pub shut_at : List Shut → ℕ → Shut
shut_at shut i = slice_index_or shut i Ended

abbrev pub all_shut : List Shut → Bool
all_shut [] = true
all_shut (Free ∷ ss) = false
all_shut (Held ∷ ss) = all_shut ss
all_shut (Ended ∷ ss) = all_shut ss

abbrev pub any_held : List Shut → Bool
any_held [] = false
any_held (Free ∷ ss) = any_held ss
any_held (Held ∷ ss) = true
any_held (Ended ∷ ss) = any_held ss

-- what follows once an input was shut: all have the barrier, where an ended input counts as having it, or all have
-- ended
abbrev pub alignment : List Shut → Aligned
alignment shut = if all_shut shut then (if any_held shut then Barrier else AllEnded) else Waiting

abbrev pub let_go : Shut → Shut
let_go Free = Free
let_go Held = Free
let_go Ended = Ended

-- no input is held any more
abbrev pub released : List Shut → List Shut
released shut = map let_go shut

-- as many watermarks as inputs, and the least of them
pub record IsInputs (d : InputsData) (low : ℤ) : Type 0 where
  pub long : length d.shut ≡ length d.marks
  pub is_least : low ≡ least d.marks
