-- Inputs that are shut, and what they align to.
use Rattle.std.proofs.Common.{◌≡◌, ℕ, zero, suc, List, [], ◌∷◌, Bool, true, false, eqb, refl, if◌then◌else◌}
use Rattle.std.proofs.lemmas.Bool.{eqb-true, and_parts}
use Rattle.input_state.specs.declared.inputs.Shut.{Shut}
use Rattle.input_state.specs.declared.inputs.Shut.TheVariants.{Free, Held, Ended}
use Rattle.input_state.specs.declared.inputs.Aligned.TheVariants as aligned
use Rattle.input_state.specs.Inputs.{shut_at, all_shut, any_held}
use Rattle.dataflow_model.specs.declared.ending.Ending.{Ending}
use Rattle.dataflow_model.specs.declared.ending.Ending.TheVariants.{AtEnd, AtCut, Asked}
use Rattle.dataflow_model.specs.Ending.{may_stop}
use Rattle.dataflow_model.specs.AbstractTask.{AbstractTask}
use Rattle.dataflow_model.specs.State.{State}
use Rattle.dataflow_model.specs.Steps.{MayStop, is_last}

-- where all are shut none is free
pub all_shut_at : (ss : List Shut) (i : ℕ) → all_shut ss ≡ true → shut_at ss i ≡ Free → ⊥
all_shut_at [] i a f = absurd cc
all_shut_at (Free ∷ ss) i a f = absurd cc
all_shut_at (Held ∷ ss) zero a f = absurd cc
all_shut_at (Held ∷ ss) (suc i) a f = all_shut_at ss i a f
all_shut_at (Ended ∷ ss) zero a f = absurd cc
all_shut_at (Ended ∷ ss) (suc i) a f = all_shut_at ss i a f

-- nor is one held where none is
pub none_held_at : (ss : List Shut) (i : ℕ) → any_held ss ≡ false → shut_at ss i ≡ Held → ⊥
none_held_at [] i a f = absurd cc
none_held_at (Free ∷ ss) zero a f = absurd cc
none_held_at (Free ∷ ss) (suc i) a f = none_held_at ss i a f
none_held_at (Held ∷ ss) i a f = absurd cc
none_held_at (Ended ∷ ss) zero a f = absurd cc
none_held_at (Ended ∷ ss) (suc i) a f = none_held_at ss i a f

-- the alignment of all that have ended
pub all_ended_by : (a h : Bool) → (if a then (if h then aligned.Barrier else aligned.AllEnded) else aligned.Waiting) ≡ aligned.AllEnded → (a ≡ true) × (h ≡ false)
all_ended_by true true e = absurd cc
all_ended_by true false e = (refl, refl)
all_ended_by false h e = absurd cc

-- a leg stops when it has taken all its savepoints on the way
pub stops_last : (ending : Ending) (k : AbstractTask) (s : State) → MayStop ending k s → s.next ≡ k.saves
stops_last AtEnd k s may = absurd may
stops_last AtCut k s may = may.0
stops_last Asked k s may = may

pub last_is : (k : AbstractTask) (n : ℕ) → is_last k n ≡ true → n ≡ k.saves
last_is k n e = eqb-true n k.saves (and_parts (may_stop k.ending) (eqb n k.saves) e).1
