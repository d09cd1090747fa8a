-- What each step needs, and that there is one where it is met.
use Rattle.std.proofs.Common.{◌≡◌, ℕ, zero, suc, Bool, true, false, List, [], ◌∷◌, refl, if◌then◌else◌, slice_set}
use Rattle.plan_model.specs.PlanData.{PlanData}
use Rattle.input_state.specs.declared.inputs.Shut.{Shut}
use Rattle.input_state.specs.declared.inputs.Shut.TheVariants.{Free, Held, Ended}
use Rattle.input_state.specs.declared.inputs.Aligned.{Aligned}
use Rattle.input_state.specs.declared.inputs.Aligned.TheVariants as aligned
use Rattle.input_state.specs.Inputs.{is_free, shut_at, all_shut, any_held, alignment, rise}
use Rattle.dataflow_model.specs.declared.role.Role.{Role}
use Rattle.dataflow_model.specs.declared.role.Role.TheVariants.{Source, Chain, Window, Sink}
use Rattle.dataflow_model.specs.declared.message.Message.{Message}
use Rattle.dataflow_model.specs.declared.message.Message.TheVariants.{Rows, Fired, Watermark, Barrier, End}
use Rattle.dataflow_model.specs.AbstractTask.{AbstractTask}
use Rattle.dataflow_model.specs.State.{State}
use Rattle.dataflow_model.specs.Steps.{Event, Open, Read, Save, Stop, Close, Take, Put, Takes, LocalStep}
use Rattle.dataflow_model.specs.Steps.LocalStep.{put, opens, reads, saves, stops, closes, chain_rows, chain_mark, window_rows, window_mark, sink_rows, sink_mark, holds, aligns, ends, ends_all, ends_aligned}
use Rattle.dataflow_laws.specs.Needs.{StepNeeds, NeedsStep}
use Rattle.dataflow_laws.proofs.Building.{rows_added}
use Rattle.dataflow_laws.proofs.Listing.{fires}

pub step_needs : StepNeeds
step_needs p k s e s' (put {rest = rest} is) = (rest, is)
step_needs p k s e s' (opens can) = can
step_needs p k s e s' (reads {q = q} own) = (q, own)
step_needs p k s e s' (saves can may) = (can, may)
step_needs p k s e s' (stops can may) = (can, may)
step_needs p k s e s' (closes can may) = (can, may)
step_needs p k s e s' (chain_rows role takes) = takes
step_needs p k s e s' (chain_mark role takes) = takes
step_needs p k s e s' (window_rows role takes added) = takes
step_needs p k s e s' (window_mark rows role takes fires) = takes
step_needs p k s e s' (sink_rows role takes) = takes
step_needs p k s e s' (sink_mark role takes) = takes
step_needs p k s e s' (holds takes is) = takes
step_needs p k s e s' (aligns takes is) = takes
step_needs p k s e s' (ends takes is) = takes
step_needs p k s e s' (ends_all takes is) = takes
step_needs p k s e s' (ends_aligned takes is) = takes

-- an input that is there is held once it was
held_there : (ss : List Shut) (i : ℕ) → is_free (shut_at ss i) ≡ true → any_held (slice_set ss i Held) ≡ true
held_there [] i e = absurd cc
held_there (Free ∷ ss) zero e = refl
held_there (Held ∷ ss) zero e = absurd cc
held_there (Ended ∷ ss) zero e = absurd cc
held_there (Free ∷ ss) (suc i) e = held_there ss i e
held_there (Held ∷ ss) (suc i) e = refl
held_there (Ended ∷ ss) (suc i) e = held_there ss i e

not_all_ended : (a h : Bool) → h ≡ true → (if a then (if h then aligned.Barrier else aligned.AllEnded) else aligned.Waiting) ≡ aligned.AllEnded → ⊥
not_all_ended true true e is = cc
not_all_ended true false e is = cc
not_all_ended false h e is = cc

abbrev HasStep : PlanData → AbstractTask → State → Event → Type 0
HasStep p k s e = (s' : State) × LocalStep p k s e s'

takes_barrier : (p : PlanData) (k : AbstractTask) (s : State) (i n : ℕ) (a : Aligned) → alignment (slice_set s.inputs.shut i Held) ≡ a → Takes p k s i (Barrier n) → HasStep p k s (Take i (Barrier n))
takes_barrier p k s i n aligned.Waiting is takes = (_, holds takes is)
takes_barrier p k s i n aligned.Barrier is takes = (_, aligns takes is)
takes_barrier p k s i n aligned.AllEnded is takes = absurd (not_all_ended (all_shut (slice_set s.inputs.shut i Held)) _ (held_there s.inputs.shut i takes.can.free) is)

takes_end : (p : PlanData) (k : AbstractTask) (s : State) (i : ℕ) (a : Aligned) → alignment (slice_set s.inputs.shut i Ended) ≡ a → Takes p k s i End → HasStep p k s (Take i End)
takes_end p k s i aligned.Waiting is takes = (_, ends takes is)
takes_end p k s i aligned.Barrier is takes = (_, ends_aligned takes is)
takes_end p k s i aligned.AllEnded is takes = (_, ends_all takes is)

takes_by : (p : PlanData) (k : AbstractTask) (s : State) (i : ℕ) (m : Message) (r : Role) → k.role ≡ r → Takes p k s i m → HasStep p k s (Take i m)
takes_by p k s i m Source e takes = absurd (let no = takes.can.taker in cc)
takes_by p k s i (Rows t) Chain e takes = (_, chain_rows e takes)
takes_by p k s i (Rows t) Window e takes = let a = rows_added p.window t.rows s.windows in (_, window_rows {windows = a.0} e takes a.1)
takes_by p k s i (Rows t) Sink e takes = absurd (let no = takes.admitted.0 in cc)
takes_by p k s i (Fired rows) Chain e takes = absurd (let no = takes.admitted in cc)
takes_by p k s i (Fired rows) Window e takes = absurd (let no = takes.admitted in cc)
takes_by p k s i (Fired rows) Sink e takes = (_, sink_rows e takes)
takes_by p k s i (Watermark t) Chain e takes = (_, chain_mark e takes)
takes_by p k s i (Watermark t) Window e takes = let f = fires p s.windows (rise s.inputs.marks i t) in (_, window_mark {left = f.1} f.0 e takes f.2)
takes_by p k s i (Watermark t) Sink e takes = (_, sink_mark e takes)
takes_by p k s i (Barrier n) r e takes = takes_barrier p k s i n _ refl takes
takes_by p k s i End r e takes = takes_end p k s i _ refl takes

pub needs_step : NeedsStep
needs_step p k s Open can = (_, opens can)
needs_step p k s (Read n) (q, own) = (_, reads own)
needs_step p k s Save (can, may) = (_, saves can may)
needs_step p k s Stop (can, may) = (_, stops can may)
needs_step p k s Close (can, may) = (_, closes can may)
needs_step p k s (Take i m) takes = takes_by p k s i m k.role refl takes
needs_step p k s (Put j m) (rest, is) = (_, put is)
