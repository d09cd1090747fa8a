-- What a task takes comes from inputs that it has.
use Rattle.std.proofs.Common.{◌≡◌, ℕ, ◌<◌, ◌≤◌, List, [], ◌∷◌, refl, sym, arith}
use Rattle.std.proofs.lemmas.Bool.{ne_eqb}
use Rattle.plain_data.specs.Record.{Record}
use Rattle.plan_model.specs.PlanData.{PlanData}
use Rattle.dataflow_model.specs.Message.{records_of}
use Rattle.dataflow_model.specs.AbstractTask.{AbstractTask}
use Rattle.dataflow_model.specs.State.{State}
use Rattle.dataflow_model.specs.Steps.{Event, Open, Read, Save, Stop, Close, Take, Put, LocalStep}
use Rattle.dataflow_model.specs.Steps.LocalStep.{put, opens, reads, saves, stops, closes, chain_rows, chain_mark, window_rows, window_mark, sink_rows, sink_mark, holds, aligns, ends, ends_all, ends_aligned}
use Rattle.dataflow_model.specs.Runs.{Run, taken}
use Rattle.dataflow_model.specs.Runs.Run.{none, more}
use Rattle.dataflow_laws.proofs.Streams.{weigh, weigh_log}
use Rattle.dataflow_laws.proofs.Logs.{weigh_append, weigh_of}
use Rattle.dataflow_laws.proofs.Relay.{taken_weigh}
use Rattle.dataflow_laws.proofs.Windows.{records}
use Rattle.dataflow_model.specs.Sums.{total}
use Rattle.dataflow_model.proofs.Facts.{total_none}

-- a message is taken from an input that the task has
abbrev IsWithin : AbstractTask → Event → Type 0
IsWithin k Open = Unit {0}
IsWithin k (Read p) = Unit {0}
IsWithin k Save = Unit {0}
IsWithin k Stop = Unit {0}
IsWithin k Close = Unit {0}
IsWithin k (Take i m) = i < k.inputs
IsWithin k (Put j m) = Unit {0}

step_within : (plan : PlanData) (k : AbstractTask) (s : State) (e : Event) (s' : State) → LocalStep plan k s e s' → IsWithin k e
step_within plan k s e s' (put is) = tt
step_within plan k s e s' (opens can) = tt
step_within plan k s e s' (reads own) = tt
step_within plan k s e s' (saves can may) = tt
step_within plan k s e s' (stops can may) = tt
step_within plan k s e s' (closes can may) = tt
step_within plan k s e s' (chain_rows u takes) = takes.can.input
step_within plan k s e s' (chain_mark u takes) = takes.can.input
step_within plan k s e s' (window_rows u takes added) = takes.can.input
step_within plan k s e s' (window_mark rows u takes fires) = takes.can.input
step_within plan k s e s' (sink_rows u takes) = takes.can.input
step_within plan k s e s' (sink_mark u takes) = takes.can.input
step_within plan k s e s' (holds takes is) = takes.can.input
step_within plan k s e s' (aligns takes is) = takes.can.input
step_within plan k s e s' (ends takes is) = takes.can.input
step_within plan k s e s' (ends_all takes is) = takes.can.input
step_within plan k s e s' (ends_aligned takes is) = takes.can.input

records_more : (k : AbstractTask) (h : Record → ℕ) (es : List Event) (e : Event) → IsWithin k e → weigh h (records es) ≡ total k.inputs (λ i. weigh_log h (taken i es)) → weigh h (records (e ∷ es)) ≡ total k.inputs (λ i. weigh_log h (taken i (e ∷ es)))
records_more k h es Open w r = r
records_more k h es (Read p) w r = r
records_more k h es Save w r = r
records_more k h es Stop w r = r
records_more k h es Close w r = r
records_more k h es (Put j m) w r = r
records_more k h es (Take i m) w r =
    let a = weigh_append h (records es) (records_of m) in
    let a' = weigh_of h m in
    let c = taken_weigh h (λ x. taken x es) k.inputs i m w in
    omega (arith, a, a', c, r)

-- nothing is taken from an input that a task has not
past_more : (k : AbstractTask) (es : List Event) (e : Event) (i : ℕ) → k.inputs ≤ i → IsWithin k e → taken i es ≡ [] → taken i (e ∷ es) ≡ []
past_more k es Open i l w r = r
past_more k es (Read p) i l w r = r
past_more k es Save i l w r = r
past_more k es Stop i l w r = r
past_more k es Close i l w r = r
past_more k es (Put j m) i l w r = r
past_more k es (Take j m) i l w r = let e = ne_eqb i j (λ q. absurd (omega arith)) in rw e r

pub taken_past : (plan : PlanData) (k : AbstractTask) (start : State) {es : List Event} {s : State} (i : ℕ) → k.inputs ≤ i → Run plan k start es s → taken i es ≡ []
taken_past plan k start i l none = refl
taken_past plan k start i l (more {es = es} {s = s} {e = e} {s' = s'} run st) = past_more k es e i l (step_within plan k s e s' st) (taken_past plan k start i l run)

-- the weight of the records taken
pub records_weigh : (plan : PlanData) (k : AbstractTask) (start : State) (h : Record → ℕ) {es : List Event} {s : State} → Run plan k start es s → weigh h (records es) ≡ total k.inputs (λ i. weigh_log h (taken i es))
records_weigh plan k start h none = sym (total_none k.inputs)
records_weigh plan k start h (more {es = es} {s = s} {e = e} {s' = s'} run st) = records_more k h es e (step_within plan k s e s' st) (records_weigh plan k start h run)
