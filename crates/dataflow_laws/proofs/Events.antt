-- Steps that are puts, and those that are not.
use Rattle.std.proofs.Common.{◌≡◌, ℕ, List, ◌∷◌, refl, ◌⊎◌, inl, inr}
use Rattle.plan_model.specs.PlanData.{PlanData}
use Rattle.dataflow_model.specs.declared.message.Message.{Message}
use Rattle.dataflow_model.specs.AbstractTask.{AbstractTask}
use Rattle.dataflow_model.specs.State.{State}
use Rattle.dataflow_model.specs.Steps.{Event, Open, Read, Save, Stop, Close, Take, Put, LocalStep}
use Rattle.dataflow_model.specs.Steps.LocalStep.{put, opens, reads, saves, stops, closes, chain_rows, chain_mark, window_rows, window_mark, sink_rows, sink_mark, holds, aligns, ends, ends_all, ends_aligned}
use Rattle.dataflow_model.specs.Runs.{sent}

abbrev pub IsPut : Event → Type 0
IsPut Open = ⊥
IsPut (Read n) = ⊥
IsPut Save = ⊥
IsPut Stop = ⊥
IsPut Close = ⊥
IsPut (Take i m) = ⊥
IsPut (Put j m) = Unit {0}

pub sent_same : (j : ℕ) (e : Event) (es : List Event) → IsPut e ⊎ (sent j (e ∷ es) ≡ sent j es)
sent_same j Open es = inr refl
sent_same j (Read n) es = inr refl
sent_same j Save es = inr refl
sent_same j Stop es = inr refl
sent_same j Close es = inr refl
sent_same j (Take i m) es = inr refl
sent_same j (Put i m) es = inl tt

pub put_is : (p : PlanData) (k : AbstractTask) (s : State) (e : Event) (s' : State) → LocalStep p k s e s' → IsPut e → (j : ℕ) × (m : Message) × (rest : List (ℕ × Message)) × (e ≡ Put j m) × (s.pending ≡ (j, m) ∷ rest) × (s' ≡ record s { pending = rest })
put_is p k s e s' (put {j = j} {m = m} {rest = rest} is) h = (j, m, rest, refl, is, refl)
put_is p k s e s' (opens can) h = absurd h
put_is p k s e s' (reads own) h = absurd h
put_is p k s e s' (saves can may) h = absurd h
put_is p k s e s' (stops can may) h = absurd h
put_is p k s e s' (closes can may) h = absurd h
put_is p k s e s' (chain_rows role takes) h = absurd h
put_is p k s e s' (chain_mark role takes) h = absurd h
put_is p k s e s' (window_rows role takes added) h = absurd h
put_is p k s e s' (window_mark rows role takes fires) h = absurd h
put_is p k s e s' (sink_rows role takes) h = absurd h
put_is p k s e s' (sink_mark role takes) h = absurd h
put_is p k s e s' (holds takes is) h = absurd h
put_is p k s e s' (aligns takes is) h = absurd h
put_is p k s e s' (ends takes is) h = absurd h
put_is p k s e s' (ends_all takes is) h = absurd h
put_is p k s e s' (ends_aligned takes is) h = absurd h
