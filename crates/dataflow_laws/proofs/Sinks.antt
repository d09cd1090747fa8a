-- What a sink collects.
use Rattle.std.proofs.Common.{◌≡◌, ℕ, List, [], ◌∷◌, ◌++◌, eqb, refl, sym, ap, ◌∙◌, inl, inr, append-nil, append_assoc}
use Rattle.std.proofs.lemmas.Bool.{cases_eq, cases_Bool, eq-eqb, ne_eqb}
use Rattle.std.proofs.lemmas.List.Elements.{filter-append}
use Rattle.std.specs.List.{filter}
use Rattle.plan_model.specs.declared.spec.Pane.{Pane}
use Rattle.plan_model.specs.declared.spec.Row.{Row}
use Rattle.plan_model.specs.PlanData.{PlanData}
use Rattle.plan_model.specs.Rows.{row_is_at}
use Rattle.dataflow_model.specs.declared.message.Message.{Message}
use Rattle.dataflow_model.specs.declared.role.Role.TheVariants.{Sink}
use Rattle.dataflow_model.specs.AbstractTask.{AbstractTask}
use Rattle.dataflow_model.specs.State.{State}
use Rattle.dataflow_model.specs.Steps.{Event, Open, Read, Save, Stop, Close, Take, Put, LocalStep}
use Rattle.dataflow_model.specs.Steps.LocalStep.{put, opens, reads, saves, stops, closes, chain_rows, chain_mark, window_rows, window_mark, sink_rows, sink_mark, holds, aligns, ends, ends_all, ends_aligned}
use Rattle.dataflow_model.specs.Runs.{Run, taken}
use Rattle.dataflow_model.specs.Runs.Run.{none, more}
use Rattle.dataflow_laws.specs.Firing.{rows_of, rows_given}

-- the rows of a pane that a message or a log has, the oldest first
abbrev pub rows_in : Pane → Message → List Row
rows_in q m = filter (row_is_at q) (rows_of m)

abbrev pub rows_log : Pane → List Message → List Row
rows_log q [] = []
rows_log q (m ∷ log) = rows_log q log ++ rows_in q m

-- all rows taken, the oldest first
abbrev pub delivered : List Event → List Row
delivered [] = []
delivered (Open ∷ es) = delivered es
delivered (Read n ∷ es) = delivered es
delivered (Save ∷ es) = delivered es
delivered (Stop ∷ es) = delivered es
delivered (Close ∷ es) = delivered es
delivered (Take i m ∷ es) = delivered es ++ rows_of m
delivered (Put j m ∷ es) = delivered es

append_none : (xs ys : List Row) → ys ≡ [] → xs ++ ys ≡ xs
append_none xs ys e = rw e (append-nil xs)

pub none_left : (xs ys : List Row) → xs ++ ys ≡ [] → xs ≡ []
none_left [] ys e = refl
none_left (x ∷ xs) ys e = absurd cc

none_right : (xs ys : List Row) → xs ++ ys ≡ [] → ys ≡ []
none_right [] ys e = e
none_right (x ∷ xs) ys e = absurd cc

-- the rows of a pane among all that a log has
pub rows_filtered : (q : Pane) (log : List Message) → filter (row_is_at q) (rows_given log) ≡ rows_log q log
rows_filtered q [] = refl
rows_filtered q (m ∷ log) = filter-append (row_is_at q) (rows_given log) (rows_of m) ∙ ap (λ x. x ++ rows_in q m) (rows_filtered q log)

-- if a pane's rows come on input u alone, they are what is collected
pub collected : (q : Pane) (u : ℕ) (es : List Event) → ((i : ℕ) → (i ≡ u → ⊥) → rows_log q (taken i es) ≡ []) → filter (row_is_at q) (delivered es) ≡ rows_log q (taken u es)
collected q u [] h = refl
collected q u (Open ∷ es) h = collected q u es h
collected q u (Read p ∷ es) h = collected q u es h
collected q u (Save ∷ es) h = collected q u es h
collected q u (Stop ∷ es) h = collected q u es h
collected q u (Close ∷ es) h = collected q u es h
collected q u (Put j m ∷ es) h = collected q u es h
collected q u (Take i m ∷ es) h =
    let old : (x : ℕ) → (x ≡ u → ⊥) → rows_log q (taken x es) ≡ [] = λ x ne.
    elim (cases_Bool (eqb x i)) [
      | inl e ↦ (let a = h x ne in none_left (rows_log q (taken x es)) (rows_in q m) (rw e at a))
      | inr e ↦ (let a = h x ne in rw e at a)
    ] in
    let both = filter-append (row_is_at q) (delivered es) (rows_of m) ∙ ap (λ l. l ++ rows_in q m) (collected q u es old) in
    elim (cases_eq u i) [
      | inl e ↦ (let d = eq-eqb u i e in rw d both)
      | inr ne ↦
          let d = ne_eqb u i ne in
          let none : rows_in q m ≡ [] = (let a = h i (λ e. ne (sym e)) in let z = eq-eqb i i refl in none_right (rows_log q (taken i es)) (rows_in q m) (rw z at a)) in
          rw d (both ∙ append_none (rows_log q (taken u es)) (rows_in q m) none)
    ]

-- the rows that a sink has are those it took
sink_step : (p : PlanData) (k : AbstractTask) (before : List Row) → k.role ≡ Sink → (es : List Event) (s : State) (e : Event) (s' : State) → LocalStep p k s e s' → s.rows ≡ before ++ delivered es → s'.rows ≡ before ++ delivered (e ∷ es)
sink_step p k b a es s e s' (put is) r = r
sink_step p k b a es s e s' (sink_rows {rows = rows} u takes) r = ap (λ l. l ++ rows) r ∙ append_assoc b (delivered es) rows
sink_step p k b a es s e s' (sink_mark u takes) r = r ∙ ap (λ l. b ++ l) (sym (append-nil (delivered es)))
sink_step p k b a es s e s' (holds takes is) r = r ∙ ap (λ l. b ++ l) (sym (append-nil (delivered es)))
sink_step p k b a es s e s' (aligns takes is) r = r ∙ ap (λ l. b ++ l) (sym (append-nil (delivered es)))
sink_step p k b a es s e s' (ends takes is) r = r ∙ ap (λ l. b ++ l) (sym (append-nil (delivered es)))
sink_step p k b a es s e s' (ends_all takes is) r = r ∙ ap (λ l. b ++ l) (sym (append-nil (delivered es)))
sink_step p k b a es s e s' (ends_aligned takes is) r = r ∙ ap (λ l. b ++ l) (sym (append-nil (delivered es)))
sink_step p k b a es s e s' (opens can) r = absurd (let c = can.source in cc)
sink_step p k b a es s e s' (reads own) r = absurd (let c = own.can.can.source in cc)
sink_step p k b a es s e s' (saves can may) r = absurd (let c = can.source in cc)
sink_step p k b a es s e s' (stops can may) r = absurd (let c = can.source in cc)
sink_step p k b a es s e s' (closes can may) r = absurd (let c = can.source in cc)
sink_step p k b a es s e s' (chain_rows u takes) r = absurd cc
sink_step p k b a es s e s' (chain_mark u takes) r = absurd cc
sink_step p k b a es s e s' (window_rows u takes added) r = absurd cc
sink_step p k b a es s e s' (window_mark rows u takes fires) r = absurd cc

pub sink_rows_are : (p : PlanData) (k : AbstractTask) (from : State) → k.role ≡ Sink → {es : List Event} {s : State} → Run p k from es s → s.rows ≡ from.rows ++ delivered es
sink_rows_are p k from a none = sym (append-nil from.rows)
sink_rows_are p k from a (more {es = es} {s = s} {e = e} {s' = s'} run st) = sink_step p k from.rows a es s e s' st (sink_rows_are p k from a run)
