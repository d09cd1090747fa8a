-- An entry at a source.
use Rattle.std.proofs.Common.{◌≡◌, ℕ, zero, suc, ◌+◌, ◌<◌, ◌≤◌, ◌==◌, List, [], ◌∷◌, ◌++◌, map, length, get_or, refl, sym, ap, subst, ◌∙◌, arith}
use Rattle.std.specs.Prelude.{Option, Some, None, slice_get, slice_index, slice_set, if◌then◌else◌}
use Rattle.std.specs.List.{filter}
use Rattle.std.proofs.lemmas.List.{length-append, length-map}
use Rattle.plain_data.specs.Record.{Record, at}
use Rattle.columns.specs.Table.{Table}
use Rattle.columns.specs.Parts.{with_rows}
use Rattle.plan_model.specs.PlanData.{PlanData}
use Rattle.plan_model.specs.Windows.{passes}
use Rattle.stream_model.specs.declared.entry.Entry.{Entry}
use Rattle.stream_model.specs.declared.entry.Marked.{Marked}
use Rattle.stream_model.specs.declared.entry.Entry.TheVariants as entry
use Rattle.stream_model.specs.InputData.{InputData, records_of_entry}
use Rattle.dataflow_model.specs.declared.message.Message.{Message}
use Rattle.dataflow_model.specs.Message.{records_of}
use Rattle.dataflow_model.specs.Role.{is_source}
use Rattle.dataflow_model.specs.AbstractTask.{AbstractTask}
use Rattle.dataflow_model.specs.State.{State}
use Rattle.dataflow_model.specs.Routes.{spread, batch, route_of, next_cursor, announce}
use Rattle.dataflow_model.specs.Steps.{Read, CanRead, IsOwn, with_mark, LocalStep}
use Rattle.input_state.specs.Inputs.{rise}
use Rattle.dataflow_model.specs.Steps.LocalStep.{reads}
use Rattle.task_steps.specs.declared.setup.Setup.{Setup}
use Rattle.task_steps.specs.declared.setup.Split.{Split}
use Rattle.key_dealing.specs.Dealing.{owner}
use Rattle.task_steps.specs.Sending.{sends}
use Rattle.task_steps.specs.TaskData.{TaskData, Stands}
use Rattle.input_flow.specs.InputEntries.{message_of, brings}
use Rattle.task_steps.specs.Reading.{entries_at, ReadsFrom, IsReadable, IsMine, sends_of}
use Rattle.task_steps.proofs.Lists.{filter_alike}
use Rattle.task_steps.proofs.Standing.{routed}
use Rattle.task_steps.proofs.Runnings.{can_run}
use Rattle.input_flow.proofs.Facts.{records_of_message}

pub can_read : (p : PlanData) (k : AbstractTask) (d : TaskData) (q : ℕ) → Stands p k d → IsReadable d q → CanRead k d.state q
can_read p k d q st r = record {
  can = can_run p k d st r.running;
  partition = subst (λ n. q < n) st.inputs r.partition;
  rest = subst (λ n. slice_index d.state.offsets q < n) (sym (st.limits d.state.next q (ap is_source r.running.source) r.partition)) r.rest;
}

pub own : (p : PlanData) (k : AbstractTask) (d : TaskData) (n q : ℕ) → Stands p k d → IsMine d n q → IsOwn k d.state n q
own p k d n q st m = record { number = st.numbers q (ap is_source m.can.running.source) m.can.partition ∙ m.number; can = can_read p k d q st m.can }

pub found : {X : Type 0} (xs : List X) (n : ℕ) (x : X) → Some x ≡ slice_get xs n → (d : X) → x ≡ get_or xs n d
found [] n x e d = absurd cc
found (y ∷ xs) zero x e d = cc
found (y ∷ xs) (suc n) x e d = found xs n x e d

pub there : {X : Type 0} (xs : List X) (n : ℕ) → n < length xs → None ≡ slice_get xs n → ⊥
there [] n l e = omega arith
there (y ∷ xs) zero l e = absurd cc
there (y ∷ xs) (suc n) l e = there xs n (omega arith) e

-- at most one message for each output
one_batch : (w : ℕ) (rows : List Record) → length (batch w rows) ≤ 1
one_batch w [] = omega arith
one_batch w (r ∷ rows) = omega arith

spread_few : (f : ℕ → List Message) (n : ℕ) → ((j : ℕ) → length (f j) ≤ 1) → length (spread n f) ≤ n
spread_few f zero h = omega arith
spread_few f (suc n) h =
    let less = spread_few f n h in
    let one = h n in
    let whole : length (spread (suc n) f) ≡ length (spread n f) + length (f n) =
    length-append (spread n f) (map (λ m. (n, m)) (f n)) ∙ ap (λ l. length (spread n f) + l) (length-map (f n) (λ m. (n, m))) in
    omega arith

sends_few : (s : Option Split) (n key c : ℕ) (t : Table) → length (sends s n key c t) ≤ n
sends_few None n key c t = spread_few (λ j. batch t.width (if j == c then t.rows else [])) n (λ j. one_batch t.width (if j == c then t.rows else []))
sends_few (Some s) n key c t = spread_few (λ j. batch t.width (filter (λ r. owner s.max s.par (at key r) == j) t.rows)) n (λ j. one_batch t.width (filter (λ r. owner s.max s.par (at key r) == j) t.rows))

pub sends_of_few : (s : Setup) (c : ℕ) (e : Entry) → length (sends_of s c e) ≤ s.outputs
sends_of_few s c (entry.Rows t) = sends_few s.split s.outputs s.key c (with_rows t (filter (passes s.filters) t.rows))
sends_of_few s c (entry.Watermark t) = omega arith

sent_of : (p : PlanData) (k : AbstractTask) (d : TaskData) (c : ℕ) (e : Entry) → Stands p k d → route_of p.window.key k c (message_of e) ≡ sends_of d.setup c e
sent_of p k d c (entry.Rows t) st = routed p k d c t st
sent_of p k d c (entry.Watermark t) st = refl

-- the next entry at a source
pub read_step : (p : PlanData) (k : AbstractTask) (d : TaskData) (number q : ℕ) (i : InputData) (e : Marked) (now : State) → Stands p k d → ReadsFrom k d.setup i → IsMine d number q
    → slice_index d.state.offsets q < length (entries_at d.setup i q) → e ≡ get_or (entries_at d.setup i q) (slice_index d.state.offsets q) e
    → now ≡ record d.state {
      offsets = slice_set d.state.offsets q (suc (slice_index d.state.offsets q));
      inputs = with_mark d.state q (brings e (suc (slice_index d.state.offsets q) == length (entries_at d.setup i q)));
      cursor = next_cursor d.setup.outputs d.state.cursor (filter (passes d.setup.filters) (records_of_entry e));
      pending = sends_of d.setup d.state.cursor e.entry ++ announce d.setup.outputs (rise d.state.inputs.marks q (brings e (suc (slice_index d.state.offsets q) == length (entries_at d.setup i q))));
    } → LocalStep p k d.state (Read number) now
read_step p k d number q i e now st from mine inside is made =
    let r = mine.can in
    let s = d.state in
    let n = slice_index s.offsets q in
    let last = suc n == length (entries_at d.setup i q) in
    let message : k.entry q n ≡ message_of e.entry = from.entry q n e r.partition inside ∙ ap (λ y. message_of y.entry) (sym is) in
    let t : k.brings q n ≡ brings e last = from.brings q n e r.partition inside ∙ ap (λ x. brings x last) (sym is) in
    let cursor : next_cursor k.outputs s.cursor (filter k.keeps (records_of (k.entry q n))) ≡ next_cursor d.setup.outputs s.cursor (filter (passes d.setup.filters) (records_of_entry e)) =
    (λ j. next_cursor (sym st.outputs j) s.cursor (filter k.keeps (records_of (message j))))
    ∙ ap (λ l. next_cursor d.setup.outputs s.cursor (filter k.keeps l)) (records_of_message e.entry)
    ∙ ap (next_cursor d.setup.outputs s.cursor) (filter_alike k.keeps (passes d.setup.filters) (records_of_entry e) st.keeps) in
    let pending : route_of p.window.key k s.cursor (k.entry q n) ++ announce k.outputs (rise s.inputs.marks q (k.brings q n)) ≡ sends_of d.setup s.cursor e.entry ++ announce d.setup.outputs (rise s.inputs.marks q (brings e last)) =
    (λ j. route_of p.window.key k s.cursor (message j) ++ announce (sym st.outputs j) (rise s.inputs.marks q (t j)))
    ∙ ap (λ l. l ++ announce d.setup.outputs (rise s.inputs.marks q (brings e last))) (sent_of p k d s.cursor e.entry st) in
    let same : record s {
      offsets = slice_set s.offsets q (suc n);
      inputs = with_mark s q (k.brings q n);
      cursor = next_cursor k.outputs s.cursor (filter k.keeps (records_of (k.entry q n)));
      pending = route_of p.window.key k s.cursor (k.entry q n) ++ announce k.outputs (rise s.inputs.marks q (k.brings q n));
    } ≡ now = (λ j. record s { offsets = slice_set s.offsets q (suc n); inputs = with_mark s q (t j); cursor = cursor j; pending = pending j }) ∙ sym made in
    subst (LocalStep p k s (Read number)) same (reads (own p k d number q st mine))
