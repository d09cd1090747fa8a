use Rattle.std.proofs.Common.{◌≡◌, ℕ, suc, ◌+◌, ◌<◌, ◌==◌, ◌++◌, List, [], length, get_or, true, ap, sym, subst, refl, ◌∙◌, arith, FitsSigned, to_z, of_z, rules}
use Rattle.std.specs.Prelude.{ℤ, slice_index, slice_set}
use Rattle.std.specs.Int.{w64}
use Rattle.std.specs.List.{filter}
use Rattle.std.proofs.lemmas.Int.{to_z-of_z}
use Rattle.std.proofs.lemmas.List.{get_or_default}
use Rattle.input_state.specs.Inputs.{inputs_from, raised, rise}
use Rattle.plan_model.specs.Windows.{passes}
use Rattle.stream_model.specs.declared.entry.Marked.{Marked}
use Rattle.stream_model.specs.InputData.{IsEntry, IsEntryOf, partition_at, records_of_entry}
use Rattle.dataflow_model.specs.declared.message.Message.{Message}
use Rattle.dataflow_model.specs.Role.{is_source}
use Rattle.dataflow_model.specs.State.{State}
use Rattle.dataflow_model.specs.Routes.{next_cursor, announce}
use Rattle.dataflow_model.specs.Steps.{with_mark}
use Rattle.task_steps.specs.TaskData.{TaskData, task_view}
use Rattle.input_flow.specs.InputEntries.{brings}
use Rattle.task_steps.specs.Reading.{HasPartitions, IsReadable, entries_at, sends_of}
use Rattle.task_steps.proofs.Readings.{found, there, sends_of_few, read_step, own}
use Rattle.task_steps.proofs.task.Task.read_entry.Goals as goal

pub returns-in_default : goal.returns-in_default
returns-in_default c =
    let s = c.self.inside in
    let d = c.args.self.now in
    let i = c.args.input.now in
    let q = c.args.q in
    let n0 = c.index-n.result.now in
    let ready : IsReadable (task_view s) q = subst (λ (v : TaskData). IsReadable v q) (sym c.self.view_is) c.requires.mine.can in
    let has : HasPartitions s.setup i = subst (λ (v : TaskData). HasPartitions v.setup i) (sym c.self.view_is) c.requires.input in
    let long = c.self.invariant.offsets ready.running.source in
    let some = ready.partition in
    let n : n0 ≡ slice_index s.offsets.items q = c.index-n.ensures ∙ get_or_default s.offsets.items q n0 0 (omega arith) in
    let code = partition_at i.sources s.setup.source (get_or c.as_slice.result.now q 0) in
    let es : code ≡ entries_at s.setup i q = λ j. partition_at i.sources s.setup.source (get_or (c.as_slice.ensures j) q 0) in
    let inside : slice_index s.offsets.items q < length (entries_at s.setup i q) = let rest = ready.rest in let far = has.limits s.next q in omega arith in
    let len = ap (λ (l : List Marked). length l) es in
    (c.requires.going, refl, λ p k st can. there code n0 (omega arith) c.in_default.ensures)

pub send_entry-requires-clause-entry : goal.send_entry-requires-clause-entry
send_entry-requires-clause-entry c =
    let s = c.self.inside in
    let d = c.args.self.now in
    let i = c.args.input.now in
    let q = c.args.q in
    let n0 = c.index-n.result.now in
    let ready : IsReadable (task_view s) q = subst (λ (v : TaskData). IsReadable v q) (sym c.self.view_is) c.requires.mine.can in
    let has : HasPartitions s.setup i = subst (λ (v : TaskData). HasPartitions v.setup i) (sym c.self.view_is) c.requires.input in
    let long = c.self.invariant.offsets ready.running.source in
    let some = ready.partition in
    let n : n0 ≡ slice_index s.offsets.items q = c.index-n.ensures ∙ get_or_default s.offsets.items q n0 0 (omega arith) in
    let code = partition_at i.sources s.setup.source (get_or c.as_slice.result.now q 0) in
    let es : code ≡ entries_at s.setup i q = λ j. partition_at i.sources s.setup.source (get_or (c.as_slice.ensures j) q 0) in
    let inside : slice_index s.offsets.items q < length (entries_at s.setup i q) = let rest = ready.rest in let far = has.limits s.next q in omega arith in
    let e : Marked = c.in-Some.marked.now in
    let is : e ≡ get_or (entries_at s.setup i q) (slice_index s.offsets.items q) e = found code n0 e c.in-Some.ensures e ∙ (λ j. get_or (es j) (n j) e) in
    let sound = c.sources-sources.ensures.sound in
    let in_source = sound.entries s.setup.source [] has.source in
    let in_partition = in_source (slice_index s.setup.partitions q) [] (has.partition q some) in
    let one : IsEntry i.columns i.time (get_or (entries_at s.setup i q) (slice_index s.offsets.items q) e) = in_partition (slice_index s.offsets.items q) e inside in
    let mine : IsEntry d.setup.columns d.setup.time e = subst (λ t. IsEntry d.setup.columns t e) c.requires.time (subst (λ k. IsEntry k i.time e) c.requires.columns (subst (IsEntry i.columns i.time) (sym is) one)) in
    subst (λ (v : TaskData). IsEntryOf v.setup.columns v.setup.time e.entry) (sym c.self.view_is) mine.0

pub announce-requires : goal.announce-requires
announce-requires c =
    let s = c.self.inside in
    let few = sends_of_few s.setup s.cursor c.in-Some.marked.now.entry in
    let same = ap (λ (l : List (ℕ × Message)). length l) c.in-Ok.ensures.pending in
    let len = c.send_entry.new.pending.ok.0 in
    let room = c.self.invariant.room in
    let capacity = c.send_entry.ensures.capacity in
    record { room = omega arith }

pub returns-in-Ok : goal.returns-in-Ok
returns-in-Ok c =
    let s = c.self.inside in
    let d = c.args.self.now in
    let i = c.args.input.now in
    let q = c.args.q in
    let n0 = c.index-n.result.now in
    let ready : IsReadable (task_view s) q = subst (λ (v : TaskData). IsReadable v q) (sym c.self.view_is) c.requires.mine.can in
    let has : HasPartitions s.setup i = subst (λ (v : TaskData). HasPartitions v.setup i) (sym c.self.view_is) c.requires.input in
    let long = c.self.invariant.offsets ready.running.source in
    let some = ready.partition in
    let n : n0 ≡ slice_index s.offsets.items q = c.index-n.ensures ∙ get_or_default s.offsets.items q n0 0 (omega arith) in
    let code = partition_at i.sources s.setup.source (get_or c.as_slice.result.now q 0) in
    let es : code ≡ entries_at s.setup i q = λ j. partition_at i.sources s.setup.source (get_or (c.as_slice.ensures j) q 0) in
    let inside : slice_index s.offsets.items q < length (entries_at s.setup i q) = let rest = ready.rest in let far = has.limits s.next q in omega arith in
    let e : Marked = c.in-Some.marked.now in
    let is : e ≡ get_or (entries_at s.setup i q) (slice_index s.offsets.items q) e = found code n0 e c.in-Some.ensures e ∙ (λ j. get_or (es j) (n j) e) in
    let st = task_view s in
    let outputs = s.setup.outputs in
    let n1 : n0 + 1 ≡ suc (slice_index s.offsets.items q) = omega arith in
    let t : ℤ = brings e (suc (slice_index s.offsets.items q) == length (entries_at s.setup i q)) in
    let count : c.entries-count.result ≡ length (entries_at s.setup i q) = c.entries-count.ensures ∙ ap (λ (l : List Marked). length l) es in
    let brought : c.brought-t.result ≡ t = c.brought-t.ensures ∙ (λ j. brings e (n1 j == count j)) in
    let fits : FitsSigned w64 c.brought-t.result = search rules in
    let same : to_z w64 (of_z w64 c.brought-t.result) ≡ t = to_z-of_z w64 c.brought-t.result fits ∙ brought in
    let moved : c.watermark-low.new.self ≡ with_mark st.state q t = c.watermark-low.ensures.moved ∙ (λ j. inputs_from (raised s.inputs.marks q (same j)) s.inputs.shut) in
    let low : c.watermark-low.result ≡ rise st.state.inputs.marks q t = c.watermark-low.ensures.risen ∙ (λ j. rise s.inputs.marks q (same j)) in
    let sent : c.announce.new.pending.items ≡ sends_of s.setup s.cursor e.entry ++ announce outputs (rise st.state.inputs.marks q t) = c.announce.ensures.pending ∙ (λ j. c.in-Ok.ensures.pending j ++ announce outputs (low j)) in
    let now : State = record st.state { offsets = slice_set s.offsets.items q (n0 + 1); inputs = c.watermark-low.new.self; cursor = c.send_entry.new.cursor; pending = c.announce.new.pending.items } in
    let T = λ (v : TaskData). brings e (suc (slice_index v.state.offsets q) == length (entries_at v.setup i q)) in
    let after = λ (v : TaskData). let x : State = record v.state {
      offsets = slice_set v.state.offsets q (suc (slice_index v.state.offsets q));
      inputs = with_mark v.state q (T v);
      cursor = next_cursor v.setup.outputs v.state.cursor (filter (passes v.setup.filters) (records_of_entry e));
      pending = sends_of v.setup v.state.cursor e.entry ++ announce v.setup.outputs (rise v.state.inputs.marks q (T v));
    } in x in
    let made : now ≡ after d =
    (λ j. record st.state { offsets = slice_set s.offsets.items q (n1 j); inputs = moved j; cursor = c.in-Ok.ensures.turn j; pending = sent j }) ∙ ap after c.self.view_is in
    let far : slice_index d.state.offsets q < length (entries_at d.setup i q) = subst (λ (v : TaskData). slice_index v.state.offsets q < length (entries_at v.setup i q)) c.self.view_is inside in
    let is_d : e ≡ get_or (entries_at d.setup i q) (slice_index d.state.offsets q) e = subst (λ (v : TaskData). e ≡ get_or (entries_at v.setup i q) (slice_index v.state.offsets q) e) c.self.view_is is in (
      c.requires.going,
      record { is = ap (λ (v : TaskData). record v { state = now }) c.self.view_is },
      λ p k h. read_step p k d c.args.number q i e now h.0 (h.1 (ap is_source c.requires.mine.can.running.source)) c.requires.mine far is_d made,
    )

pub returns-in-Err : goal.returns-in-Err
returns-in-Err c =
    let d = c.args.self.now in
    let inside = task_view c.self.inside in (
      c.requires.going,
      record {
        windows = d.state.windows;
        spoiled = λ _. refl;
        going = c.requires.mine.can.running.going;
        is = (λ j. record inside { state = record inside.state { cursor = c.in-Err.ensures.kept_turn j; pending = c.in-Err.ensures.kept j }; has_failed = true })
            ∙ ap (λ (v : TaskData). record v { has_failed = true }) c.self.view_is;
      },
      λ p k h. (c.args.q, own p k d c.args.number c.args.q h.0 c.requires.mine),
    )
