-- The invariant of a task after a step that shut one of its inputs, or that found no memory.
use Rattle.std.proofs.Common.{◌≡◌, ◌<◌, ◌≤◌, ◌+◌, ◌*◌, ℕ, true, false, length, sym, ap, subst, ◌∙◌, arith}
use Rattle.std.specs.Prelude.{slice_set, option_map}
use Rattle.std.specs.List.{All}
use Rattle.std.proofs.Math.ListN.{length-set}
use Rattle.std.proofs.lemmas.Bool.{false≢true}
use Rattle.std.specs.VecDeque.{deque_capacity}
use Rattle.input_state.specs.declared.inputs.Shut.{Shut}
use Rattle.input_state.specs.declared.inputs.Shut.TheVariants.{Ended}
use Rattle.input_state.specs.Inputs.{InputsData, inputs_from, any_held}
use Rattle.dataflow_model.specs.Role.{is_source}
use Rattle.task_steps.specs.declared.task.Task.TheInside.{Inside}
use Rattle.task_steps.specs.Keeping.{IsKept}
use Rattle.task_steps.specs.Limits.{barriers_in}
use Rattle.task_steps.specs.TaskData.{IsTask, IsTurn, IsWindowing}
use Rattle.task_steps.proofs.Barriers.{held_before}

-- input i was shut so, while the task goes on
pub shut_inputs : (t : Inside) (now : InputsData) (i : ℕ) (how : Shut) → IsTask t → t.over ≡ false → now ≡ inputs_from t.inputs.marks (slice_set t.inputs.shut i how)
    → (is_source t.setup.role ≡ false → any_held (slice_set t.inputs.shut i how) ≡ true → t.next < barriers_in t.setup) → IsTask (record t { inputs = now })
shut_inputs t now i how inv on is left = record {
  room = inv.room;
  time = inv.time;
  key = inv.key;
  filters = inv.filters;
  split = inv.split;
  turn = inv.turn;
  windowing = inv.windowing;
  marks = ap (λ (v : InputsData). length v.marks) is ∙ inv.marks;
  shut = let e = ap (λ (v : InputsData). length v.shut) is in omega (arith, e, length-set {A = Shut}, inv.shut);
  taken = inv.taken;
  some = inv.some;
  numbers = inv.numbers;
  next = inv.next;
  offsets = inv.offsets;
  ended = λ over. absurd (false≢true (sym on ∙ over));
  failed = λ _. on;
  held = λ _ taker any. left taker (sym (ap (λ (v : InputsData). any_held v.shut) is) ∙ any);
  kept = inv.kept;
}

-- an end shut it, by which no more inputs are held
pub end_input : (t : Inside) (now : InputsData) (i : ℕ) → IsTask t → t.over ≡ false → now ≡ inputs_from t.inputs.marks (slice_set t.inputs.shut i Ended) → IsTask (record t { inputs = now })
end_input t now i inv on is = shut_inputs t now i Ended inv on is (λ taker any. inv.held on taker (held_before t.inputs.shut i any))

-- a step found no memory, whatever rows the task has collected and whatever stands in its windows
pub failed_so : (t now : Inside) → IsTask t → t.over ≡ false → now ≡ record t { pending = now.pending; cursor = now.cursor; window = now.window; rows = now.rows; has_failed = true }
    → deque_capacity now.pending ≡ deque_capacity t.pending → now.cursor ≡ t.cursor → IsWindowing t.setup t.taken true now.window
    → option_map (λ w. w.window) now.window ≡ option_map (λ w. w.window) t.window → IsTask now
failed_so t now inv on is capacity turn windowing operator = subst IsTask (sym is) (record {
  room = subst (λ n. 2 * t.setup.outputs + 1 ≤ n) (sym capacity) inv.room;
  time = inv.time;
  key = inv.key;
  filters = inv.filters;
  split = inv.split;
  turn = subst (λ n. IsTurn t.setup.role n t.setup.outputs) (sym turn) inv.turn;
  windowing = windowing;
  marks = inv.marks;
  shut = inv.shut;
  taken = inv.taken;
  some = inv.some;
  numbers = inv.numbers;
  next = inv.next;
  offsets = inv.offsets;
  ended = inv.ended;
  failed = λ _. on;
  held = inv.held;
  kept = subst (λ o. All (IsKept t.setup o) t.kept.items) (sym operator) inv.kept;
})
