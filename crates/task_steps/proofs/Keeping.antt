-- What a task keeps.
use Rattle.std.proofs.Common.{◌≡◌, ℕ, List, Bool, [], ◌∷◌, length, refl, sym, ap, subst, ◌∙◌, arith, Some, None, Option, option_map}
use Rattle.std.specs.List.{All}
use Rattle.std.specs.FinMap.{FinMap, from_entries, entries, empty, len-empty, len-entries, get-from_entries, get-entries, same_map}
use Rattle.plan_model.specs.declared.spec.Pane.{Pane}
use Rattle.plan_model.specs.declared.spec.WindowSpec.{WindowSpec}
use Rattle.plan_model.specs.Aggregates.{Aggregated}
use Rattle.plan_model.specs.Rows.{pane_cmp}
use Rattle.plan_model.proofs.Facts.{pane_cmp_total, pane_cmp-IsAntisymmetric}
use Rattle.dataflow_model.specs.declared.role.Role.TheVariants as role
use Rattle.dataflow_model.specs.State as model
use Rattle.dataflow_model.specs.State.{Windows}
use Rattle.window_state.specs.Parts.{entries_of}
use Rattle.window_state.specs.State.{StateData}
use Rattle.task_steps.specs.declared.kept.Kept.{Kept}
use Rattle.task_steps.specs.declared.setup.Setup.{Setup}
use Rattle.task_steps.specs.declared.task.Task.TheInside.{Inside}
use Rattle.task_steps.specs.Keeping.{kept_value, ArePartsOf, IsKept}
use Rattle.task_steps.specs.TaskData.{windows_in, IsTask, IsWindowing}

-- the windows that their own entries make
pub from_its_entries : (w : Windows) → from_entries {R = pane_cmp} (entries w) ≡ w
from_its_entries w = same_map pane_cmp_total pane_cmp-IsAntisymmetric _ _ (λ q. get-from_entries pane_cmp_total (entries w) q ∙ sym (get-entries w q))

nothing : (xs : List (Pane × Aggregated)) → length xs ≡ 0 → [] ≡ xs
nothing [] h = refl
nothing (x ∷ xs) h = absurd (omega (arith, h))

-- no part is of no window
pub none_there : [] ≡ entries {K = Pane} {X = Aggregated} {R = pane_cmp} empty
none_there = let none : FinMap pane_cmp Aggregated = empty in nothing (entries none) (sym (len-entries none) ∙ len-empty pane_cmp Aggregated)

-- the operator of a window that stays is the same
pub operator_still : (t : Inside) (old new : StateData) → t.window ≡ Some old → new.window ≡ old.window → option_map (λ w. w.window) (Some new) ≡ option_map (λ w. w.window) t.window
operator_still t old new is same = ap Some same ∙ sym (ap (option_map (λ w. w.window)) is)

-- so what was kept of its windows is still of them
pub kept_still : (t : Inside) (old new : StateData) → t.window ≡ Some old → new.window ≡ old.window → All (IsKept t.setup (option_map (λ w. w.window) t.window)) t.kept.items → All (IsKept t.setup (Some new.window)) t.kept.items
kept_still t old new is same all = subst (λ o. All (IsKept t.setup o) t.kept.items) (sym (operator_still t old new is same)) all

-- a window's task has an operator
pub operator_of : (s : Setup) (taken : ℕ) (f : Bool) (o : Option StateData) (x : Option WindowSpec) → IsWindowing s taken f o → option_map (λ w. w.window) o ≡ x → s.role ≡ role.Window → (w : WindowSpec) × (x ≡ Some w)
operator_of s taken f None x none is r = absurd (none r)
operator_of s taken f (Some w) x has is r = (w.window, sym is)

-- what a task keeps of itself as it stands
pub kept_now : (t : Inside) (k : Kept) (rows : ℕ) → IsTask t → kept_value k ≡ record { offsets = t.offsets.items; marks = t.inputs.marks; windows = windows_in t.window; rows = rows } → entries_of k.parts ≡ entries (windows_in t.window)
    → ArePartsOf (option_map (λ w. w.window) t.window) k.parts → IsKept t.setup (option_map (λ w. w.window) t.window) k
kept_now t k rows inv is says sound = record {
  offsets = λ source. ap (λ (v : model.Kept). length v.offsets) is ∙ inv.offsets source;
  marks = ap (λ (v : model.Kept). length v.marks) is ∙ inv.marks;
  parts = sound;
  ordered = says ∙ ap (λ (v : model.Kept). entries v.windows) (sym is);
}

-- the invariant of a task does not speak of what else it keeps
pub keeps_so : (t now : Inside) → IsTask t → now ≡ record t { kept = now.kept } → All (IsKept t.setup (option_map (λ w. w.window) t.window)) now.kept.items → IsTask now
keeps_so t now inv is kept = subst IsTask (sym is) (record {
  room = inv.room;
  time = inv.time;
  key = inv.key;
  filters = inv.filters;
  split = inv.split;
  turn = inv.turn;
  windowing = inv.windowing;
  marks = inv.marks;
  shut = inv.shut;
  taken = inv.taken;
  some = inv.some;
  numbers = inv.numbers;
  next = inv.next;
  offsets = inv.offsets;
  ended = inv.ended;
  failed = inv.failed;
  held = inv.held;
  kept = kept;
})
