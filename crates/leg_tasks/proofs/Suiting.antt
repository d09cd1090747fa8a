-- A part of a start suits the task that has it.
use Rattle.std.proofs.Common.{◌≡◌, ℕ, suc, ◌≤◌, Bool, true, false, cond, List, [], ◌∷◌, length, replicate, refl, sym, ap, subst, ◌∙◌, inl, inr, arith}
use Rattle.std.specs.Prelude.{◌⊎◌, ℤ, Option, Some, None, option_map, if◌then◌else◌}
use Rattle.std.specs.FinMap.{find, get-empty, get-from_entries}
use Rattle.std.specs.List.{All}
use Rattle.std.specs.Option.{unwrap_or}
use Rattle.std.specs.Ordering.{eq_by_cmp}
use Rattle.std.proofs.lemmas.List.{length-map, length-replicate}
use Rattle.plain_data.specs.Times.{lowest}
use Rattle.plan_model.specs.Aggregates.{Aggregated}
use Rattle.plan_model.specs.declared.limits.TheConstants.{MOST_RECORDS}
use Rattle.plan_model.specs.declared.spec.Pane.{Pane}
use Rattle.plan_model.specs.PlanData.{PlanData}
use Rattle.plan_model.specs.Rows.{pane_cmp}
use Rattle.plan_model.proofs.Facts.{pane_cmp_total}
use Rattle.dataflow_model.specs.declared.role.Role.{Role}
use Rattle.dataflow_model.specs.declared.role.Role.TheVariants.{Source, Chain, Window, Sink}
use Rattle.dataflow_model.specs.Role.{is_source, is_window}
use Rattle.dataflow_model.specs.Leg.{Leg}
use Rattle.layout_rules.specs.declared.stage.Stage.{Stage}
use Rattle.layout_rules.specs.Layouts.{partition_counts}
use Rattle.layout_rules.specs.Stages.{task_role, inputs_of, partitions_of}
use Rattle.window_state.specs.State.{StateData}
use Rattle.window_state.specs.Parts.{entries_of}
use Rattle.window_state.specs.declared.parts.Part.{Part}
use Rattle.redistribute.specs.declared.task_start.PartitionStart.{PartitionStart}
use Rattle.redistribute.specs.declared.task_start.TaskStart.{TaskStart}
use Rattle.redistribute.specs.Parts.{start_of_role, with_windows, IsOpenPart, IsPartFor}
use Rattle.task_steps.specs.TaskData.{windows_in, HasCounts}
use Rattle.task_setups.specs.Beginnings.{Suits}
use Rattle.task_setups.specs.Setups.{setup_of, window_of}
use Rattle.leg_tasks.specs.Beginning.{offsets_in, marks_in, window_with, window_in}

pub when_true : {X : Type 0} (b : Bool) (x y : X) → b ≡ true → (if b then x else y) ≡ x
when_true true x y e = refl
when_true false x y e = absurd cc

pub when_false : {X : Type 0} (b : Bool) (x y : X) → b ≡ false → (if b then x else y) ≡ y
when_false true x y e = absurd cc
when_false false x y e = refl

-- a value that stands in what a test chooses
of_test : (b : Bool) (x y : Aggregated) (rest : Option Aggregated) → cond b (Some x) rest ≡ Some y → (x ≡ y) ⊎ (rest ≡ Some y)
of_test true x y rest e = inl (ap (λ o. unwrap_or o x) e)
of_test false x y rest e = inr e

parts_counted : (p : PlanData) (q : Pane) (a : Aggregated) (parts : List Part) → All (IsOpenPart p) parts → find pane_cmp q (entries_of parts) ≡ Some a → a.count ≤ MOST_RECORDS
parts_counted p q a [] h e = absurd cc
parts_counted p q a (x ∷ xs) h e =
    elim (of_test (eq_by_cmp pane_cmp q x.pane) x.acc.total a (find pane_cmp q (entries_of xs)) e) [
      | inl same ↦ subst (λ (z : Aggregated). z.count ≤ MOST_RECORDS) same (h 0 x (omega arith)).count
      | inr later ↦ parts_counted p q a xs (λ k d l. h (suc k) d (omega (arith, l))) later
    ]

counted : (p : PlanData) (parts : List Part) → All (IsOpenPart p) parts → HasCounts MOST_RECORDS (windows_in (Some (window_with p parts)))
counted p parts h q a e = parts_counted p q a parts h (sym (get-from_entries pane_cmp_total (entries_of parts) q) ∙ e)

none_counted : (n : ℕ) → HasCounts n (windows_in None)
none_counted n q a e = absurd (let z : None ≡ Some a = sym (get-empty pane_cmp q) ∙ e in cc)

module _ (p : PlanData) (leg : Leg) (stages : List Stage) (t : ℕ) where
  abbrev mine : List ℕ
  mine = partitions_of (partition_counts p) stages t

  -- a task that is no source has the least watermark of each input
  others : (r : Role) → task_role stages t ≡ r → is_source r ≡ false → (length (replicate (length (inputs_of stages t)) lowest) ≡ (setup_of p leg stages t).inputs) × ((setup_of p leg stages t).role ≡ Source → ⊥)
  others r e other =
      let none = ap is_source e ∙ other in (
        length-replicate (length (inputs_of stages t)) lowest ∙ sym (when_false (is_source (task_role stages t)) (length mine) (length (inputs_of stages t)) none),
        λ role. let z : true ≡ false = sym (ap is_source role) ∙ none in cc,
      )

  -- only the window's task has the plan's operator
  pub operator : (r : Role) (starts : List PartitionStart) (parts : List Part) → task_role stages t ≡ r → option_map (λ w. w.window) (window_in p (with_windows parts (start_of_role r starts))) ≡ window_of p stages t
  operator Source starts parts e = sym (when_false (is_window (task_role stages t)) (Some p.window) None (ap is_window e))
  operator Chain starts parts e = sym (when_false (is_window (task_role stages t)) (Some p.window) None (ap is_window e))
  operator Window starts parts e = sym (when_true (is_window (task_role stages t)) (Some p.window) None (ap is_window e))
  operator Sink starts parts e = sym (when_false (is_window (task_role stages t)) (Some p.window) None (ap is_window e))

  suits_role : (r : Role) (starts : List PartitionStart) (parts : List Part) → task_role stages t ≡ r → length starts ≡ length mine → All (IsOpenPart p) parts
      → let s = with_windows parts (start_of_role r starts) in Suits p leg stages t (offsets_in s) (marks_in (length (inputs_of stages t)) s) (window_in p s)
  suits_role Source starts parts e each early =
      let n : length starts ≡ (setup_of p leg stages t).inputs = each ∙ sym (when_true (is_source (task_role stages t)) (length mine) (length (inputs_of stages t)) (ap is_source e)) in
      record {
        marked = length-map starts (λ b. b.watermark) ∙ n;
        placed = λ role. length-map starts (λ b. b.offset) ∙ n;
        operator = operator Source starts parts e;
        counts = none_counted MOST_RECORDS;
      }
  suits_role Chain starts parts e each early = let o = others Chain e refl in record { marked = o.0; placed = λ role. absurd (o.1 role); operator = operator Chain starts parts e; counts = none_counted MOST_RECORDS }
  suits_role Window starts parts e each early = let o = others Window e refl in record { marked = o.0; placed = λ role. absurd (o.1 role); operator = operator Window starts parts e; counts = counted p parts early }
  suits_role Sink starts parts e each early = let o = others Sink e refl in record { marked = o.0; placed = λ role. absurd (o.1 role); operator = operator Sink starts parts e; counts = none_counted MOST_RECORDS }

  suits : (s : TaskStart) → IsPartFor p stages t s → Suits p leg stages t (offsets_in s) (marks_in (length (inputs_of stages t)) s) (window_in p s)
  suits s part = subst (λ (z : TaskStart). Suits p leg stages t (offsets_in z) (marks_in (length (inputs_of stages t)) z) (window_in p z)) (sym part.is) (suits_role (task_role stages t) part.starts part.parts refl part.each part.sound)

  pub suits_if : (s : TaskStart) (inputs : List ℕ) (offsets : List ℕ) (marks : List ℤ) (window : Option StateData) → IsPartFor p stages t s → inputs ≡ inputs_of stages t
      → offsets ≡ offsets_in s → marks ≡ marks_in (length inputs) s → window ≡ window_in p s → Suits p leg stages t offsets marks window
  suits_if s inputs offsets marks window part same a b e =
      let b' : marks ≡ marks_in (length (inputs_of stages t)) s = b ∙ ap (λ (xs : List ℕ). marks_in (length xs) s) same in
      subst (λ xs. Suits p leg stages t xs marks window) (sym a)
      (subst (λ ms. Suits p leg stages t (offsets_in s) ms window) (sym b')
      (subst (λ v. Suits p leg stages t (offsets_in s) (marks_in (length (inputs_of stages t)) s) v) (sym e) (suits s part)))
