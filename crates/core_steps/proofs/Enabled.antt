-- What the code tests of a task, and whether there is a move.
use Rattle.std.proofs.Common.{◌≡◌, ℕ, ◌<◌, ◌≤◌, Bool, false, length, get_or, refl, sym, ap, subst, ◌∙◌}
use Rattle.std.specs.Prelude.{◌↔◌, IsTrue, slice_index}
use Rattle.std.proofs.lemmas.Bool.{false≢true}
use Rattle.plan_model.specs.PlanData.{PlanData}
use Rattle.dataflow_model.specs.declared.ending.Ending.{Ending}
use Rattle.dataflow_model.specs.declared.ending.Ending.TheVariants.{AtEnd, AtCut, Asked}
use Rattle.dataflow_model.specs.Role.{is_source}
use Rattle.dataflow_model.specs.AbstractTask.{AbstractTask}
use Rattle.dataflow_model.specs.Steps.{Event, Open, Read, Save, Stop, Close, CanOpen, CanRun, MayRead, IsAtLimit, MaySave, MayStop, MayClose}
use Rattle.dataflow_laws.specs.Needs.{Needs}
use Rattle.dataflow_laws.specs.declared.step.Step.{Step}
use Rattle.dataflow_laws.specs.declared.step.Step.TheVariants as asked
use Rattle.dataflow_laws.specs.StepTask.{task_of}
use Rattle.dataflow_laws.specs.World.{IsInner}
use Rattle.dataflow_laws.specs.World.Move.{inner}
use Rattle.dataflow_laws.proofs.Facts.{needs_step}
use Rattle.task_steps.specs.TaskData.{TaskData, Stands}
use Rattle.task_steps.specs.Running.{IsOpenable, IsRunning, HasCome, StopsBy, ClosesBy, IsSavable, IsStoppable, IsClosable}
use Rattle.task_steps.specs.Reading.{HasMine}
use Rattle.core_steps.specs.Given.{layout_in}
use Rattle.core_steps.specs.World.{WorldData, world_in, state_at, IsWorld}
use Rattle.core_steps.specs.Answers.{CanMake}
use Rattle.core_steps.proofs.States.{move_needs}
use Rattle.core_steps.proofs.Worlds.{placed_at, state_of, within}
use Rattle.core_steps.proofs.Inner.{AsksFor, asks_for}
use Rattle.core_steps.proofs.Local.{none_missing}

-- a step that touches no ring can be made just where its task meets what the event needs
inner_can : (step : Step) (w : WorldData) (t : ℕ) (d : TaskData) (e : Event) → IsWorld w → t < length w.tasks → d ≡ get_or w.tasks t d → AsksFor step w t e → IsInner e
    → Needs w.given.plan ((layout_in w.given).task t) d.state e ↔ CanMake w step
inner_can step w t d e h l is asks i = (
  λ needs. (
      let needs' = subst (λ s. Needs w.given.plan ((layout_in w.given).task t) s e) (state_of w t d l is) needs in
      let made = needs_step w.given.plan ((layout_in w.given).task t) (state_at w.given w.tasks t) e needs' in
      (_, asks.leads _ (inner (within w t h l) i made.1))),
  λ can. subst (λ s. Needs w.given.plan ((layout_in w.given).task t) s e) (sym (state_of w t d l is))
      (move_needs w.given.plan (layout_in w.given) w.given.layout.capacity (world_in w) t e can.0 (asks.only can.0 can.1)),
)

module _ (p : PlanData) (k : AbstractTask) (d : TaskData) (st : Stands p k d) where
  open_test : IsOpenable d ↔ CanOpen k d.state
  open_test = (
    λ o. record { source = sym st.role ∙ o.source; idle = o.idle; shut = o.shut },
    λ o. record { source = st.role ∙ o.source; idle = o.idle; shut = o.shut },
  )

  run_test : IsRunning d ↔ CanRun k d.state
  run_test = (
    λ r. record { source = sym st.role ∙ r.source; idle = r.idle; opened = r.opened; going = r.going },
    λ r. record { source = st.role ∙ r.source; idle = r.idle; opened = r.opened; going = r.going },
  )

  limit_test : IsRunning d → HasCome d ↔ IsAtLimit k d.state
  limit_test r = (
    λ come q l. (let here : q < d.setup.inputs = subst (λ n. q < n) (sym st.inputs) l in come q here ∙ sym (st.limits d.state.next q (ap is_source r.source) here)),
    λ come q l. come q (subst (λ n. q < n) st.inputs l) ∙ st.limits d.state.next q (ap is_source r.source) l,
  )

  stops_by : (e : Ending) → IsRunning d → d.state.next ≡ k.saves → StopsBy e d ↔ MayStop e k d.state
  stops_by AtEnd r next = (λ x. x, λ x. x)
  stops_by AtCut r next = (λ x. (next, (limit_test r).0 x), λ x. (limit_test r).1 x.1)
  stops_by Asked r next = (λ x. next, λ x. tt)

  closes_by : (e : Ending) → IsRunning d → d.state.next ≡ k.saves → ClosesBy e d ↔ MayClose e k d.state
  closes_by AtEnd r next = (λ x. (next, (limit_test r).0 x), λ x. (limit_test r).1 x.1)
  closes_by AtCut r next = (λ x. x, λ x. x)
  closes_by Asked r next = (λ x. (next, (limit_test r).0 x), λ x. (limit_test r).1 x.1)

  next_stop : (e : Ending) → MayStop e k d.state → d.state.next ≡ k.saves
  next_stop AtEnd may = absurd may
  next_stop AtCut may = may.0
  next_stop Asked may = may

  next_close : (e : Ending) → MayClose e k d.state → d.state.next ≡ k.saves
  next_close AtEnd may = may.0
  next_close AtCut may = absurd may
  next_close Asked may = may.0

  save_test : IsSavable d ↔ (CanRun k d.state × MaySave k d.state)
  save_test = (
    λ s. (run_test.0 s.running, (subst (λ n. d.state.next < n) st.saves s.next, (limit_test s.running).0 s.come)),
    λ c. (let r = run_test.1 c.0 in record { running = r; next = subst (λ n. d.state.next < n) (sym st.saves) c.1.0; come = (limit_test r).1 c.1.1 }),
  )

  stop_test : IsStoppable d ↔ (CanRun k d.state × MayStop k.ending k d.state)
  stop_test = (
    λ s. (run_test.0 s.running, (stops_by k.ending s.running (s.next ∙ st.saves)).0 (subst (λ e. StopsBy e d) st.ending s.by)),
    λ c. (let r = run_test.1 c.0 in let next = next_stop k.ending c.1 in
        record { running = r; next = next ∙ sym st.saves; by = subst (λ e. StopsBy e d) (sym st.ending) ((stops_by k.ending r next).1 c.1) }),
  )

  close_test : IsClosable d ↔ (CanRun k d.state × MayClose k.ending k d.state)
  close_test = (
    λ s. (run_test.0 s.running, (closes_by k.ending s.running (s.next ∙ st.saves)).0 (subst (λ e. ClosesBy e d) st.ending s.by)),
    λ c. (let r = run_test.1 c.0 in let next = next_close k.ending c.1 in
        record { running = r; next = next ∙ sym st.saves; by = subst (λ e. ClosesBy e d) (sym st.ending) ((closes_by k.ending r next).1 c.1) }),
  )

  read_test : (n : ℕ) → HasMine d n ↔ MayRead k d.state n
  read_test n = (
    λ m. (
        let q = m.0 in let r = m.1.can in
        let source = ap is_source r.running.source in (
          q,
          record {
            number = st.numbers q source r.partition ∙ m.1.number;
            can = record {
              can = run_test.0 r.running;
              partition = subst (λ x. q < x) st.inputs r.partition;
              rest = subst (λ x. slice_index d.state.offsets q < x) (sym (st.limits d.state.next q source r.partition)) r.rest;
            };
          },
        )),
    λ m. (
        let q = m.0 in let r = m.1.can in
        let running = run_test.1 r.can in
        let source = ap is_source running.source in
        let here : q < d.setup.inputs = subst (λ x. q < x) (sym st.inputs) r.partition in (
          q,
          record {
            number = sym (st.numbers q source here) ∙ m.1.number;
            can = record {
              running = running;
              partition = here;
              rest = subst (λ x. slice_index d.state.offsets q < x) (st.limits d.state.next q source here) r.rest;
            };
          },
        )),
  )

both : {A B C D : Type 0} → A ↔ B → B ↔ C → C ↔ D → A ↔ D
both f g h = (λ a. h.0 (g.0 (f.0 a)), λ d. f.1 (g.1 (h.1 d)))

-- there is no such task
pub none_there : (step : Step) (w old : WorldData) → IsWorld w → w ≡ old → length w.tasks ≤ task_of step → IsTrue false ↔ CanMake old step
none_there step w old h same few = (λ yes. absurd (false≢true yes), λ can. absurd (none_missing step w old h same few can.0 can.1))

module _ (w old : WorldData) (t : ℕ) (d : TaskData) (b : Bool) (h : IsWorld w) (l : t < length w.tasks) (is : d ≡ get_or w.tasks t d) (same : w ≡ old) where
  pub open_enabled : IsTrue b ↔ IsOpenable d → IsTrue b ↔ CanMake old (asked.Open t)
  open_enabled test = subst (λ v. IsTrue b ↔ CanMake v (asked.Open t)) same
      (both test (open_test w.given.plan ((layout_in w.given).task t) d (placed_at w t d h l is).stands) (inner_can (asked.Open t) w t d Open h l is (asks_for (asked.Open t) w t Open refl refl (λ e e_is. e_is)) tt))

  pub save_enabled : IsTrue b ↔ IsSavable d → IsTrue b ↔ CanMake old (asked.Save t)
  save_enabled test = subst (λ v. IsTrue b ↔ CanMake v (asked.Save t)) same
      (both test (save_test w.given.plan ((layout_in w.given).task t) d (placed_at w t d h l is).stands) (inner_can (asked.Save t) w t d Save h l is (asks_for (asked.Save t) w t Save refl refl (λ e e_is. e_is)) tt))

  pub stop_enabled : IsTrue b ↔ IsStoppable d → IsTrue b ↔ CanMake old (asked.Stop t)
  stop_enabled test = subst (λ v. IsTrue b ↔ CanMake v (asked.Stop t)) same
      (both test (stop_test w.given.plan ((layout_in w.given).task t) d (placed_at w t d h l is).stands) (inner_can (asked.Stop t) w t d Stop h l is (asks_for (asked.Stop t) w t Stop refl refl (λ e e_is. e_is)) tt))

  pub close_enabled : IsTrue b ↔ IsClosable d → IsTrue b ↔ CanMake old (asked.Close t)
  close_enabled test = subst (λ v. IsTrue b ↔ CanMake v (asked.Close t)) same
      (both test (close_test w.given.plan ((layout_in w.given).task t) d (placed_at w t d h l is).stands) (inner_can (asked.Close t) w t d Close h l is (asks_for (asked.Close t) w t Close refl refl (λ e e_is. e_is)) tt))

  pub read_enabled : (q : ℕ) → IsTrue b ↔ HasMine d q → IsTrue b ↔ CanMake old (asked.Read t q)
  read_enabled q test = subst (λ v. IsTrue b ↔ CanMake v (asked.Read t q)) same
      (both test (read_test w.given.plan ((layout_in w.given).task t) d (placed_at w t d h l is).stands q) (inner_can (asked.Read t q) w t d (Read q) h l is (asks_for (asked.Read t q) w t (Read q) refl refl (λ e e_is. e_is)) tt))
