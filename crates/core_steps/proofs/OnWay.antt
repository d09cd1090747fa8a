-- What a leg has sealed at a savepoint on its way.
use Rattle.std.proofs.Common.{◌≡◌, ℕ, suc, ◌+◌, ◌<◌, ◌≤◌, Bool, true, false, List, [], ◌∷◌, length, Option, Some, None, refl, sym, ap, subst, ◌∙◌, inl, inr, arith}
use Rattle.std.specs.Prelude.{IfSome, slice_index_or}
use Rattle.std.proofs.lemmas.Bool.{cases_lt, false≢true, ltb-false}
use Rattle.plan_model.specs.PlanData.{PlanData}
use Rattle.plan_model.specs.Rows.{AreRowsOf}
use Rattle.stream_model.specs.InputData.{InputData}
use Rattle.stream_model.specs.Watermarks.{IsCut, IsBefore}
use Rattle.dataflow_model.specs.Leg.{Until}
use Rattle.dataflow_model.specs.State.{State}
use Rattle.dataflow_laws.specs.Inputs.{due_between}
use Rattle.dataflow_laws.specs.Kept.{HaveAligned}
use Rattle.dataflow_laws.proofs.Facts.{kept_is_counted, worlds_are_histories}
use Rattle.redistribute.specs.StartData.{StartData, offsets_of}
use Rattle.task_steps.specs.TaskData.{TaskData}
use Rattle.leg_tasks.specs.Saved.{IsSavedAt}
use Rattle.core_steps.specs.declared.finish.Finish.TheVariants.{Abandoned}
use Rattle.core_steps.specs.declared.sealing.Sealed.{Sealed}
use Rattle.core_steps.specs.Given.{GivenData, layout_in, start_in}
use Rattle.core_steps.specs.World.{WorldData, world_in, state_at, IsBuilt, IsEnd, IsSound}
use Rattle.core_steps.specs.Finishing.{AreAtEnd, HasEnded, has_stopped}
use Rattle.core_steps.specs.Ending.{HasSealed, HasSealedLast, IsEndOf}
use Rattle.core_steps.specs.Sealing.{AreOnTheWay, IsSealOf, IsSealed}
use Rattle.core_steps.proofs.Sealings.{spoiled}
use Rattle.core_steps.proofs.Sound.{sound}
use Rattle.seal_laws.proofs.Facts.{ended_have_passed}

-- what was sealed at a barrier on the way is what such legs have sealed
pub on_way : (g : GivenData) (states : ℕ → State) (x : Sealed) (seal : IsSealOf g states x) → seal.passed < length g.saves → HasSealed g.plan g.input g.start g.saves x
on_way g states x seal few =
    let there : seal.cut ≡ slice_index_or g.saves seal.passed [] = seal.is_cut.on_the_way few in
    record {
      passed = seal.passed;
      barrier = seal.barrier;
      few = few;
      is_cut = subst (IsCut g.input.sources) there seal.is_cut.is_cut;
      no_earlier = subst (IsBefore (offsets_of g.start)) there seal.is_cut.no_earlier;
      delivered = λ has. subst (λ c. AreRowsOf (due_between g.plan g.input.sources (offsets_of g.start) c) x.rows) there (seal.delivered has);
      saved = λ has. subst (λ c. IsSavedAt g.plan g.input c (g.start.number + x.barrier) x.savepoint) there (seal.saved has);
    }

-- so is what was sealed where tasks have passed no barrier but those
pub sealed_on_way : (g : GivenData) (states : ℕ → State) (answer : Option Sealed) → ((m : ℕ) → HaveAligned (layout_in g) m states → m < length g.saves) → IsSealed g states answer → IfSome answer (IsSealOf g states) → IfSome answer (HasSealed g.plan g.input g.start g.saves)
sealed_on_way g states None few is seal = tt
sealed_on_way g states (Some x) few is seal =
    let one = seal.barrier in
    let two = is.1.barrier in
    let low = few is.0 is.1.aligned in
    on_way g states x seal (omega (arith, one, two, low))

-- as where the sink has not passed the barrier of a stop
pub before_stop : (g : GivenData) (states : ℕ → State) → has_stopped g states ≡ false → (m : ℕ) → HaveAligned (layout_in g) m states → m < length g.saves
before_stop g states goes_on m aligned =
    let here = aligned (layout_in g).sink (omega arith) in
    let low = ltb-false (length g.saves) (states (layout_in g).sink).next goes_on in
    omega (arith, here, low)

-- and where all tasks are done, each has passed all barriers on the way
all_passed : (g : GivenData) (states : ℕ → State) → HasEnded g states → (m : ℕ) → m < length g.saves → HaveAligned (layout_in g) m states
all_passed g states ended m few t k =
    let is = sound g ended.given in
    let past = ended_have_passed g.plan (layout_in g) (start_in g) is.layout is.start ended.history ended.complete t k in
    let saves : ((layout_in g).task t).saves ≡ length g.saves = (is.start.leg.alike t k).1 in
    subst (λ (f : ℕ → State). m < (f t).next) ended.ends (omega (arith, past, saves, few))

no_more : {X : Type 0} (xs : List X) → (0 < length xs → ⊥) → xs ≡ []
no_more [] none = refl
no_more (x ∷ xs) none = absurd (none (omega arith))

-- so a leg that has come to its end has sealed at the last of them
pub sealed_last : (g : GivenData) (states : ℕ → State) → HasEnded g states → has_stopped g states ≡ false → (answer : Option Sealed) → IsSealed g states answer → IfSome answer (IsSealOf g states) → HasSealedLast g.plan g.input g.start g.saves answer
sealed_last g states ended goes_on None is seal = no_more g.saves (λ some. is (all_passed g states ended 0 some))
sealed_last g states ended goes_on (Some x) is seal = (
  elim (cases_lt (suc is.0) (length g.saves)) [
    | inl more ↦ absurd (is.1.last (all_passed g states ended (suc is.0) more))
    | inr most ↦ (
        let barrier = is.1.barrier in
        let few = before_stop g states goes_on is.0 is.1.aligned in
        omega (arith, barrier, few, most))
  ],
  sealed_on_way g states (Some x) (before_stop g states goes_on) is seal,
)

-- no more than those are passed in a world that has failed, in which one task is not over
pub before_failing : (failed : Bool) (w : WorldData) → IsSound w.given → IsBuilt w → IsEnd failed w → failed ≡ true → (m : ℕ) → HaveAligned (layout_in w.given) m (world_in w).tasks → m < length w.given.saves
before_failing false w sound built reached e m aligned = absurd (false≢true e)
before_failing true w sound built (v, reached, left) e m aligned =
    let g = w.given in
    let l = layout_in g in
    let t = left.task in
    let end = worlds_are_histories g.plan l g.layout.capacity (start_in g) v sound.layout reached in
    let one = left.there in
    let two = built.count in
    let three = sound.count in
    let inside : t ≤ l.sink = omega (arith, one, two, three) in
    let counted = kept_is_counted g.plan l (start_in g) sound.layout sound.start end.0 t inside in
    let same : v.tasks t ≡ end.0.end t = ap (λ (f : ℕ → State). f t) (sym end.1.tasks) in
    let long = counted.going (ap (λ (s : State). s.over) (sym same) ∙ left.going) in
    let few = counted.few in
    let saves : (l.task t).saves ≡ length g.saves = (sound.start.leg.alike t inside).1 in
    let here = aligned t inside in
    let next : ((world_in w).tasks t).next ≡ (end.0.end t).next = ap (λ (s : State). s.next) (spoiled v.tasks t t left.windows ((world_in w).tasks t) (left.tasks t)) ∙ ap (λ (s : State). s.next) same in
    omega (arith, long, few, saves, here, next)

-- tasks that stand where a leg has ended stand on its way
pub at_end_on_way : (g : GivenData) (tasks : List TaskData) → AreAtEnd g tasks → AreOnTheWay g tasks
at_end_on_way g tasks at =
    let same : (t : ℕ) → state_at g tasks t ≡ at.ended.history.end t = λ t. ap (λ (f : ℕ → State). f t) (sym at.ended.ends) in
    record {
      given = at.ended.given;
      count = at.count;
      placed = at.placed;
      come = record { history = at.ended.history; ends = λ t. ap (λ (s : State). record s { windows = (state_at g tasks t).windows }) (same t); over = λ t _. same t };
    }

-- a leg that takes no savepoint on its way is not given up with one
pub none_abandoned : (p : PlanData) (i : InputData) (s : StartData) (until : Until) (x : Sealed) → IsEndOf p i s [] until (Abandoned x) → ⊥
none_abandoned p i s until x e = let few = e.few in omega (arith, few)
