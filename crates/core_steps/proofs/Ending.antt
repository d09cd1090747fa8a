-- When all tasks of a leg are done, they leave what can be saved.
use Rattle.std.proofs.Common.{◌≡◌, ℕ, suc, ◌+◌, ◌<◌, ◌≤◌, ℤ, Bool, true, false, List, [], ◌∷◌, length, Option, Some, refl, sym, ap, subst, ◌∙◌, inl, inr, arith}
use Rattle.std.specs.Prelude.{slice_index_or}
use Rattle.std.specs.FinMap.{get}
use Rattle.std.proofs.lemmas.Bool.{cases_lt, eq-eqb}
use Rattle.key_groups.specs.Groups.{key_group}
use Rattle.key_groups.specs.Laws.{Has}
use Rattle.plan_model.specs.declared.spec.Row.{Row}
use Rattle.plan_model.specs.declared.limits.TheConstants.{MOST_RECORDS}
use Rattle.stream_model.specs.InputData.{InputData}
use Rattle.stream_model.specs.Watermarks.{IsCut, records_before}
use Rattle.dataflow_model.specs.declared.role.Role.TheVariants as role
use Rattle.dataflow_model.specs.AbstractLayout.{AbstractLayout}
use Rattle.dataflow_model.specs.Leg.{Until, leg_of}
use Rattle.dataflow_model.specs.Leg.Until.{ToEnd, ToCut, TillAsked}
use Rattle.dataflow_model.specs.State.{State}
use Rattle.dataflow_model.specs.Steps.{IsDone}
use Rattle.layout_rules.specs.Layouts.{partition_counts}
use Rattle.layout_rules.specs.Rules.{stages_of}
use Rattle.layout_rules.specs.Stages.{task_role, task_count, partitions_of, groups_of}
use Rattle.layout_rules.specs.declared.stage.Stage.{Stage}
use Rattle.layout_rules.proofs.Facts.{compiled_ever}
use Rattle.plan_compiler.specs.LayoutData.{LayoutData, layout_of}
use Rattle.input_flow.specs.InputEntries.{entries_of, input_of, counts_at}
use Rattle.input_flow.proofs.Facts.{full_is_cut}
use Rattle.dataflow_laws.specs.Compiled.{cut_to, layout_to}
use Rattle.dataflow_laws.specs.Legs.{AreAt}
use Rattle.dataflow_laws.specs.Owned.{HaveOwnPanes}
use Rattle.dataflow_laws.specs.Stopped.{ComesTo}
use Rattle.dataflow_laws.proofs.Facts.{few_before, compiled_leg_comes, compiled_leg_keeps_panes_at}
use Rattle.legs.specs.declared.stop.Stop.{Stop}
use Rattle.legs.specs.declared.stop.Stop.TheVariants.{Never, At}
use Rattle.legs.specs.Requirements.{stops}
use Rattle.legs.specs.Stops.{until_of}
use Rattle.redistribute.specs.StartData.{offsets_of}
use Rattle.redistribute.specs.Stopping.{CanGo, CanStop}
use Rattle.redistribute.proofs.Facts.{places, has, owns, tasks_have_own_panes}
use Rattle.task_steps.specs.TaskData.{TaskData}
use Rattle.savepoint_codec.specs.declared.savepoint.Contents.{Contents}
use Rattle.task_steps.specs.declared.seen.Moment.{Moment}
use Rattle.leg_tasks.specs.Leaving.{CanSave, HaveStates, savepoint_left, state_at as looked_at}
use Rattle.core_steps.specs.Given.{GivenData, layout_in, start_in}
use Rattle.core_steps.specs.World.{WorldData, world_in, state_at, IsGiven, IsPlaced, IsSound, IsWorld}
use Rattle.core_steps.specs.declared.finish.Finish.TheVariants.{Ended, Stopped}
use Rattle.core_steps.specs.declared.sealing.Sealed.{Sealed}
use Rattle.core_steps.specs.Sealing.{IsSealed}
use Rattle.core_steps.specs.Finishing.{AreAtEnd, HasEnded, HasFinished, IsFinishOf, has_stopped, number_after, rows_of, savepoint_of}
use Rattle.core_steps.proofs.States.{state_here}
use Rattle.core_steps.proofs.Sound.{compiled, sound}
use Rattle.core_steps.proofs.Worlds.{history_of}

-- where a leg that can go so far comes to, if it is asked for no stop, is a cut of the input
pub goes_to_cut : (i : InputData) (cut : List (List ℕ)) (until : Until) → CanGo i.sources cut until → IsCut i.sources (cut_to i until)
goes_to_cut i cut ToEnd can = full_is_cut i.sources
goes_to_cut i cut (ToCut end) can = can.0
goes_to_cut i cut TillAsked can = full_is_cut i.sources

-- so is where one comes to that can stop so
pub end_is_cut : (i : InputData) (cut : List (List ℕ)) (stop : Stop) → CanStop i.sources cut stop → IsCut i.sources (cut_to i (until_of stop))
end_is_cut i cut stop can = goes_to_cut i cut (until_of stop) can

-- which is asked for none
pub never_asked : (stop : Stop) → until_of stop ≡ TillAsked → ⊥
never_asked Never e = cc
never_asked (At cut) e = cc

-- a leg that is asked for no stop comes to where it was to go
pub comes_there : (i : InputData) (begin : List (List ℕ)) (until : Until) (stopped : Bool) (cut : List (List ℕ)) → (until ≡ TillAsked → ⊥) → ComesTo i begin until stopped cut → cut ≡ cut_to i until
comes_there i begin ToEnd stopped cut never to = to.ended (to.to_end refl)
comes_there i begin (ToCut end) stopped cut never to = (to.to_cut end refl).1
comes_there i begin TillAsked stopped cut never to = absurd (never refl)

-- and one that was to stop so has stopped, or has not
pub stops_so : (i : InputData) (begin : List (List ℕ)) (stop : Stop) (stopped : Bool) (cut : List (List ℕ)) → ComesTo i begin (until_of stop) stopped cut → stopped ≡ stops stop
stops_so i begin Never stopped cut to = to.to_end refl
stops_so i begin (At end) stopped cut to = (to.to_cut end.counts refl).0

-- ---- a leg that has ended

module _ (g : GivenData) (states : ℕ → State) (ended : HasEnded g states) where
  abbrev was : IsGiven g
  was = ended.given

  -- what the tasks begin with
  begins : AreAt (input_of g.plan g.input) (layout_in g) (start_in g) (counts_at g.plan (offsets_of g.start)) × HaveOwnPanes (layout_in g) (start_in g) (length (records_before g.input.sources (offsets_of g.start)))
  begins = tasks_have_own_panes g.plan g.layout g.input g.start g.saves g.until was.plan was.laid_out was.belongs was.starts

  -- the cut that they have come to
  pub came : (cut : List (List ℕ)) × ComesTo g.input (offsets_of g.start) g.until (has_stopped g ended.history.end) cut × AreAt (input_of g.plan g.input) (layout_in g) ended.history.end (counts_at g.plan cut)
  came =
      compiled_leg_comes g.plan was.laid_out.scale g.input g.start.number (offsets_of g.start) g.saves g.until g.layout.stages (start_in g) was.plan was.laid_out.fits (compiled g was) was.input was.orderly was.belongs
      was.starts.cut (goes_to_cut g.input (offsets_of g.start) g.until was.stops) (sound g was).start begins.0 ended.history ended.complete

  pub comes : ComesTo g.input (offsets_of g.start) g.until (has_stopped g states) came.0
  comes = subst (λ (f : ℕ → State). ComesTo g.input (offsets_of g.start) g.until (has_stopped g f) came.0) ended.ends came.1

  -- each of the window's tasks has its own panes, of few records
  pub own_panes : HaveOwnPanes (layout_in g) states MOST_RECORDS
  own_panes u lo hi q a here =
      let kept = compiled_leg_keeps_panes_at g.plan was.laid_out.scale g.input g.start.number (offsets_of g.start) g.saves g.until g.layout.stages (start_in g) was.plan was.laid_out.fits (compiled g was) was.input was.orderly was.belongs
      was.starts.cut (sound g was).start begins.0 begins.1 ended.history ended.complete came.0 came.1.is_cut came.2 in
      let one = kept.1 u lo hi q a (subst (λ (f : ℕ → State). get (f u).windows q ≡ Some a) (sym ended.ends) here) in
      let few = few_before g.input came.0 was.input in
      (one.0, omega (arith, one.1, few))

-- ---- its tasks

module _ (g : GivenData) (given : IsGiven g) (tasks : List TaskData) (count : length tasks ≡ task_count g.layout.stages) (placed : (t : ℕ) (d : TaskData) → t < task_count g.layout.stages → IsPlaced g.plan g.input ((layout_in g).task t) (slice_index_or tasks t d)) where
  abbrev l : AbstractLayout
  l = layout_in g

  abbrev stages : List Stage
  stages = g.layout.stages

  is_sound : IsSound g
  is_sound = sound g given

  -- a window's task stands between the tasks before the windows and the sink
  is_window : (t : ℕ) → t < task_count stages → task_role stages t ≡ role.Window → (l.before ≤ t) × (t < l.sink)
  is_window t k h =
      elim (cases_lt t l.before) [
        | inl b ↦ absurd (
            let source : task_role stages t ≡ role.Source → ⊥ = λ y. let z : role.Source ≡ role.Window = sym y ∙ h in cc in
            let z : role.Chain ≡ role.Window = sym (is_sound.layout.roles_before t b source) ∙ h in
            cc)
        | inr b ↦ elim (cases_lt t l.sink) [
          | inl s ↦ (b, s)
          | inr s ↦ absurd (
              let last : t ≡ l.sink = (let c = is_sound.count in omega (arith, k, s, c)) in
              let z : role.Sink ≡ role.Window = sym is_sound.layout.role_sink ∙ ap (task_role stages) (sym last) ∙ h in
              cc)
        ]
      ]

  -- what holds of the compiled layout holds of the world's
  by_scale : (R : LayoutData → Type 0) → R (layout_of g.plan given.laid_out.scale) → R g.layout
  by_scale R r = subst R (sym given.laid_out.is) r

  partitions_read : (t : ℕ) → task_role stages t ≡ role.Source → length (partitions_of (partition_counts g.plan) stages t) ≡ (l.task t).inputs
  partitions_read =
      let c = given.laid_out.scale in
      by_scale (λ m. (t : ℕ) → task_role m.stages t ≡ role.Source → length (partitions_of (partition_counts g.plan) m.stages t) ≡ ((layout_to g.plan g.input g.start.number g.saves g.until m.stages).task t).inputs)
      (λ t h. places g.plan c (entries_of g.input) (leg_of g.start.number g.saves g.until (entries_of g.input).size) given.plan given.laid_out.fits (compiled_ever g.plan c) t h)

  groups_are : (u : ℕ) (key : ℤ) → l.before ≤ u → u < l.sink → l.owner key ≡ u → Has (groups_of g.plan.max stages u) (key_group g.plan.max key)
  groups_are =
      let c = given.laid_out.scale in
      by_scale (λ m. let a = layout_to g.plan g.input g.start.number g.saves g.until m.stages in (u : ℕ) (key : ℤ) → a.before ≤ u → u < a.sink → a.owner key ≡ u → Has (groups_of g.plan.max m.stages u) (key_group g.plan.max key))
      (λ u key lo hi own. has (groups_of g.plan.max (stages_of g.plan c) u) (key_group g.plan.max key) (owns g.plan c u key given.plan given.laid_out.fits lo hi ∙ eq-eqb _ u own))

  -- where the windows of each of the window's tasks have its own panes at a moment, of few records, all can be saved
  pub can_save : (at : Moment) → HaveOwnPanes l (λ t. looked_at at (state_at g tasks t)) MOST_RECORDS → CanSave g.plan stages at tasks
  can_save at own = record {
    count = count;
    each = λ t d k.
        let here = placed t d k in
        record {
          role = here.stands.role;
          inputs = λ h. here.stands.inputs ∙ sym (partitions_read t h);
          window = here.stands.window;
          panes = λ q a h e.
              let m = is_window t k h in
              let one = own t m.0 m.1 q a (subst (λ (s : State). get (looked_at at s).windows q ≡ Some a) (sym (state_here g tasks t d (omega (arith, k, count)))) e) in
              (groups_are t q.key m.0 m.1 one.0, one.1);
        };
  }

  pub have_states : HaveStates stages tasks (state_at g tasks)
  have_states t d k = sym (state_here g tasks t d (omega (arith, k, count)))

-- ---- a world whose tasks are all done

pub world_has_ended : (w : WorldData) → IsWorld w → HasFinished w → HasEnded w.given (world_in w).tasks
world_has_ended w world done =
    let end = history_of w world done.going in
    record {
      given = world.sound.given;
      history = end.0;
      ends = end.1.tasks;
      complete = λ t m. subst (λ (f : ℕ → State). IsDone (f t)) (sym end.1.tasks) (done.finished t m);
    }

pub at_end : (w : WorldData) → IsWorld w → HasFinished w → AreAtEnd w.given w.tasks
at_end w world done = record { count = world.built.count; placed = world.built.placed; ended = world_has_ended w world done }

-- ---- what the calls are made of

-- so many savepoints on, and one more
pub numbered : (n : ℕ) (cuts : List (List (List ℕ))) → n + length cuts + 1 ≡ number_after n cuts
numbered n [] = omega arith
numbered n (cut ∷ cuts) = let rest = numbered (n + 1) cuts in omega (arith, rest)

-- what is said of the last task is so of the sink
pub of_sink : {X : Type 0} (f : State → X) (x : X) (g : GivenData) (tasks : List TaskData) → AreAtEnd g tasks → ((t : ℕ) (d : TaskData) → suc t ≡ length tasks → x ≡ f (slice_index_or tasks t d).state) → x ≡ f (state_at g tasks (layout_in g).sink)
of_sink f x g tasks at last =
    let all : suc (layout_in g).sink ≡ length tasks = sym (at.count ∙ (sound g at.ended.given).count) in
    of_last f x g tasks (layout_in g).sink all (λ d. last (layout_in g).sink d all)
  where
    of_last : {X : Type 0} (f : State → X) (x : X) (g : GivenData) (ts : List TaskData) (t : ℕ) → suc t ≡ length ts → ((d : TaskData) → x ≡ f (slice_index_or ts t d).state) → x ≡ f (state_at g ts t)
    of_last f x g [] t l is = absurd (omega (arith, l))
    of_last f x g (d ∷ ts) t l is = is d ∙ ap f (sym (state_here g (d ∷ ts) t d (omega (arith, l))))

module _ (g : GivenData) (tasks : List TaskData) (at : AreAtEnd g tasks) (rows : List Row) (last : (t : ℕ) (d : TaskData) → suc t ≡ length tasks → rows ≡ (slice_index_or tasks t d).state.rows) where
  -- the rows of the last task are those of the sink
  rows_are : rows ≡ rows_of g (state_at g tasks)
  rows_are = of_sink (λ (s : State). s.rows) rows g tasks at last

  pub ended_is : has_stopped g (state_at g tasks) ≡ false → (sealed : Option Sealed) → IsSealed g (state_at g tasks) sealed → IsFinishOf g (state_at g tasks) (Ended rows sealed)
  ended_is goes_on sealed is = (goes_on, rows_are, is)

  pub stopped_is : (savepoint : Contents) (held : List TaskData) (n : ℕ) → held ≡ tasks → ((states : ℕ → State) → HaveStates g.layout.stages held states → savepoint ≡ savepoint_left g.plan g.layout.stages states n) → n ≡ number_after g.start.number g.saves → has_stopped g (state_at g tasks) ≡ true
      → IsFinishOf g (state_at g tasks) (Stopped rows savepoint)
  stopped_is savepoint held n same is number stopped =
      let saved : savepoint ≡ savepoint_of g (state_at g tasks) = is (state_at g tasks) (subst (λ ts. HaveStates g.layout.stages ts (state_at g tasks)) (sym same) (have_states g at.ended.given tasks at.count at.placed)) ∙ ap (savepoint_left g.plan g.layout.stages (state_at g tasks)) number in
      (stopped, rows_are, saved)
