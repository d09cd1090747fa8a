-- What tasks have kept at the last barrier that all have passed is the savepoint of its cut.
use Rattle.std.proofs.Common.{◌≡◌, ℕ, suc, ◌+◌, ◌<◌, ◌≤◌, Bool, true, false, List, [], ◌∷◌, length, get_or, take, refl, sym, ap, subst, ◌∙◌, inl, inr, arith, if◌then◌else◌}
use Rattle.std.specs.Prelude.{slice_index, slice_index_or}
use Rattle.std.specs.FinMap.{get}
use Rattle.std.proofs.lemmas.Bool.{cases_Bool, cases_eq, cases_lt, eq-eqb, ne_eqb, false≢true}
use Rattle.std.proofs.lemmas.List.{get_or_default, get_or_past, take_all}
use Rattle.plan_model.specs.declared.spec.Row.{Row}
use Rattle.plan_model.specs.declared.limits.TheConstants.{MOST_RECORDS}
use Rattle.plan_model.specs.Rows.{AreRowsOf}
use Rattle.stream_model.specs.Watermarks.{IsCut}
use Rattle.dataflow_model.specs.AbstractLayout.{AbstractLayout}
use Rattle.dataflow_model.specs.Ending.{may_stop}
use Rattle.dataflow_model.specs.Steps.{barriers}
use Rattle.dataflow_model.specs.State.{State, Windows, Kept, kept_of, kept_at}
use Rattle.dataflow_model.specs.History.{History}
use Rattle.dataflow_laws.specs.Inputs.{due_between, HaveCut}
use Rattle.dataflow_laws.specs.Kept.{kept_state, rows_kept, HaveKept, HaveAligned, IsCounted, IsCompleteTo}
use Rattle.dataflow_laws.specs.Owned.{HaveOwnPanes}
use Rattle.dataflow_laws.specs.World.{with_task}
use Rattle.dataflow_laws.proofs.Facts.{aligned_is_complete, compiled_savepoint_delivers, compiled_savepoint_keeps_panes, few_before, kept_is_counted, stopped_is_complete, worlds_are_histories}
use Rattle.redistribute.specs.StartData.{offsets_of}
use Rattle.redistribute.specs.Begins.{HasSnapshot}
use Rattle.redistribute.proofs.Facts.{all_at, rises_to, tasks_have_own_panes, tasks_have_snapshot}
use Rattle.task_steps.specs.TaskData.{TaskData}
use Rattle.leg_tasks.specs.Leaving.{HaveStates, savepoint_left}
use Rattle.leg_tasks.specs.Saved.{IsSavedAt}
use Rattle.leg_tasks.proofs.Facts.{tasks_save_the_cut}
use Rattle.core_steps.specs.declared.sealing.Sealed.{Sealed}
use Rattle.core_steps.specs.Given.{GivenData, layout_in, start_in}
use Rattle.core_steps.specs.World.{WorldData, world_in, state_at, IsEnd, IsGiven, IsSound, IsWorld}
use Rattle.core_steps.specs.Finishing.{HasEnded}
use Rattle.core_steps.specs.Sealing.{AreOnTheWay, HasCome, HavePassed, IsBarrierCut, IsSealOf, IsSealedAt}
use Rattle.core_steps.proofs.Delivered.{cut, leg}
use Rattle.core_steps.proofs.Ending.{came, have_states, own_panes}
use Rattle.core_steps.proofs.Sound.{compiled, sound}
use Rattle.core_steps.proofs.States.{state_here}

-- ---- at a barrier that every task has passed

module _ (g : GivenData) (given : IsGiven g) (states : ℕ → State) (come : HasCome g states) (m : ℕ) (aligned : HaveAligned (layout_in g) m states) where
  abbrev l : AbstractLayout
  l = layout_in g

  abbrev h : History g.plan (layout_in g) (start_in g)
  h = come.history

  is_sound : IsSound g
  is_sound = sound g given

  -- the history has come there too
  passed : HaveAligned l m h.end
  passed t k = subst (λ (s : State). m < s.next) (come.ends t) (aligned t k)

  counted : (t : ℕ) → t ≤ l.sink → IsCounted (l.task t) (h.end t)
  counted t k = kept_is_counted g.plan l (start_in g) is_sound.layout is_sound.start h t k

  -- and what tasks have kept is what they kept in it, also where one has lost its windows since
  kept_same : (t : ℕ) → t ≤ l.sink → kept_at m (states t) ≡ kept_at m (h.end t)
  kept_same t k = elim (cases_Bool (h.end t).over) [
    | inl e ↦ ap (kept_at m) (come.over t e)
    | inr e ↦ (
        let c = counted t k in
        let long = c.going e in
        let here = passed t k in
        ap (λ (s : State). get_or s.kept m (kept_of (states t))) (come.ends t) ∙ get_or_default (h.end t).kept m (kept_of (states t)) (kept_of (h.end t)) (omega (arith, long, here)))
  ]

  pub all_put : IsCompleteTo m h
  all_put = aligned_is_complete g.plan l (start_in g) m is_sound.layout is_sound.start h passed

  -- what is so of what was kept in the history
  record IsKept : Type 0 where
    at : List (List ℕ)
    is : IsBarrierCut g m at
    own : HaveOwnPanes l (λ t. kept_state m (h.end t)) MOST_RECORDS
    kept : HasSnapshot g.plan g.input g.start → HaveKept g.plan g.input l (offsets_of g.start) at m h.end

  opens : HasSnapshot g.plan g.input g.start → HaveCut g.plan g.input l (start_in g) (offsets_of g.start)
  opens has = (tasks_have_snapshot g.plan g.layout g.input g.start g.saves g.until given.plan given.laid_out given.belongs given.starts has).0

  -- at a savepoint on the way
  on_the_way : m < length g.saves → IsKept
  on_the_way few =
      let c = slice_index_or g.saves m [] in
      let is_cut : IsCut g.input.sources c = all_at (IsCut g.input.sources) g.saves m [] given.saves.cuts few in
      let begun = tasks_have_own_panes g.plan g.layout g.input g.start g.saves g.until given.plan given.laid_out given.belongs given.starts in
      let own = compiled_savepoint_keeps_panes g.plan given.laid_out.scale g.input g.start.number (offsets_of g.start) g.saves g.until g.layout.stages (start_in g) m given.plan given.laid_out.fits (compiled g given) given.input given.orderly given.belongs
      given.starts.cut few is_cut is_sound.start begun.0 begun.1 h passed in
      let most = few_before g.input c given.input in
      record {
        at = c;
        is = record { is_cut = is_cut; no_earlier = rises_to (offsets_of g.start) g.saves m given.saves.rises few; on_the_way = λ _. refl; at_the_stop = λ end past _. absurd (omega (arith, few, past)) };
        own = λ u lo hi q a e. let y = own u lo hi q a e in (y.0, omega (arith, y.1, most));
        kept = λ has. compiled_savepoint_delivers g.plan given.laid_out.scale g.input g.start.number (offsets_of g.start) g.saves g.until g.layout.stages (start_in g) m given.plan given.laid_out.fits (compiled g given) given.input given.orderly given.belongs
            given.starts.cut few is_cut is_sound.start (opens has) h passed;
      }

  -- at the stop all tasks are done
  ended : length g.saves ≤ m → HasEnded g h.end
  ended past = record {
    given = given;
    history = h;
    ends = refl;
    complete = stopped_is_complete g.plan l (start_in g) is_sound.layout is_sound.start is_sound.input h (λ t k. let p = passed t k in omega (arith, p, past));
  }

  -- where each has kept itself at none
  as_now : length g.saves ≤ m → (t : ℕ) → t ≤ l.sink → kept_at m (h.end t) ≡ kept_of (h.end t)
  as_now past t k =
      let c = (counted t k).few in
      let same : (l.task t).saves ≡ length g.saves = (is_sound.start.leg.alike t k).1 in
      get_or_past (h.end t).kept m (kept_of (h.end t)) (omega (arith, c, same, past))

  at_the_stop : length g.saves ≤ m → IsKept
  at_the_stop past =
      let e = ended past in
      let now = as_now past in
      let own = own_panes g h.end e in
      let some = is_sound.layout.some_windows in
      record {
        at = cut g h.end e;
        is = record { is_cut = (came g h.end e).1.is_cut; no_earlier = (came g h.end e).1.no_earlier; on_the_way = λ few. absurd (omega (arith, few, past)); at_the_stop = λ end _ to. ((came g h.end e).1.to_cut end to).1 };
        own = λ u lo hi q a here. own u lo hi q a (ap (λ (k : Kept). get k.windows q) (sym (now u (omega (arith, hi)))) ∙ here);
        kept = λ has.
            let all = leg g h.end e has in
            record {
              rows = subst (AreRowsOf (due_between g.plan g.input.sources (offsets_of g.start) (cut g h.end e))) (sym (ap (λ (k : Kept). take k.rows (h.end l.sink).rows) (now l.sink (omega arith)) ∙ take_all (length (h.end l.sink).rows) (h.end l.sink).rows (omega arith))) all.0;
              snapshot = record {
                offsets = λ t k b a kl. ap (λ (x : Kept). slice_index x.offsets k) (now t (omega (arith, b, some))) ∙ all.1.offsets t k b a kl;
                windows = λ u lo hi q. ap (λ (x : Kept). get x.windows q) (now u (omega (arith, hi))) ∙ all.1.windows u lo hi q;
              };
              marks = λ t k d b a kl. ap (λ (x : Kept). slice_index_or x.marks k d) (now t (omega (arith, b, some))) ∙ all.2 t k d b a kl;
            };
      }

  is_kept : IsKept
  is_kept = elim (cases_lt m (length g.saves)) [ inl few ↦ on_the_way few | inr past ↦ at_the_stop past ]

  -- the same of where the tasks stand
  kept_so : (s r : ℕ → State) → ((t : ℕ) → t ≤ l.sink → kept_at m (s t) ≡ kept_at m (r t)) → (s l.sink).rows ≡ (r l.sink).rows → (at : List (List ℕ)) → HaveKept g.plan g.input l (offsets_of g.start) at m r → HaveKept g.plan g.input l (offsets_of g.start) at m s
  kept_so s r same rows at k =
      let some = is_sound.layout.some_windows in
      record {
        rows = subst (AreRowsOf (due_between g.plan g.input.sources (offsets_of g.start) at)) (λ j. take (sym (same l.sink (omega arith)) j).rows (sym rows j)) k.rows;
        snapshot = record {
          offsets = λ t q b a ql. ap (λ (x : Kept). slice_index x.offsets q) (same t (omega (arith, b, some))) ∙ k.snapshot.offsets t q b a ql;
          windows = λ u lo hi q. ap (λ (x : Kept). get x.windows q) (same u (omega (arith, hi))) ∙ k.snapshot.windows u lo hi q;
        };
        marks = λ t q d b a ql. ap (λ (x : Kept). slice_index_or x.marks q d) (same t (omega (arith, b, some))) ∙ k.marks t q d b a ql;
      }

  pub own_then : HaveOwnPanes l (λ t. kept_state m (states t)) MOST_RECORDS
  own_then u lo hi q a e = is_kept.own u lo hi q a (ap (λ (x : Kept). get x.windows q) (sym (kept_same u (omega (arith, hi)))) ∙ e)

  -- what is sealed there is all that is owed up to its cut
  pub seal : (x : Sealed) → IsSealedAt g states m x → IsSealOf g states x
  seal x is =
      let here : HasSnapshot g.plan g.input g.start → HaveKept g.plan g.input l (offsets_of g.start) is_kept.at m states = λ has.
      kept_so states h.end kept_same (ap (λ (s : State). s.rows) (come.ends l.sink)) is_kept.at (is_kept.kept has) in
      record {
        passed = m;
        barrier = is.barrier;
        come = come;
        complete = all_put;
        cut = is_kept.at;
        is_cut = is_kept.is;
        delivered = λ has. subst (AreRowsOf (due_between g.plan g.input.sources (offsets_of g.start) is_kept.at)) (sym is.rows) (here has).rows;
        saved = λ has.
            let k = here has in
            let number : g.start.number + suc m ≡ g.start.number + x.barrier = ap (λ n. g.start.number + n) (sym is.barrier) in
            let saved = tasks_save_the_cut g.plan g.layout g.input g.start.number g.saves g.until is_kept.at (λ t. kept_state m (states t)) (g.start.number + suc m) given.plan given.laid_out given.belongs is_kept.is.is_cut k.snapshot k.marks in
            subst (λ n. IsSavedAt g.plan g.input is_kept.at n x.savepoint) number (subst (IsSavedAt g.plan g.input is_kept.at (g.start.number + suc m)) (sym is.savepoint) saved);
      }

-- ---- of tasks

-- the state of a task, whatever stands where there is none
state_of : (g : GivenData) (tasks : List TaskData) (P : State → Type 0) (t : ℕ) → t < length tasks → ((d : TaskData) → P (get_or tasks t d).state) → P (state_at g tasks t)
state_of g [] P t k here = absurd (omega (arith, k))
state_of g (d ∷ ds) P t k here = subst P (sym (state_here g (d ∷ ds) t d k)) (here d)

module _ (g : GivenData) (tasks : List TaskData) (on : AreOnTheWay g tasks) where
  abbrev sink : ℕ
  sink = (layout_in g).sink

  pub all_tasks : length tasks ≡ suc sink
  all_tasks = on.count ∙ (sound g on.given).count

  -- all tasks have passed n barriers, so they have aligned on those before
  pub have_aligned : (n m : ℕ) → HavePassed n tasks → m < n → HaveAligned (layout_in g) m (state_at g tasks)
  have_aligned n m passed less t k =
      let all = all_tasks in
      let inside : t < length tasks = omega (arith, k, all) in
      state_of g tasks (λ s. m < s.next) t inside (λ d. let a = passed.all t d inside in omega (arith, a, less))

  -- and not on the next
  pub not_aligned : (n : ℕ) → HavePassed n tasks → HaveAligned (layout_in g) n (state_at g tasks) → ⊥
  not_aligned n passed all = passed.last (λ t d k.
      let here = all t (let a = all_tasks in omega (arith, k, a)) in
      subst (λ (s : State). n < s.next) (state_here g tasks t d k) here)

  -- no task has passed more barriers than the leg has, its stop's among them
  pub few_passed : (n : ℕ) → HavePassed n tasks → n ≤ length g.saves + 1
  few_passed n passed =
      let is = sound g on.given in
      let all = all_tasks in
      let h = on.come.history in
      let c = (kept_is_counted g.plan (layout_in g) (start_in g) is.layout is.start h sink (omega arith)).passed in
      let one = stop_is_one (layout_in g) in
      let here : n ≤ (state_at g tasks sink).next = state_of g tasks (λ s. n ≤ s.next) sink (omega (arith, all)) (λ d. passed.all sink d (omega (arith, all))) in
      let same = ap (λ (s : State). s.next) (on.come.ends sink) in
      omega (arith, c, one, here, same)
    where
      stop_is_one : (l : AbstractLayout) → barriers (l.task l.sink) ≤ (l.task l.sink).saves + 1
      stop_is_one l = elim (cases_Bool (may_stop (l.task l.sink).ending)) [ inl d ↦ rw d (omega arith) | inr d ↦ rw d (omega arith) ]

  -- so the rows that the last task had and the savepoint of what all have kept are what was sealed
  pub sealed_at : (n m : ℕ) → HavePassed n tasks → n ≡ suc m → (x : Sealed) → x.barrier ≡ n → x.rows ≡ rows_kept m (state_at g tasks sink) → ((states : ℕ → State) → HaveStates g.layout.stages tasks states → x.savepoint ≡ savepoint_left g.plan g.layout.stages (λ t. kept_state m (states t)) (g.start.number + n)) → IsSealedAt g (state_at g tasks) m x
  sealed_at n m passed is x barrier rows saved = record {
    barrier = barrier ∙ is;
    aligned = have_aligned n m passed (omega (arith, is));
    last = λ all. not_aligned n passed (subst (λ k. HaveAligned (layout_in g) k (state_at g tasks)) (sym is) all);
    rows = rows;
    savepoint = saved (state_at g tasks) (have_states g on.given tasks on.count on.placed) ∙ ap (λ k. savepoint_left g.plan g.layout.stages (λ t. kept_state m (state_at g tasks t)) (g.start.number + k)) is;
  }

  -- the rows that the last task had then are those of the sink
  pub rows_of_sink : (m : ℕ) (rows : List Row) → ((t : ℕ) (d : TaskData) → suc t ≡ length tasks → rows ≡ take (kept_at m (get_or tasks t d).state).rows (get_or tasks t d).state.rows) → rows ≡ rows_kept m (state_at g tasks sink)
  rows_of_sink m rows last =
      let all = all_tasks in
      state_of g tasks (λ s. rows ≡ rows_kept m s) sink (omega (arith, all)) (λ d. last sink d (sym all))

-- ---- of worlds

-- where one task has lost something, any other has not
other : (tasks : ℕ → State) (t u : ℕ) (new s : State) → (u ≡ t → ⊥) → s ≡ with_task t new tasks u → s ≡ tasks u
other tasks t u new s ne is = is ∙ (let b = ne_eqb u t ne in λ j. if b j then new else tasks u)

-- a state that one task has lost the windows of
pub spoiled : (tasks : ℕ → State) (t u : ℕ) (windows : Windows) (s : State) → s ≡ with_task t (record (tasks t) { windows = windows }) tasks u → s ≡ record (tasks u) { windows = s.windows }
spoiled tasks t u windows s is = elim (cases_eq u t) [
  | inl e ↦ (
      let b = eq-eqb u t e in
      let here : s ≡ record (tasks t) { windows = windows } = is ∙ (λ j. if b j then record (tasks t) { windows = windows } else tasks u) in
      ap (λ (x : State). record x { windows = s.windows }) here ∙ ap (λ k. record (tasks k) { windows = s.windows }) (sym e))
  | inr ne ↦ ap (λ (x : State). record x { windows = s.windows }) (other tasks t u (record (tasks t) { windows = windows }) s ne is)
]

come_to : (failed : Bool) (w : WorldData) → IsSound w.given → IsEnd failed w → HasCome w.given (world_in w).tasks
come_to false w is reached =
    let g = w.given in
    let end = worlds_are_histories g.plan (layout_in g) g.layout.capacity (start_in g) (world_in w) is.layout reached in
    let same : (t : ℕ) → (world_in w).tasks t ≡ end.0.end t = λ t. ap (λ (f : ℕ → State). f t) (sym end.1.tasks) in
    record { history = end.0; ends = λ t. ap (λ (s : State). record s { windows = ((world_in w).tasks t).windows }) (same t); over = λ t _. same t }
come_to true w is (v, reached, left) =
    let g = w.given in
    let end = worlds_are_histories g.plan (layout_in g) g.layout.capacity (start_in g) v is.layout reached in
    let same : (t : ℕ) → v.tasks t ≡ end.0.end t = λ t. ap (λ (f : ℕ → State). f t) (sym end.1.tasks) in
    record {
      history = end.0;
      ends = λ t. spoiled v.tasks left.task t left.windows ((world_in w).tasks t) (left.tasks t) ∙ ap (λ (s : State). record s { windows = ((world_in w).tasks t).windows }) (same t);
      over = λ t over. elim (cases_eq t left.task) [
        | inl e ↦ absurd (false≢true (sym left.going ∙ ap (λ k. (v.tasks k).over) (sym e) ∙ ap (λ (s : State). s.over) (same t) ∙ over))
        | inr ne ↦ other v.tasks left.task t (record (v.tasks left.task) { windows = left.windows }) ((world_in w).tasks t) ne (left.tasks t) ∙ same t
      ];
    }

pub world_on_the_way : (w : WorldData) → IsWorld w → AreOnTheWay w.given w.tasks
world_on_the_way w world = record { given = world.sound.given; count = world.built.count; placed = world.built.placed; come = come_to w.has_failed w world.sound world.reached }
