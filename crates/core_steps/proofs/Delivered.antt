-- A leg that has ended has delivered the rows that became due, and leaves the savepoint of its cut.
use Rattle.std.proofs.Common.{◌≡◌, ◌⊎◌, inl, inr, ℕ, Bool, true, false, List, [], map, refl, sym, ap, subst, ◌∙◌, arith}
use Rattle.std.proofs.lemmas.Bool.{cases_eq, eq-eqb, false≢true, ne_eqb}
use Rattle.std.specs.FinMap.{get, get-empty, from_entries}
use Rattle.std.specs.List.{filter, flat_map}
use Rattle.std.specs.Option.{option_to_list}
use Rattle.std.specs.Prelude.{Option, None, ◌==◌, if◌then◌else◌}
use Rattle.plan_model.specs.PlanData.{PlanData}
use Rattle.plan_model.specs.declared.spec.Pane.{Pane}
use Rattle.plan_model.specs.declared.spec.Row.{Row}
use Rattle.plan_model.specs.Rows.{pane_cmp, row_is_at, AreRowsOf}
use Rattle.stream_model.specs.InputData.{InputData}
use Rattle.stream_model.specs.PlanRows.{plan_rows, snapshot}
use Rattle.stream_model.proofs.Facts.{nothing_at_first}
use Rattle.dataflow_model.specs.Leg.{Until}
use Rattle.dataflow_model.specs.Leg.Until.{ToEnd, TillAsked}
use Rattle.dataflow_model.specs.State.{State, Windows}
use Rattle.dataflow_model.specs.Start.{IsLegStart}
use Rattle.dataflow_model.specs.History.{History, IsComplete}
use Rattle.dataflow_laws.specs.Legs.{AreAt, HaveMarks, HaveNothing}
use Rattle.dataflow_laws.specs.Inputs.{due_between, HaveCut}
use Rattle.dataflow_laws.specs.Compiled.{cut_to, layout_to}
use Rattle.dataflow_laws.specs.World.{with_task}
use Rattle.dataflow_laws.proofs.Facts.{worlds_are_histories, compiled_leg_delivers_at, compiled_leg_delivers_all, compiled_leg_so_far}
use Rattle.input_flow.specs.InputEntries.{input_of, counts_at}
use Rattle.input_flow.proofs.Facts.{empty_counts}
use Rattle.dataflow_laws.specs.Stopped.{ComesTo}
use Rattle.savepoint_codec.specs.declared.savepoint.Contents.{Contents}
use Rattle.redistribute.specs.StartData.{StartData, offsets_of}
use Rattle.redistribute.specs.Begins.{IsFromNothing, HasSnapshot}
use Rattle.window_state.specs.Parts.{entries_of}
use Rattle.packed_parts.specs.Packing.{part_of}
use Rattle.redistribute.proofs.Facts.{tasks_have_snapshot}
use Rattle.leg_tasks.specs.Saved.{IsSavedAt}
use Rattle.leg_tasks.proofs.Facts.{tasks_save_the_cut}
use Rattle.core_steps.specs.declared.finish.Finish.{Finish}
use Rattle.core_steps.specs.declared.finish.Finish.TheVariants.{Ended, Stopped, Abandoned}
use Rattle.core_steps.specs.Given.{GivenData, layout_in, start_in}
use Rattle.core_steps.specs.World.{WorldData, world_in, IsGiven, IsSound, IsEnd, IsWorld}
use Rattle.core_steps.specs.Finishing.{HasEnded, IsFinishOf, has_stopped, number_after, rows_in, rows_of, savepoint_of}
use Rattle.core_steps.specs.Ending.{HasGone, IsEndOf, IsWholeRun}
use Rattle.core_steps.specs.Laws.{AskedLegsEnd}
use Rattle.core_steps.proofs.Ending.{came, comes, comes_there, goes_to_cut}
use Rattle.core_steps.proofs.Sound.{compiled, sound}

none_there : {X : Type 0} (b : Bool) (x y : Option X) → x ≡ None → y ≡ (if b then x else None) → y ≡ None
none_there true x y none e = e ∙ none
none_there false x y none e = e

-- at the beginning nothing is in the windows
pub none_at_first : (p : PlanData) (i : InputData) (s : StartData) → IsFromNothing i s → HasSnapshot p i s
none_at_first p i s nothing q =
    ap (λ gs. get {R = pane_cmp} (from_entries (entries_of (flat_map (λ g. map (part_of s.kinds) g.entries.entries) gs))) q) nothing.groups
    ∙ get-empty pane_cmp q
    ∙ sym (ap (λ cut. snapshot p i.sources cut q) nothing.offsets ∙ nothing_at_first p i.sources q)

module _ (g : GivenData) (states : ℕ → State) (ended : HasEnded g states) where
  abbrev given : IsGiven g
  given = ended.given

  -- the cut that the tasks have come to
  abbrev pub cut : List (List ℕ)
  cut = (came g states ended).0

  snapshot_at : HasSnapshot g.plan g.input g.start → HaveCut g.plan g.input (layout_in g) (start_in g) (offsets_of g.start)
  snapshot_at has = (tasks_have_snapshot g.plan g.layout g.input g.start g.saves g.until given.plan given.laid_out given.belongs given.starts has).0

  -- what a leg delivers and leaves whose start has the snapshot of its cut
  pub leg : HasSnapshot g.plan g.input g.start
      → AreRowsOf (due_between g.plan g.input.sources (offsets_of g.start) cut) (rows_of g states) × HaveCut g.plan g.input (layout_in g) states cut × HaveMarks (input_of g.plan g.input) (layout_in g) states (counts_at g.plan cut)
  leg has =
      let to = came g states ended in
      subst (λ (f : ℕ → State). AreRowsOf (due_between g.plan g.input.sources (offsets_of g.start) cut) (f (layout_in g).sink).rows × HaveCut g.plan g.input (layout_in g) f cut × HaveMarks (input_of g.plan g.input) (layout_in g) f (counts_at g.plan cut)) ended.ends
      (compiled_leg_delivers_at g.plan given.laid_out.scale g.input g.start.number (offsets_of g.start) g.saves g.until g.layout.stages (start_in g) given.plan given.laid_out.fits (compiled g given) given.input given.orderly given.belongs
      given.starts.cut (sound g given).start (snapshot_at has) ended.history ended.complete cut to.1.is_cut to.2)

  pub delivers : HasSnapshot g.plan g.input g.start → AreRowsOf (due_between g.plan g.input.sources (offsets_of g.start) cut) (rows_of g states)
  delivers has = (leg has).0

  pub saves : HasSnapshot g.plan g.input g.start → IsSavedAt g.plan g.input cut (number_after g.start.number g.saves) (savepoint_of g states)
  saves has =
      let all = leg has in
      tasks_save_the_cut g.plan g.layout g.input g.start.number g.saves g.until cut states (number_after g.start.number g.saves) given.plan given.laid_out given.belongs (came g states ended).1.is_cut all.1 all.2

  -- a leg that is asked for no stop has come to where it was to go
  pub at_its_end : (g.until ≡ TillAsked → ⊥) → cut ≡ cut_to g.input g.until
  at_its_end never = comes_there g.input (offsets_of g.start) g.until (has_stopped g ended.history.end) cut never (came g states ended).1

  -- it has gone there with the rows of its sink
  pub gone : (stopped : Bool) (rows : List Row) → has_stopped g states ≡ stopped → rows ≡ rows_of g states → HasGone g.plan g.input g.start g.until stopped rows
  gone stopped rows so is = record {
    cut = cut;
    comes = subst (λ b. ComesTo g.input (offsets_of g.start) g.until b cut) so (comes g states ended);
    delivered = λ has. subst (AreRowsOf (due_between g.plan g.input.sources (offsets_of g.start) cut)) (sym is) (delivers has);
  }

  pub stopped_of : (rows : List Row) (savepoint : Contents) → IsFinishOf g states (Stopped rows savepoint) → IsEndOf g.plan g.input g.start g.saves g.until (Stopped rows savepoint)
  unfolding gone
  stopped_of rows savepoint is = (gone true rows is.0 is.1, λ has. subst (IsSavedAt g.plan g.input cut (number_after g.start.number g.saves)) (sym is.2) (saves has))

  all_rows : (n : ℕ) → n ≡ 0 → (start : ℕ → State) → let a = layout_to g.plan g.input n g.saves ToEnd g.layout.stages in IsLegStart g.plan a start → HaveNothing (input_of g.plan g.input) a start → (h : History g.plan a start) → IsComplete h
      → AreRowsOf (plan_rows g.plan g.input.sources) (h.end a.sink).rows
  all_rows n e =
      subst (λ m. (start : ℕ → State) → let a = layout_to g.plan g.input m g.saves ToEnd g.layout.stages in IsLegStart g.plan a start → HaveNothing (input_of g.plan g.input) a start → (h : History g.plan a start) → IsComplete h → AreRowsOf (plan_rows g.plan g.input.sources) (h.end a.sink).rows) (sym e)
      (λ start opens none h done. compiled_leg_delivers_all g.plan given.laid_out.scale g.input g.saves g.layout.stages start given.plan given.laid_out.fits (compiled g given) given.input given.orderly given.belongs opens none h done)

  -- no window has anything where a leg starts from nothing
  nothing_here : IsFromNothing g.input g.start → HaveNothing (input_of g.plan g.input) (layout_in g) (start_in g)
  nothing_here nothing =
      let p = g.plan in
      let here = snapshot_at (none_at_first p g.input g.start nothing) in
      record {
        offsets = subst (AreAt (input_of p g.input) (layout_in g) (start_in g)) (ap (counts_at p) nothing.offsets ∙ empty_counts p g.input) here.offsets;
        windows = λ u lo hi q. none_there ((layout_in g).owner q.key == u) (snapshot p g.input.sources (offsets_of g.start) q) _ (ap (λ c. snapshot p g.input.sources c q) nothing.offsets ∙ nothing_at_first p g.input.sources q) (here.windows u lo hi q);
      }

-- one that starts from nothing and runs to the end has delivered all rows of the plan
to_end : (g : GivenData) (states : ℕ → State) → let n = record g { until = ToEnd } in HasEnded n states → IsFromNothing g.input g.start → AreRowsOf (plan_rows g.plan g.input.sources) (rows_of n states)
to_end g states ended nothing =
    let n = record g { until = ToEnd } in
    subst (λ (f : ℕ → State). AreRowsOf (plan_rows g.plan g.input.sources) (f (layout_in n).sink).rows) ended.ends
    (all_rows n states ended g.start.number nothing.number (start_in n) (sound n ended.given).start (nothing_here n states ended nothing) ended.history ended.complete)

pub whole_run : (g : GivenData) (states : ℕ → State) → HasEnded g states → (finish : Finish) → IsFinishOf g states finish → IsFromNothing g.input g.start → g.until ≡ ToEnd → IsWholeRun g.plan g.input finish
whole_run g states ended (Ended rows sealed) is nothing ends =
    let all = subst (λ (x : Until). let n = record g { until = x } in HasEnded n states → AreRowsOf (plan_rows g.plan g.input.sources) (rows_of n states)) (sym ends) (λ e. to_end g states e nothing) ended in
    subst (AreRowsOf (plan_rows g.plan g.input.sources)) (sym is.1) all
whole_run g states ended (Stopped rows savepoint) is nothing ends = absurd (false≢true (sym ((comes g states ended).to_end ends) ∙ is.0))
whole_run g states ended (Abandoned sealed) is nothing ends = absurd is

-- ---- of legs that may be asked to stop

pub asked_legs_end : AskedLegsEnd
asked_legs_end p i s (Ended rows sealed) e = λ has. subst (λ c. AreRowsOf (due_between p i.sources (offsets_of s) c) rows) (e.0.comes.ended refl) (e.0.delivered has)
asked_legs_end p i s (Stopped rows savepoint) e = (e.0.cut, e.0.comes.is_cut, e.0.comes.no_earlier, λ has. (e.0.delivered has, e.1 has))
asked_legs_end p i s (Abandoned sealed) e = absurd (let few = e.few in omega (arith, few))

-- ---- of worlds

-- what a world that failed has lost is no row
same_rows : (tasks : ℕ → State) (t u : ℕ) (windows : Windows) → (with_task t (record (tasks t) { windows = windows }) tasks u).rows ≡ (tasks u).rows
same_rows tasks t u windows = elim (cases_eq u t) [
  | inl e ↦ (let b = eq-eqb u t e in rw b (ap (λ x. (tasks x).rows) (sym e)))
  | inr ne ↦ (let b = ne_eqb u t ne in rw b refl)
]

-- moves led from where its tasks began to where the sink has its rows
led_by : (failed : Bool) (w : WorldData) → IsSound w.given → IsEnd failed w → (h : History w.given.plan (layout_in w.given) (start_in w.given)) × ((h.end (layout_in w.given).sink).rows ≡ rows_in w)
led_by false w sound reached =
    let g = w.given in
    let end = worlds_are_histories g.plan (layout_in g) g.layout.capacity (start_in g) (world_in w) sound.layout reached in
    (end.0, ap (λ (f : ℕ → State). (f (layout_in g).sink).rows) end.1.tasks)
led_by true w sound (v, reached, left) =
    let g = w.given in
    let end = worlds_are_histories g.plan (layout_in g) g.layout.capacity (start_in g) v sound.layout reached in
    (end.0, ap (λ (f : ℕ → State). (f (layout_in g).sink).rows) end.1.tasks ∙ sym (ap (λ (s : State). s.rows) (left.tasks (layout_in g).sink) ∙ same_rows v.tasks left.task (layout_in g).sink left.windows))

-- at every moment the sink has of each pane nothing, or just the row that becomes due on the leg's way
pub world_so_far : (w : WorldData) → IsWorld w → HasSnapshot w.given.plan w.given.input w.given.start → (q : Pane)
    → (filter (row_is_at q) (rows_in w) ≡ []) ⊎ (filter (row_is_at q) (rows_in w) ≡ option_to_list (due_between w.given.plan w.given.input.sources (offsets_of w.given.start) (cut_to w.given.input w.given.until) q))
world_so_far w world has q =
    let g = w.given in
    let given = world.sound.given in
    let led = led_by w.has_failed w world.sound world.reached in
    let begins = (tasks_have_snapshot g.plan g.layout g.input g.start g.saves g.until given.plan given.laid_out given.belongs given.starts has).0 in
    let same = ap (filter (row_is_at q)) (sym led.1) in
    elim (compiled_leg_so_far g.plan given.laid_out.scale g.input g.start.number (offsets_of g.start) g.saves g.until g.layout.stages (start_in g) given.plan given.laid_out.fits (compiled g given) given.input given.orderly given.belongs
    given.starts.cut (goes_to_cut g.input (offsets_of g.start) g.until given.stops) world.sound.start begins led.0 q) [
      | inl e ↦ inl (same ∙ e)
      | inr e ↦ inr (same ∙ e)
    ]
