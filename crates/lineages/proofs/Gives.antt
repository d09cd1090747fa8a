-- What a leg gives, whether it has ended or was given up.
use Rattle.std.proofs.Common.{◌≡◌, ◌∙◌, ℕ, ◌+◌, ◌<◌, ◌≤◌, Bool, true, false, List, [], length, inl, inr, refl, sym, ap, subst, arith, if◌then◌else◌}
use Rattle.std.specs.Prelude.{slice_index_or}
use Rattle.std.proofs.lemmas.Bool.{cases_lt}
use Rattle.plan_model.specs.PlanData.{PlanData}
use Rattle.plan_model.specs.Rows.{AreRowsOf}
use Rattle.stream_model.specs.InputData.{InputData}
use Rattle.stream_model.specs.Watermarks.{IsBefore, IsCut, IsOrderly}
use Rattle.dataflow_model.specs.Ending.{may_stop}
use Rattle.dataflow_model.specs.Leg.{Until, ending_of}
use Rattle.dataflow_model.specs.State.{State}
use Rattle.dataflow_laws.specs.Compiled.{cut_to}
use Rattle.dataflow_laws.specs.Inputs.{due_between}
use Rattle.dataflow_laws.proofs.Facts.{kept_is_counted}
use Rattle.plan_compiler.specs.LayoutData.{LayoutData}
use Rattle.legs.specs.declared.cut.Cut.{Cut}
use Rattle.legs.specs.declared.stop.Stop.{Stop}
use Rattle.legs.specs.declared.stop.Stop.TheVariants.{Never, At}
use Rattle.legs.specs.Requirements.{stops}
use Rattle.legs.specs.Stops.{until_of}
use Rattle.redistribute.specs.Begins.{HasSnapshot, IsStartIn}
use Rattle.redistribute.specs.StartData.{StartData, offsets_of}
use Rattle.leg_tasks.specs.Saved.{IsSavedAt}
use Rattle.core_steps.specs.declared.sealing.Sealed.{Sealed}
use Rattle.core_steps.specs.Given.{GivenData, layout_in, start_in}
use Rattle.core_steps.specs.World.{IsGiven, state_at, world_in}
use Rattle.core_steps.specs.Finishing.{HasEnded, has_stopped, number_after}
use Rattle.core_steps.specs.Sealing.{HasCome, IsBarrierCut, IsSealOf, IsSealedAt}
use Rattle.core_steps.proofs.Delivered.{at_its_end, cut, delivers, saves as leg_saves}
use Rattle.core_steps.proofs.Ending.{comes, never_asked, numbered, stops_so, world_has_ended}
use Rattle.core_steps.proofs.Sealings.{seal, world_on_the_way}
use Rattle.core_steps.proofs.Sound.{sound}
use Rattle.lineages.specs.Lineage.{FinishedIsLeg, Gives, GivesSealed, LegEnd, LegsTakeTheirSavepoints, TasksAreLeg, TasksGiveUp, WorldsGiveUp, given_of, leg_rows, leg_savepoint, savepoints_of}
use Rattle.lineages.specs.Lineage.LegEnd.{ended, given_up}
use Rattle.lineages.specs.Lineage.Gives.{ends, gives_up}
use Rattle.lineages.proofs.Changes.{AreFit}

-- ---- legs that have ended

pub finished_is_leg : FinishedIsLeg
finished_is_leg p i s saves stop w way done =
    let same = way.given in
    let done_there = world_has_ended w way.world done in
    record {
      layout = way.layout;
      states = (world_in w).tasks;
      is = ap (λ (g : GivenData). ended g (world_in w).tasks) same;
      has_ended = subst (λ (g : GivenData). HasEnded g (world_in w).tasks) same done_there;
    }

-- what a leg was told, where it is asked for no stop
told : (g : GivenData) (stop : Stop) → g.until ≡ until_of stop → g ≡ given_of g.plan g.input g.start g.layout g.saves stop
told g stop goes = ap (λ (u : Until). record g { until = u }) goes

pub tasks_are_leg : TasksAreLeg
tasks_are_leg g stop tasks goes at =
    let same = told g stop goes in
    record {
      layout = g.layout;
      states = state_at g tasks;
      is = ap (λ (h : GivenData). ended h (state_at g tasks)) same;
      has_ended = subst (λ (h : GivenData). HasEnded h (state_at g tasks)) same at.ended;
    }

-- ---- what a leg gives

pub record Delivers (p : PlanData) (i : InputData) (s : StartData) (stop : Stop) (e : LegEnd) : Type 0 where
  pub fit : AreFit p i
  pub starts : IsStartIn p i s
  pub no_earlier : IsBefore (offsets_of s) (cut_to i (until_of stop))
  pub is_cut : IsCut i.sources (cut_to i (until_of stop))
  pub rows : HasSnapshot p i s → AreRowsOf (due_between p i.sources (offsets_of s) (cut_to i (until_of stop))) (leg_rows e)
  pub saved : HasSnapshot p i s → (cut : Cut) → stop ≡ At cut → IsSavedAt p i cut.counts (s.number + savepoints_of e) (leg_savepoint e)

taken : (number : ℕ) (saves : List (List (List ℕ))) (has : Bool) → has ≡ true → number_after number saves ≡ number + (length saves + (if has then 1 else 0))
taken number saves true e = sym (numbered number saves) ∙ omega (arith)
taken number saves false e = absurd cc

-- the barrier of a stop
abbrev stop_barriers : Stop → ℕ
stop_barriers stop = if may_stop (ending_of (until_of stop)) then 1 else 0

module _ (p : PlanData) (i : InputData) (s : StartData) (l : LayoutData) (saves : List (List (List ℕ))) (stop : Stop) where
  abbrev g : GivenData
  g = given_of p i s l saves stop

  pub fit_of : IsGiven g → AreFit p i
  fit_of given = record { plan = given.plan; input = given.input; orderly = subst (λ t. IsOrderly t i.sources) given.belongs.time given.orderly; belongs = given.belongs }

  module _ (states : ℕ → State) (done : HasEnded g states) where
    -- where it has come to
    there : cut g states done ≡ cut_to i (until_of stop)
    there = at_its_end g states done (never_asked stop)

    stopped_so : has_stopped g states ≡ stops stop
    stopped_so = stops_so i (offsets_of s) stop (has_stopped g states) (cut g states done) (comes g states done)

    ended_delivers : Delivers p i s stop (ended g states)
    ended_delivers =
        let to = comes g states done in
        record {
          fit = fit_of done.given;
          starts = done.given.starts;
          no_earlier = subst (IsBefore (offsets_of s)) there to.no_earlier;
          is_cut = subst (IsCut i.sources) there to.is_cut;
          rows = λ has. subst (λ c. AreRowsOf (due_between p i.sources (offsets_of s) c) (leg_rows (ended g states))) there (delivers g states done has);
          saved = λ has end same.
              let number = taken s.number saves (has_stopped g states) (stopped_so ∙ ap stops same) in
              let at = subst (λ n. IsSavedAt p i (cut g states done) n (leg_savepoint (ended g states))) number (leg_saves g states done has) in
              subst (λ c. IsSavedAt p i c (s.number + savepoints_of (ended g states)) (leg_savepoint (ended g states))) (there ∙ ap (λ x. cut_to i (until_of x)) same) at;
        }

  module _ (given : IsGiven g) (states : ℕ → State) (come : HasCome g states) (m : ℕ) (x : Sealed) (is : IsSealedAt g states m x) where
    its_seal : IsSealOf g states x
    its_seal = seal g given states come m is.aligned x is

    its_barrier : its_seal.passed ≡ m
    its_barrier = let one = its_seal.barrier in let two = is.barrier in omega (arith, one, two)

    -- where it was to go to the end no barrier comes after those on its way
    few_to_end : stop ≡ Never → m < length saves
    few_to_end never =
        let sunk = is.aligned (layout_in g).sink (omega arith) in
        let same = ap (λ (d : State). d.next) (come.ends (layout_in g).sink) in
        let few = (kept_is_counted g.plan (layout_in g) (start_in g) (sound g given).layout (sound g given).start come.history (layout_in g).sink (omega arith)).passed in
        let none : stop_barriers stop ≡ 0 = ap stop_barriers never in
        omega (arith, sunk, same, few, none)

    same_cut : (end : Cut) → IsBarrierCut g m end.counts → its_seal.cut ≡ end.counts
    same_cut end at = elim (cases_lt m (length saves)) [
      | inl few ↦ its_seal.is_cut.on_the_way (omega (arith, few, its_barrier)) ∙ ap (λ n. slice_index_or saves n []) its_barrier ∙ sym (at.on_the_way few)
      | inr past ↦ at_its_stop stop refl past
    ]
      where
        at_its_stop : (x : Stop) → stop ≡ x → length saves ≤ m → its_seal.cut ≡ end.counts
        at_its_stop Never same past = absurd (let few = few_to_end same in omega (arith, few, past))
        at_its_stop (At last) same past = its_seal.is_cut.at_the_stop last.counts (omega (arith, past, its_barrier)) (ap until_of same) ∙ sym (at.at_the_stop last.counts past (ap until_of same))

    pub sealed_delivers : (end : Cut) → IsBarrierCut g m end.counts → Delivers p i s (At end) (given_up x)
    sealed_delivers end at =
        let there = same_cut end at in
        record {
          fit = fit_of given;
          starts = given.starts;
          no_earlier = at.no_earlier;
          is_cut = at.is_cut;
          rows = λ has. subst (λ c. AreRowsOf (due_between p i.sources (offsets_of s) c) x.rows) there (its_seal.delivered has);
          saved = λ has other same. subst (λ c. IsSavedAt p i c (s.number + x.barrier) x.savepoint) (there ∙ ap (λ y. cut_to i (until_of y)) same) (its_seal.saved has);
        }

    gives_sealed : GivesSealed g x
    gives_sealed =
        let at : IsBarrierCut g m its_seal.cut = subst (λ n. IsBarrierCut g n its_seal.cut) its_barrier its_seal.is_cut in
        record {
          passed = m;
          barrier = is.barrier;
          cut = record { counts = its_seal.cut };
          is_cut = at;
          gives = gives_up stop (record { counts = its_seal.cut }) given come is at;
        }

pub gives : (p : PlanData) (i : InputData) (s : StartData) (stop : Stop) (e : LegEnd) → Gives p i s stop e → Delivers p i s stop e
gives p i s stop e (ends {saves = saves} leg) = subst (Delivers p i s stop) (sym leg.is) (ended_delivers p i s leg.layout saves stop leg.states leg.has_ended)
gives p i s (At end) (given_up x) (gives_up {layout = l} {saves = saves} {states = states} {m = m} stop _ given come is at) = sealed_delivers p i s l saves stop given states come m x is end at

pub take_theirs : LegsTakeTheirSavepoints
take_theirs p i s saves stop e leg =
    ap savepoints_of leg.is ∙ ap (λ (has : Bool). length saves + (if has then 1 else 0)) (stopped_so p i s leg.layout saves stop leg.states leg.has_ended)

-- ---- legs that were given up

pub tasks_give_up : TasksGiveUp
tasks_give_up g stop tasks x goes on (m, is) =
    let states = state_at g tasks in
    let here : IsGiven (given_of g.plan g.input g.start g.layout g.saves stop) → HasCome (given_of g.plan g.input g.start g.layout g.saves stop) states → IsSealedAt (given_of g.plan g.input g.start g.layout g.saves stop) states m x
    → GivesSealed (given_of g.plan g.input g.start g.layout g.saves stop) x = λ given come sealed. gives_sealed g.plan g.input g.start g.layout g.saves stop given states come m x sealed in
    (subst (λ (h : GivenData). IsGiven h → HasCome h states → IsSealedAt h states m x → GivesSealed h x) (sym (told g stop goes)) here) on.given on.come is

pub worlds_give_up : WorldsGiveUp
worlds_give_up p i s saves stop w x way (m, is) =
    let g = given_of p i s way.layout saves stop in
    let states = (world_in w).tasks in
    let on = world_on_the_way w way.world in
    (subst (λ (h : GivenData). IsGiven h → HasCome h states → IsSealedAt h states m x → GivesSealed g x) (sym way.given) (λ given come sealed. gives_sealed p i s way.layout saves stop given states come m x sealed)) on.given on.come is
