use Rattle.std.proofs.Common.{◌≡◌, ℕ, suc, ◌+◌, Bool, false, true, List, length, refl, sym, ap, subst, ◌∙◌, arith}
use Rattle.std.specs.Prelude.{IfSome, nat_lt, slice_index_or}
use Rattle.std.proofs.lemmas.List.{length-map}
use Rattle.dataflow_model.specs.State.{State}
use Rattle.legs.specs.declared.cut.Cut.{Cut}
use Rattle.legs.specs.Stops.{until_in}
use Rattle.task_setups.specs.Legs.{counts_of}
use Rattle.task_steps.specs.TaskData.{TaskData}
use Rattle.task_steps.specs.declared.seen.Moment.TheVariants.{Now}
use Rattle.leg_tasks.specs.Leaving.{CanSave}
use Rattle.core_steps.specs.declared.finish.Finish.TheVariants.{Ended, Stopped}
use Rattle.core_steps.specs.Given.{GivenData, begun_data, layout_in}
use Rattle.core_steps.specs.World.{state_at}
use Rattle.core_steps.specs.Finishing.{AreAtEnd, has_stopped, number_after}
use Rattle.core_steps.specs.Sealing.{AreOnTheWay, IsSealOf, IsSealed}
use Rattle.core_steps.proofs.Sound.{sound}
use Rattle.core_steps.proofs.Ending.{can_save, ended_is, numbered, of_sink, own_panes, stopped_is}
use Rattle.core_steps.proofs.Delivered.{gone, stopped_of, whole_run}
use Rattle.core_steps.proofs.OnWay.{at_end_on_way, sealed_last}
use Rattle.core_steps.proofs.finish.finish_of.Goals as goal

-- the number of the savepoint, as it is counted
number_of : (number : ℕ) (saves : List Cut) (n k : ℕ) → n ≡ number → k ≡ length saves → n + k + 1 ≡ number_after number (counts_of saves)
number_of number saves n k is many =
    let same = length-map saves (λ (cut : Cut). cut.counts) in
    let all : n + k + 1 ≡ number + length (counts_of saves) + 1 = omega (arith, is, many, same) in
    all ∙ numbered number (counts_of saves)

-- the sink tells whether the leg has stopped
sink_tells : (g : GivenData) (saves : List Cut) (tasks given : List TaskData) (b c : Bool) → AreAtEnd g tasks → counts_of saves ≡ g.saves → given ≡ tasks → c ≡ b → ((t : ℕ) (d : TaskData) → suc t ≡ length given → c ≡ nat_lt (length saves) (slice_index_or given t d).state.next)
    → has_stopped g (state_at g tasks) ≡ b
sink_tells g saves tasks given b c at are same is told =
    let many : length saves ≡ length g.saves = sym (length-map saves (λ (cut : Cut). cut.counts)) ∙ ap length are in
    let here : (t : ℕ) (d : TaskData) → suc t ≡ length tasks → c ≡ nat_lt (length saves) (slice_index_or tasks t d).state.next = subst (λ ts. (t : ℕ) (d : TaskData) → suc t ≡ length ts → c ≡ nat_lt (length saves) (slice_index_or ts t d).state.next) same told in
    sym (of_sink (λ (x : State). nat_lt (length saves) x.next) c g tasks at here ∙ (λ j. nat_lt (many j) (state_at g tasks (layout_in g).sink).next)) ∙ is

pub has_stopped-requires : goal.has_stopped-requires
has_stopped-requires c =
    let g = begun_data c.args.given.now (until_in c.args.until.now) in
    let one = (sound g c.requires.ended.given).count in
    let two = c.requires.count in
    let same = ap (λ (ts : List TaskData). length ts) c.as_slice.ensures.value in
    omega (arith, one, two, same)

pub sink_rows-requires : goal.sink_rows-requires
sink_rows-requires c =
    let g = begun_data c.args.given.now (until_in c.args.until.now) in
    let one = (sound g c.requires.ended.given).count in
    let two = c.requires.count in
    omega (arith, one, two)

pub sink_rows-rows-requires : goal.sink_rows-rows-requires
sink_rows-rows-requires c =
    let g = begun_data c.args.given.now (until_in c.args.until.now) in
    let one = (sound g c.requires.ended.given).count in
    let two = c.requires.count in
    omega (arith, one, two)

pub sealed_of-requires : goal.sealed_of-requires
sealed_of-requires c =
    let g = begun_data c.args.given.now (until_in c.args.until.now) in
    subst (AreOnTheWay g) (sym c.as_slice-then-not-has_stopped.ensures.value) (at_end_on_way g c.args.tasks.items c.requires)

pub parts_left-requires-clause-tasks : goal.parts_left-requires-clause-tasks
parts_left-requires-clause-tasks c =
    let g = begun_data c.args.given.now (until_in c.args.until.now) in
    let r = c.requires in
    subst (CanSave g.plan g.layout.stages Now) (sym c.as_slice-2.ensures.value) (can_save g r.ended.given c.args.tasks.items r.count r.placed Now (own_panes g (state_at g c.args.tasks.items) r.ended))

pub returns-then-not-has_stopped-clause-is : goal.returns-then-not-has_stopped-clause-is
returns-then-not-has_stopped-clause-is c =
    let g = begun_data c.args.given.now (until_in c.args.until.now) in
    let goes_on = sink_tells g c.args.given.now.saves.now c.args.tasks.items _ false c.has_stopped.result c.requires refl c.as_slice.ensures.value c.if-not-has_stopped.true c.has_stopped.ensures in
    let sealed = subst (λ (ts : List TaskData). IsSealed g (state_at g ts) c.in_ok-sealed.sealed) c.as_slice-then-not-has_stopped.ensures.value c.in_ok-sealed.ensures.is in
    ended_is g c.args.tasks.items c.requires c.sink_rows.result c.sink_rows.ensures goes_on c.in_ok-sealed.sealed sealed

pub returns-then-not-has_stopped-clause-ends : goal.returns-then-not-has_stopped-clause-ends
returns-then-not-has_stopped-clause-ends c =
    let g = begun_data c.args.given.now (until_in c.args.until.now) in
    let states = state_at g c.args.tasks.items in
    let is = returns-then-not-has_stopped-clause-is c in
    let exact = subst (λ (ts : List TaskData). IfSome c.in_ok-sealed.sealed (IsSealOf g (state_at g ts))) c.as_slice-then-not-has_stopped.ensures.value c.in_ok-sealed.ensures.exact in
    (gone g states c.requires.ended false c.sink_rows.result is.0 is.1, sealed_last g states c.requires.ended is.0 c.in_ok-sealed.sealed is.2 exact)

pub returns-then-not-has_stopped-clause-whole : goal.returns-then-not-has_stopped-clause-whole
returns-then-not-has_stopped-clause-whole c = λ nothing ends.
    let g = begun_data c.args.given.now (until_in c.args.until.now) in
    whole_run g (state_at g c.args.tasks.items) c.requires.ended (Ended c.sink_rows.result c.in_ok-sealed.sealed) (returns-then-not-has_stopped-clause-is c) nothing ends

pub returns-clause-is : goal.returns-clause-is
returns-clause-is c =
    let g = begun_data c.args.given.now (until_in c.args.until.now) in
    let stopped = sink_tells g c.args.given.now.saves.now c.args.tasks.items _ true c.has_stopped.result c.requires refl c.as_slice.ensures.value c.if-not-has_stopped.false c.has_stopped.ensures in
    stopped_is g c.args.tasks.items c.requires c.sink_rows-rows.result c.sink_rows-rows.ensures c.in_ok-savepoint.savepoint _ _ c.as_slice-2.ensures.value (λ states have. c.in_ok-savepoint.ensures states (c.in_ok-parts.ensures.says states have)) (number_of g.start.number c.args.given.now.saves.now _ _ c.args.given.now.numbered refl) stopped

pub returns-clause-ends : goal.returns-clause-ends
returns-clause-ends c =
    let g = begun_data c.args.given.now (until_in c.args.until.now) in
    stopped_of g (state_at g c.args.tasks.items) c.requires.ended c.sink_rows-rows.result c.in_ok-savepoint.savepoint (returns-clause-is c)

pub returns-clause-whole : goal.returns-clause-whole
returns-clause-whole c = λ nothing ends.
    let g = begun_data c.args.given.now (until_in c.args.until.now) in
    whole_run g (state_at g c.args.tasks.items) c.requires.ended (Stopped c.sink_rows-rows.result c.in_ok-savepoint.savepoint) (returns-clause-is c) nothing ends
