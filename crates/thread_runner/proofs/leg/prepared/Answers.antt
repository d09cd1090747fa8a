use Rattle.std.proofs.Common.{◌≡◌, ℕ, List, map, length, drop, refl, sym, ap, subst, arith, ◌∙◌}
use Rattle.std.proofs.lemmas.List.{take_at, length-map}
use Rattle.stream_model.specs.declared.entry.Marked.{Marked}
use Rattle.dataflow_model.specs.Leg.{Until}
use Rattle.legs.specs.declared.cut.Cut.{Cut}
use Rattle.legs.specs.Stops.{counts_of, until_in}
use Rattle.redistribute.specs.StartData.{offsets_of}
use Rattle.redistribute.specs.Stopping.{CanSaveAt}
use Rattle.leg_tasks.specs.Beginning.{BeginLeg}
use Rattle.core_steps.specs.Given.{given_data, layout_in}
use Rattle.core_steps.specs.World.{IsSound}
use Rattle.core_steps.proofs.Legs.{begins}
use Rattle.core_steps.specs.Beginning.{AreNewTasks}
use Rattle.thread_runner.specs.declared.jobs.Job.{Job}
use Rattle.thread_runner.specs.Legs.{Wired, AreWired}
use Rattle.thread_runner.specs.Edges.{job_task}
use Rattle.task_steps.specs.TaskData.{TaskData}
use Rattle.thread_runner.proofs.LegLemmas.{wired_jobs}
use Rattle.thread_runner.proofs.leg.prepared.Goals as goal

-- the leg's savepoints are those that were given
saves_of : (sources : List (List (List Marked))) (begin : List (List ℕ)) (cuts given : List Cut) (until : Until) → cuts ≡ given → CanSaveAt sources begin (counts_of cuts) until → CanSaveAt sources begin (counts_of given) until
saves_of sources begin cuts given until same can = subst (λ cs. CanSaveAt sources begin (counts_of cs) until) same can

pub wire-requires-clause-edges : goal.wire-requires-clause-edges
wire-requires-clause-edges c = (c.layouts_have_edges-edges.ensures c.args.given.plan.now c.args.given.layout.now c.columns-columns.ensures.sound c.requires.laid_out).0

pub wire-requires-clause-rings : goal.wire-requires-clause-rings
wire-requires-clause-rings c = (c.layouts_have_edges-edges.ensures c.args.given.plan.now c.args.given.layout.now c.columns-columns.ensures.sound c.requires.laid_out).1

pub wire-requires-clause-count : goal.wire-requires-clause-count
wire-requires-clause-count c =
    let g = given_data c.args.given (until_in c.args.leg.now.until) in
    let s : IsSound g = c.each_leg_is_sound-sound.ensures g (record { plan = c.columns-columns.ensures.sound; input = c.sources-sources.ensures.sound; orderly = c.sources-sources.ensures.orderly; belongs = c.requires.belongs; laid_out = c.requires.laid_out; starts = c.requires.starts; stops = c.in_ok-tasks.ensures.stops; saves = saves_of g.input.sources (offsets_of g.start) c.args.leg.now.saves.now c.args.given.saves.now g.until c.requires.same c.in_ok-tasks.ensures.saves }) in
    let tasks = c.in_ok-tasks.tasks.items in
    let begin : BeginLeg g.plan g.input g.start g.layout.stages (layout_in g) tasks = begins g c.args.leg.now.number c.args.leg.now.saves.now c.args.given.saves.now tasks c.requires.number c.requires.same refl c.in_ok-tasks.ensures.begin in
    let new : AreNewTasks g tasks = c.tasks_begin_new-new.ensures g tasks s c.requires.belongs begin in
    let many = new.count in
    let made = ap (λ (l : List TaskData). length l) c.in_ok-jobs.ensures.0 in
    let long = length-map c.in_ok-jobs.jobs.items job_task in
    let here = ap (λ (l : List Job). length l) c.as_mut_slice.ensures.value in
    omega (arith, many, made, long, here)

pub returns-clause-sound : goal.returns-clause-sound
returns-clause-sound c =
    let g = given_data c.args.given (until_in c.args.leg.now.until) in
    c.each_leg_is_sound-sound.ensures g (record { plan = c.columns-columns.ensures.sound; input = c.sources-sources.ensures.sound; orderly = c.sources-sources.ensures.orderly; belongs = c.requires.belongs; laid_out = c.requires.laid_out; starts = c.requires.starts; stops = c.in_ok-tasks.ensures.stops; saves = saves_of g.input.sources (offsets_of g.start) c.args.leg.now.saves.now c.args.given.saves.now g.until c.requires.same c.in_ok-tasks.ensures.saves })

pub returns-clause-wired : goal.returns-clause-wired
returns-clause-wired c =
    let g = given_data c.args.given (until_in c.args.leg.now.until) in
    let s : IsSound g = c.each_leg_is_sound-sound.ensures g (record { plan = c.columns-columns.ensures.sound; input = c.sources-sources.ensures.sound; orderly = c.sources-sources.ensures.orderly; belongs = c.requires.belongs; laid_out = c.requires.laid_out; starts = c.requires.starts; stops = c.in_ok-tasks.ensures.stops; saves = saves_of g.input.sources (offsets_of g.start) c.args.leg.now.saves.now c.args.given.saves.now g.until c.requires.same c.in_ok-tasks.ensures.saves }) in
    let tasks = c.in_ok-tasks.tasks.items in
    let begin : BeginLeg g.plan g.input g.start g.layout.stages (layout_in g) tasks = begins g c.args.leg.now.number c.args.leg.now.saves.now c.args.given.saves.now tasks c.requires.number c.requires.same refl c.in_ok-tasks.ensures.begin in
    let new : AreNewTasks g tasks = c.tasks_begin_new-new.ensures g tasks s c.requires.belongs begin in
    let made : AreNewTasks g (map job_task c.in_ok-jobs.jobs.items) = subst (AreNewTasks g) (sym c.in_ok-jobs.ensures.0) new in
    let len : length c.wire.new.jobs ≡ c.in_ok-jobs.jobs.len = c.wire.auto.jobs ∙ c.as_mut_slice.ensures.len in
    let w : Wired g.layout.stages c.in_ok-jobs.jobs.items c.wire.new.jobs = subst (λ (l : List Job). Wired g.layout.stages l c.wire.new.jobs) c.as_mut_slice.ensures.value c.in_ok-wire.ensures in
    subst (AreWired g) (sym (take_at c.wire.new.jobs (drop (length c.wire.new.jobs) c.in_ok-jobs.jobs.items) c.in_ok-jobs.jobs.len len)) (wired_jobs g c.in_ok-jobs.jobs.items c.wire.new.jobs made w)
