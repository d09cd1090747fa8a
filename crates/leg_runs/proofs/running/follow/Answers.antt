use Rattle.std.proofs.Common.{refl, sym, ap, subst, ◌∙◌}
use Rattle.core_steps.specs.Given.{GivenData}
use Rattle.leg_runs.specs.Choosing.{AreCounts, IsRecounted}
use Rattle.leg_runs.specs.Choosing.MakesEach.{start}
use Rattle.leg_runs.proofs.Standing.{counts_stay}
use Rattle.leg_runs.proofs.Following.{made_more, fails_at, written_over}
use Rattle.leg_runs.proofs.running.follow.Goals as goal

pub loop-choice-init : goal.loop-choice-init
loop-choice-init c = (refl, c.requires.going, λ same. (c.in_ok-counts.ensures, start))

pub loop-choice-preserved : goal.loop-choice-preserved
loop-choice-preserved c =
    let w = c.loop-choice.world in
    let v = c.apply.new.self in
    let l = c.args.layout.now in
    let counts = c.loop-choice.counts.items in
    let made = c.in-Ok.ensures in
    let anew : IsRecounted v l c.task.result c.other_end-other.result counts c.note.new.counts = subst (λ xs. IsRecounted v l c.task.result c.other_end-other.result xs c.note.new.counts) c.deref_mut.ensures.value c.note.ensures in (
      made.2 ∙ c.loop-choice.invariant.0,
      made.1,
      λ same.
          let so = c.loop-choice.invariant.2 same in
          let here = same ∙ sym (ap (λ (g : GivenData). g.layout) c.loop-choice.invariant.0) in
          let all = counts_stay w v l c.in-Some.step c.task.result c.other_end-other.result counts c.note.new.counts made.2 made.3 (c.other_end-other.ensures here) c.task.ensures so.0 anew in (
            subst (AreCounts v l) (sym (written_over c.note.new.counts counts c.loop-choice.counts.len anew.all c.loop-choice.counts.ok.0)) all,
            made_more c.args.world.now w v l c.args.choices.now c.loop-choice.choice-index _ c.in-Some.step c.loop-choice-test.true here made.2 (c.in-Some.ensures.is (subst (AreCounts w l) (sym c.deref.ensures.value) so.0)) made.3 so.1,
          ),
    )

pub returns-in-Err-clause-fails : goal.returns-in-Err-clause-fails
returns-in-Err-clause-fails c same =
    let w = c.loop-choice.world in
    let l = c.args.layout.now in
    let so = c.loop-choice.invariant.2 same in
    let here = same ∙ sym (ap (λ (g : GivenData). g.layout) c.loop-choice.invariant.0) in
    fails_at c.args.world.now w c.apply.new.self l c.args.choices.now c.loop-choice.choice-index _ c.in-Some.step c.in-Err.field-0 c.loop-choice-test.true here c.loop-choice.invariant.1 c.in-Some.ensures.can
    (c.in-Some.ensures.is (subst (AreCounts w l) (sym c.deref.ensures.value) so.0)) c.in-Err.ensures so.1
