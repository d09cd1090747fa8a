use Rattle.std.proofs.Common.{rules, ◌≡◌, ◌<◌, ◌^◌, ◌+◌, ◌-◌, ℕ, zero, suc, length, refl, sym, ap, subst, ◌∙◌, arith}
use Rattle.std.proofs.lemmas.List.{length-map}
use Rattle.dataflow_laws.specs.Kept.{kept_state, HaveAligned}
use Rattle.legs.specs.declared.cut.Cut.{Cut}
use Rattle.legs.specs.Stops.{until_in}
use Rattle.task_steps.specs.declared.seen.Moment.TheVariants.{Barrier}
use Rattle.leg_tasks.specs.Leaving.{savepoint_left}
use Rattle.core_steps.specs.Given.{begun_data, layout_in}
use Rattle.core_steps.specs.World.{state_at}
use Rattle.core_steps.proofs.Ending.{can_save}
use Rattle.core_steps.proofs.Sealings.{all_tasks, few_passed, have_aligned, not_aligned, own_then, rows_of_sink, seal, sealed_at}
use Rattle.core_steps.proofs.sealing.sealed_of.Goals as goal

-- one that is not none is one more than another
one_more : (n : ℕ) → (n ≡ 0 → ⊥) → n ≡ suc (n - 1)
one_more zero some = absurd (some refl)
one_more (suc n) some = omega arith

pub barriers_passed-barrier-requires : goal.barriers_passed-barrier-requires
barriers_passed-barrier-requires c =
    let all = all_tasks (begun_data c.args.given.now (until_in c.args.until.now)) c.args.tasks.now c.requires in
    omega (arith, all)

pub rows_then-requires : goal.rows_then-requires
rows_then-requires c =
    let all = all_tasks (begun_data c.args.given.now (until_in c.args.until.now)) c.args.tasks.now c.requires in
    omega (arith, all)

pub returns-then-barrier-eq0-clause-is : goal.returns-then-barrier-eq0-clause-is
returns-then-barrier-eq0-clause-is c =
    let g = begun_data c.args.given.now (until_in c.args.until.now) in
    let none : c.barriers_passed-barrier.result ≡ 0 = search rules in
    λ all. not_aligned g c.args.tasks.now c.requires c.barriers_passed-barrier.result c.barriers_passed-barrier.ensures (subst (λ n. HaveAligned (layout_in g) n (state_at g c.args.tasks.now)) (sym none) all)

pub overflow_add-given : goal.overflow_add-given
overflow_add-given c =
    let g = begun_data c.args.given.now (until_in c.args.until.now) in
    let few = few_passed g c.args.tasks.now c.requires c.barriers_passed-barrier.result c.barriers_passed-barrier.ensures in
    let same = length-map c.args.given.now.saves.now (λ (cut : Cut). cut.counts) in
    let low = c.requires.given.starts.number in
    let is = c.args.given.now.numbered in
    let short : length c.args.given.now.saves.now < 2 ^ 63 = search rules in
    omega (arith, few, same, low, is, short)

pub save-requires-clause-tasks : goal.save-requires-clause-tasks
save-requires-clause-tasks c =
    let g = begun_data c.args.given.now (until_in c.args.until.now) in
    let n = c.barriers_passed-barrier.result in
    let is : n ≡ suc (n - 1) = one_more n c.if-barrier-eq0.false in
    let aligned = have_aligned g c.args.tasks.now c.requires n (n - 1) c.barriers_passed-barrier.ensures (omega (arith, is)) in
    can_save g c.requires.given c.args.tasks.now c.requires.count c.requires.placed (Barrier (n - 1)) (own_then g c.requires.given (state_at g c.args.tasks.now) c.requires.come (n - 1) aligned)

pub returns-clause-is : goal.returns-clause-is
returns-clause-is c =
    let g = begun_data c.args.given.now (until_in c.args.until.now) in
    let n = c.barriers_passed-barrier.result in
    let is : n ≡ suc (n - 1) = one_more n c.if-barrier-eq0.false in
    (n - 1, sealed_at g c.args.tasks.now c.requires n (n - 1) c.barriers_passed-barrier.ensures is _ refl (rows_of_sink g c.args.tasks.now c.requires (n - 1) c.in_ok-rows.rows c.in_ok-rows.ensures) (λ states have. c.in_ok-savepoint.ensures states have ∙ ap (λ k. savepoint_left g.plan g.layout.stages (λ t. kept_state (n - 1) (states t)) (k + n)) c.args.given.now.numbered))

pub returns-clause-exact : goal.returns-clause-exact
unfolding returns-clause-is
returns-clause-exact c =
    let g = begun_data c.args.given.now (until_in c.args.until.now) in
    let n = c.barriers_passed-barrier.result in
    let is : n ≡ suc (n - 1) = one_more n c.if-barrier-eq0.false in
    let aligned = have_aligned g c.args.tasks.now c.requires n (n - 1) c.barriers_passed-barrier.ensures (omega (arith, is)) in
    seal g c.requires.given (state_at g c.args.tasks.now) c.requires.come (n - 1) aligned _ (returns-clause-is c).1
