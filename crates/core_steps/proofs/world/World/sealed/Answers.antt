use Rattle.std.proofs.Common.{◌≡◌, ℕ, true, List, Result, Ok, Err, IfOk, sym, subst}
use Rattle.std.specs.Prelude.{IfSome}
use Rattle.dataflow_model.specs.State.{State}
use Rattle.task_steps.specs.TaskData.{TaskData}
use Rattle.core_steps.specs.Given.{GivenData}
use Rattle.core_steps.specs.Sealing.{AreOnTheWay, IsSealOf, IsSealed}
use Rattle.core_steps.specs.Ending.{HasSealed}
use Rattle.core_steps.specs.World.{WorldData, world_in, world_view, state_at}
use Rattle.core_steps.proofs.OnWay.{before_failing, sealed_on_way}
use Rattle.core_steps.proofs.Sealings.{world_on_the_way}
use Rattle.core_steps.proofs.world.World.sealed.Goals as goal

pub sealed_of-requires : goal.sealed_of-requires
sealed_of-requires c =
    let w = world_view c.self.inside in
    subst (λ (g : GivenData). AreOnTheWay g c.as_slice.result.now) (sym (c.begun.ensures w.given.until)) (subst (AreOnTheWay w.given) (sym c.as_slice.ensures.value) (world_on_the_way w c.self.invariant))

-- what was said of a world's tasks, of whatever it was told to be given
said : (P : GivenData → (ℕ → State) → Type 0) (g given : GivenData) (tasks shown : List TaskData) → given ≡ g → shown ≡ tasks → P given (state_at given shown) → P g (state_at g tasks)
said P g given tasks shown is value h = subst (λ (ts : List TaskData). P g (state_at g ts)) value (subst (λ (x : GivenData). P x (state_at x shown)) is h)

pub returns-clause-is : goal.returns-clause-is
returns-clause-is c =
    let v = world_view c.self.inside in
    subst (λ (w : WorldData). IfOk c.sealed_of.result (IsSealed w.given (world_in w).tasks)) c.self.view_is
    (said (λ g states. IfOk c.sealed_of.result (IsSealed g states)) v.given _ v.tasks c.as_slice.result.now (c.begun.ensures v.given.until) c.as_slice.ensures.value c.sealed_of.ensures.is)

pub returns-clause-exact : goal.returns-clause-exact
returns-clause-exact c =
    let v = world_view c.self.inside in
    subst (λ (w : WorldData). IfOk c.sealed_of.result (λ answer. IfSome answer (IsSealOf w.given (world_in w).tasks))) c.self.view_is
    (said (λ g states. IfOk c.sealed_of.result (λ answer. IfSome answer (IsSealOf g states))) v.given _ v.tasks c.as_slice.result.now (c.begun.ensures v.given.until) c.as_slice.ensures.value c.sealed_of.ensures.exact)

-- what is so of two things that an answer is
both : {X E : Type 0} (r : Result X E) (P Q R : X → Type 0) → ((x : X) → P x → Q x → R x) → IfOk r P → IfOk r Q → IfOk r R
both (Ok x) P Q R f p q = f x p q
both (Err e) P Q R f p q = tt

pub returns-clause-on_the_way : goal.returns-clause-on_the_way
returns-clause-on_the_way c =
    let v = world_view c.self.inside in
    let g = v.given in
    let is = said (λ g states. IfOk c.sealed_of.result (IsSealed g states)) g _ v.tasks c.as_slice.result.now (c.begun.ensures g.until) c.as_slice.ensures.value c.sealed_of.ensures.is in
    let exact = said (λ g states. IfOk c.sealed_of.result (λ answer. IfSome answer (IsSealOf g states))) g _ v.tasks c.as_slice.result.now (c.begun.ensures g.until) c.as_slice.ensures.value c.sealed_of.ensures.exact in
    subst (λ (w : WorldData). w.has_failed ≡ true → IfOk c.sealed_of.result (λ answer. IfSome answer (HasSealed w.given.plan w.given.input w.given.start w.given.saves))) c.self.view_is
    (λ failed. both c.sealed_of.result (IsSealed g (state_at g v.tasks)) (λ answer. IfSome answer (IsSealOf g (state_at g v.tasks))) (λ answer. IfSome answer (HasSealed g.plan g.input g.start g.saves))
    (λ answer sealed seal. sealed_on_way g (state_at g v.tasks) answer (before_failing v.has_failed v c.self.invariant.sound c.self.invariant.built c.self.invariant.reached failed) sealed seal)
    is exact)
