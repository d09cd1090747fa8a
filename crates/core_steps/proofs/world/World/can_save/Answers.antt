use Rattle.std.proofs.Common.{◌<◌, length, get_or, ap, subst, ◌∙◌, arith}
use Rattle.dataflow_laws.specs.declared.step.Step.TheVariants.{Save}
use Rattle.core_steps.specs.World.{world_view}
use Rattle.core_steps.proofs.Enabled.{none_there, save_enabled}
use Rattle.core_steps.proofs.world.World.can_save.Goals as goal

pub returns-in_default : goal.returns-in_default
returns-in_default c =
    let few = c.in_default.ensures.lookup.3 in
    let long = ap length c.deref.ensures.value in
    none_there (Save c.args.task) (world_view c.self.inside) c.args.self.now c.self.invariant c.self.view_is (omega (arith, long, few))

pub returns : goal.returns
returns c =
    let l = subst (λ xs. c.args.task < length xs) c.deref.ensures.value c.in-Some.ensures.lookup.3.0 in
    let is = c.in-Some.ensures.lookup.1 ∙ ap (λ xs. get_or xs c.args.task c.in-Some.source.now) c.deref.ensures.value in
    save_enabled (world_view c.self.inside) c.args.self.now c.args.task c.in-Some.source.now c.can_save.result c.self.invariant l is c.self.view_is c.can_save.ensures
