use Rattle.std.proofs.Common.{bytes_eq, sym}
use Rattle.plan_model.specs.declared.spec.SourceSpec.{SourceSpec}
use Rattle.plan_model.specs.PlanData.{IsBound}
use Rattle.input_texts.proofs.Sources.{find_all}
use Rattle.input_texts.proofs.slots.bound_of.Goals as goal

pub returns-in-Some-clause-bounded : goal.returns-in-Some-clause-bounded
returns-in-Some-clause-bounded c =
    find_all (λ (s : SourceSpec). IsBound s.bound) (λ s. bytes_eq s.uid c.args.name.now) c.sources.result.now c.in-Some.source.now (sym c.in-Some.ensures) (rw c.sources.ensures.says c.sources.ensures.sound.bounded)
