-- What a leg by choices comes to.
use Rattle.std.proofs.Common.{◌≡◌, ◌∙◌, inl, inr, false, true, List, Some, Result, Ok, Err, IfOk, OnErr, OnOk, sym, ap, subst}
use Rattle.std.proofs.lemmas.Bool.{false≢true}
use Rattle.legs.specs.declared.choice.Choice.{Choice}
use Rattle.core_steps.specs.Finishing.{IsFinishIn}
use Rattle.core_steps.specs.Sealing.{IsSealed}
use Rattle.core_steps.specs.World.{WorldData, world_in}
use Rattle.core_steps.specs.declared.finish.Finish.{Finish}
use Rattle.core_steps.specs.declared.finish.Finish.TheVariants.{Ended, Stopped, Abandoned}
use Rattle.core_steps.specs.declared.sealing.Sealed.{Sealed}
use Rattle.leg_runs.specs.Choosing.{EndsBy, FailsBy, GivesUp, MakesThen}

pub so_far : {X E : Type 0} (r : Result X E) (P Q : Type 0) → (P → Q) → OnOk r P → OnOk r Q
so_far (Ok x) P Q f h = f h
so_far (Err e) P Q f h = tt

pub ended_by : (choices : List Choice) (old new : WorldData) (finish : Finish) → MakesThen choices old new → IsFinishIn new finish → EndsBy choices old finish
ended_by choices old new (Ended rows sealed) made is = (new, made, is)
ended_by choices old new (Stopped rows savepoint) made is = (new, made, is)
ended_by choices old new (Abandoned sealed) made is = absurd is

pub so_refused : {X E : Type 0} (r : Result X E) (P Q : Type 0) → (P → Q) → OnErr r P → OnErr r Q
so_refused (Ok x) P Q f h = tt
so_refused (Err e) P Q f h = f h

-- a world that fails where choices are followed was refused memory for a step that one of them picks
pub fails_so : (choices : List Choice) (old new : WorldData) → old.has_failed ≡ false → FailsBy choices old new → new.has_failed ≡ true → GivesUp choices old new
fails_so choices old new going (inl same) failed = absurd (false≢true (sym going ∙ sym (ap (λ (w : WorldData). w.has_failed) same) ∙ failed))
fails_so choices old new going (inr at) failed = inl at

-- a leg that is given up has ended by its choices
pub given_by : {E : Type 0} (choices : List Choice) (old new : WorldData) (r : Result Finish E) → (new.has_failed ≡ true → GivesUp choices old new) → OnOk r (new.has_failed ≡ true)
    → IfOk r (λ finish. (sealed : Sealed) × (finish ≡ Abandoned sealed) × IsSealed new.given (world_in new).tasks (Some sealed)) → IfOk r (EndsBy choices old)
given_by choices old new (Ok finish) gives failed is = subst (EndsBy choices old) (sym is.1) (new, gives failed, is.2)
given_by choices old new (Err e) gives failed is = tt
