-- What all opening states have.
use Rattle.std.proofs.Common.{◌≡◌, length, refl, sym, ap, subst, ◌∙◌, replicate, [], false}
use Rattle.plan_model.specs.PlanData.{PlanData}
use Rattle.input_state.specs.declared.inputs.Shut.TheVariants.{Free}
use Rattle.dataflow_model.specs.declared.role.Role.{Role}
use Rattle.dataflow_model.specs.declared.role.Role.TheVariants.{Source, Chain, Window, Sink}
use Rattle.dataflow_model.specs.AbstractTask.{AbstractTask}
use Rattle.dataflow_model.specs.State.{State}
use Rattle.dataflow_model.specs.Opening.{IsOpening}

pub record IsFresh (k : AbstractTask) (s : State) : Type 0 where
  pub pending : s.pending ≡ []
  pub over : s.over ≡ false
  pub taken : s.taken ≡ 0
  pub next : s.next ≡ 0
  pub shut : s.inputs.shut ≡ replicate k.inputs Free

fresh_as : (k : AbstractTask) (s t : State) → s ≡ t → IsFresh k t → IsFresh k s
fresh_as k s t e f = subst (IsFresh k) (sym e) f

pub fresh : (p : PlanData) (r : Role) (k : AbstractTask) (s : State) → IsOpening p r k s → IsFresh k s
fresh p Source k s o = fresh_as k s _ o.is (record { pending = refl; over = refl; taken = refl; next = refl; shut = refl })
fresh p Chain k s o = fresh_as k s _ o (record { pending = refl; over = refl; taken = refl; next = refl; shut = refl })
fresh p Window k s o = fresh_as k s _ o.1 (record { pending = refl; over = refl; taken = refl; next = refl; shut = refl })
fresh p Sink k s o = fresh_as k s _ o (record { pending = refl; over = refl; taken = refl; next = refl; shut = refl })

pub long_offsets : (p : PlanData) (k : AbstractTask) (s : State) → IsOpening p k.role k s → k.role ≡ Source → length s.offsets ≡ k.inputs
long_offsets p k s o a = let f : IsOpening p Source k s = subst (λ r. IsOpening p r k s) a o in ap (λ (x : State). length x.offsets) f.is ∙ f.length_offsets
