-- A task has no steps but those that are looked for.
use Rattle.std.proofs.Common.{◌≡◌, ℕ, ◌<◌, Bool, true, false, List, length, refl, sym, ap, subst, ◌∙◌, arith, Option, if◌then◌else◌}
use Rattle.std.proofs.lemmas.Bool.{false≢true}
use Rattle.std.specs.Prelude.{slice_index, Some, None, MatchOption}
use Rattle.dataflow_model.specs.Role.{is_source}
use Rattle.dataflow_model.specs.Steps.{MayRead, CanTake}
use Rattle.dataflow_laws.specs.Needs.{Needs}
use Rattle.dataflow_laws.specs.declared.step.Step.{Step}
use Rattle.dataflow_laws.specs.declared.step.Step.TheVariants.{Open, Read, Save, Stop, Close, Take, Put}
use Rattle.dataflow_laws.specs.StepTask.{task_of}
use Rattle.layout_rules.specs.Layouts.{partition_counts}
use Rattle.layout_rules.specs.Stages.{task_count, inputs_of, partitions_of}
use Rattle.plan_compiler.specs.LayoutData.{LayoutData}
use Rattle.task_setups.specs.Legs.{IsLayoutOf}
use Rattle.core_steps.specs.Given.{layout_in}
use Rattle.core_steps.specs.World.{WorldData, world_in, IsWorld}
use Rattle.core_steps.specs.Answers.{CanMake}
use Rattle.core_steps.proofs.States.{move_needs, move_task}
use Rattle.leg_runs.specs.Order.{CanNothing, CannotRead, CannotTake}

-- what is read and what is taken
pub may_read : (w : WorldData) (t q : ℕ) → CanMake w (Read t q) → MayRead ((layout_in w.given).task t) ((world_in w).tasks t) q
may_read w t q can =
    let m = can.1 in
    subst (Needs w.given.plan ((layout_in w.given).task t) ((world_in w).tasks t)) m.is (move_needs w.given.plan (layout_in w.given) w.given.layout.capacity (world_in w) t m.event can.0 m.move)

pub can_take : (w : WorldData) (t i : ℕ) → CanMake w (Take t i) → CanTake ((layout_in w.given).task t) ((world_in w).tasks t) i
can_take w t i can =
    let m = can.1 in
    (subst (Needs w.given.plan ((layout_in w.given).task t) ((world_in w).tasks t)) m.is.1 (move_needs w.given.plan (layout_in w.given) w.given.layout.capacity (world_in w) t m.event can.0 m.move)).can

pub chosen : (b : Bool) (x y : ℕ) → b ≡ true → (if b then x else y) ≡ x
chosen true x y e = refl
chosen false x y e = absurd (false≢true e)

pub other : (b : Bool) (x y : ℕ) → b ≡ false → (if b then x else y) ≡ y
other true x y e = absurd (false≢true (sym e))
other false x y e = refl

-- a source reads its own partitions
pub cannot_read : (w : WorldData) (l : LayoutData) (t : ℕ) → l ≡ w.given.layout → IsLayoutOf w.given.plan l → ((k : ℕ) → k < length (partitions_of l.partitions l.stages t) → CanMake w (Read t (slice_index (partitions_of l.partitions l.stages t) k)) → ⊥) → CannotRead w t
cannot_read w l t same laid none q can =
    let k = (layout_in w.given).task t in
    let may = may_read w t q can in
    let mine = partitions_of (partition_counts w.given.plan) w.given.layout.stages t in
    let is : partitions_of l.partitions l.stages t ≡ mine = (λ j. partitions_of ((ap (λ (m : LayoutData). m.partitions) laid.is) j) ((ap (λ (m : LayoutData). m.stages) same) j) t) in
    let few : k.inputs ≡ length mine = chosen (is_source k.role) (length mine) (length (inputs_of w.given.layout.stages t)) (ap is_source may.1.can.can.source) in
    let place = may.1.can.partition in
    let long = ap (λ (xs : List ℕ). length xs) is in
    none may.0 (omega (arith, place, few, long)) (subst (λ n. CanMake w (Read t n)) (sym may.1.number ∙ ap (λ xs. slice_index xs may.0) (sym is)) can)

-- a task takes from its own inputs
pub cannot_take : (w : WorldData) (l : LayoutData) (t : ℕ) → l ≡ w.given.layout → ((k : ℕ) → k < length (inputs_of l.stages t) → CanMake w (Take t k) → ⊥) → CannotTake w t
cannot_take w l t same none i can =
    let k = (layout_in w.given).task t in
    let mine = partitions_of (partition_counts w.given.plan) w.given.layout.stages t in
    let takes = can_take w t i can in
    let few : k.inputs ≡ length (inputs_of w.given.layout.stages t) = other (is_source k.role) (length mine) (length (inputs_of w.given.layout.stages t)) takes.taker in
    let place = takes.input in
    let long = ap (λ (m : LayoutData). length (inputs_of m.stages t)) same in
    none i (omega (arith, place, few, long)) can

-- and has no other steps than these
pub nothing : (w : WorldData) (t : ℕ) → (CanMake w (Open t) → ⊥) → CannotRead w t → (CanMake w (Save t) → ⊥) → (CanMake w (Stop t) → ⊥) → (CanMake w (Close t) → ⊥) → CannotTake w t → (CanMake w (Put t) → ⊥) → CanNothing w t
nothing w t no_open no_read no_save no_stop no_close no_take no_put (Open u) is can = no_open (subst (λ n. CanMake w (Open n)) is can)
nothing w t no_open no_read no_save no_stop no_close no_take no_put (Read u q) is can = no_read q (subst (λ n. CanMake w (Read n q)) is can)
nothing w t no_open no_read no_save no_stop no_close no_take no_put (Save u) is can = no_save (subst (λ n. CanMake w (Save n)) is can)
nothing w t no_open no_read no_save no_stop no_close no_take no_put (Stop u) is can = no_stop (subst (λ n. CanMake w (Stop n)) is can)
nothing w t no_open no_read no_save no_stop no_close no_take no_put (Close u) is can = no_close (subst (λ n. CanMake w (Close n)) is can)
nothing w t no_open no_read no_save no_stop no_close no_take no_put (Take u i) is can = no_take i (subst (λ n. CanMake w (Take n i)) is can)
nothing w t no_open no_read no_save no_stop no_close no_take no_put (Put u) is can = no_put (subst (λ n. CanMake w (Put n)) is can)

pub none_of : {X : Type 0} {A B : Type 0} (C : X → Type 0) (r : Option X) → (A → B) → MatchOption r A C → MatchOption r B C
none_of C None f m = f m
none_of C (Some x) f m = m

pub missed : {X : Type 0} {A : Type 0} (C : X → Type 0) (r : Option X) → ((x : X) → r ≡ Some x → ⊥) → MatchOption r A C → A
missed C None never m = m
missed C (Some x) never m = absurd (never x refl)

-- a step that can be made is one of the world's tasks
pub is_task : (w : WorldData) (l : LayoutData) (step : Step) → IsWorld w → l ≡ w.given.layout → CanMake w step → task_of step < task_count l.stages
is_task w l step world same can =
    let m = can.1 in
    let early = move_task w.given.plan (layout_in w.given) w.given.layout.capacity (world_in w) (task_of step) m.event can.0 m.move in
    let count = world.sound.count in
    let here = ap (λ (x : LayoutData). task_count x.stages) same in
    omega (arith, early, count, here)
