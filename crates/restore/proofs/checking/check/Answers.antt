use Rattle.std.proofs.Common.{◌≡◌, List, length, map, Ok, sym, ap, subst, ◌∙◌}
use Rattle.std.specs.List.{All}
use Rattle.answers.specs.Answer.{Fails}
use Rattle.layout_rules.specs.Layouts.{partition_counts}
use Rattle.savepoint_codec.specs.declared.savepoint.Contents.{Contents}
use Rattle.savepoint_codec.specs.declared.savepoint.SavedPartition.{SavedPartition}
use Rattle.redistribute.specs.StartData.{StartData, IsStartOf}
use Rattle.restore.specs.Saved.{saved_under}
use Rattle.restore.specs.Sound.{IsSoundGroup}
use Rattle.restore.specs.Requirements.{plan_requirements, input_requirements}
use Rattle.restore.specs.Answer.{start_of, is_memory, met_or_fault}
use Rattle.restore.proofs.Sound.{groups_sound, are_entries, sound_along}
use Rattle.restore.proofs.Shape.{both_met, first_unmet_is, second_unmet_is, start_shaped, gives_fault}
use Rattle.redistribute.specs.Begins.{IsStartIn}
use Rattle.restore.proofs.Starts.{is_start_in}
use Rattle.restore.proofs.checking.check.Goals as goal

pub meet_input-requires-clause-sound : goal.meet_input-requires-clause-sound
meet_input-requires-clause-sound c =
    let P : Contents → Type 0 = λ s. All (IsSoundGroup s.kinds) s.groups in
    subst P (sym c.contents-contents.ensures.says) (groups_sound c.args.savepoint.now c.contents-contents.ensures.sound)

pub returns-in_err-meet_plan-clause-reads : goal.returns-in_err-meet_plan-clause-reads
returns-in_err-meet_plan-clause-reads c =
    let p = c.args.plan.now in
    let i = c.args.input.now in
    let s = c.args.savepoint.now in
    let f = c.in_err-meet_plan.field-0.0 in
    let P : Contents → Type 0 = λ z. Fails is_memory f (met_or_fault (plan_requirements p) z) in
    gives_fault _ f _ c.from_residual.ensures.1 (first_unmet_is (plan_requirements p) (input_requirements p i) (start_of p) s f (subst P c.contents-contents.ensures.says c.in_err-meet_plan.ensures))

pub returns-in_err-meet_input-clause-reads : goal.returns-in_err-meet_input-clause-reads
returns-in_err-meet_input-clause-reads c =
    let p = c.args.plan.now in
    let i = c.args.input.now in
    let s = c.args.savepoint.now in
    let f = c.in_err-meet_input.field-0.0 in
    let P : Contents → Type 0 = λ z. Fails is_memory f (met_or_fault (input_requirements p i) z) in
    let Q : Contents → Type 0 = λ z. met_or_fault (plan_requirements p) z ≡ Ok tt in
    gives_fault _ f _ c.from_residual-in_err-meet_input.ensures.1
    (second_unmet_is (plan_requirements p) (input_requirements p i) (start_of p) s f (subst Q c.contents-contents.ensures.says c.in_ok-meet_plan.ensures) (subst P c.contents-contents.ensures.says c.in_err-meet_input.ensures))

pub from_saved-requires : goal.from_saved-requires
from_saved-requires c =
    let says = c.contents-contents.ensures.says in
    are_entries _ _ (sound_along _ _ _ _ (c.in_ok-kinds.ensures ∙ ap (λ z. z.kinds) says) (c.in_ok-groups.ensures ∙ c.as_slice-3.ensures ∙ ap (λ z. z.groups) says) (groups_sound c.args.savepoint.now c.contents-contents.ensures.sound))

pub returns-clause-reads : goal.returns-clause-reads
returns-clause-reads c =
    let p = c.args.plan.now in
    let i = c.args.input.now in
    let s = c.args.savepoint.now in
    let P : Contents → Type 0 = λ z. met_or_fault (plan_requirements p) z ≡ Ok tt in
    let Q : Contents → Type 0 = λ z. met_or_fault (input_requirements p i) z ≡ Ok tt in
    let says = c.contents-contents.ensures.says in
    let listed = c.as_slice.ensures ∙ ap (λ z. z.sources) says in
    let sources = c.in_ok-saved.ensures ∙ (λ i. map (λ x. saved_under x.uid (listed i)) (c.sources.ensures.says i)) in
    let kinds = c.in_ok-kinds.ensures ∙ ap (λ z. z.kinds) says in
    let groups = c.in_ok-groups.ensures ∙ c.as_slice-3.ensures ∙ ap (λ z. z.groups) says in
    let made = sym (c.from_saved.ensures ∙ (λ i. record { number = (says i).number; sources = sources i; kinds = kinds i; groups = groups i })) in
    both_met (plan_requirements p) (input_requirements p i) (start_of p) s (subst P c.contents-contents.ensures.says c.in_ok-meet_plan.ensures) (subst Q c.contents-contents.ensures.says c.in_ok-meet_input.ensures)
    ∙ ap (λ x. Ok x) made

pub returns-clause-belongs : goal.returns-clause-belongs
returns-clause-belongs c =
    let p = c.args.plan.now in
    let says = c.contents-contents.ensures.says in
    let listed = c.as_slice.ensures ∙ ap (λ z. z.sources) says in
    let sources = c.in_ok-saved.ensures ∙ (λ i. map (λ x. saved_under x.uid (listed i)) (c.sources.ensures.says i)) in
    let P : Contents → Type 0 = λ z. met_or_fault (plan_requirements p) z ≡ Ok tt in
    let Q : List (List SavedPartition) → Type 0 = λ z. map (λ partitions. length partitions) z ≡ partition_counts p in
    let R : StartData → Type 0 = λ z. IsStartOf p z in
    subst R (sym c.from_saved.ensures) (subst Q (sym sources) (start_shaped p c.args.savepoint.now (subst P says c.in_ok-meet_plan.ensures)))

pub returns-clause-in_input : goal.returns-clause-in_input
returns-clause-in_input c =
    let p = c.args.plan.now in
    let i = c.args.input.now in
    let s = c.args.savepoint.now in
    let says = c.contents-contents.ensures.says in
    let P : Contents → Type 0 = λ z. met_or_fault (plan_requirements p) z ≡ Ok tt in
    let Q : Contents → Type 0 = λ z. met_or_fault (input_requirements p i) z ≡ Ok tt in
    let listed = c.as_slice.ensures ∙ ap (λ z. z.sources) says in
    let sources = c.in_ok-saved.ensures ∙ (λ j. map (λ x. saved_under x.uid (listed j)) (c.sources.ensures.says j)) in
    let kinds = c.in_ok-kinds.ensures ∙ ap (λ z. z.kinds) says in
    let groups = c.in_ok-groups.ensures ∙ c.as_slice-3.ensures ∙ ap (λ z. z.groups) says in
    let made = sym (c.from_saved.ensures ∙ (λ j. record { number = (says j).number; sources = sources j; kinds = kinds j; groups = groups j })) in
    λ belongs. subst (IsStartIn p i) made (is_start_in p i s c.sources.ensures.sound belongs (groups_sound s c.contents-contents.ensures.sound) (subst P says c.in_ok-meet_plan.ensures) (subst Q says c.in_ok-meet_input.ensures))
