-- What stands in the windows of a start that an accepted savepoint gives can be dealt out and put together again.
use Rattle.std.proofs.Common.{length, subst, get_or}
use Rattle.std.specs.Prelude.{◌==◌}
use Rattle.std.proofs.lemmas.Bool.{and_parts, eqb-true}
use Rattle.std.proofs.lemmas.List.Sums.{AllPass-from_list_all}
use Rattle.answers.proofs.Facts.{met_first, no_fault}
use Rattle.legs.specs.declared.restore_fault.RestoreFault.TheVariants.{MaxParallelism, UnknownUid, MissingUid, PlanChanged, Partitions, Offset, Watermark, WrongGroup}
use Rattle.restore.specs.Answer.{start_of}
use Rattle.restore.specs.Requirements.{are_kinds, is_in_group, has_max, has_known_uids, has_all_uids, has_plan, has_partitions, has_offsets, has_watermarks, has_groups, plan_requirements, input_requirements}
use Rattle.restore.proofs.Facts.{groups_sound, kinds_in}
use Rattle.gather.specs.Laws.{HasGroups}
use Rattle.restarts.specs.Laws.{AcceptedHaveGroups}
use Rattle.restarts.proofs.Ascending.{groups_ascend, once}

pub accepted_have_groups : AcceptedHaveGroups
unfolding plan_requirements input_requirements has_plan has_groups
accepted_have_groups p i s d savepoint accepted =
    let said = no_fault _ (start_of p s) d accepted in
    let a = (met_first MaxParallelism (has_max p s) _ said.0).1 in
    let b = (met_first UnknownUid (has_known_uids p s) _ a).1 in
    let e = (met_first MissingUid (has_all_uids p s) _ b).1 in
    let planned = met_first PlanChanged (has_plan p s) _ e in
    let f = (met_first Partitions (has_partitions p s) _ planned.1).1 in
    let g = (met_first Offset (has_offsets p i s) _ f).1 in
    let h = (met_first Watermark (has_watermarks p i s) _ g).1 in
    let grouped = (met_first WrongGroup (has_groups p s) _ h).0 in
    let kinds = and_parts (length s.kinds == length p.window.aggregates) _ (and_parts _ (are_kinds s.kinds p.window.aggregates) planned.0).1 in
    let order = groups_ascend s savepoint in
    let sound = groups_sound s savepoint in
    subst (HasGroups p) said.1 (record {
      each = λ k z l. record {
        kinds_of = kinds_in s.kinds p.window.aggregates (eqb-true _ _ kinds.0) kinds.1;
        entries = (sound k z l).entries;
        keys = λ m x o. eqb-true _ _ (AllPass-from_list_all (is_in_group p.max (get_or s.groups k z).group) (get_or s.groups k z).entries.entries (AllPass-from_list_all _ s.groups grouped k z l) m x o);
        ordered = order.panes k z l;
      };
      once = once s.groups order.groups;
    })
