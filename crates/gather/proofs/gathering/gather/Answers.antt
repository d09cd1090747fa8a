use Rattle.std.proofs.Common.{◌≡◌, ℕ, ◌<◌, ◌^◌, length, sym, ap, subst, ◌∙◌, arith, rules}
use Rattle.std.specs.List.{All, flat_map}
use Rattle.std.specs.List.Sorted.{IsStrictlySortedBy}
use Rattle.plan_model.specs.Rows.{pane_cmp}
use Rattle.savepoint_codec.specs.Layout.{IsSavepoint}
use Rattle.savepoint_codec.specs.declared.savepoint.Contents.{Contents}
use Rattle.gather.specs.Parts.{panes_in, panes_in_group, windows_in, sources_in}
use Rattle.gather.specs.Saved.{entries_in_group, savepoint_of}
use Rattle.gather.specs.Sources.{AreTyped}
use Rattle.gather.proofs.Owned.{all_wide, in_order}
use Rattle.gather.proofs.Whole.{is_savepoint}
use Rattle.gather.proofs.gathering.gather.Goals as goal

pub saved_groups-requires-clause-wide : goal.saved_groups-requires-clause-wide
saved_groups-requires-clause-wide c = λ k d l.
    all_wide c.args.plan.now c.args.layout.now.stages c.args.parts.now c.requires.parts k d l
    ∙ sym (ap length c.as_slice-aggregates.ensures ∙ ap (λ w. length w.aggregates) c.window-window.ensures.says)

pub saved_groups-requires-clause-ordered : goal.saved_groups-requires-clause-ordered
saved_groups-requires-clause-ordered c = λ g.
    let p = c.args.plan.now in
    let max : p.max ≡ c.unwrap-max.result = search rules in
    subst (λ n. IsStrictlySortedBy pane_cmp (panes_in_group n g (flat_map panes_in c.args.parts.now))) max
    (in_order c.owners_and_ranges-ranges.ensures.owners p c.args.layout.now c.args.parts.now c.window-window.ensures.sound c.requires.layout c.requires.parts g)

pub from_contents-requires : goal.from_contents-requires
from_contents-requires c =
    let p = c.args.plan.now in
    let parts = c.args.parts.now in
    let stages = c.args.layout.now.stages in
    let max : c.unwrap-max.result ≡ p.max = search rules in
    let record_is : c.from_vec.result ≡ (savepoint_of p (sources_in p stages parts) (windows_in parts) c.args.number).plan_record = search rules in
    let sources_is : c.in_ok-saved.saved ≡ (savepoint_of p (sources_in p stages parts) (windows_in parts) c.args.number).sources = search rules in
    let uid_is : c.in_ok-window_uid.window_uid ≡ p.window.uid = search rules in
    let kinds_is : c.in_ok-kinds.kinds ≡ (savepoint_of p (sources_in p stages parts) (windows_in parts) c.args.number).kinds = search rules in
    let groups_is : c.in_ok-groups.groups ≡ (savepoint_of p (sources_in p stages parts) (windows_in parts) c.args.number).groups = search rules in
    let whole = is_savepoint c.ascending_is_in_order-uids.ensures p stages parts c.args.number (record {
      plan = c.window-window.ensures.sound;
      are = c.requires.parts;
      some = c.requires.number;
      few = omega arith;
      partitions = subst (All AreTyped) c.in_ok-sources.ensures.says c.in_ok-sources.ensures.typed;
      ordered = λ g. in_order c.owners_and_ranges-ranges.ensures.owners p c.args.layout.now parts c.window-window.ensures.sound c.requires.layout c.requires.parts g;
      typed = c.in_ok-groups.ensures.typed;
      long = subst (λ n. (g : ℕ) → g < n → length (entries_in_group n (windows_in parts) g) < 2 ^ 64) max c.in_ok-groups.ensures.long;
    }) in
    let is : ◌≡◌ {A = Contents} (record { number = c.args.number; plan_record = c.from_vec.result; max = c.max-2.result; sources = c.in_ok-saved.saved; window_uid = c.in_ok-window_uid.window_uid; kinds = c.in_ok-kinds.kinds; groups = c.in_ok-groups.groups }) (savepoint_of p (sources_in p stages parts) (windows_in parts) c.args.number)
    = λ i. record { number = c.args.number; plan_record = record_is i; max = c.max-2.ensures.says i; sources = sources_is i; window_uid = uid_is i; kinds = kinds_is i; groups = groups_is i } in
    subst IsSavepoint (sym is) whole
