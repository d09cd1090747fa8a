-- A savepoint at a cut, with the snapshot of the cut in its windows, meets what is required.
use Rattle.std.proofs.Common.{◌≡◌, ℕ, ◌≤◌, ◌^◌, true, not, List, length, map, None, Ok, Err, refl, sym, ap, ◌∙◌}
use Rattle.std.specs.Option.{option_map_or}
use Rattle.std.specs.Cmp.Lexicographic.{nat_list_eq_equiv}
use Rattle.std.specs.FinMap.{FinMap}
use Rattle.std.proofs.lemmas.Bool.{and_from, eq-eqb, le-leb}
use Rattle.std.proofs.lemmas.List.{length-map}
use Rattle.answers.specs.Answer.{first_unmet}
use Rattle.plan_record.specs.Laws.{AscendingIsInOrder}
use Rattle.plan_record.specs.PlanRecord.{plan_record}
use Rattle.layout_rules.specs.Layouts.{partition_counts}
use Rattle.plan_model.specs.Aggregates.{Aggregated}
use Rattle.plan_model.specs.PlanData.{PlanData}
use Rattle.plan_model.specs.Rows.{pane_cmp}
use Rattle.savepoint_codec.specs.declared.savepoint.Contents.{Contents}
use Rattle.savepoint_codec.specs.declared.savepoint.SavedPartition.{SavedPartition}
use Rattle.stream_model.specs.InputData.{InputData}
use Rattle.stream_model.specs.Watermarks.{merged_watermark, records_before}
use Rattle.redistribute.specs.Snapshots.{saved_sources}
use Rattle.redistribute.proofs.Facts.{shaped}
use Rattle.restore.specs.Answer.{start_of}
use Rattle.restore.specs.Requirements.{every_partition, every_entry, is_within, is_watermark, is_in_group, is_open, is_counted, has_max, has_known_uids, has_all_uids, has_plan, has_partitions, has_offsets, has_watermarks, has_groups, has_open_windows, has_counts, has_number, plan_requirements, input_requirements, requirements}
use Rattle.restore.specs.Saved.{saved_sources as saved_of, cut_of}
use Rattle.restarts.specs.Laws.{IsLeftAt, savepoint_at, SnapshotsPass}
use Rattle.restarts.proofs.Cuts.{cut_back, within, marks}
use Rattle.restarts.proofs.Grouped.{every_saved, passes_all}
use Rattle.restarts.proofs.Left.{left}
use Rattle.restarts.proofs.Uids.{all_under, all_known, all_there, all_partitioned, own_kinds}

module _ (rising : AscendingIsInOrder) (p : PlanData) (i : InputData) (cut : List (List ℕ)) (windows : FinMap pane_cmp Aggregated) (number : ℕ) (h : IsLeftAt p i cut windows) where
  abbrev s : Contents
  s = savepoint_at p i cut windows number

  abbrev read : List (List SavedPartition)
  read = saved_sources i.sources cut

  pub planned : map (λ ps. length ps) read ≡ partition_counts p
  planned = shaped i.sources cut h.cut ∙ h.belongs.partitions

  long : length read ≡ length p.sources
  long = sym (length-map read (λ ps. length ps)) ∙ ap length planned ∙ length-map p.sources (λ x. x.partitions)

  -- what the savepoint has for the plan's sources is what was read, up to the cut
  pub sources_back : saved_of p s ≡ read
  sources_back = all_under rising p h.plan read long

  pub cut_is : cut_of (saved_of p s) ≡ cut
  cut_is = ap cut_of sources_back ∙ cut_back i.sources cut h.cut

  max_met : has_max p s ≡ true
  unfolding has_max
  max_met = eq-eqb p.max p.max refl

  known_met : has_known_uids p s ≡ true
  unfolding has_known_uids
  known_met = and_from _ _ (all_known rising p h.plan read) (nat_list_eq_equiv.refl p.window.uid)

  all_met : has_all_uids p s ≡ true
  unfolding has_all_uids
  all_met = all_there rising p h.plan read

  plan_met : has_plan p s ≡ true
  unfolding has_plan
  plan_met = and_from _ _ (nat_list_eq_equiv.refl (plan_record p)) (own_kinds p.window.aggregates)

  partitions_met : has_partitions p s ≡ true
  unfolding has_partitions
  partitions_met = all_partitioned rising p h.plan read planned

  offsets_met : has_offsets p i s ≡ true
  unfolding has_offsets
  offsets_met = ap (λ ss. every_partition is_within ss i.sources) sources_back ∙ within i.sources cut h.cut

  watermarks_met : has_watermarks p i s ≡ true
  unfolding has_watermarks
  watermarks_met = ap (λ ss. every_partition is_watermark ss i.sources) sources_back ∙ marks i.sources cut

  groups_met : has_groups p s ≡ true
  unfolding has_groups
  groups_met = passes_all (is_in_group p.max) s.groups (every_saved p.max (length p.window.aggregates) windows (λ g e. is_in_group p.max g e ≡ true) (λ g q a own e. own))

  windows_met : has_open_windows p i s ≡ true
  unfolding has_open_windows
  windows_met =
      let t = merged_watermark i.sources cut in
      ap (λ c. every_entry (λ g. is_open p.window (merged_watermark i.sources c)) s.groups) cut_is
      ∙ passes_all (λ g. is_open p.window t) s.groups (every_saved p.max (length p.window.aggregates) windows (λ g e. is_open p.window t e ≡ true) (λ g q a own e.
      let x = left p i cut q a h.input h.belongs (sym (h.windows q) ∙ e) in
      and_from _ _ x.reached (and_from _ _ x.start (ap not x.early))))

  counts_met : has_counts p i s ≡ true
  unfolding has_counts
  counts_met =
      let n = length (records_before i.sources cut) in
      ap (λ c. every_entry (λ g. is_counted (length (records_before i.sources c))) s.groups) cut_is
      ∙ passes_all (λ g. is_counted n) s.groups (every_saved p.max (length p.window.aggregates) windows (λ g e. is_counted n e ≡ true) (λ g q a own e.
      le-leb a.count n (left p i cut q a h.input h.belongs (sym (h.windows q) ∙ e)).counted))

  number_met : number ≤ 2 ^ 63 → has_number s ≡ true
  unfolding has_number
  number_met few = le-leb number (2 ^ 63) few

  none_unmet : number ≤ 2 ^ 63 → first_unmet (requirements p i) s ≡ None
  unfolding plan_requirements input_requirements
  none_unmet few = rw (max_met, known_met, all_met, plan_met, partitions_met, offsets_met, watermarks_met, groups_met, windows_met, counts_met, number_met few) refl

pub snapshots_pass : AscendingIsInOrder → SnapshotsPass
snapshots_pass rising p i cut windows number h few = ap (λ o. option_map_or Err o (Ok (start_of p (savepoint_at p i cut windows number)))) (none_unmet rising p i cut windows number h few)
