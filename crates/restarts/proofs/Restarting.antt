-- The start from a savepoint at a cut, with the snapshot of the cut in its windows, has that snapshot.
use Rattle.std.proofs.Common.{◌≡◌, ℕ, ◌<◌, ◌≤◌, ◌^◌, List, length, map, refl, sym, ap, subst, ◌∙◌}
use Rattle.std.specs.FinMap.{FinMap, get-entries, get-from_entries}
use Rattle.std.proofs.lemmas.Bool.{eqb-true}
use Rattle.std.proofs.lemmas.Nat.{mod_below}
use Rattle.key_groups.specs.Groups.{key_group, hash_code}
use Rattle.lane_kernels.specs.Mix.{murmur_hash}
use Rattle.plan_record.specs.Laws.{AscendingIsInOrder}
use Rattle.plan_model.specs.Aggregates.{Aggregated}
use Rattle.plan_model.specs.PlanData.{PlanData}
use Rattle.plan_model.specs.Rows.{pane_cmp}
use Rattle.plan_model.proofs.Facts.{pane_cmp_total}
use Rattle.aggregates.specs.declared.kind.Kind.{Kind}
use Rattle.aggregates.specs.Kinds.{kind_of}
use Rattle.stream_model.specs.InputData.{InputData}
use Rattle.stream_model.specs.Watermarks.{IsCut}
use Rattle.stream_model.specs.PlanRows.{snapshot}
use Rattle.window_state.specs.Parts.{entries_of}
use Rattle.redistribute.specs.Begins.{IsOpenEntry, AreOpenGroups, HasSnapshot}
use Rattle.redistribute.specs.Parts.{parts_of}
use Rattle.redistribute.specs.Snapshots.{saved_sources}
use Rattle.redistribute.specs.StartData.{StartData, offsets_of}
use Rattle.restore.specs.Answer.{start_of}
use Rattle.restore.proofs.Facts.{not_due_first, starts_within}
use Rattle.restarts.specs.Laws.{IsLeftAt, IsStartAt, savepoint_at, SnapshotsRestart}
use Rattle.restarts.proofs.Grouped.{every_saved}
use Rattle.restarts.proofs.Left.{left}
use Rattle.restarts.proofs.Passing.{sources_back, cut_is}
use Rattle.restarts.proofs.Spread.{same_pane}

module _ (rising : AscendingIsInOrder) (p : PlanData) (i : InputData) (cut : List (List ℕ)) (windows : FinMap pane_cmp Aggregated) (number : ℕ) (h : IsLeftAt p i cut windows) where
  abbrev d : StartData
  d = start_of p (savepoint_at p i cut windows number)

  abbrev kinds : List Kind
  kinds = map kind_of p.window.aggregates

  offsets_are : offsets_of d ≡ cut
  offsets_are = cut_is rising p i cut windows number h

  are_open : AreOpenGroups p d.kinds d.groups
  are_open =
      every_saved p.max (length p.window.aggregates) windows (IsOpenEntry p kinds) (λ g q a own e.
      let x = left p i cut q a h.input h.belongs (sym (h.windows q) ∙ e) in
      record {
        group = eqb-true (key_group p.max q.key) g own;
        part = record {
          part = record { kinds = refl; start = starts_within p.window q.start h.plan.window x.reached };
          early = not_due_first p.window q.start x.reached;
          count = x.few;
        };
      })

  has_snapshot : HasSnapshot p i d
  has_snapshot q =
      let below : key_group p.max q.key < p.max = mod_below (murmur_hash (hash_code q.key)) p.max h.plan.grouped in
      get-from_entries pane_cmp_total (entries_of (parts_of d)) q
      ∙ same_pane kinds p.max (length p.window.aggregates) windows q below
      ∙ sym (get-entries windows q)
      ∙ h.windows q
      ∙ ap (λ c. snapshot p i.sources c q) (sym offsets_are)

  is_start_at : number ≤ 2 ^ 63 → IsStartAt p i cut number d
  is_start_at few = record {
    in_input = record {
      cut = subst (IsCut i.sources) (sym offsets_are) h.cut;
      partitions = sources_back rising p i cut windows number h ∙ ap (saved_sources i.sources) (sym offsets_are);
      windows = are_open;
      counts = λ q a e. (left p i (offsets_of d) q a h.input h.belongs (sym (has_snapshot q) ∙ e)).counted;
      number = few;
    };
    snapshot = has_snapshot;
    offsets = offsets_are;
    number = refl;
  }

pub snapshots_restart : AscendingIsInOrder → SnapshotsRestart
snapshots_restart rising p i cut windows number h few = is_start_at rising p i cut windows number h few
