-- What a start has of an input.
use Rattle.std.specs.Prelude.{◌≡◌, ℕ, ◌≤◌, ◌^◌, List, [], length, Some}
use Rattle.std.specs.FinMap.{get}
use Rattle.std.specs.List.{All}
use Rattle.key_groups.specs.Groups.{key_group}
use Rattle.plan_model.specs.declared.spec.Pane.{Pane}
use Rattle.plan_model.specs.Aggregates.{Aggregated}
use Rattle.plan_model.specs.PlanData.{PlanData}
use Rattle.aggregates.specs.declared.kind.Kind.{Kind}
use Rattle.savepoint_codec.specs.declared.savepoint.SavedGroup.{SavedGroup}
use Rattle.savepoint_codec.specs.EntriesData.{EntryData}
use Rattle.stream_model.specs.InputData.{InputData}
use Rattle.stream_model.specs.Watermarks.{IsCut, empty_cut, records_before}
use Rattle.stream_model.specs.PlanRows.{snapshot}
use Rattle.redistribute.specs.StartData.{StartData, offsets_of}
use Rattle.redistribute.specs.Snapshots.{saved_sources}
use Rattle.packed_parts.specs.Packing.{part_of}
use Rattle.redistribute.specs.Parts.{windows_of, IsOpenPart}

-- an entry that may stand in a window of the plan where a leg begins, in the key group of its key
pub record IsOpenEntry (p : PlanData) (kinds : List Kind) (n : ℕ) (e : EntryData) : Type 0 where
  pub group : key_group p.max e.pane.key ≡ n
  pub part : IsOpenPart p (part_of kinds e)

-- all entries of key groups are such
abbrev pub AreOpenGroups : PlanData → List Kind → List SavedGroup → Type 0
AreOpenGroups p kinds groups = All (λ g. All (IsOpenEntry p kinds g.group) g.entries.entries) groups

-- it begins at a cut of the input, with the watermarks that the input's partitions have there, in its windows stands
-- what may stand there, in no pane more records than stand before the cut, and a savepoint can follow it
pub record IsStartIn (p : PlanData) (i : InputData) (s : StartData) : Type 0 where
  pub cut : IsCut i.sources (offsets_of s)
  pub partitions : s.sources ≡ saved_sources i.sources (offsets_of s)
  pub windows : AreOpenGroups p s.kinds s.groups
  pub counts : (q : Pane) (a : Aggregated) → get (windows_of s) q ≡ Some a → a.count ≤ length (records_before i.sources (offsets_of s))
  pub number : s.number ≤ 2 ^ 63

-- and it has the snapshot of that cut
abbrev pub HasSnapshot : PlanData → InputData → StartData → Type 0
HasSnapshot p i s = (q : Pane) → get (windows_of s) q ≡ snapshot p i.sources (offsets_of s) q

-- it goes on from no savepoint, no entry was read, and nothing stands in its windows
pub record IsFromNothing (i : InputData) (s : StartData) : Type 0 where
  pub number : s.number ≡ 0
  pub offsets : offsets_of s ≡ empty_cut i.sources
  pub groups : s.groups ≡ []
