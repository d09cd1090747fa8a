-- Entries by key group, as `src/buckets.rt` collects them.
use Rattle.std.specs.Prelude.{◌≡◌, ℕ, ◌+◌, List, [], ◌∷◌, ◌++◌, map, slice_index_or, slice_set, FitsSigned}
use Rattle.std.specs.Int.{w64}
use Rattle.std.specs.List.{All, filter}
use Rattle.key_groups.specs.Groups.{key_group}
use Rattle.aggregates.specs.Kinds.{IsAcc}
use Rattle.window_state.specs.declared.parts.Part.{Part}
use Rattle.savepoint_codec.specs.EntriesData.{EntryData, EntriesData}
use Rattle.savepoint_codec.specs.declared.savepoint.SavedGroup.{SavedGroup}
use Rattle.packed_parts.specs.Packing.{entry_of}
use Rattle.gather.specs.Saved.{is_in_group, saved_group}

-- a bucket with nothing in it
abbrev pub no_entries : ℕ → EntriesData
no_entries width = record { width = width; entries = [] }

abbrev pub with_entry : EntriesData → EntryData → EntriesData
with_entry b e = record { width = b.width; entries = b.entries ++ e ∷ [] }

-- the buckets with one entry more, in that of its key group
abbrev pub with_pane : ℕ → List EntriesData → EntryData → List EntriesData
with_pane max buckets e = slice_set buckets (key_group max e.pane.key) (with_entry (slice_index_or buckets (key_group max e.pane.key) (no_entries 0)) e)

abbrev pub with_part : ℕ → List EntriesData → Part → List EntriesData
with_part max buckets part = with_pane max buckets (entry_of part)

-- the buckets from a number on that have entries, as key groups
abbrev pub groups_from : ℕ → List EntriesData → List SavedGroup
groups_from group [] = []
groups_from group (b ∷ bs) = saved_group b.width group b.entries ++ groups_from (group + 1) bs

-- what stands in the panes of a key group, among so many, in the order in which it came
abbrev pub bucket : ℕ → ℕ → List Part → ℕ → EntriesData
bucket max width parts group = record { width = width; entries = map entry_of (filter (λ part. is_in_group max group part.pane) parts) }

-- each entry of the buckets has so many numbers
abbrev pub HaveWidth : ℕ → List EntriesData → Type 0
HaveWidth width buckets = All (λ b. b.width ≡ width) buckets

-- what is known of a part by its type
pub record IsTyped (part : Part) : Type 0 where
  pub start : FitsSigned w64 part.pane.start
  pub key : FitsSigned w64 part.pane.key
  pub acc : IsAcc part.acc
