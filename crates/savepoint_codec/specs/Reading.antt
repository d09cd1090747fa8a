-- What the readers of entries answer.
use Rattle.std.specs.Prelude.{◌≡◌, ℕ, List, [], ◌∷◌, ◌++◌, length, Result, Ok, Err}
use Rattle.byte_fields.specs.declared.fault.FieldFault.{FieldFault}
use Rattle.plan_model.specs.declared.spec.Pane.{Pane}
use Rattle.aggregates.specs.declared.kind.Kind.{Kind}
use Rattle.savepoint_codec.specs.EntriesData.{EntryData, EntriesData}

-- what is read is one entry at this pane, with these bytes behind it, and it has come to the entries
abbrev pub TakesOne : EntriesData → EntriesData → Pane → List ℕ → Result (EntryData × List ℕ) FieldFault → Type 0
TakesOne old new pane rest read = (x : EntryData) × (read ≡ Ok (x, rest)) × (x.pane ≡ pane) × (new ≡ record old { entries = old.entries ++ x ∷ [] })

-- the entries that are read, each with a number for each kind
abbrev pub entries_read : List Kind → Result (List EntryData × List ℕ) FieldFault → Result (EntriesData × List ℕ) FieldFault
entries_read kinds (Ok x) = Ok (record { width = length kinds; entries = x.0 }, x.1)
entries_read kinds (Err fault) = Err fault
