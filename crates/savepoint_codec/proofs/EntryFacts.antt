-- The entries of a key group are read one after the other.
use Rattle.std.proofs.Common.{◌≡◌, ℕ, ◌+◌, ◌<◌, ◌≤◌, List, [], ◌∷◌, ◌++◌, length, Option, Some, None, Result, Ok, refl, sym, ap, subst, ◌∙◌}
use Rattle.std.specs.Option.{option_map}
use Rattle.byte_fields.specs.declared.fault.FieldFault.{FieldFault}
use Rattle.byte_fields.specs.declared.fault.ReadFault.{ReadFault}
use Rattle.byte_fields.specs.declared.fault.ReadFault.TheVariants.{Memory, Bytes}
use Rattle.byte_fields.specs.Lists.{chain, last_of}
use Rattle.byte_fields.specs.Reads.{Fails}
use Rattle.byte_fields.proofs.Exact.{last_of-append, IsReadSoFar, reads_none, reads_one, fails_at, reads_all}
use Rattle.plan_model.specs.declared.spec.Pane.{Pane}
use Rattle.aggregates.specs.declared.kind.Kind.{Kind}
use Rattle.savepoint_codec.specs.EntriesData.{EntryData, EntriesData}
use Rattle.savepoint_codec.specs.Fields.{entry_field, entry_after}
use Rattle.savepoint_codec.specs.Reading.{TakesOne, entries_read}

pub record AreReadSoFar (kinds : List Kind) (count i : ℕ) (last : Option Pane) (entries : EntriesData) (rest bytes : List ℕ) : Type 0 where
  pub pane : option_map (λ e. e.pane) (last_of entries.entries) ≡ last
  pub width : entries.width ≡ length kinds
  pub read : IsReadSoFar (entry_after kinds) count i entries.entries rest bytes

pub none_read : (kinds : List Kind) (count : ℕ) (entries : EntriesData) (bytes : List ℕ) → entries ≡ record { width = length kinds; entries = [] } → AreReadSoFar kinds count 0 None entries bytes bytes
none_read kinds count entries bytes e =
    let none : AreReadSoFar kinds count 0 None (record { width = length kinds; entries = [] }) bytes bytes = record { pane = refl; width = refl; read = reads_none (entry_after kinds) count bytes } in
    subst (λ (x : EntriesData). AreReadSoFar kinds count 0 None x bytes bytes) (sym e) none

pub entry_comes : (kinds : List Kind) (count i : ℕ) (last : Option Pane) (old new : EntriesData) (rest bytes : List ℕ) (pane : Pane) (after : List ℕ) → i < count
    → TakesOne old new pane after ((entry_field kinds last).read rest) → AreReadSoFar kinds count i last old rest bytes → AreReadSoFar kinds count (i + 1) (Some pane) new after bytes
entry_comes kinds count i last old new rest bytes pane after lt taken so_far =
    let x = taken.0 in
    let item = subst (λ (l : Option Pane). (entry_field kinds l).read rest ≡ Ok (x, after)) (sym so_far.pane) taken.1 in
    let grown : EntriesData = record old { entries = old.entries ++ x ∷ [] } in
    let made : AreReadSoFar kinds count (i + 1) (Some pane) grown after bytes = record {
      pane = ap (λ (l : Option EntryData). option_map (λ e. e.pane) l) (last_of-append old.entries x) ∙ ap (λ (q : Pane). Some q) taken.2;
      width = so_far.width;
      read = reads_one (entry_after kinds) count i old.entries rest bytes x after lt item so_far.read;
    } in
    subst (λ (e : EntriesData). AreReadSoFar kinds count (i + 1) (Some pane) e after bytes) (sym taken.3) made

fails_too : (kinds : List Kind) (e : ReadFault) (read : Result (List EntryData × List ℕ) FieldFault) → Fails e read → Fails e (entries_read kinds read)
fails_too kinds Memory read h = tt
fails_too kinds (Bytes fault) read h = ap (entries_read kinds) h

pub entry_fails : (kinds : List Kind) (e : ReadFault) (count i : ℕ) (last : Option Pane) (entries : EntriesData) (rest bytes : List ℕ) → i < count
    → Fails e ((entry_field kinds last).read rest) → AreReadSoFar kinds count i last entries rest bytes → Fails e (entries_read kinds ((chain (entry_after kinds) None count).read bytes))
entry_fails kinds e count i last entries rest bytes lt failed so_far =
    let item = subst (λ (l : Option Pane). Fails e ((entry_field kinds l).read rest)) (sym so_far.pane) failed in
    fails_too kinds e ((chain (entry_after kinds) None count).read bytes) (fails_at (entry_after kinds) e count i entries.entries rest bytes lt item so_far.read)

pub entries_done : (kinds : List Kind) (count i : ℕ) (last : Option Pane) (entries : EntriesData) (rest bytes : List ℕ) → count ≤ i
    → AreReadSoFar kinds count i last entries rest bytes → entries_read kinds ((chain (entry_after kinds) None count).read bytes) ≡ Ok (entries, rest)
entries_done kinds count i last entries rest bytes le so_far =
    ap (entries_read kinds) (reads_all (entry_after kinds) count i entries.entries rest bytes le so_far.read)
    ∙ ap (λ (w : ℕ). Ok (record { width = w; entries = entries.entries }, rest)) (sym so_far.width)
