-- The entries of the key groups in an index are read one after the other.
use Rattle.std.proofs.Common.{◌≡◌, ℕ, ◌+◌, ◌<◌, ◌≤◌, List, [], ◌∷◌, ◌++◌, length, get_or, take, drop, None, Result, Ok, Err, refl, sym, ap, ◌∙◌, arith, length-take}
use Rattle.std.proofs.lemmas.List.{length-append, take_all, take_more, at_drop_more, at_drop_all}
use Rattle.byte_fields.specs.declared.fault.FieldFault.{FieldFault}
use Rattle.byte_fields.specs.declared.fault.ReadFault.{ReadFault}
use Rattle.byte_fields.specs.declared.fault.ReadFault.TheVariants.{Memory, Bytes}
use Rattle.byte_fields.specs.Lists.{chain}
use Rattle.byte_fields.specs.Reads.{Fails}
use Rattle.byte_fields.proofs.Exact.{ok_is, with_front, list-step, list-fails, list-done}
use Rattle.aggregates.specs.declared.kind.Kind.{Kind}
use Rattle.savepoint_codec.specs.declared.savepoint.SavedGroup.{SavedGroup}
use Rattle.savepoint_codec.specs.EntriesData.{EntryData, EntriesData}
use Rattle.savepoint_codec.specs.Fields.{entry_after}
use Rattle.savepoint_codec.specs.Reading.{entries_read}
use Rattle.savepoint_index.specs.declared.head.GroupHead.{GroupHead}
use Rattle.savepoint_index.specs.Index.{groups_of, lists_field}
use Rattle.savepoint_index.specs.Reading.{groups_read}

-- so many key groups are read, with these entries
pub record AreRead (kinds : List Kind) (heads : List GroupHead) (i : ℕ) (groups : List SavedGroup) (rest bytes : List ℕ) : Type 0 where
  pub lists : List (List EntryData)
  pub long : length lists ≡ i
  pub made : groups ≡ groups_of kinds (take i heads) lists
  pub read : with_front lists ((lists_field kinds (drop i heads)).read rest) ≡ (lists_field kinds heads).read bytes

-- what the reader of entries answers is read
entries_of_read : (kinds : List Kind) (read : Result (List EntryData × List ℕ) FieldFault) (entries : EntriesData) (rest : List ℕ) → entries_read kinds read ≡ Ok (entries, rest)
    → (es : List EntryData) × (read ≡ Ok (es, rest)) × (entries ≡ record { width = length kinds; entries = es })
entries_of_read kinds (Ok x) entries rest e =
    let same = ok_is (record { width = length kinds; entries = x.0 }, x.1) (entries, rest) e in
    (x.0, ap (λ (y : EntriesData × List ℕ). Ok (x.0, y.1)) same, sym (ap (λ (y : EntriesData × List ℕ). y.0) same))
entries_of_read kinds (Err fault) entries rest e = absurd cc

fails_of_read : (kinds : List Kind) (fault : ReadFault) (read : Result (List EntryData × List ℕ) FieldFault) → Fails fault (entries_read kinds read) → Fails fault read
fails_of_read kinds Memory read h = tt
fails_of_read kinds (Bytes fault) (Ok x) h = absurd cc
fails_of_read kinds (Bytes fault) (Err other) h = cc

groups_more : (kinds : List Kind) (heads : List GroupHead) (lists : List (List EntryData)) (head : GroupHead) (es : List EntryData) → length lists ≡ length heads
    → groups_of kinds (heads ++ head ∷ []) (lists ++ es ∷ []) ≡ groups_of kinds heads lists ++ record { group = head.group; entries = record { width = length kinds; entries = es } } ∷ []
groups_more kinds [] [] head es same = refl
groups_more kinds [] (x ∷ lists) head es same = absurd cc
groups_more kinds (h ∷ heads) [] head es same = absurd cc
groups_more kinds (h ∷ heads) (x ∷ lists) head es same =
    ap (λ (gs : List SavedGroup). record { group = h.group; entries = record { width = length kinds; entries = x } } ∷ gs) (groups_more kinds heads lists head es cc)

pub one_read : (kinds : List Kind) (heads : List GroupHead) (i : ℕ) (d head : GroupHead) (groups : List SavedGroup) (rest bytes after : List ℕ) (entries : EntriesData) → i < length heads → head ≡ get_or heads i d
    → entries_read kinds ((chain (entry_after kinds) None head.count).read rest) ≡ Ok (entries, after) → AreRead kinds heads i groups rest bytes
    → AreRead kinds heads (i + 1) (groups ++ record { group = head.group; entries = entries } ∷ []) after bytes
unfolding lists_field
one_read kinds heads i d head groups rest bytes after entries below here item so_far =
    let found = entries_of_read kinds ((chain (entry_after kinds) None head.count).read rest) entries after item in
    let es = found.0 in
    let lists = so_far.lists in
    let behind = drop (i + 1) heads in
    let opened : with_front lists ((lists_field kinds (drop i heads)).read rest) ≡ with_front lists ((lists_field kinds (head ∷ behind)).read rest) =
    at_drop_more (λ (hs : List GroupHead). with_front lists ((lists_field kinds hs).read rest)) heads i d below ∙ ap (λ (h : GroupHead). with_front lists ((lists_field kinds (h ∷ behind)).read rest)) (sym here) in
    let step : with_front lists ((lists_field kinds (head ∷ behind)).read rest) ≡ with_front (lists ++ es ∷ []) ((lists_field kinds behind).read after) =
    list-step (chain (entry_after kinds) None head.count) (λ _. lists_field kinds behind) lists rest es after found.1 in
    let taken : length (take i heads) ≡ i = omega (arith, length-take i heads) in
    let more : take (i + 1) heads ≡ take i heads ++ head ∷ [] = take_more heads i d below ∙ ap (λ (h : GroupHead). take i heads ++ h ∷ []) (sym here) in
    record {
      lists = lists ++ es ∷ [];
      long = omega (arith, so_far.long, length-append lists (es ∷ []));
      made = ap (λ (gs : List SavedGroup). gs ++ record { group = head.group; entries = entries } ∷ []) so_far.made
          ∙ ap (λ (e : EntriesData). groups_of kinds (take i heads) lists ++ record { group = head.group; entries = e } ∷ []) found.2
          ∙ sym (groups_more kinds (take i heads) lists head es (so_far.long ∙ sym taken))
          ∙ ap (λ (hs : List GroupHead). groups_of kinds hs (lists ++ es ∷ [])) (sym more);
      read = sym step ∙ sym opened ∙ so_far.read;
    }

fails_again : (kinds : List Kind) (heads : List GroupHead) (fault : ReadFault) (read : Result (List (List EntryData) × List ℕ) FieldFault) → Fails fault read → Fails fault (groups_read kinds heads read)
fails_again kinds heads Memory read h = tt
fails_again kinds heads (Bytes fault) read h = ap (groups_read kinds heads) h

is_failed : (kinds : List Kind) (heads : List GroupHead) (i : ℕ) (d head : GroupHead) (fault : ReadFault) (groups : List SavedGroup) (rest bytes : List ℕ) → i < length heads → head ≡ get_or heads i d
    → Fails fault ((chain (entry_after kinds) None head.count).read rest) → AreRead kinds heads i groups rest bytes → Fails fault ((lists_field kinds heads).read bytes)
unfolding lists_field
is_failed kinds heads i d head Memory groups rest bytes below here failed so_far = tt
is_failed kinds heads i d head (Bytes fault) groups rest bytes below here failed so_far =
    let lists = so_far.lists in
    let behind = drop (i + 1) heads in
    let opened : with_front lists ((lists_field kinds (drop i heads)).read rest) ≡ with_front lists ((lists_field kinds (head ∷ behind)).read rest) =
    at_drop_more (λ (hs : List GroupHead). with_front lists ((lists_field kinds hs).read rest)) heads i d below ∙ ap (λ (h : GroupHead). with_front lists ((lists_field kinds (h ∷ behind)).read rest)) (sym here) in
    sym so_far.read ∙ opened ∙ list-fails (chain (entry_after kinds) None head.count) (λ _. lists_field kinds behind) lists rest fault failed

pub one_fails : (kinds : List Kind) (heads : List GroupHead) (i : ℕ) (d head : GroupHead) (fault : ReadFault) (groups : List SavedGroup) (rest bytes : List ℕ) → i < length heads → head ≡ get_or heads i d
    → Fails fault (entries_read kinds ((chain (entry_after kinds) None head.count).read rest)) → AreRead kinds heads i groups rest bytes → Fails fault (groups_read kinds heads ((lists_field kinds heads).read bytes))
one_fails kinds heads i d head fault groups rest bytes below here failed so_far =
    fails_again kinds heads fault ((lists_field kinds heads).read bytes)
    (is_failed kinds heads i d head fault groups rest bytes below here (fails_of_read kinds fault ((chain (entry_after kinds) None head.count).read rest) failed) so_far)

pub all_read : (kinds : List Kind) (heads : List GroupHead) (i : ℕ) (groups : List SavedGroup) (rest bytes : List ℕ) → length heads ≤ i → AreRead kinds heads i groups rest bytes
    → groups_read kinds heads ((lists_field kinds heads).read bytes) ≡ Ok (groups, rest)
unfolding lists_field
all_read kinds heads i groups rest bytes le so_far =
    let lists = so_far.lists in
    let none : with_front lists ((lists_field kinds (drop i heads)).read rest) ≡ Ok (lists, rest) =
    at_drop_all (λ (hs : List GroupHead). with_front lists ((lists_field kinds hs).read rest)) heads i le ∙ list-done lists rest in
    ap (groups_read kinds heads) (sym so_far.read ∙ none) ∙ ap (λ (gs : List SavedGroup). Ok (gs, rest)) (ap (λ (hs : List GroupHead). groups_of kinds hs lists) (sym (take_all i heads le)) ∙ sym so_far.made)
