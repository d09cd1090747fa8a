-- Entries that count at most so many records, where no entry counts more than 2^64 - 1.
use Rattle.std.proofs.Common.{◌≡◌, ℕ, ◌-◌, ◌^◌, ◌≤◌, ◌&&◌, min, List, [], ◌∷◌, refl, arith}
use Rattle.std.specs.Prelude.{nat_le}
use Rattle.std.specs.List.{All, list_all}
use Rattle.std.proofs.lemmas.Bool.{leb-true}
use Rattle.std.proofs.lemmas.Bool.Decides.{nat_tests}
use Rattle.std.proofs.lemmas.List.Elements.{All-head, All-tail}
use Rattle.byte_fields.proofs.Exact.{both}
use Rattle.aggregates.specs.declared.kind.Kind.{Kind}
use Rattle.savepoint_codec.specs.declared.savepoint.SavedGroup.{SavedGroup}
use Rattle.savepoint_codec.specs.EntriesData.{EntryData}
use Rattle.restore.specs.Requirements.{is_counted, every_entry}
use Rattle.restore.specs.Sound.{IsSoundEntry, IsSoundGroup}

capped : (n m : ℕ) → n ≤ 2 ^ 40 → nat_le n (min m (2 ^ 64 - 1)) ≡ nat_le n m
capped n m h = grind (arith, nat_tests)

few : (kinds : List Kind) (e : EntryData) → IsSoundEntry kinds e → e.total.count ≤ 2 ^ 40
few kinds e h = leb-true _ _ (both _ _ (both _ _ (both _ _ h).1).0).1

each : (m : ℕ) (kinds : List Kind) (es : List EntryData) → All (IsSoundEntry kinds) es → list_all (is_counted (min m (2 ^ 64 - 1))) es ≡ list_all (is_counted m) es
each m kinds [] h = refl
each m kinds (e ∷ es) h = λ i. capped e.total.count m (few kinds e (All-head (IsSoundEntry kinds) e es h)) i && each m kinds es (All-tail (IsSoundEntry kinds) e es h) i

pub counted : (m : ℕ) (kinds : List Kind) (gs : List SavedGroup) → All (IsSoundGroup kinds) gs → every_entry (λ g. is_counted (min m (2 ^ 64 - 1))) gs ≡ every_entry (λ g. is_counted m) gs
counted m kinds [] h = refl
counted m kinds (g ∷ gs) h =
    let first = All-head (IsSoundGroup kinds) g gs h in
    λ i. each m kinds g.entries.entries first.entries i && counted m kinds gs (All-tail (IsSoundGroup kinds) g gs h) i
