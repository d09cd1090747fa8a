-- The entries of a savepoint are such that accumulators can be made of them.
use Rattle.std.proofs.Common.{◌≡◌, ℕ, ◌^◌, ℤ, true, ◌&&◌, List, [], ◌∷◌, length, Option, refl, sym, subst}
use Rattle.std.proofs.lemmas.Bool.{eqb-true}
use Rattle.std.specs.Prelude.{nat_lt, nat_le, ◌==◌}
use Rattle.std.specs.List.{All, list_all}
use Rattle.std.specs.Option.{option_map}
use Rattle.byte_fields.specs.Fields.{u8_field, u16_field, u64_field, few_field, i128_field}
use Rattle.byte_fields.specs.declared.fault.FieldFault.TheVariants.{Order}
use Rattle.byte_fields.specs.Format.{where_it, before}
use Rattle.byte_fields.proofs.Exact.{both, and_true, counted-fits}
use Rattle.plan_model.specs.Uids.{is_nat_within}
use Rattle.aggregates.specs.declared.kind.Kind.{Kind}
use Rattle.aggregates.specs.Kinds.{is_number, are_numbers}
use Rattle.savepoint_codec.specs.declared.savepoint.SavedGroup.{SavedGroup}
use Rattle.savepoint_codec.specs.declared.savepoint.Contents.{Contents}
use Rattle.savepoint_codec.specs.EntriesData.{EntryData}
use Rattle.savepoint_codec.specs.Fields.{kind_field, kinds_field, is_pane_after, pane_field, count_field, number_of_kind, numbers_field, entry_field, entry_after, entries_field, group_number, group_field, group_after, groups_field}
use Rattle.savepoint_codec.specs.Layout.{IsSavepoint}
use Rattle.savepoint_codec.proofs.Facts.{have_spellings}
use Rattle.redistribute.specs.StartData.{AreEntries}
use Rattle.restore.specs.Sound.{IsSoundEntry, IsSoundGroup}

numbers_sound : (kinds : List Kind) (count : ℕ) (zs : List ℤ) → (numbers_field kinds count).fits zs ≡ true → are_numbers count kinds zs ≡ true
unfolding numbers_field number_of_kind
numbers_sound [] count [] h = refl
numbers_sound [] count (z ∷ zs) h = absurd cc
numbers_sound (k ∷ kinds) count [] h = absurd cc
numbers_sound (k ∷ kinds) count (z ∷ zs) h =
    let parts = both ((number_of_kind count k).fits z) ((numbers_field kinds count).fits zs) h in
    let first = both (i128_field.fits z) (is_number count k z) parts.0 in
    and_true (is_number count k z) (are_numbers count kinds zs) first.1 (numbers_sound kinds count zs parts.1)

few_kinds : (n : ℕ) → (few_field 8).fits n ≡ true → (nat_le 1 n && nat_le n 8) ≡ true
unfolding few_field
few_kinds n h = (both (u8_field.fits n) (is_nat_within 1 8 n) h).1

entry_sound : (kinds : List Kind) → (nat_le 1 (length kinds) && nat_le (length kinds) 8) ≡ true → (last : Option EntryData) (e : EntryData) → (entry_after kinds last).fits e ≡ true → IsSoundEntry kinds e
unfolding entry_field count_field
entry_sound kinds few last e h =
    let after = where_it (is_pane_after (option_map (λ x. x.pane) last)) Order pane_field in
    let parts = both (after.fits e.pane) ((before count_field (numbers_field kinds)).fits (e.total.count, e.total.numbers)) h in
    let rest = both (count_field.fits e.total.count) ((numbers_field kinds e.total.count).fits e.total.numbers) parts.1 in
    let counted = (both _ (is_nat_within 1 (2 ^ 40) e.total.count) rest.0).1 in
    and_true _ _ few (and_true _ _ counted (numbers_sound kinds e.total.count e.total.numbers rest.1))

group_sound : (max : ℕ) (kinds : List Kind) → (nat_le 1 (length kinds) && nat_le (length kinds) 8) ≡ true → (last : Option SavedGroup) (g : SavedGroup) → (group_after max kinds last).fits g ≡ true → IsSoundGroup kinds g
unfolding group_field entries_field
group_sound max kinds few last g h =
    let number = group_number max (option_map (λ x. x.group) last) in
    let parts = both (g.entries.width == length kinds) ((before number (λ _. entries_field kinds)).fits (g.group, g.entries.entries)) h in
    let rest = both (number.fits g.group) ((entries_field kinds).fits g.entries.entries) parts.1 in
    record {
      width = eqb-true _ _ parts.0;
      entries = (counted-fits (where_it (nat_lt 0) Order u64_field) (entry_after kinds) (IsSoundEntry kinds) (entry_sound kinds few) g.entries.entries rest.1).1;
    }

pub groups_sound : (s : Contents) → IsSavepoint s → All (IsSoundGroup s.kinds) s.groups
unfolding kinds_field groups_field
groups_sound s h =
    let fits = have_spellings s h in
    let kinds = both ((few_field 8).fits (length s.kinds)) (list_all kind_field.fits s.kinds) fits.kinds in
    let few = few_kinds (length s.kinds) kinds.0 in
    (counted-fits u16_field (group_after s.max s.kinds) (IsSoundGroup s.kinds) (group_sound s.max s.kinds few) s.groups fits.groups).1

-- as a start has them
pub are_entries : (kinds : List Kind) (groups : List SavedGroup) → All (IsSoundGroup kinds) groups → AreEntries kinds groups
are_entries kinds groups h = λ k d l. (h k d l).entries

pub sound_along : (ks ls : List Kind) (gs hs : List SavedGroup) → ks ≡ ls → gs ≡ hs → All (IsSoundGroup ls) hs → All (IsSoundGroup ks) gs
sound_along ks ls gs hs p q h = subst (λ x. All (IsSoundGroup x) gs) (sym p) (subst (λ y. All (IsSoundGroup ls) y) (sym q) h)
