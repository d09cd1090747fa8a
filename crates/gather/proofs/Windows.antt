-- What stands in the windows, key group by key group.
use Rattle.std.proofs.Common.{◌≡◌, ℕ, Bool, true, false, cond, ◌&&◌, List, [], ◌∷◌, map, refl, sym, ap, subst, ◌∙◌}
use Rattle.std.specs.Prelude.{T, None, Result, Ok, Err, IfOk}
use Rattle.std.specs.List.{filter, flat_map, range_with_len}
use Rattle.std.specs.List.Sorted.{IsStrictlySortedBy}
use Rattle.std.specs.Ordering.{is_lt}
use Rattle.std.specs.declared.cmp.Ordering.{Ordering}
use Rattle.std.specs.declared.cmp.Ordering.TheVariants.{Less, Equal, Greater}
use Rattle.std.specs.FinMap.{FinMap, from_entries, entries, entries_sorted, get-entries, get-from_entries}
use Rattle.std.specs.FinMap.Entries.{is_sorted, where_key, is_sorted-where_key, find-where_key, same_entries}
use Rattle.plan_model.specs.declared.spec.Pane.{Pane}
use Rattle.plan_model.specs.Aggregates.{Aggregated}
use Rattle.plan_model.specs.Rows.{pane_cmp}
use Rattle.plan_model.proofs.Facts.{pane_cmp_total, pane_cmp-IsAntisymmetric}
use Rattle.window_state.specs.Parts.{entries_of}
use Rattle.window_state.specs.declared.parts.Part.{Part}
use Rattle.window_state.proofs.Facts.{sorted}
use Rattle.savepoint_codec.specs.EntriesData.{EntryData}
use Rattle.gather.specs.Saved.{saved_entry, saved_group, saved_groups, is_in_group, entries_in_group}
use Rattle.gather.specs.Parts.{panes_in_group}
use Rattle.packed_parts.specs.Packing.{entry_of}
use Rattle.gather.specs.Buckets.{bucket}

pub t_both : (a b : Bool) → T (a && b) → T a × T b
t_both true b h = (tt, h)
t_both false b h = absurd h

pub less : (o : Ordering) → T (is_lt o) → o ≡ Less
less Less h = refl
less Equal h = absurd h
less Greater h = absurd h

-- a map's entries that pass a test of their panes
pub filtered : (p : Pane → Bool) (all : List (Pane × Aggregated)) → T (is_sorted pane_cmp (where_key pane_cmp p all)) → where_key pane_cmp p (entries (from_entries {R = pane_cmp} all)) ≡ where_key pane_cmp p all
filtered p all h =
    let m : FinMap pane_cmp Aggregated = from_entries all in
    let alike : (q x : Pane) → pane_cmp q x ≡ Equal → p x ≡ p q = λ q x e. ap p (sym (pane_cmp-IsAntisymmetric q x e)) in
    same_entries pane_cmp pane_cmp_total pane_cmp-IsAntisymmetric (where_key pane_cmp p (entries m)) (where_key pane_cmp p all) (is_sorted-where_key pane_cmp p (entries m) (entries_sorted m)) h
    (λ q.
    find-where_key pane_cmp p q (alike q) (entries m)
    ∙ ap (λ o. cond (p q) o None) (sym (get-entries m q) ∙ get-from_entries pane_cmp_total all q)
    ∙ sym (find-where_key pane_cmp p q (alike q) all))

panes_of_entries : (p : Pane → Bool) (parts : List Part) → map (λ e. e.0) (where_key pane_cmp p (entries_of parts)) ≡ filter p (map (λ part. part.pane) parts)
panes_of_entries p [] = refl
panes_of_entries p (x ∷ xs) =
    elim (p x.pane) as (λ b. map (λ e. e.0) (cond b ((x.pane, x.acc.total) ∷ where_key pane_cmp p (entries_of xs)) (where_key pane_cmp p (entries_of xs))) ≡ cond b (x.pane ∷ filter p (map (λ part. part.pane) xs)) (filter p (map (λ part. part.pane) xs))) [
      | true ↦ ap (λ (qs : List Pane). x.pane ∷ qs) (panes_of_entries p xs)
      | false ↦ panes_of_entries p xs
    ]

entries_of_parts : (p : Pane → Bool) (parts : List Part) → map saved_entry (where_key pane_cmp p (entries_of parts)) ≡ map entry_of (filter (λ part. p part.pane) parts)
entries_of_parts p [] = refl
entries_of_parts p (x ∷ xs) =
    elim (p x.pane) as (λ b. map saved_entry (cond b ((x.pane, x.acc.total) ∷ where_key pane_cmp p (entries_of xs)) (where_key pane_cmp p (entries_of xs))) ≡ map entry_of (cond b (x ∷ filter (λ part. p part.pane) xs) (filter (λ part. p part.pane) xs))) [
      | true ↦ ap (λ (es : List EntryData). entry_of x ∷ es) (entries_of_parts p xs)
      | false ↦ entries_of_parts p xs
    ]

-- the entries of a key group are its panes, in their order
pub in_group : (max g : ℕ) (parts : List Part) → IsStrictlySortedBy pane_cmp (panes_in_group max g parts) → entries_in_group max (from_entries (entries_of parts)) g ≡ map entry_of (filter (λ part. is_in_group max g part.pane) parts)
in_group max g parts h =
    let p = is_in_group max g in
    let rises = sorted pane_cmp (where_key pane_cmp p (entries_of parts)) (subst (IsStrictlySortedBy pane_cmp) (sym (panes_of_entries p parts)) h) in
    ap (map saved_entry) (filtered p (entries_of parts) rises) ∙ entries_of_parts p parts

pub same_groups : (max width : ℕ) (parts : List Part) → ((g : ℕ) → IsStrictlySortedBy pane_cmp (panes_in_group max g parts))
    → flat_map (λ g. saved_group width g (bucket max width parts g).entries) (range_with_len 0 max) ≡ saved_groups max width (from_entries (entries_of parts))
same_groups max width parts h = λ i. flat_map (λ g. saved_group width g (sym (in_group max g parts (h g)) i)) (range_with_len 0 max)

pub if_ok : {A E : Type 0} (r : Result A E) (P Q : A → Type 0) → ((x : A) → P x → Q x) → IfOk r P → IfOk r Q
if_ok (Ok x) P Q f h = f x h
if_ok (Err e) P Q f h = tt
