-- What holds of each pane of windows holds of each entry that is saved.
use Rattle.std.proofs.Common.{◌≡◌, ℕ, zero, suc, ◌<◌, Bool, true, cond, List, [], ◌∷◌, length, get_or, Option, Some, ap, ◌∙◌, arith}
use Rattle.std.specs.Prelude.{T}
use Rattle.std.specs.List.{All, filter, flat_map, list_all, range_with_len}
use Rattle.std.specs.Ordering.{eq_by_cmp, is_eq, is_lt, ordering_reverse}
use Rattle.std.specs.declared.cmp.Ordering.TheVariants.{Greater}
use Rattle.std.specs.Cmp.{tied_itself}
use Rattle.std.specs.FinMap.{FinMap, entries, entries_sorted, find, get, get-entries}
use Rattle.std.specs.FinMap.Entries.{is_sorted, below_all}
use Rattle.std.proofs.lemmas.List.Elements.{All-append, All-cons, All-filter, All-map, All-nil, filter_passes}
use Rattle.std.proofs.lemmas.List.Sums.{list_all-from_AllPass}
use Rattle.plan_model.specs.declared.spec.Pane.{Pane}
use Rattle.plan_model.specs.Aggregates.{Aggregated}
use Rattle.plan_model.specs.Rows.{pane_cmp}
use Rattle.plan_model.proofs.Facts.{pane_cmp_total}
use Rattle.savepoint_codec.specs.EntriesData.{EntryData}
use Rattle.savepoint_codec.specs.declared.savepoint.SavedGroup.{SavedGroup}
use Rattle.restore.specs.Requirements.{every_entry}
use Rattle.gather.specs.Saved.{entries_in_group, is_in_group, saved_entry, saved_group, saved_groups}
use Rattle.gather.proofs.Facts.{t_both, less}

-- ---- each entry of a map is found at its pane

-- a pane below others is none of them
passed : (x : Pane) (a : Aggregated) (es : List (Pane × Aggregated)) → T (below_all pane_cmp x es) → (k : ℕ) (d : Pane × Aggregated) → k < length es
    → (o : Option Aggregated) → cond (eq_by_cmp pane_cmp (get_or es k d).0 x) (Some a) o ≡ o
passed x a [] h k d l o = absurd (omega (arith, l))
passed x a (e ∷ es) h zero d l o =
    let b = t_both (is_lt (pane_cmp x e.0)) (below_all pane_cmp x es) h in
    let after : pane_cmp e.0 x ≡ Greater = pane_cmp_total.antisymm e.0 x ∙ ap ordering_reverse (less (pane_cmp x e.0) b.0) in
    ap (λ r. cond (is_eq r) (Some a) o) after
passed x a (e ∷ es) h (suc k) d l o = passed x a es (t_both (is_lt (pane_cmp x e.0)) (below_all pane_cmp x es) h).1 k d (omega (arith, l)) o

found : (es : List (Pane × Aggregated)) → T (is_sorted pane_cmp es) → (k : ℕ) (d : Pane × Aggregated) → k < length es → find pane_cmp (get_or es k d).0 es ≡ Some (get_or es k d).1
found [] h k d l = absurd (omega (arith, l))
found (e ∷ es) h zero d l = ap (λ r. cond (is_eq r) (Some e.1) (find pane_cmp e.0 es)) (tied_itself pane_cmp_total e.0)
found (e ∷ es) h (suc k) d l =
    let b = t_both (below_all pane_cmp e.0 es) (is_sorted pane_cmp es) h in
    let below : k < length es = omega (arith, l) in
    passed e.0 e.1 es b.0 k d below (find pane_cmp (get_or es k d).0 es) ∙ found es b.1 k d below

pub held : (m : FinMap pane_cmp Aggregated) → All (λ e. get m e.0 ≡ Some e.1) (entries m)
held m k d l = get-entries m (get_or (entries m) k d).0 ∙ found (entries m) (entries_sorted m) k d l

-- ---- each entry of each key group

all_flat_map : {X Y : Type 0} (P : Y → Type 0) (f : X → List Y) (xs : List X) → ((x : X) → All P (f x)) → All P (flat_map f xs)
all_flat_map P f [] h = All-nil P
all_flat_map P f (x ∷ xs) h = All-append P (f x) (flat_map f xs) (h x) (all_flat_map P f xs h)

one_group : (P : ℕ → EntryData → Type 0) (width group : ℕ) (es : List EntryData) → All (P group) es → All (λ g. All (P g.group) g.entries.entries) (saved_group width group es)
one_group P width group [] h = All-nil (λ (g : SavedGroup). All (P g.group) g.entries.entries)
one_group P width group (e ∷ es) h = All-cons (λ (g : SavedGroup). All (P g.group) g.entries.entries) (record { group = group; entries = record { width = width; entries = e ∷ es } }) [] h (All-nil (λ (g : SavedGroup). All (P g.group) g.entries.entries))

pub every_saved : (max width : ℕ) (m : FinMap pane_cmp Aggregated) (P : ℕ → EntryData → Type 0)
    → ((g : ℕ) (q : Pane) (a : Aggregated) → is_in_group max g q ≡ true → get m q ≡ Some a → P g (saved_entry (q, a)))
    → All (λ g. All (P g.group) g.entries.entries) (saved_groups max width m)
every_saved max width m P h =
    all_flat_map (λ (g : SavedGroup). All (P g.group) g.entries.entries) (λ g. saved_group width g (entries_in_group max m g)) (range_with_len 0 max) (λ g.
    let of_group : Pane × Aggregated → Bool = λ e. is_in_group max g e.0 in
    one_group P width g (entries_in_group max m g)
    (All-map (P g) saved_entry (filter of_group (entries m)) (λ k d l.
    let e = get_or (filter of_group (entries m)) k d in
    h g e.0 e.1 (filter_passes of_group (entries m) k d l) (All-filter of_group (λ x. get m x.0 ≡ Some x.1) (entries m) (held m) k d l))))

-- so each passes a test
pub passes_all : (test : ℕ → EntryData → Bool) (gs : List SavedGroup) → All (λ g. All (λ e. test g.group e ≡ true) g.entries.entries) gs → every_entry test gs ≡ true
passes_all test gs h = list_all-from_AllPass (λ g. list_all (test g.group) g.entries.entries) gs (λ k d l. list_all-from_AllPass (test (get_or gs k d).group) (get_or gs k d).entries.entries (h k d l))
