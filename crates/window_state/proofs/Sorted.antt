-- The entries of the windows in the order of their panes.
use Rattle.std.proofs.Common.{◌≡◌, ℤ, Bool, true, false, cond, ◌&&◌, ◌||◌, List, [], ◌∷◌, refl, sym, ap, ◌∙◌, arith, Option, Some, None, if◌then◌else◌}
use Rattle.std.specs.List.{AllByRecursion, list_any}
use Rattle.std.specs.Option.{is_some}
use Rattle.std.specs.List.Sorted.{IsStrictlySortedBy}
use Rattle.std.specs.Map.{keys_of, lookup}
use Rattle.std.specs.Ordering.{int_eq, is_eq}
use Rattle.std.specs.declared.cmp.Ordering.TheVariants.{Less}
use Rattle.std.proofs.lemmas.Int.{ints}
use Rattle.plan_model.specs.declared.spec.Pane.{Pane}
use Rattle.plan_model.specs.Rows.{pane_cmp}
use Rattle.plan_model.specs.Aggregates.{Aggregated}
use Rattle.window_state.specs.Windows.{is_pane, has_pane}
use Rattle.window_state.specs.Parts.{with_entry, entries_at}
use Rattle.window_state.proofs.Updates.{pane_from_test}
use Rattle.window_state.proofs.Entries.{tied}

pub flips : (p q : Pane) → is_pane p q ≡ is_pane q p
flips p q = flip p.start q.start p.key q.key
  where
    flip : (a b c d : ℤ) → (int_eq a b && int_eq c d) ≡ (int_eq b a && int_eq d c)
    flip a b c d = grind (arith, ints)

-- ---- the entries in some panes

below : (p : Pane) (f : Pane → Option Aggregated) (ps : List Pane) → AllByRecursion (λ q. pane_cmp p q ≡ Less) ps → AllByRecursion (λ q. pane_cmp p q ≡ Less) (keys_of (entries_at f ps))
below p f [] h = tt
below p f (x ∷ ps) h = elim (f x) as (λ o. AllByRecursion (λ q. pane_cmp p q ≡ Less) (keys_of (with_entry x o (entries_at f ps)))) [
  | None ↦ below p f ps h.1
  | Some a ↦ (h.0, below p f ps h.1)
]

pub entries_strict : (f : Pane → Option Aggregated) (ps : List Pane) → IsStrictlySortedBy pane_cmp ps → IsStrictlySortedBy pane_cmp (keys_of (entries_at f ps))
unfolding IsStrictlySortedBy
entries_strict f [] h = tt
entries_strict f (p ∷ ps) h = elim (f p) as (λ o. IsStrictlySortedBy pane_cmp (keys_of (with_entry p o (entries_at f ps)))) [
  | None ↦ entries_strict f ps h.1
  | Some a ↦ (below p f ps h.0, entries_strict f ps h.1)
]

-- what is found in the panes is what stands there
found_among : (f : Pane → Option Aggregated) (ps : List Pane) (q : Pane) → lookup (is_pane q) (entries_at f ps) ≡ (if list_any (is_pane q) ps then f q else None)
found_among f [] q = refl
found_among f (p ∷ ps) q = by_case (is_pane q p) refl (found_among f ps q)
  where
    skipped : (o : Option Aggregated) (rest : List (Pane × Aggregated)) → is_pane q p ≡ false → lookup (is_pane q) (with_entry p o rest) ≡ lookup (is_pane q) rest
    skipped None rest other = refl
    skipped (Some a) rest other = ap (λ b. cond b (Some a) (lookup (is_pane q) rest)) other

    either_none : (b : Bool) → (let none : Option Aggregated = None in cond b none none ≡ none)
    either_none true = refl
    either_none false = refl

    here : (o : Option Aggregated) (rest : List (Pane × Aggregated)) → is_pane q p ≡ true → f q ≡ o → lookup (is_pane q) rest ≡ (if list_any (is_pane q) ps then f q else None) → lookup (is_pane q) (with_entry p o rest) ≡ o
    here None rest same is later = later ∙ ap (λ o. if list_any (is_pane q) ps then o else None) is ∙ either_none (list_any (is_pane q) ps)
    here (Some a) rest same is later = ap (λ b. cond b (Some a) (lookup (is_pane q) rest)) same

    by_case : (b : Bool) → is_pane q p ≡ b → lookup (is_pane q) (entries_at f ps) ≡ (if list_any (is_pane q) ps then f q else None)
        → lookup (is_pane q) (with_entry p (f p) (entries_at f ps)) ≡ (if is_pane q p || list_any (is_pane q) ps then f q else None)
    by_case true same later =
        let e : q ≡ p = pane_from_test q p same in
        here (f p) (entries_at f ps) same (ap (f) e) later
        ∙ ap (f) (sym e)
        ∙ sym (ap (λ b. if b || list_any (is_pane q) ps then f q else None) same)
    by_case false other later =
        skipped (f p) (entries_at f ps) other ∙ later
        ∙ sym (ap (λ b. if b || list_any (is_pane q) ps then f q else None) other)

pub any_pane : (ps : List Pane) (q : Pane) → list_any (λ p. is_eq (pane_cmp q p)) ps ≡ list_any (is_pane q) ps
any_pane [] q = refl
any_pane (p ∷ ps) q = λ i. tied q p i || any_pane ps q i

pub found_at : (f : Pane → Option Aggregated) (ps : List Pane) (q : Pane) → (is_some (f q) ≡ true → has_pane ps q ≡ true) → lookup (is_pane q) (entries_at f ps) ≡ f q
found_at f ps q those = found_among f ps q ∙ by_case (f q) refl
  where
    either_none : (b : Bool) → (let none : Option Aggregated = None in cond b none none ≡ none)
    either_none true = refl
    either_none false = refl

    by_case : (o : Option Aggregated) → f q ≡ o → (if list_any (is_pane q) ps then f q else None) ≡ f q
    by_case None e = ap (λ o. if list_any (is_pane q) ps then o else None) e ∙ either_none (list_any (is_pane q) ps) ∙ sym e
    by_case (Some a) e = ap (λ b. if b then f q else None) (sym (any_pane ps q) ∙ those (ap is_some e))
