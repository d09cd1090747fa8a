-- What stands in places and what stands in later windows, one behind the other.
use Rattle.std.proofs.Common.{◌≡◌, ℕ, zero, suc, ◌<◌, ℤ, Bool, true, false, cond, not, ◌&&◌, ◌||◌, List, [], ◌∷◌, ◌++◌, length, get_or, refl, sym, ap, subst, ◌∙◌, arith, Option, Some, None}
use Rattle.std.specs.Prelude.{int_lt}
use Rattle.std.specs.FinMap.{entries, get}
use Rattle.std.specs.List.{AllByRecursion}
use Rattle.std.specs.List.Sorted.{IsStrictlySortedBy}
use Rattle.std.specs.Map.{keys_of, lookup}
use Rattle.std.specs.Option.{is_some}
use Rattle.std.specs.Ordering.{is_eq}
use Rattle.std.proofs.lemmas.List.{map-append}
use Rattle.plan_model.specs.declared.spec.Pane.{Pane}
use Rattle.plan_model.specs.Aggregates.{Aggregated}
use Rattle.plan_model.specs.Rows.{pane_cmp}
use Rattle.aggregates.specs.declared.kind.Kind.{Kind}
use Rattle.packed_parts.specs.declared.part.Part.{Part}
use Rattle.packed_parts.specs.Packing.{PackingData}
use Rattle.window_state.specs.declared.windows.Windows.TheInside.{Inside}
use Rattle.window_state.specs.Parts.{entries_of, parts_in, PutsParts}
use Rattle.window_state.specs.State.{OpenWindows}
use Rattle.window_state.specs.StateView.{windows_view, IsWindowsInside}
use Rattle.window_state.specs.Open.{has_open}
use Rattle.window_state.specs.Windows.{acc_at, has_pane, is_pane, total_at}
use Rattle.window_state.proofs.Entries.{entries-sorted, get-entries, same_map_of, tied}
use Rattle.window_state.proofs.PartMaps.{totals-parts}
use Rattle.window_state.proofs.InOrder.{itself}
use Rattle.window_state.proofs.Rising.{joined_strict}
use Rattle.window_state.proofs.Standing.{seen_before, seen_later, some_total, standing_later}

-- what holds of each key that is found holds of each
of_keys : (P : Pane → Type 0) (es : List (Pane × Aggregated)) → ((q : Pane) → is_some (lookup (is_pane q) es) ≡ true → P q) → AllByRecursion P (keys_of es)
of_keys P [] h = tt
of_keys P (e ∷ es) h = (h e.0 (ap (λ b. is_some (cond b (Some e.1) (lookup (is_pane e.0) es))) (itself e.0.start e.0.key)), of_keys P es (λ q some. h q (behind (is_pane q e.0) (lookup (is_pane q) es) some)))
  where
    behind : (b : Bool) (o : Option Aggregated) → is_some o ≡ true → is_some (cond b (Some e.1) o) ≡ true
    behind true o h = refl
    behind false o h = h

keys_joined : (es fs : List (Pane × Aggregated)) → keys_of (es ++ fs) ≡ keys_of es ++ keys_of fs
keys_joined [] fs = refl
keys_joined (e ∷ es) fs = ap (λ l. e.0 ∷ l) (keys_joined es fs)

-- entries of panes that start before a number, and those that do not
entries_joined : (es fs : List (Pane × Aggregated)) (from : ℤ) → IsStrictlySortedBy pane_cmp (keys_of es) → IsStrictlySortedBy pane_cmp (keys_of fs)
    → ((q : Pane) → is_some (lookup (is_pane q) es) ≡ true → int_lt q.start from ≡ true) → ((q : Pane) → is_some (lookup (is_pane q) fs) ≡ true → int_lt q.start from ≡ false)
    → IsStrictlySortedBy pane_cmp (keys_of (es ++ fs))
entries_joined es fs from h k before later =
    subst (IsStrictlySortedBy pane_cmp) (sym (keys_joined es fs))
    (joined_strict (keys_of es) (keys_of fs) from h k (of_keys (λ q. int_lt q.start from ≡ true) es before) (of_keys (λ q. int_lt q.start from ≡ false) fs later))

abbrev or_else : Option Aggregated → Option Aggregated → Option Aggregated
or_else None o = o
or_else (Some a) o = Some a

found_joined : (es fs : List (Pane × Aggregated)) (q : Pane) → lookup (is_pane q) (es ++ fs) ≡ or_else (lookup (is_pane q) es) (lookup (is_pane q) fs)
found_joined [] fs q = refl
found_joined (e ∷ es) fs q = ap (cond (is_pane q e.0) (Some e.1)) (found_joined es fs q) ∙ through (is_pane q e.0) (lookup (is_pane q) es)
  where
    through : (b : Bool) (o : Option Aggregated) → cond b (Some e.1) (or_else o (lookup (is_pane q) fs)) ≡ or_else (cond b (Some e.1) o) (lookup (is_pane q) fs)
    through true o = refl
    through false o = refl

has_at : (ps : List Pane) (i : ℕ) (d : Pane) → i < length ps → has_pane ps (get_or ps i d) ≡ true
has_at [] i d low = absurd (omega (arith, low))
has_at (p ∷ ps) zero d low = ap (λ b. b || has_pane ps p) (tied p p ∙ itself p.start p.key)
has_at (p ∷ ps) (suc i) d low = ap (λ b. is_eq (pane_cmp (get_or ps i d) p) || b) (has_at ps i d (omega (arith, low))) ∙ or_true (is_eq (pane_cmp (get_or ps i d) p))
  where
    or_true : (b : Bool) → (b || true) ≡ true
    or_true true = refl
    or_true false = refl

-- ---- both sides of a state

abbrev pub later_side : OpenWindows → Pane → Option Aggregated
later_side v q = cond (int_lt q.start v.from) None (get v.totals q)

module _ (s : Inside) (v : OpenWindows) (is : IsWindowsInside s) (view : windows_view s ≡ v) where
  same_from : s.from ≡ v.from
  same_from = ap (λ (x : OpenWindows). x.from) view

  starts_before : (q : Pane) → is_some (total_at s.places.entries q) ≡ true → int_lt q.start v.from ≡ true
  starts_before q some = ap (int_lt q.start) (sym same_from) ∙ is.below q (sym (some_total (acc_at s.places.entries q)) ∙ some)

  starts_later : (q : Pane) → is_some (later_side v q) ≡ true → int_lt q.start v.from ≡ false
  starts_later q = by_case (int_lt q.start v.from)
    where
      by_case : (b : Bool) → is_some (cond b None (get v.totals q)) ≡ true → b ≡ false
      by_case true some = absurd (let no : false ≡ true = some in cc)
      by_case false some = refl

  both_sides : (q : Pane) → or_else (total_at s.places.entries q) (later_side v q) ≡ get v.totals q
  both_sides q = by_case (int_lt q.start v.from) refl
    where
      nothing : (o : Option Aggregated) → int_lt q.start v.from ≡ false → (is_some o ≡ true → int_lt q.start v.from ≡ true) → or_else o (get v.totals q) ≡ get v.totals q
      nothing None later h = refl
      nothing (Some a) later h = absurd (let no : true ≡ false = sym (h refl) ∙ later in cc)

      alone : (o : Option Aggregated) → or_else o None ≡ o
      alone None = refl
      alone (Some a) = refl

      by_case : (b : Bool) → int_lt q.start v.from ≡ b → or_else (total_at s.places.entries q) (later_side v q) ≡ get v.totals q
      by_case true before =
          ap (λ b. or_else (total_at s.places.entries q) (cond b None (get v.totals q))) before ∙ alone (total_at s.places.entries q)
          ∙ seen_before s v q is view (ap (int_lt q.start) same_from ∙ before)
      by_case false later =
          ap (λ b. or_else (total_at s.places.entries q) (cond b None (get v.totals q))) later ∙ nothing (total_at s.places.entries q) later (starts_before q)

  -- the parts say what stands in the windows
  pub says_all : (kinds more : List Kind) (old mid new : PackingData) → old.parts ≡ [] → PutsParts kinds (total_at s.places.entries) old mid → PutsParts more (later_side v) mid new
      → entries_of new.parts ≡ entries v.totals
  says_all kinds more old mid new none first second =
      let es = first.entries in
      let fs = second.entries in
      let all : new.parts ≡ parts_in kinds es ++ parts_in more fs =
      ap (λ (x : PackingData). x.parts) second.is ∙ ap (λ (x : PackingData). x.parts ++ parts_in more fs) first.is ∙ ap (λ l. (l ++ parts_in kinds es) ++ parts_in more fs) none in
      let strict = entries_joined es fs v.from first.ordered second.ordered
      (λ q some. starts_before q (ap is_some (sym (first.those q)) ∙ some)) (λ q some. starts_later q (ap is_some (sym (second.those q)) ∙ some)) in
      ap entries_of all ∙ map-append (λ (p : Part). (p.pane, p.acc.total)) (parts_in kinds es) (parts_in more fs) ∙ (λ i. totals-parts kinds es i ++ totals-parts more fs i)
      ∙ sym (entries-sorted (es ++ fs) strict)
      ∙ ap entries (same_map_of _ v.totals (λ q. get-entries (es ++ fs) q ∙ found_joined es fs q ∙ (λ i. or_else (first.those q i) (second.those q i)) ∙ both_sides q))

  -- the panes of later windows are open where anything stands
  pub opened_later : (q : Pane) → is_some (later_side v q) ≡ true → (not (int_lt q.start s.from) && has_open s.opened.entries q) ≡ true
  opened_later q some =
      let later = starts_later q some in
      let inside : int_lt q.start s.from ≡ false = ap (int_lt q.start) same_from ∙ later in
      let here : later_side v q ≡ get v.totals q = ap (λ b. cond b None (get v.totals q)) later in
      ap (λ b. not b && has_open s.opened.entries q) inside
      ∙ is.opened q (ap is_some (standing_later s q inside ∙ seen_later s v q is view inside ∙ sym here) ∙ some)

  -- and begin at `from` or later
  pub starts_at : (ps : List Pane) (i : ℕ) (d : Pane) → i < length ps → ((q : Pane) → has_pane ps q ≡ (not (int_lt q.start s.from) && has_open s.opened.entries q)) → int_lt (get_or ps i d).start v.from ≡ false
  starts_at ps i d low those =
      let q = get_or ps i d in
      ap (int_lt q.start) (sym same_from) ∙ not_both (int_lt q.start s.from) (has_open s.opened.entries q) (sym (those q) ∙ has_at ps i d low)
    where
      not_both : (a b : Bool) → (not a && b) ≡ true → a ≡ false
      not_both true b h = absurd (let no : false ≡ true = h in cc)
      not_both false b h = refl
