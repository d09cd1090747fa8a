-- Panes in the order of a sort, each with its place.
use Rattle.std.proofs.Common.{◌≡◌, ℕ, zero, suc, ◌+◌, ◌*◌, ◌<◌, ℤ, true, false, cond, ◌&&◌, List, [], ◌∷◌, ◌++◌, length, get_or, take, refl, sym, ap, subst, ◌∙◌, arith, Some}
use Rattle.std.specs.Prelude.{slice_get}
use Rattle.std.specs.List.{AllByRecursion, IsDistinct, dedup, dedup_from}
use Rattle.std.specs.List.Sorted.{IsPermutation, IsSorted, IsSortedByKey, IsStrictlySortedBy}
use Rattle.std.specs.Map.{keys_of}
use Rattle.std.specs.Ordering.{int_eq, is_eq, is_lt}
use Rattle.std.proofs.lemmas.Int.{ints}
use Rattle.std.proofs.lemmas.List.{get_or-map, length-map, map-append, take_more}
use Rattle.std.proofs.lemmas.List.Kept.{IsStrictlySortedBy-dedup}
use Rattle.std.proofs.lemmas.List.Sorted.{list_any-IsPermutation, IsPermutation-map}
use Rattle.std.proofs.lemmas.Map.Keys.{IsDistinct-IsPermutation}
use Rattle.std.proofs.lemmas.Option.{get_or_from_slice_get, slice_get_within}
use Rattle.plan_model.specs.declared.spec.Pane.{Pane}
use Rattle.plan_model.specs.Rows.{pane_cmp}
use Rattle.plan_model.proofs.Facts.{pane_cmp_total}
use Rattle.place_words.specs.Words.{acc_in}
use Rattle.window_state.specs.declared.places.Placed.{Placed}
use Rattle.window_state.specs.declared.places.Places.TheInside.{Inside}
use Rattle.window_state.specs.Places.{PlacesData}
use Rattle.window_state.specs.PlacesView.{places_view, IsPlacesInside}
use Rattle.window_state.specs.Placing.{panes_placed, IsPlaceIn}
use Rattle.window_state.specs.Windows.{has_pane, is_pane}
use Rattle.window_state.proofs.Entries.{tied}
use Rattle.window_state.proofs.Placed.{kinds_of, distinct_panes}
use Rattle.window_state.proofs.Sorted.{flips}
use Rattle.window_state.proofs.Spread.{Stands, found-first, keys-entries, mul_room}

pub itself : (a b : ℤ) → (int_eq a a && int_eq b b) ≡ true
itself a b = grind (arith, ints)

-- ---- panes each once, in order

once : (p : Pane) (ps : List Pane) → IsDistinct is_pane (p ∷ ps) → dedup_from is_pane p ps ≡ p ∷ ps
unfolding IsDistinct
once p [] h = refl
once p (x ∷ ps) h = ap (λ b. cond b (dedup_from is_pane p ps) (p ∷ dedup_from is_pane x ps)) (flips x p ∙ h.0.0) ∙ ap (λ l. p ∷ l) (once x ps h.1)

all_once : (ps : List Pane) → IsDistinct is_pane ps → dedup is_pane ps ≡ ps
all_once [] h = refl
all_once (p ∷ ps) h = once p ps h

in_order : (placed : List Placed) → IsSortedByKey (λ it. it.pane) pane_cmp placed → IsSorted pane_cmp (panes_placed placed)
in_order placed h k d low high =
    let none : Placed = record { pane = d; place = 0 } in
    let next : k + 1 < length placed = omega (arith, high, length-map placed (λ it. it.pane)) in
    (λ i. is_lt (pane_cmp (get_or-map (λ (it : Placed). it.pane) placed (k + 1) none d next i) (get_or-map (λ (it : Placed). it.pane) placed k none d (omega (arith, next)) i)))
    ∙ h k none low next

-- a pane more, with its place
pub next_placed : (ps : List Pane) (xs ys : List Placed) (i : ℕ) (d : Pane) → i < length ps → ys ≡ xs ++ record { pane = get_or ps i d; place = i } ∷ [] → panes_placed xs ≡ take i ps
    → panes_placed ys ≡ take (i + 1) ps
next_placed ps xs ys i d low is so_far =
    ap panes_placed is ∙ map-append (λ (it : Placed). it.pane) xs (record { pane = get_or ps i d; place = i } ∷ []) ∙ ap (λ l. l ++ get_or ps i d ∷ []) so_far ∙ sym (take_more ps i d low)

-- distinct panes that were sorted
pub sorted_placed : (before after : List Placed) → IsDistinct is_pane (panes_placed before) → IsPermutation before after → IsSortedByKey (λ it. it.pane) pane_cmp after
    → IsStrictlySortedBy pane_cmp (panes_placed after)
sorted_placed before after distinct moved sorted =
    let panes = panes_placed after in
    let still = IsDistinct-IsPermutation is_pane flips _ _ (IsPermutation-map (λ (it : Placed). it.pane) before after moved) distinct in
    subst (IsStrictlySortedBy pane_cmp) (all_once panes still) (IsStrictlySortedBy-dedup pane_cmp_total (λ x y. sym (tied x y)) panes (in_order after sorted))

pub same_placed : (before after : List Placed) (q : Pane) → IsPermutation before after → has_pane (panes_placed after) q ≡ has_pane (panes_placed before) q
same_placed before after q moved = sym (list_any-IsPermutation (λ p. is_eq (pane_cmp q p)) _ _ (IsPermutation-map (λ (it : Placed). it.pane) before after moved))

-- ---- a pane with its place

apart_in : (x : Pane) (ps : List Pane) (i : ℕ) (d : Pane) → AllByRecursion (λ y. is_pane x y ≡ false) ps → i < length ps → is_pane x (get_or ps i d) ≡ false
apart_in x [] i d h low = absurd (omega (arith, low))
apart_in x (p ∷ ps) zero d h low = h.0
apart_in x (p ∷ ps) (suc i) d h low = apart_in x ps i d h.1 (omega (arith, low))

apart : (ps : List Pane) (k i : ℕ) (d : Pane) → IsDistinct is_pane ps → k < i → i < length ps → is_pane (get_or ps k d) (get_or ps i d) ≡ false
unfolding IsDistinct
apart [] k i d h before low = absurd (omega (arith, low))
apart (p ∷ ps) k zero d h before low = absurd (omega (arith, before))
apart (p ∷ ps) zero (suc i) d h before low = apart_in p ps i d h.0 (omega (arith, low))
apart (p ∷ ps) (suc k) (suc i) d h before low = apart ps k i d h.1 (omega (arith, before)) (omega (arith, low))

pub stands_in : (s : Inside) (v : PlacesData) (it : Placed) → IsPlacesInside s → places_view s ≡ v → IsPlaceIn v.entries it → Stands (kinds_of s.window) s.words.items s.panes.keys s.stride it.pane it.place
stands_in s v it is view place =
    let ks = kinds_of s.window in
    let ws = s.words.items in
    let ps = s.panes.keys in
    let p = it.pane in
    let i = it.place in
    let there : slice_get ps i ≡ Some p = ap (λ l. slice_get l i) (sym (keys-entries ks ws 0 ps)) ∙ ap (λ (x : PlacesData). slice_get (keys_of x.entries) i) view ∙ place in
    let low = slice_get_within ps i p there in
    let at = λ (d : Pane). get_or_from_slice_get ps i p d there in
    let distinct = distinct_panes s.window s.stride ps ws is in
    let zero_on : 0 + i * s.stride ≡ i * s.stride = omega arith in
    record {
      low = low;
      room = omega (arith, mul_room i (length ps) s.stride low, is.len, is.stride);
      here = found-first ks ws 0 ps p i p low (ap (is_pane p) (at p) ∙ itself p.start p.key) (λ k l. flips p (get_or ps k p) ∙ ap (is_pane (get_or ps k p)) (sym (at p)) ∙ apart ps k i p distinct l low)
          ∙ (λ t. Some (acc_in ks ws (0 + i * sym is.stride t))) ∙ (λ t. Some (acc_in ks ws (zero_on t)));
      at = at;
    }
