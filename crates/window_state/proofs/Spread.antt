-- Panes in places one after the other.
use Rattle.std.proofs.Common.{pos, ◌&&◌, ◌≡◌, ℕ, zero, suc, ℤ, ◌+◌, ◌-◌, ◌*◌, ◌<◌, ◌≤◌, Bool, true, false, cond, ◌||◌, List, [], ◌∷◌, ◌++◌, length, get_or, take, set, refl, sym, ap, subst, ◌∙◌, arith, Option, Some, None}
use Rattle.std.specs.List.{AllByRecursion, IsDistinct, list_any}
use Rattle.std.specs.Map.{keys_of}
use Rattle.std.specs.Option.{is_some, option_map_or}
use Rattle.std.proofs.lemmas.Option.{slice_get-get_or}
use Rattle.std.specs.Cmp.{IsEquivalence}
use Rattle.std.specs.Ordering.{int_eq}
use Rattle.std.specs.List.{position, swap_remove, CopiedTo, SameBelow, SameFrom}
use Rattle.std.proofs.lemmas.Nat.{mul-le}
use Rattle.std.proofs.lemmas.Int.{ints}
use Rattle.std.proofs.lemmas.List.{get_or_default, get_or_append_left, get_or-take, set-get_or, length-set, length-take}
use Rattle.std.proofs.lemmas.List.Quantifiers.{position-Some}
use Rattle.indexmap.specs.IndexMap.{swap_remove_by}
use Rattle.indexmap.proofs.RemoveLemmas.{swap_out}
use Rattle.plan_model.specs.declared.spec.Pane.{Pane}
use Rattle.aggregates.specs.declared.kind.Kind.{Kind}
use Rattle.aggregates.specs.Kinds.{AccData}
use Rattle.window_state.specs.Windows.{is_pane, acc_at}
use Rattle.place_words.specs.Words.{word, stride, acc_in, entries_in, IsWritten}
use Rattle.place_words.proofs.Numbers.{IsSameFrom, acc-same}
use Rattle.window_state.proofs.Sorted.{flips}
use Rattle.window_state.proofs.Updates.{pane_from_test, Writes}

-- the next place
one_on : (x i s : ℕ) → x + s + i * s ≡ x + suc i * s
one_on x i s = grind arith

first_on : (x s : ℕ) → x + zero * s ≡ x
first_on x s = grind arith

pub keys-entries : (ks : List Kind) (ws : List ℤ) (x : ℕ) (ps : List Pane) → keys_of (entries_in ks ws x ps) ≡ ps
keys-entries ks ws x [] = refl
keys-entries ks ws x (p ∷ ps) = ap (λ l. p ∷ l) (keys-entries ks ws (x + stride ks) ps)

pub length-entries : (ks : List Kind) (ws : List ℤ) (x : ℕ) (ps : List Pane) → length (entries_in ks ws x ps) ≡ length ps
length-entries ks ws x [] = refl
length-entries ks ws x (p ∷ ps) = ap suc (length-entries ks ws (x + stride ks) ps)

pub entry-at : (ks : List Kind) (ws : List ℤ) (x : ℕ) (ps : List Pane) (i : ℕ) (d : Pane × AccData) (p : Pane) → i < length ps
    → get_or (entries_in ks ws x ps) i d ≡ (get_or ps i p, acc_in ks ws (x + i * stride ks))
entry-at ks ws x [] i d p low = absurd (omega (arith, low))
entry-at ks ws x (q ∷ ps) zero d p low = λ t. (q, acc_in ks ws (sym (first_on x (stride ks)) t))
entry-at ks ws x (q ∷ ps) (suc i) d p low = entry-at ks ws (x + stride ks) ps i d p (omega (arith, low)) ∙ (λ t. (get_or ps i p, acc_in ks ws (one_on x i (stride ks) t)))

-- the same words, the same entries
pub entries-same : (ks : List Kind) (ws vs : List ℤ) (x : ℕ) (ps : List Pane) → IsSameFrom (length ps * stride ks) ws x vs x → entries_in ks vs x ps ≡ entries_in ks ws x ps
entries-same ks ws vs x [] h = refl
entries-same ks ws vs x (p ∷ ps) h =
    let s = stride ks in
    let all : s + length ps * s ≡ suc (length ps) * s = grind arith in
    let first = acc-same ks ws vs x x (λ k low. h k (omega (arith, low, all))) in
    let rest = entries-same ks ws vs (x + s) ps (λ k low.
    let at : x + s + k ≡ x + (s + k) = omega arith in
    (λ t. word vs (at t)) ∙ h (s + k) (omega (arith, low, all)) ∙ (λ t. word ws (sym at t))) in
    λ t. (p, first t) ∷ rest t

-- one place is written
pub entries-set : (ks : List Kind) (ws vs : List ℤ) (x : ℕ) (ps : List Pane) (i : ℕ) (p : Pane) → i < length ps → IsWritten (x + i * stride ks) (x + i * stride ks + stride ks) ws vs
    → entries_in ks vs x (set ps i p) ≡ set (entries_in ks ws x ps) i (p, acc_in ks vs (x + i * stride ks))
entries-set ks ws vs x [] i p low h = absurd (omega (arith, low))
entries-set ks ws vs x (q ∷ ps) zero p low h =
    let s = stride ks in
    let rest = entries-same ks ws vs (x + s) ps (λ k l. h.above (x + s + k) (omega (arith, first_on x s))) in
    λ t. (p, acc_in ks vs (sym (first_on x s) t)) ∷ rest t
entries-set ks ws vs x (q ∷ ps) (suc i) p low h =
    let s = stride ks in
    let at = one_on x i s in
    let first = acc-same ks ws vs x x (λ k l. h.below (x + k) (omega (arith, l, at))) in
    let rest = entries-set ks ws vs (x + s) ps i p (omega (arith, low)) (subst (λ y. IsWritten y (y + s) ws vs) (sym at) h) in
    (λ t. (q, first t) ∷ rest t) ∙ (λ t. (q, acc_in ks ws x) ∷ set (entries_in ks ws (x + s) ps) i (p, acc_in ks vs (at t)))

-- one place more
pub entries-push : (ks : List Kind) (ws : List ℤ) (x : ℕ) (ps : List Pane) (p : Pane) → entries_in ks ws x (ps ++ p ∷ []) ≡ entries_in ks ws x ps ++ (p, acc_in ks ws (x + length ps * stride ks)) ∷ []
entries-push ks ws x [] p = λ t. (p, acc_in ks ws (sym (first_on x (stride ks)) t)) ∷ []
entries-push ks ws x (q ∷ ps) p =
    ap (λ l. (q, acc_in ks ws x) ∷ l) (entries-push ks ws (x + stride ks) ps p)
    ∙ (λ t. (q, acc_in ks ws x) ∷ (entries_in ks ws (x + stride ks) ps ++ (p, acc_in ks ws (one_on x (length ps) (stride ks) t)) ∷ []))

pub entries-take : (ks : List Kind) (ws : List ℤ) (x n : ℕ) (ps : List Pane) → entries_in ks ws x (take n ps) ≡ take n (entries_in ks ws x ps)
entries-take ks ws x zero [] = refl
entries-take ks ws x zero (p ∷ ps) = refl
entries-take ks ws x (suc n) [] = refl
entries-take ks ws x (suc n) (p ∷ ps) = ap (λ l. (p, acc_in ks ws x) ∷ l) (entries-take ks ws (x + stride ks) n ps)

-- ---- looked up

pub found-any : (ks : List Kind) (ws : List ℤ) (x : ℕ) (ps : List Pane) (q : Pane) → is_some (acc_at (entries_in ks ws x ps) q) ≡ list_any (is_pane q) ps
found-any ks ws x [] q = refl
found-any ks ws x (p ∷ ps) q = by_case (is_pane q p) (acc_at (entries_in ks ws (x + stride ks) ps) q) (found-any ks ws (x + stride ks) ps q)
  where
    by_case : (b : Bool) (o : Option AccData) → is_some o ≡ list_any (is_pane q) ps → is_some (cond b (Some (acc_in ks ws x)) o) ≡ (b || list_any (is_pane q) ps)
    by_case true o h = refl
    by_case false o h = h

pub found-first : (ks : List Kind) (ws : List ℤ) (x : ℕ) (ps : List Pane) (q : Pane) (i : ℕ) (d : Pane) → i < length ps → is_pane q (get_or ps i d) ≡ true
    → ((k : ℕ) → k < i → is_pane q (get_or ps k d) ≡ false) → acc_at (entries_in ks ws x ps) q ≡ Some (acc_in ks ws (x + i * stride ks))
found-first ks ws x [] q i d low here before = absurd (omega (arith, low))
found-first ks ws x (p ∷ ps) q zero d low here before =
    ap (λ b. cond b (Some (acc_in ks ws x)) (acc_at (entries_in ks ws (x + stride ks) ps) q)) here ∙ (λ t. Some (acc_in ks ws (sym (first_on x (stride ks)) t)))
found-first ks ws x (p ∷ ps) q (suc i) d low here before =
    ap (λ b. cond b (Some (acc_in ks ws x)) (acc_at (entries_in ks ws (x + stride ks) ps) q)) (before 0 (omega arith))
    ∙ found-first ks ws (x + stride ks) ps q i d (omega (arith, low)) here (λ k l. before (suc k) (omega (arith, l)))
    ∙ (λ t. Some (acc_in ks ws (one_on x i (stride ks) t)))

-- ---- one entry is written

apart-at : (x : Pane) (es : List (Pane × AccData)) (i : ℕ) (d : Pane × AccData) → AllByRecursion (λ y. is_pane x y ≡ false) (keys_of es) → i < length es → is_pane x (get_or es i d).0 ≡ false
apart-at x [] i d h low = absurd (omega (arith, low))
apart-at x (e ∷ es) zero d h low = h.0
apart-at x (e ∷ es) (suc i) d h low = apart-at x es i d h.1 (omega (arith, low))

-- two panes that differ are looked up in either order
either : (p r q : Pane) (a b o : Option AccData) → is_pane r p ≡ false → cond (is_pane q r) b (cond (is_pane p q) a o) ≡ cond (is_pane p q) a (cond (is_pane q r) b o)
either p r q a b o apart = by_case (is_pane p q) (is_pane q r) refl refl
  where
    by_case : (s t : Bool) → is_pane p q ≡ s → is_pane q r ≡ t → cond t b (cond s a o) ≡ cond s a (cond t b o)
    by_case true true e f = absurd (let clash : true ≡ false = sym e ∙ ap (is_pane p) (pane_from_test q r f) ∙ flips p r ∙ apart in cc)
    by_case true false e f = refl
    by_case false true e f = refl
    by_case false false e f = refl

pub found-set : (es : List (Pane × AccData)) (i : ℕ) (d : Pane × AccData) (p q : Pane) (a : AccData) → IsDistinct is_pane (keys_of es) → i < length es → (get_or es i d).0 ≡ p
    → acc_at (set es i (p, a)) q ≡ cond (is_pane p q) (Some a) (acc_at es q)
unfolding IsDistinct
found-set [] i d p q a h low is = absurd (omega (arith, low))
found-set (e ∷ es) zero d p q a h low is = ap (λ b. cond b (Some a) (acc_at es q)) (flips q p) ∙ by_case (is_pane p q) refl
  where
    by_case : (b : Bool) → is_pane p q ≡ b → cond b (Some a) (acc_at es q) ≡ cond b (Some a) (cond (is_pane q e.0) (Some e.1) (acc_at es q))
    by_case true f = refl
    by_case false f = sym (ap (λ b. cond b (Some e.1) (acc_at es q)) (ap (is_pane q) is ∙ flips q p ∙ f))
found-set (e ∷ es) (suc i) d p q a h low is =
    let apart : is_pane e.0 p ≡ false = subst (λ y. is_pane e.0 y ≡ false) is (apart-at e.0 es i d h.0 (omega (arith, low))) in
    ap (cond (is_pane q e.0) (Some e.1)) (found-set es i d p q a h.1 (omega (arith, low)) is) ∙ either p e.0 q (Some a) (Some e.1) (acc_at es q) apart

absent-next : (p : Pane) (e : Pane × AccData) (o : Option AccData) → cond (is_pane p e.0) (Some e.1) o ≡ None → (is_pane p e.0 ≡ false) × (o ≡ None)
absent-next p e o h = by_case (is_pane p e.0) refl
  where
    by_case : (b : Bool) → is_pane p e.0 ≡ b → (is_pane p e.0 ≡ false) × (o ≡ None)
    by_case true f = absurd (let clash : Some e.1 ≡ None = sym (ap (λ b. cond b (Some e.1) o) f) ∙ h in cc)
    by_case false f = (f, sym (ap (λ b. cond b (Some e.1) o) f) ∙ h)

-- an entry more, in a pane that has none
pub found-push : (es : List (Pane × AccData)) (p q : Pane) (a : AccData) → acc_at es p ≡ None → acc_at (es ++ (p, a) ∷ []) q ≡ cond (is_pane p q) (Some a) (acc_at es q)
found-push [] p q a h = ap (λ b. cond b (Some a) None) (flips q p)
found-push (e ∷ es) p q a h =
    let no = absent-next p e (acc_at es p) h in
    ap (cond (is_pane q e.0) (Some e.1)) (found-push es p q a no.1) ∙ either p e.0 q (Some a) (Some e.1) (acc_at es q) (flips e.0 p ∙ no.0)

-- ---- the places of a state

pub mul_room : (i n w : ℕ) → i < n → i * w + w ≤ n * w
mul_room i n w low =
    let whole : i * w + w ≡ suc i * w = grind arith in
    subst (λ x. x ≤ n * w) (sym whole) (mul-le (suc i) w n w (omega (arith, low)) (omega arith))

-- a pane has place i
pub record Stands (ks : List Kind) (ws : List ℤ) (ps : List Pane) (w : ℕ) (p : Pane) (i : ℕ) : Type 0 where
  pub low : i < length ps
  pub room : i * w + stride ks ≤ length ws
  pub here : acc_at (entries_in ks ws 0 ps) p ≡ Some (acc_in ks ws (i * w))
  pub at : (d : Pane) → get_or ps i d ≡ p

pub stands : (ks : List Kind) (ws : List ℤ) (ps : List Pane) (w : ℕ) (p : Pane) (i : ℕ) → w ≡ stride ks → length ws ≡ length ps * w → position (is_pane p) ps ≡ Some i → Stands ks ws ps w p i
stands ks ws ps w p i wide len index =
    let first = position-Some (is_pane p) ps i p index in
    let zero_on : 0 + i * w ≡ i * w = omega arith in
    record {
      low = first.0;
      room = omega (arith, mul_room i (length ps) w first.0, len, wide);
      here = found-first ks ws 0 ps p i p first.0 first.1 first.2 ∙ (λ t. Some (acc_in ks ws (0 + i * sym wide t))) ∙ (λ t. Some (acc_in ks ws (zero_on t)));
      at = λ d. get_or_default ps i d p first.0 ∙ sym (pane_from_test p (get_or ps i p) first.1);
    }

-- its words are written
pub writes_place : (ks : List Kind) (ws vs : List ℤ) (ps : List Pane) (w : ℕ) (p : Pane) (i : ℕ) → w ≡ stride ks → IsDistinct is_pane ps → Stands ks ws ps w p i
    → IsWritten (i * w) (i * w + stride ks) ws vs → Writes p (acc_in ks vs (i * w)) (entries_in ks ws 0 ps) (entries_in ks vs 0 ps)
writes_place ks ws vs ps w p i wide distinct st h =
    let es = entries_in ks ws 0 ps in
    let a = acc_in ks vs (i * w) in
    let at : i * w ≡ 0 + i * stride ks = omega (arith, ap (λ x. i * x) wide) in
    let new : entries_in ks vs 0 ps ≡ set es i (p, a) =
    (λ t. entries_in ks vs 0 ((sym (set-get_or ps i p) ∙ ap (set ps i) (st.at p)) t))
    ∙ entries-set ks ws vs 0 ps i p st.low (subst (λ x. IsWritten x (x + stride ks) ws vs) at h)
    ∙ (λ t. set es i (p, acc_in ks vs (sym at t))) in
    let low : i < length es = omega (arith, st.low, length-entries ks ws 0 ps) in
    record {
      at = λ q. ap (λ l. acc_at l q) new
          ∙ found-set es i (p, a) p q a (subst (IsDistinct is_pane) (sym (keys-entries ks ws 0 ps)) distinct) low (ap (λ e. e.0) (entry-at ks ws 0 ps i (p, a) p st.low) ∙ st.at p);
      distinct = subst (IsDistinct is_pane) (sym (keys-entries ks vs 0 ps)) distinct;
    }

-- a pane without a place is given the one after the last
pub pushes_place : (ks : List Kind) (ws vs zs : List ℤ) (ps qs : List Pane) (w : ℕ) (p : Pane) → w ≡ stride ks → length ws ≡ length ps * w → qs ≡ ps ++ p ∷ [] → IsDistinct is_pane qs
    → acc_at (entries_in ks ws 0 ps) p ≡ None → IsWritten (length ws) (length ws + stride ks) (ws ++ zs) vs
    → Writes p (acc_in ks vs (length ws)) (entries_in ks ws 0 ps) (entries_in ks vs 0 qs)
pushes_place ks ws vs zs ps qs w p wide len is distinct none h =
    let es = entries_in ks ws 0 ps in
    let a = acc_in ks vs (length ws) in
    let at : 0 + length ps * stride ks ≡ length ws = omega (arith, ap (λ x. length ps * x) wide, len) in
    let old : entries_in ks vs 0 ps ≡ es = entries-same ks ws vs 0 ps (λ k low.
    let below : 0 + k < length ws = omega (arith, low, at) in
    h.below (0 + k) below ∙ get_or_append_left ws zs (pos 0) (0 + k) below) in
    let new : entries_in ks vs 0 qs ≡ es ++ (p, a) ∷ [] =
    ap (entries_in ks vs 0) is ∙ entries-push ks vs 0 ps p ∙ (λ t. old t ++ (p, acc_in ks vs (at t)) ∷ []) in
    record {
      at = λ q. ap (λ l. acc_at l q) new ∙ found-push es p q a none;
      distinct = subst (IsDistinct is_pane) (sym (keys-entries ks vs 0 qs)) distinct;
    }

-- a pane's place is taken, and the last words moved there
is_pane-laws : IsEquivalence is_pane
is_pane-laws = record {
  refl = λ x. same x.start x.key;
  symm = flips;
  congr = λ x y z e. ap (λ p. is_pane p z) (pane_from_test x y e);
} where
  same : (a b : ℤ) → (int_eq a a && int_eq b b) ≡ true
  same a b = grind (arith, ints)

swapped : (ps : List Pane) (p : Pane) (i : ℕ) → position (is_pane p) ps ≡ Some i → swap_remove_by (is_pane p) ps ≡ take (length ps - 1) (set ps i (get_or ps (length ps - 1) p))
swapped [] p i h = absurd cc
swapped (x ∷ ps) p i h =
    let all = x ∷ ps in
    ap (λ o. option_map_or (λ j. swap_remove all j x) o all) h
    ∙ ap (λ y. take (length all - 1) (set all i y)) (get_or_default all (length all - 1) x p (omega arith))

pub one_less : (m w : ℕ) → 0 < m → m * w - w ≡ (m - 1) * w
one_less zero w low = absurd (omega (arith, low))
one_less (suc k) w low =
    let whole : suc k * w ≡ k * w + w = grind arith in
    let before : suc k - 1 ≡ k = omega arith in
    let left : suc k * w - w ≡ k * w = omega (arith, whole) in
    left ∙ ap (λ n. n * w) (sym before)

pub takes_place : (ks : List Kind) (ws us vs : List ℤ) (ps qs : List Pane) (w : ℕ) (p : Pane) (i : ℕ) → w ≡ stride ks → length ws ≡ length ps * w → IsDistinct is_pane ps → position (is_pane p) ps ≡ Some i
    → qs ≡ swap_remove_by (is_pane p) ps → vs ≡ take (length ws - w) us → length us ≡ length ws
    → CopiedTo ws us (length ws - w) (i * w) w → SameBelow ws us (i * w) → SameFrom ws us (i * w + w)
    → (q : Pane) → acc_at (entries_in ks vs 0 qs) q ≡ cond (is_pane p q) None (acc_at (entries_in ks ws 0 ps) q)
takes_place ks ws us vs ps qs w p i wide len distinct index is cut whole copied below above =
    let es = entries_in ks ws 0 ps in
    let st : Stands ks ws ps w p i = stands ks ws ps w p i wide len index in
    let n = length ps - 1 in
    let inside : n < length ps = omega (arith, st.low) in
    let last = get_or ps n p in
    let ls = set ps i last in
    let d : Pane × AccData = (p, acc_in ks ws 0) in
    let e = get_or es i d in
    let low : i < length es = omega (arith, st.low, length-entries ks ws 0 ps) in
    let width : (j : ℕ) → 0 + j * stride ks ≡ j * w = λ j. omega (arith, ap (λ x. j * x) wide) in
    let end : length ws - w ≡ n * w = ap (λ l. l - w) len ∙ one_less (length ps) w (omega (arith, st.low)) in
    let written : IsWritten (i * w) (i * w + stride ks) ws us = record {
      len = whole;
      below = λ k l. below k (pos 0) l;
      above = λ k l. above k (pos 0) (omega (arith, l, wide));
    } in
    let put : entries_in ks us 0 ls ≡ set es i (last, acc_in ks us (0 + i * stride ks)) =
    entries-set ks ws us 0 ps i last st.low (subst (λ x. IsWritten x (x + stride ks) ws us) (sym (width i)) written) in
    let moved : acc_in ks us (i * w) ≡ acc_in ks ws (n * w) = acc-same ks ws us (n * w) (i * w) (λ k l.
    let from : length ws - w + (i * w + k - i * w) ≡ n * w + k = omega (arith, end) in
    copied (i * w + k) (pos 0) (omega arith) (omega (arith, l, wide)) ∙ (λ t. word ws (from t))) in
    let there : (last, acc_in ks us (0 + i * stride ks)) ≡ get_or es n e =
    (λ t. (last, acc_in ks us (width i t))) ∙ (λ t. (last, moved t)) ∙ (λ t. (last, acc_in ks ws (sym (width n) t))) ∙ sym (entry-at ks ws 0 ps n e p inside) in
    let few : length (take n ls) ≡ n = omega (arith, length-take n ls, length-set ps i last, st.low) in
    let kept : entries_in ks vs 0 (take n ls) ≡ entries_in ks us 0 (take n ls) = entries-same ks us vs 0 (take n ls) (λ k l.
    let k_in : 0 + k < length ws - w = omega (arith, l, ap (λ x. x * stride ks) few, width n, end) in
    (λ t. word (cut t) (0 + k)) ∙ get_or-take (length ws - w) us (0 + k) (pos 0) k_in) in
    let many : n ≡ length es - 1 = omega (arith, length-entries ks ws 0 ps) in
    let after : entries_in ks vs 0 qs ≡ swap_remove es i e =
    ap (entries_in ks vs 0) (is ∙ swapped ps p i index)
    ∙ kept ∙ entries-take ks us 0 n ls
    ∙ ap (take n) (put ∙ ap (set es i) there)
    ∙ (λ t. take (many t) (set es i (get_or es (many t) e))) in
    λ q. (swap_out is_pane is_pane-laws (is_pane p) (λ x y same. ap (λ z. is_pane z y) (pane_from_test p x same)) es i e
    (ap (position (is_pane p)) (keys-entries ks ws 0 ps) ∙ index) (slice_get-get_or es i d low) (subst (IsDistinct is_pane) (sym (keys-entries ks ws 0 ps)) distinct)
    (entries_in ks vs 0 qs) after).updated.0 q
