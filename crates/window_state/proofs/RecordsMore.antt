-- Records that are brought in together, each in a pane that has a place.
use Rattle.std.proofs.Common.{pos, ◌≡◌, ◌∙◌, sym, ap, refl, subst, cond, Bool, true, false, ◌+◌, ◌*◌, ◌<◌, ◌∷◌, [], List, ℕ, ℤ, length, get_or, map, suc, Option, Some, None, arith}
use Rattle.std.specs.Option.{is_some}
use Rattle.std.specs.List.{IsDistinct}
use Rattle.std.proofs.lemmas.Int.{ints}
use Rattle.std.proofs.lemmas.Option.{slice_get-get_or}
use Rattle.std.specs.Prelude.{slice_get}
use Rattle.std.specs.Map.{keys_of}
use Rattle.plain_data.specs.Record.{Record}
use Rattle.plan_model.specs.declared.spec.Aggregate.{Aggregate}
use Rattle.plan_model.specs.declared.spec.Pane.{Pane}
use Rattle.plan_model.specs.declared.spec.WindowSpec.{WindowSpec}
use Rattle.plan_model.specs.declared.spec.Aggregate.TheVariants.{Count, Sum, Least, Greatest}
use Rattle.plan_model.specs.Aggregates.{Aggregated, aggregate_of, merge, merge_number, merge_numbers, number_of}
use Rattle.plan_model.proofs.Facts.{merge_assoc}
use Rattle.aggregates.specs.declared.kind.Kind.{Kind}
use Rattle.aggregates.specs.Kinds.{AccData, IsAcc, kind_of}
use Rattle.aggregates.proofs.Accs.{merge_numbers-kinds}
use Rattle.place_words.specs.Words.{acc_in, entries_in, stride}
use Rattle.place_words.specs.PlacedRows.{with_record, with_records, IsPlaceOf}
use Rattle.window_state.specs.Windows.{acc_at, is_pane}
use Rattle.window_state.specs.declared.places.Places.TheInside.{Inside}
use Rattle.window_state.specs.Places.{PlacesData, ArePlaces}
use Rattle.window_state.specs.PlacesView.{places_view, IsPlacesInside}
use Rattle.window_state.specs.Placing.{HasWordsAt}
use Rattle.window_state.proofs.InOrder.{stands_in}
use Rattle.window_state.proofs.Placed.{kinds_of}
use Rattle.window_state.proofs.Spread.{Stands, found-any, keys-entries}

-- one record more
pub record_more : (aggregates : List Aggregate) (t : Aggregated) (r : Record) → Some (with_record aggregates t r) ≡ merge aggregates (Some t) (aggregate_of aggregates (r ∷ []))
record_more aggregates t r = λ i. Some (record { count = t.count + 1; numbers = sym (merge_numbers-kinds aggregates t.numbers (map (λ a. number_of a r []) aggregates)) i })

number_more : (a : Aggregate) (r s : Record) (rs : List Record) → number_of a r (s ∷ rs) ≡ merge_number a (number_of a r []) (number_of a s rs)
number_more Count r s rs = ap pos (omega arith)
number_more (Sum c) r s rs = omega (arith, ints)
number_more (Least c) r s rs = refl
number_more (Greatest c) r s rs = refl

numbers_more : (ks : List Aggregate) (r s : Record) (rs : List Record)
    → map (λ a. number_of a r (s ∷ rs)) ks ≡ merge_numbers ks (map (λ a. number_of a r []) ks) (map (λ a. number_of a s rs) ks)
numbers_more [] r s rs = refl
numbers_more (k ∷ ks) r s rs = λ i. number_more k r s rs i ∷ numbers_more ks r s rs i

pub first_more : (ks : List Aggregate) (r : Record) (rs : List Record) → aggregate_of ks (r ∷ rs) ≡ merge ks (aggregate_of ks (r ∷ [])) (aggregate_of ks rs)
first_more ks r [] = refl
first_more ks r (s ∷ rs) =
    let count : length (r ∷ s ∷ rs) ≡ 1 + length (s ∷ rs) = omega arith in
    λ i. Some (record { count = count i; numbers = numbers_more ks r s rs i })

-- records more, one after the other
pub records_more : (aggregates : List Aggregate) (t : Aggregated) (rs : List Record) → Some (with_records aggregates t rs) ≡ merge aggregates (Some t) (aggregate_of aggregates rs)
records_more aggregates t [] = refl
records_more aggregates t (r ∷ rs) =
    records_more aggregates (with_record aggregates t r) rs
    ∙ ap (λ o. merge aggregates o (aggregate_of aggregates rs)) (record_more aggregates t r)
    ∙ merge_assoc aggregates (Some t) (aggregate_of aggregates (r ∷ [])) (aggregate_of aggregates rs)
    ∙ ap (merge aggregates (Some t)) (sym (first_more aggregates r rs))

-- ---- what stands in places that are written together

same_acc : (a b : AccData) → Some a ≡ Some b → a ≡ b
same_acc a b e = cc

one_behind : (x i s : ℕ) → x + s + i * s ≡ x + suc i * s
one_behind x i s = grind arith

-- what is found stands in a place
pub found_place : (ks : List Kind) (ws : List ℤ) (x : ℕ) (ps : List Pane) (q : Pane) (a : AccData) → acc_at (entries_in ks ws x ps) q ≡ Some a
    → (i : ℕ) × (i < length ps) × (a ≡ acc_in ks ws (x + i * stride ks))
found_place ks ws x [] q a e = absurd (cc)
found_place ks ws x (p ∷ ps) q a e = by_case (is_pane q p) (found_place ks ws (x + stride ks) ps q a) e
  where
    by_case : (b : Bool) → (acc_at (entries_in ks ws (x + stride ks) ps) q ≡ Some a → (i : ℕ) × (i < length ps) × (a ≡ acc_in ks ws (x + stride ks + i * stride ks)))
        → cond b (Some (acc_in ks ws x)) (acc_at (entries_in ks ws (x + stride ks) ps) q) ≡ Some a → (i : ℕ) × (i < suc (length ps)) × (a ≡ acc_in ks ws (x + i * stride ks))
    by_case true rest f = let first : x ≡ x + 0 * stride ks = omega arith in (0, omega arith, sym (same_acc (acc_in ks ws x) a f) ∙ (λ t. acc_in ks ws (first t)))
    by_case false rest f = let r = rest f in (suc r.0, omega (arith, r.1), r.2 ∙ (λ t. acc_in ks ws (one_behind x r.0 (stride ks) t)))

some_of : (o : Option AccData) → is_some o ≡ true → (b : AccData) × (o ≡ Some b)
some_of None h = absurd (cc)
some_of (Some b) h = (b, refl)

-- places whose words are written so that accumulators stand in all of them
pub kept_together : (w : WindowSpec) (n : ℕ) (ps : List Pane) (ws vs : List ℤ) → ArePlaces w n ps ws → length vs ≡ length ws
    → ((i : ℕ) → i < length ps → IsAcc (acc_in (map kind_of w.aggregates) vs (i * n))) → ArePlaces w n ps vs
kept_together w n ps ws vs h len sound =
    let ks = map kind_of w.aggregates in
    let behind = λ (i : ℕ). ap (λ s. i * s) h.stride in
    let found = λ (q : Pane) (a : AccData) (e : acc_at (entries_in ks vs 0 ps) q ≡ Some a). found_place ks vs 0 ps q a e in
    record {
      operator = h.operator;
      stride = h.stride;
      len = len ∙ h.len;
      windows = record {
        distinct = subst (IsDistinct is_pane) (keys-entries ks ws 0 ps ∙ sym (keys-entries ks vs 0 ps)) h.windows.distinct;
        kinds = λ q a e. ap (λ (b : AccData). b.kinds) (found q a e).2;
        starts = λ q a e.
            let there = some_of (acc_at (entries_in ks ws 0 ps) q) (found-any ks ws 0 ps q ∙ sym (found-any ks vs 0 ps q) ∙ ap is_some e) in
            h.windows.starts q there.0 there.1;
      };
      sound = λ q a e.
          let f = found q a e in
          subst IsAcc (sym f.2) (subst (λ (y : ℕ). IsAcc (acc_in ks vs y)) (omega (arith, behind f.0)) (sound f.0 f.1));
    }

-- ---- words of a pane

module _ (s : Inside) (v : PlacesData) (is : IsPlacesInside s) (view : places_view s ≡ v) (q : Pane) (x : ℕ) (h : HasWordsAt v q x) where
  pub its_stand : Stands (kinds_of s.window) s.words.items s.panes.keys s.stride q h.place
  its_stand = stands_in s v (record { pane = q; place = h.place }) is view h.there

  pub its_words : x ≡ h.place * s.stride
  its_words = h.begins ∙ ap (λ (d : PlacesData). h.place * stride (map kind_of d.window.aggregates)) (sym view) ∙ ap (λ n. h.place * n) (sym is.stride)

  pub its_acc : acc_at v.entries q ≡ Some (acc_in (kinds_of s.window) s.words.items x)
  its_acc = sym (ap (λ (d : PlacesData). acc_at d.entries q) view) ∙ its_stand.here ∙ ap (λ y. Some (acc_in (kinds_of s.window) s.words.items y)) (sym its_words)

  pub is_place : IsPlaceOf (kinds_of s.window) s.words.items x
  is_place = record {
    within = record {
      place = h.place;
      begins = its_words ∙ ap (λ n. h.place * n) is.stride;
      inside = omega (arith, its_words, its_stand.room);
    };
    sound = subst (λ y. IsAcc (acc_in (kinds_of s.window) s.words.items y)) (sym its_words) (is.sound q (acc_in (kinds_of s.window) s.words.items (h.place * s.stride)) its_stand.here);
  }

-- each place has a pane, whose words begin there
pub has_words : (s : Inside) (v : PlacesData) → IsPlacesInside s → places_view s ≡ v → (i : ℕ) (d : Pane) → i < length s.panes.keys
    → HasWordsAt v (get_or s.panes.keys i d) (i * s.stride)
has_words s v is view i d low = record {
  place = i;
  there = ap (λ (x : PlacesData). slice_get (keys_of x.entries) i) (sym view)
      ∙ ap (λ l. slice_get l i) (keys-entries (kinds_of s.window) s.words.items 0 s.panes.keys) ∙ slice_get-get_or s.panes.keys i d low;
  begins = ap (λ n. i * n) is.stride ∙ ap (λ (x : PlacesData). i * stride (map kind_of x.window.aggregates)) view;
}
