-- Records that come into the panes of the last windows of their times, where those are the only ones.
use Rattle.std.proofs.Common.{◌≡◌, ◌∙◌, sym, ap, refl, subst, cond, Bool, true, false, ◌==◌, ◌+◌, ◌*◌, ◌^◌, ◌≤◌, ◌<◌, ◌-ℤ◌, ◌≤ℤ◌, ◌&&◌, [], ◌∷◌, ◌++◌, List, ℕ, zero, suc, ℤ, pos, length, get_or, map, Option, Some, None, inl, inr, arith, if◌then◌else◌}
use Rattle.std.specs.Int.{int_rem_euclid}
use Rattle.std.specs.List.{All, IsDistinct, list_any}
use Rattle.std.specs.Map.{keys_of}
use Rattle.std.specs.Option.{is_some, option_map}
use Rattle.std.specs.Ordering.{int_eq}
use Rattle.std.specs.Prelude.{slice_get}
use Rattle.std.specs.Vec.{with_items}
use Rattle.std.proofs.Math.Nat.{mod-eq_of_lt}
use Rattle.std.proofs.lemmas.Bool.{cases_order, eq-eqb, ne_eqb}
use Rattle.std.proofs.lemmas.Int.{ints}
use Rattle.std.proofs.lemmas.List.{with_items_is}
use Rattle.std.proofs.lemmas.Map.Entries.{place_from_lookup}
use Rattle.std.proofs.lemmas.Map.Keys.{apart_from_distinct}
use Rattle.std.proofs.lemmas.Option.{get_or_from_slice_get, slice_get-map, slice_get_within}
use Rattle.plain_data.specs.Record.{Record, at}
use Rattle.plan_model.specs.declared.spec.Aggregate.{Aggregate}
use Rattle.plan_model.specs.declared.spec.Pane.{Pane}
use Rattle.plan_model.specs.declared.spec.WindowSpec.{WindowSpec}
use Rattle.plan_model.specs.Aggregates.{Aggregated, aggregate_of, merge}
use Rattle.plan_model.specs.PlanData.{IsWindow}
use Rattle.plan_model.specs.Rows.{aggregate_at}
use Rattle.plan_model.specs.Windows.{is_start}
use Rattle.plan_model.proofs.Facts.{aggregate_at-append, natural, remainder}
use Rattle.aggregates.specs.Kinds.{AccData, IsAcc, kind_of}
use Rattle.place_words.specs.declared.words.PlacedRow.{PlacedRow}
use Rattle.place_words.specs.Words.{acc_in, stride}
use Rattle.place_words.specs.PlacedRows.{AreFew, IsInPlaces, IsPlaceOf, records_to, rows_to, with_records}
use Rattle.window_state.specs.declared.places.Places.TheInside.{Inside}
use Rattle.window_state.specs.Places.{PlacesData, ArePlaces}
use Rattle.window_state.specs.PlacesView.{entries_inside, places_view, IsPlacesInside}
use Rattle.window_state.specs.Placing.{HasWordsAt, last_pane, records_placed}
use Rattle.window_state.specs.State.{HasRoom}
use Rattle.window_state.specs.Windows.{acc_at, is_pane, total_at}
use Rattle.window_state.proofs.Entries.{none_there}
use Rattle.window_state.proofs.InOrder.{itself}
use Rattle.window_state.proofs.Placed.{kinds_of}
use Rattle.window_state.proofs.RecordsMore.{first_more, has_words, is_place, its_acc, kept_together, records_more}
use Rattle.window_state.proofs.Slides.{slid, slid_end, slid_start, slid_step}
use Rattle.window_state.proofs.Spread.{found-any, keys-entries, mul_room}
use Rattle.window_state.proofs.Updates.{pane_from_test}

-- ---- one record, where windows are as long as their slide

at_rest : (w : WindowSpec) (r : Record) (q : Pane) (n rest : ℕ) → 0 < n → rest < n → w.slide ≡ pos n → w.size ≡ pos n
    → int_rem_euclid (at w.time r -ℤ w.offset) (pos n) ≡ pos rest
    → aggregate_at w (r ∷ []) q ≡ cond (int_eq (at w.time r -ℤ pos rest) q.start && int_eq (at w.key r) q.key) (aggregate_of w.aggregates (r ∷ [])) None
at_rest w r q n rest some low slide size is =
    let first : None ≡ slid w r None q rest = slid_start w r None q n n rest some slide size is low in
    let step = slid_step w r None None q rest n n rest some slide size is (mod-eq_of_lt low) low first in
    sym (step ∙ slid_end w r None q (rest + n) n n rest some slide size is (omega arith))

above_zero : (z : ℤ) → pos 1 ≤ℤ z → pos 0 ≤ℤ z
above_zero z h = omega (arith, ints)

some_steps : (z : ℤ) (n : ℕ) → pos 1 ≤ℤ z → z ≡ pos n → 0 < n
some_steps z n h is = omega (arith, ints)

-- it counts in the pane of the last window of its time, and nowhere else
pub at_last : (w : WindowSpec) (r : Record) (q : Pane) → IsWindow w → w.slide ≡ w.size
    → aggregate_at w (r ∷ []) q ≡ cond (is_pane (last_pane w r) q) (aggregate_of w.aggregates (r ∷ [])) None
at_last w r q range one =
    let long : (n : ℕ) × (w.slide ≡ pos n) = natural w.slide (above_zero w.slide range.slides) in
    let n = long.0 in
    let some : 0 < n = some_steps w.slide n range.slides long.1 in
    let t : ℤ = at w.time r in
    let found : (rest : ℕ) × (rest < n) × (int_rem_euclid (t -ℤ w.offset) (pos n) ≡ pos rest) = remainder (t -ℤ w.offset) n some in
    let same : int_rem_euclid (t -ℤ w.offset) w.slide ≡ pos found.0 = ap (int_rem_euclid (t -ℤ w.offset)) long.1 ∙ found.2 in
    at_rest w r q n found.0 some found.1 long.1 (sym one ∙ long.1) found.2
    ∙ (λ i. cond (int_eq (t -ℤ sym same i) q.start && int_eq (at w.key r) q.key) (aggregate_of w.aggregates (r ∷ [])) None)

-- ---- the records of rows

-- a row's record counts in a pane just where a test says so
abbrev pub CountsAt : WindowSpec → List Record → List PlacedRow → Pane → (PlacedRow → Bool) → Type 0
CountsAt w records rows q test = All (λ r. is_pane (last_pane w (get_or records r.row [])) q ≡ test r) rows

counts_behind : (w : WindowSpec) (records : List Record) (r : PlacedRow) (rows : List PlacedRow) (q : Pane) (test : PlacedRow → Bool)
    → CountsAt w records (r ∷ rows) q test → CountsAt w records rows q test
counts_behind w records r rows q test h k d low = h (suc k) d (omega (arith, low))

-- the first of them, and the others
first_at : (w : WindowSpec) (records : List Record) (r : PlacedRow) (rows : List PlacedRow) (q : Pane) (test : PlacedRow → Bool) → IsWindow w → w.slide ≡ w.size
    → CountsAt w records (r ∷ rows) q test
    → aggregate_at w (records_placed records (r ∷ rows)) q
    ≡ merge w.aggregates (cond (test r) (aggregate_of w.aggregates (get_or records r.row [] ∷ [])) None) (aggregate_at w (records_placed records rows) q)
first_at w records r rows q test range one counts =
    let first : Record = get_or records r.row [] in
    let rest = aggregate_at w (records_placed records rows) q in
    aggregate_at-append w (first ∷ []) (records_placed records rows) q
    ∙ ap (λ o. merge w.aggregates o rest) (at_last w first q range one)
    ∙ ap (λ b. merge w.aggregates (cond b (aggregate_of w.aggregates (first ∷ [])) None) rest) (counts 0 r (omega arith))

pub none_either : (b : Bool) → (let none : Option Aggregated = None in cond b none none ≡ none)
none_either true = refl
none_either false = refl

-- those that go to some words
pub records_at : (w : WindowSpec) (records : List Record) (rows : List PlacedRow) (q : Pane) (x : ℕ) → IsWindow w → w.slide ≡ w.size
    → CountsAt w records rows q (λ r. r.at == x)
    → aggregate_at w (records_placed records rows) q ≡ aggregate_of w.aggregates (records_to x records rows)
records_at w records [] q x range one counts = none_either (is_start w q.start)
records_at w records (r ∷ rows) q x range one counts =
    first_at w records r rows q (λ y. y.at == x) range one counts
    ∙ ap (merge w.aggregates (cond (r.at == x) (aggregate_of w.aggregates (get_or records r.row [] ∷ [])) None))
    (records_at w records rows q x range one (counts_behind w records r rows q (λ y. y.at == x) counts))
    ∙ by_case (r.at == x)
  where
    by_case : (b : Bool)
        → merge w.aggregates (cond b (aggregate_of w.aggregates (get_or records r.row [] ∷ [])) None) (aggregate_of w.aggregates (records_to x records rows))
        ≡ aggregate_of w.aggregates (if b then get_or records r.row [] ∷ records_to x records rows else records_to x records rows)
    by_case true = sym (first_more w.aggregates (get_or records r.row []) (records_to x records rows))
    by_case false = refl

-- none of them counts
pub none_at : (w : WindowSpec) (records : List Record) (rows : List PlacedRow) (q : Pane) → IsWindow w → w.slide ≡ w.size
    → CountsAt w records rows q (λ r. false) → aggregate_at w (records_placed records rows) q ≡ None
none_at w records [] q range one counts = none_either (is_start w q.start)
none_at w records (r ∷ rows) q range one counts =
    first_at w records r rows q (λ y. false) range one counts ∙ none_at w records rows q range one (counts_behind w records r rows q (λ y. false) counts)

pub length-records_to : (x : ℕ) (records : List Record) (rows : List PlacedRow) → length (records_to x records rows) ≡ rows_to x rows
length-records_to x records [] = refl
length-records_to x records (r ∷ rows) = by_case (r.at == x) (length-records_to x records rows)
  where
    by_case : (b : Bool) → length (records_to x records rows) ≡ rows_to x rows
        → length (if b then get_or records r.row [] ∷ records_to x records rows else records_to x records rows) ≡ (if b then 1 + rows_to x rows else rows_to x rows)
    by_case true rest = omega (arith, rest)
    by_case false rest = rest

-- ---- panes and their words

one_place : (ps : List Pane) (p : Pane) (i j : ℕ) → IsDistinct is_pane ps → slice_get ps i ≡ Some p → slice_get ps j ≡ Some p → i ≡ j
one_place ps p i j distinct e f = elim (cases_order i j) [
  | inl same ↦ same
  | inr other ↦ elim other [ inl before ↦ absurd (clash i j e f before) | inr after ↦ absurd (clash j i f e after) ]
] where
  clash : (k l : ℕ) → slice_get ps k ≡ Some p → slice_get ps l ≡ Some p → k < l → ⊥
  clash k l g h low =
      let apart = apart_from_distinct is_pane ps k l p distinct low (slice_get_within ps l p h) in
      let same : is_pane p p ≡ false = (λ i. is_pane (sym (get_or_from_slice_get ps k p p g) i) (sym (get_or_from_slice_get ps l p p h) i)) ∙ apart in
      let no : true ≡ false = sym (itself p.start p.key) ∙ same in
      cc

same_factor : (i j s : ℕ) → 1 ≤ s → i * s ≡ j * s → i ≡ j
same_factor i j s some is = elim (cases_order i j) [
  | inl same ↦ same
  | inr other ↦ elim other [
    | inl before ↦ absurd (omega (arith, mul_room i j s before, some, is))
    | inr after ↦ absurd (omega (arith, mul_room j i s after, some, is))
  ]
]

some_pane : (p q : Pane) → Some p ≡ Some q → p ≡ q
some_pane p q e = cc

-- the same words, the same pane
words_pane : (v : PlacesData) (p q : Pane) (y x : ℕ) → HasWordsAt v p y → HasWordsAt v q x → y ≡ x → p ≡ q
words_pane v p q y x g h same =
    let s = stride (map kind_of v.window.aggregates) in
    let place : g.place ≡ h.place = same_factor g.place h.place s (omega arith) (sym g.begins ∙ same ∙ h.begins) in
    some_pane p q (sym g.there ∙ ap (slice_get (keys_of v.entries)) place ∙ h.there)

pane_words : (v : PlacesData) (p q : Pane) (y x : ℕ) → IsDistinct is_pane (keys_of v.entries) → HasWordsAt v p y → HasWordsAt v q x → p ≡ q → y ≡ x
pane_words v p q y x distinct g h same =
    let place : g.place ≡ h.place = one_place (keys_of v.entries) q g.place h.place distinct (g.there ∙ ap Some same) h.there in
    g.begins ∙ ap (λ i. i * stride (map kind_of v.window.aggregates)) place ∙ sym h.begins

-- whether words are a pane's, by where they begin
pub words_tell : (v : PlacesData) (p q : Pane) (y x : ℕ) → IsDistinct is_pane (keys_of v.entries) → HasWordsAt v p y → HasWordsAt v q x → is_pane p q ≡ (y == x)
words_tell v p q y x distinct g h = by_case (is_pane p q) refl
  where
    by_case : (b : Bool) → is_pane p q ≡ b → is_pane p q ≡ (y == x)
    by_case true is = is ∙ sym (eq-eqb y x (pane_words v p q y x distinct g h (pane_from_test p q is)))
    by_case false is = is ∙ sym (ne_eqb y x (λ same.
        let here : is_pane p q ≡ true = ap (λ z. is_pane z q) (words_pane v p q y x g h same) ∙ itself q.start q.key in
        let no : true ≡ false = sym here ∙ is in
        cc))

-- a pane that has a place has words
pub found_words : (v : PlacesData) (q : Pane) (a : AccData) → acc_at v.entries q ≡ Some a → (x : ℕ) × HasWordsAt v q x
found_words v q a is =
    let found : (i : ℕ) × (p : Pane) × (slice_get v.entries i ≡ Some (p, a)) × (is_pane q p ≡ true) = place_from_lookup (is_pane q) v.entries a is in
    let s = stride (map kind_of v.window.aggregates) in (
      found.0 * s,
      record {
        place = found.0;
        there = slice_get-map (λ e. e.0) v.entries found.0 ∙ ap (option_map (λ e. e.0)) found.2 ∙ ap Some (sym (pane_from_test q found.1 found.3));
        begins = refl;
      },
    )

-- words stay a pane's where it stays in its place
pub words_stay : (s t : Inside) (v : PlacesData) (q : Pane) (x : ℕ) → places_view s ≡ v → t.window ≡ s.window
    → ((i : ℕ) → slice_get s.panes.keys i ≡ Some q → slice_get t.panes.keys i ≡ Some q) → HasWordsAt v q x → HasWordsAt (places_view t) q x
words_stay s t v q x view same stays h = record {
  place = h.place;
  there = ap (λ l. slice_get l h.place) (keys-entries (kinds_of t.window) t.words.items 0 t.panes.keys)
      ∙ stays h.place (ap (λ l. slice_get l h.place) (sym (keys-entries (kinds_of s.window) s.words.items 0 s.panes.keys))
      ∙ ap (λ (d : PlacesData). slice_get (keys_of d.entries) h.place) view ∙ h.there);
  begins = h.begins ∙ ap (λ (d : PlacesData). h.place * stride (map kind_of d.window.aggregates)) (sym view)
      ∙ ap (λ (w : WindowSpec). h.place * stride (map kind_of w.aggregates)) (sym same);
}

pub still_there : {X : Type 0} (xs ys : List X) (i : ℕ) (x : X) → slice_get xs i ≡ Some x → slice_get (xs ++ ys) i ≡ Some x
still_there [] ys i x h = absurd cc
still_there (y ∷ xs) ys zero x h = h
still_there (y ∷ xs) ys (suc i) x h = still_there xs ys i x h

-- ---- rows brought in together

-- what the words are after rows have come to them
pub record Adds (records : List Record) (rows : List PlacedRow) (aggregates : List Aggregate) (old new : List ℤ) : Type 0 where
  pub len : length new ≡ length old
  pub sound : (x : ℕ) → IsPlaceOf (map kind_of aggregates) old x → AreFew old rows x → IsAcc (acc_in (map kind_of aggregates) new x)
  pub added : (x : ℕ) → IsInPlaces (map kind_of aggregates) old x → acc_in (map kind_of aggregates) new x
      ≡ record { kinds = map kind_of aggregates; total = with_records aggregates (acc_in (map kind_of aggregates) old x).total (records_to x records rows) }

-- the same of what the code holds
pub adds_of : (s : Inside) (records : List Record) (rows : List PlacedRow) (aggregates : List Aggregate) (old new : List ℤ) → aggregates ≡ s.window.aggregates → old ≡ s.words.items
    → Adds records rows aggregates old new → Adds records rows s.window.aggregates s.words.items new
adds_of s records rows aggregates old new same value h = subst (λ l. Adds records rows l s.words.items new) same (subst (λ l. Adds records rows aggregates l new) value h)

-- the panes that have a place are the same where their list is
pub panes_stay : (s t : Inside) (v : PlacesData) (q : Pane) → places_view s ≡ v → t.panes.keys ≡ s.panes.keys → is_some (acc_at (entries_inside t) q) ≡ is_some (acc_at v.entries q)
panes_stay s t v q view same =
    found-any (kinds_of t.window) t.words.items 0 t.panes.keys q ∙ ap (list_any (is_pane q)) same
    ∙ sym (found-any (kinds_of s.window) s.words.items 0 s.panes.keys q) ∙ ap (λ (d : PlacesData). is_some (acc_at d.entries q)) view

few_more : (ks : List Aggregate) (t : Aggregated) (rs : List Record) → t.count ≤ 2 ^ 41 → ((b : Aggregated) → aggregate_of ks rs ≡ Some b → t.count + b.count ≤ 2 ^ 41)
    → t.count + length rs ≤ 2 ^ 41
few_more ks t [] few room = omega (arith, few)
few_more ks t (r ∷ rs) few room = room _ refl

no_acc : (a : AccData) (o : Option AccData) → o ≡ Some a → is_some o ≡ false → ⊥
no_acc a o is none = let no : true ≡ false = sym (ap is_some is) ∙ none in cc

module _ (s : Inside) (v : PlacesData) (is : IsPlacesInside s) (view : places_view s ≡ v) (records : List Record) (rows : List PlacedRow)
    (one : v.window.slide ≡ v.window.size) (placed : All (λ r. HasWordsAt v (last_pane v.window (get_or records r.row [])) r.at) rows) where
  range : IsWindow v.window
  range = subst IsWindow (ap (λ (d : PlacesData). d.window) view) is.operator.range

  distinct : IsDistinct is_pane (keys_of v.entries)
  distinct = subst (λ (d : PlacesData). IsDistinct is_pane (keys_of d.entries)) view is.windows.distinct

  -- in a pane that has words, the records that go there
  pub its_records : (q : Pane) (x : ℕ) → HasWordsAt v q x → aggregate_at v.window (records_placed records rows) q ≡ aggregate_of v.window.aggregates (records_to x records rows)
  its_records q x h = records_at v.window records rows q x range one (λ k d low.
      let r = get_or rows k d in
      words_tell v (last_pane v.window (get_or records r.row [])) q r.at x distinct (placed k d low) h)

  -- in another pane none
  pub no_records : (q : Pane) → is_some (acc_at v.entries q) ≡ false → aggregate_at v.window (records_placed records rows) q ≡ None
  no_records q none = none_at v.window records rows q range one (λ k d low.
      let r = get_or rows k d in
      elsewhere (last_pane v.window (get_or records r.row [])) r.at (placed k d low) _ refl)
    where
      elsewhere : (p : Pane) (y : ℕ) → HasWordsAt v p y → (b : Bool) → is_pane p q ≡ b → is_pane p q ≡ false
      elsewhere p y h false e = e
      elsewhere p y h true e = absurd (no_acc _ _ (its_acc s v is view q y (subst (λ z. HasWordsAt v z y) (pane_from_test p q e) h)) none)

  module _ (room : HasRoom v.window (records_placed records rows) (total_at v.entries)) where
    -- the rows that come to a place can be counted there
    pub its_room : (q : Pane) (x : ℕ) → HasWordsAt v q x → AreFew s.words.items rows x
    its_room q x h =
        let a = acc_in (kinds_of s.window) s.words.items x in
        let here : total_at v.entries q ≡ Some a.total = ap (option_map (λ (b : AccData). b.total)) (its_acc s v is view q x h) in
        let few = few_more v.window.aggregates a.total (records_to x records rows) (is_place s v is view q x h).sound.bounded
        (λ b e. room q a.total b here (its_records q x h ∙ e)) in
        omega (arith, few, length-records_to x records rows)

    module _ (new : List ℤ) (adds : Adds records rows s.window.aggregates s.words.items new) (len : length new ≡ s.words.len) where
      -- the places then
      abbrev pub after : Inside
      after = record { window = s.window; stride = s.stride; panes = s.panes; words = with_items s.words new }

      got : after.words.items ≡ new
      got = with_items_is s.words new len

      -- the places are sound then
      pub kept : IsPlacesInside after
      kept = subst (ArePlaces s.window s.stride s.panes.keys) (sym got) (kept_together s.window s.stride s.panes.keys s.words.items new is adds.len (λ i low.
          let d : Pane = record { start = pos 0; key = pos 0 } in
          let q = get_or s.panes.keys i d in
          let h = has_words s v is view i d low in
          adds.sound (i * s.stride) (is_place s v is view q (i * s.stride) h) (its_room q (i * s.stride) h)))

      added_there : (q : Pane) (x : ℕ) → HasWordsAt v q x
          → total_at (entries_inside after) q ≡ merge v.window.aggregates (total_at v.entries q) (aggregate_at v.window (records_placed records rows) q)
      added_there q x h =
          let ks = kinds_of s.window in
          let total = option_map (λ (a : AccData). a.total) in
          let t = (acc_in ks s.words.items x).total in
          let rs = records_to x records rows in
          let there : HasWordsAt (places_view after) q x = words_stay s after v q x view refl (λ i e. e) h in
          let now : acc_at (entries_inside after) q ≡ Some (acc_in ks new x) =
          its_acc after (places_view after) kept refl q x there ∙ ap (λ l. Some (acc_in ks l x)) got in
          let before : total_at v.entries q ≡ Some t = ap total (its_acc s v is view q x h) in
          ap total (now ∙ ap Some (adds.added x (is_place s v is view q x h).within))
          ∙ records_more s.window.aggregates t rs
          ∙ ap (λ o. merge s.window.aggregates o (aggregate_of s.window.aggregates rs)) (sym before)
          ∙ ap (λ (d : PlacesData). merge d.window.aggregates (total_at v.entries q) (aggregate_of d.window.aggregates rs)) view
          ∙ ap (merge v.window.aggregates (total_at v.entries q)) (sym (its_records q x h))

      -- what stands in each pane then
      pub added_together : (q : Pane) → total_at (entries_inside after) q ≡ merge v.window.aggregates (total_at v.entries q) (aggregate_at v.window (records_placed records rows) q)
      added_together q = by_case (acc_at v.entries q) refl
        where
          by_case : (o : Option AccData) → acc_at v.entries q ≡ o
              → total_at (entries_inside after) q ≡ merge v.window.aggregates (total_at v.entries q) (aggregate_at v.window (records_placed records rows) q)
          by_case (Some a) e = let found = found_words v q a e in added_there q found.0 found.1
          by_case None e =
              let total = option_map (λ (a : AccData). a.total) in
              ap total (none_there _ (panes_stay s after v q view refl ∙ ap is_some e))
              ∙ (λ i. merge v.window.aggregates (total (sym e i)) (sym (no_records q (ap is_some e)) i))
