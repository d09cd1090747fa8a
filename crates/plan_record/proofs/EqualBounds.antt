-- Records that end alike are of plans with the same bounds.
use Rattle.std.proofs.Common.{◌≡◌, ℕ, suc, ◌+◌, ◌<◌, ◌≤◌, ℤ, Bool, true, false, cond, ◌||◌, List, [], ◌∷◌, map, length, Option, Some, None, option_and_then, refl, sym, ap, ◌∙◌, ◌⊎◌, inl, inr, arith}
use Rattle.std.specs.Prelude.{bytes_eq}
use Rattle.std.specs.Ordering.{nat_cmp}
use Rattle.std.specs.Cmp.Lexicographic.{nat_list_eq_equiv, slice_cmp}
use Rattle.std.specs.List.{All, find, list_all, list_any}
use Rattle.std.proofs.lemmas.List.{length-map}
use Rattle.std.proofs.lemmas.List.Elements.{All-head, All-tail}
use Rattle.std.proofs.lemmas.Slice.Eq.{bytes_eq-Decides}
use Rattle.std.proofs.lemmas.Bool.{or_parts}
use Rattle.byte_fields.specs.Lists.{listed}
use Rattle.byte_fields.specs.Fields.{u8_field}
use Rattle.byte_fields.proofs.Exact.{IsExact, and_true, before_exact, i64_exact, listed_exact, one_value, u8_exact}
use Rattle.plan_model.specs.declared.spec.SourceSpec.{SourceSpec}
use Rattle.plan_model.specs.PlanData.{IsBound, IsPlan, PlanData}
use Rattle.plan_record.specs.PlanRecord.{ascending, bound_field, bound_of, bounds_bytes, bounds_of, placed}
use Rattle.plan_record.proofs.Ascending.{length-ascending}
use Rattle.plan_record.proofs.Members.{any_ascending, uids_apart}
use Rattle.plan_record.proofs.Placed.{length-placed, placed_same}
use Rattle.plan_record.proofs.RecordExact.{byte, small}

abbrev source_uids : PlanData → List (List ℕ)
source_uids p = ascending (slice_cmp nat_cmp) (map (λ s. s.uid) p.sources)

-- ---- the bound under a uid

first_bound : (s : SourceSpec) (sources : List SourceSpec) (uid : List ℕ) → bound_of (s ∷ sources) uid ≡ cond (bytes_eq s.uid uid) s.bound (bound_of sources uid)
first_bound s sources uid =
    elim (bytes_eq s.uid uid) as (λ b. option_and_then (λ (x : SourceSpec). x.bound) (cond b (Some s) (find (λ x. bytes_eq x.uid uid) sources)) ≡ cond b s.bound (bound_of sources uid)) [
      | true ↦ refl
      | false ↦ refl
    ]

one_of : (b : Bool) (x y : Option ℤ) → IsBound x → IsBound y → IsBound (cond b x y)
one_of true x y h other = h
one_of false x y h other = other

bound_is : (sources : List SourceSpec) (uid : List ℕ) → All (λ s. IsBound s.bound) sources → IsBound (bound_of sources uid)
bound_is [] uid all = tt
bound_is (s ∷ sources) uid all =
    rw (first_bound s sources uid) (one_of (bytes_eq s.uid uid) s.bound (bound_of sources uid) (All-head (λ (x : SourceSpec). IsBound x.bound) s sources all) (bound_is sources uid (All-tail (λ (x : SourceSpec). IsBound x.bound) s sources all)))

-- a uid that no source has
none_under : (sources : List SourceSpec) (uid : List ℕ) → list_any (bytes_eq uid) (map (λ s. s.uid) sources) ≡ false → bound_of sources uid ≡ None
none_under [] uid h = refl
none_under (s ∷ sources) uid h =
    let parts = or_parts (bytes_eq uid s.uid) (list_any (bytes_eq uid) (map (λ (x : SourceSpec). x.uid) sources)) h in
    let other : bytes_eq s.uid uid ≡ false = nat_list_eq_equiv.symm s.uid uid ∙ parts.0 in
    first_bound s sources uid ∙ ap (λ (b : Bool). cond b s.bound (bound_of sources uid)) other ∙ none_under sources uid parts.1

-- ---- the bytes of the bounds

bound_exact : IsExact bound_field
unfolding bound_field
bound_exact = before_exact u8_field _ u8_exact (λ _. i64_exact)

one_fits : (i : ℕ) (bound : Option ℤ) (bounds : List (Option ℤ)) → i < 256 → IsBound bound → list_all bound_field.fits (placed (suc i) bounds) ≡ true → list_all bound_field.fits (placed i (bound ∷ bounds)) ≡ true
unfolding bound_field
one_fits i None bounds few h rest = rest
one_fits i (Some b) bounds few h rest = and_true _ _ (and_true _ _ (byte i few) (small b h.0 h.1)) rest

module _ (f : List ℕ → Option ℤ) (each : (uid : List ℕ) → IsBound (f uid)) where
  placed_fit : (i : ℕ) (uids : List (List ℕ)) → i + length uids ≤ 256 → list_all bound_field.fits (placed i (map f uids)) ≡ true
  placed_fit i [] few = refl
  placed_fit i (uid ∷ uids) few = one_fits i (f uid) (map f uids) (omega (arith, few)) (each uid) (placed_fit (suc i) uids (omega (arith, few)))

  bounds_fit : (uids : List (List ℕ)) → length uids ≤ 8 → (listed u8_field bound_field).fits (placed 0 (map f uids)) ≡ true
  bounds_fit uids few =
      and_true _ _ (byte _ (omega (arith, few, length-placed 0 (map f uids), length-map uids f))) (placed_fit 0 uids (omega (arith, few)))

few_uids : (p : PlanData) → IsPlan p → length (source_uids p) ≤ 8
few_uids p sound = omega (arith, length-ascending (slice_cmp nat_cmp) (map (λ s. s.uid) p.sources), length-map p.sources (λ s. s.uid), sound.sources_few)

fit : (p : PlanData) → IsPlan p → (listed u8_field bound_field).fits (bounds_of p) ≡ true
fit p sound = bounds_fit (bound_of p.sources) (λ uid. bound_is p.sources uid sound.bounded) (source_uids p) (few_uids p sound)

same_bytes : (bounds others : List (ℕ × ℤ)) → (listed u8_field bound_field).fits bounds ≡ true → (listed u8_field bound_field).fits others ≡ true → bounds_bytes bounds ≡ bounds_bytes others → bounds ≡ others
unfolding u8_field
same_bytes [] [] h k e = refl
same_bytes [] (c ∷ others) h k e = absurd cc
same_bytes (b ∷ bounds) [] h k e = absurd cc
same_bytes (b ∷ bounds) (c ∷ others) h k e = one_value (listed u8_field bound_field) (listed_exact u8_field bound_field u8_exact bound_exact) (b ∷ bounds) (c ∷ others) h k e

-- ---- the same under each uid

abbrev first_of : List (Option ℤ) → Option ℤ
first_of [] = None
first_of (b ∷ bounds) = b

abbrev rest_of : List (Option ℤ) → List (Option ℤ)
rest_of [] = []
rest_of (b ∷ bounds) = bounds

or_true : (a b : Bool) → (a || b) ≡ true → (a ≡ true) ⊎ (b ≡ true)
or_true true b h = inl refl
or_true false b h = inr h

same_seen : (f g : List ℕ → Option ℤ) (uid : List ℕ) (uids : List (List ℕ)) → map f uids ≡ map g uids → list_any (bytes_eq uid) uids ≡ true → f uid ≡ g uid
same_seen f g uid [] e there = absurd cc
same_seen f g uid (u ∷ uids) e there =
    elim (or_true (bytes_eq uid u) (list_any (bytes_eq uid) uids) there) [
      | inl here ↦ let same : uid ≡ u = (bytes_eq-Decides uid u).0 here in ap f same ∙ ap first_of e ∙ sym (ap g same)
      | inr later ↦ same_seen f g uid uids (ap rest_of e) later
    ]

pub bounds_alike : (p q : PlanData) → IsPlan p → IsPlan q → source_uids p ≡ source_uids q → bounds_bytes (bounds_of p) ≡ bounds_bytes (bounds_of q) → (uid : List ℕ) → bound_of p.sources uid ≡ bound_of q.sources uid
bounds_alike p q sp sq uids e uid = step (list_any (bytes_eq uid) (source_uids p)) refl
  where
    among : PlanData → Bool
    among r = list_any (bytes_eq uid) (map (λ s. s.uid) r.sources)

    step : (b : Bool) → list_any (bytes_eq uid) (source_uids p) ≡ b → bound_of p.sources uid ≡ bound_of q.sources uid
    step true there =
        let f = bound_of p.sources in
        let g = bound_of q.sources in
        let placed_alike : placed 0 (map f (source_uids p)) ≡ placed 0 (map g (source_uids p)) =
        same_bytes (bounds_of p) (bounds_of q) (fit p sp) (fit q sq) e ∙ ap (λ us. placed 0 (map g us)) (sym uids) in
        let alike = placed_same 0 (map f (source_uids p)) (map g (source_uids p)) (length-map (source_uids p) f ∙ sym (length-map (source_uids p) g)) placed_alike in
        same_seen f g uid (source_uids p) alike there
    step false there =
        let none_p = sym (any_ascending (slice_cmp nat_cmp) uids_apart (bytes_eq uid) (map (λ s. s.uid) p.sources)) ∙ there in
        let none_q = sym (any_ascending (slice_cmp nat_cmp) uids_apart (bytes_eq uid) (map (λ s. s.uid) q.sources)) ∙ ap (list_any (bytes_eq uid)) (sym uids) ∙ there in
        none_under p.sources uid none_p ∙ sym (none_under q.sources uid none_q)
