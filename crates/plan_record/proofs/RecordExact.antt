-- The layout of a plan's record is exact, and each plan's parts have a spelling.
use Rattle.std.proofs.Common.{◌≡◌, ℕ, zero, suc, ◌<◌, ◌≤◌, ◌^◌, ℤ, pos, negsuc, ◌≤ℤ◌, true, List, length, map, refl, sym, ap, ◌∙◌, arith}
use Rattle.std.specs.Prelude.{FitsSigned}
use Rattle.std.specs.Int.{w64, int_rem_euclid}
use Rattle.std.specs.Ordering.{nat_cmp}
use Rattle.std.specs.declared.cmp.Ordering.{Ordering}
use Rattle.std.specs.FinMap.{IsAntisymmetric}
use Rattle.std.specs.Cmp.Lexicographic.{slice_cmp}
use Rattle.std.specs.List.{list_all}
use Rattle.std.proofs.lemmas.Bool.{lt-ltb, eqb-true}
use Rattle.std.proofs.lemmas.Int.{ints}
use Rattle.std.proofs.lemmas.List.{length-map}
use Rattle.std.proofs.lemmas.List.Folds.{list_all-map}
use Rattle.std.proofs.lemmas.List.Sums.{list_all-from_AllPass}
use Rattle.lane_kernels.specs.declared.Cmp.{Cmp}
use Rattle.lane_kernels.specs.declared.Cmp.TheVariants.{Eq, Ne, Lt, Le, Gt, Ge}
use Rattle.byte_fields.specs.declared.fault.FieldFault.TheVariants.{Range}
use Rattle.byte_fields.specs.Format.{Format, where_it, before}
use Rattle.byte_fields.specs.Lists.{listed}
use Rattle.byte_fields.specs.Fields.{u8_field, u16_field, i64_field}
use Rattle.byte_fields.proofs.Exact.{IsExact, both, and_true, where_exact, before_exact, record_exact, listed_exact, u8_exact, u16_exact, i64_exact}
use Rattle.plan_model.specs.declared.spec.Aggregate.{Aggregate}
use Rattle.plan_model.specs.declared.spec.Aggregate.TheVariants.{Count, Sum, Least, Greatest}
use Rattle.plan_model.specs.declared.spec.WindowSpec.{WindowSpec}
use Rattle.plan_model.specs.PlanData.{PlanData, IsPlan, IsWindow, has_column}
use Rattle.plan_model.specs.Uids.{uid_field}
use Rattle.plan_model.proofs.Facts.{natural, remainder, uid_exact, uid_fits}
use Rattle.plan_record.specs.declared.record.Condition.{Condition}
use Rattle.plan_record.specs.PlanRecord.{ascending, cmp_code, filter_condition, having_condition, condition_cmp, condition_field, aggregate_code, aggregate_coded, is_aggregate_code, aggregate_field, head_of, head_field, span_of, span_field, parts_of, record_field}
use Rattle.plan_record.proofs.Ascending.{length-ascending}
use Rattle.plan_record.proofs.Named.{sources_named}
use Rattle.plan_record.proofs.Members.{all_ascending, conditions_apart, uids_apart}

condition_exact : IsExact condition_field
unfolding condition_field
condition_exact = record_exact _ _ (before u8_field (λ _. before u8_field (λ _. i64_field))) (before_exact u8_field _ u8_exact (λ _. before_exact u8_field _ u8_exact (λ _. i64_exact))) (λ x h. refl) (λ c. refl)

coded_there : (kind column : ℕ) → is_aggregate_code kind column ≡ true → ◌≡◌ {A = ℕ × ℕ} (aggregate_code (aggregate_coded kind column)) (kind, column)
coded_there zero column h = ap (λ (n : ℕ). (zero, n)) (sym (eqb-true column 0 h))
coded_there (suc zero) column h = refl
coded_there (suc (suc zero)) column h = refl
coded_there (suc (suc (suc zero))) column h = refl
coded_there (suc (suc (suc (suc n)))) column h = absurd cc

coded_back : (a : Aggregate) → aggregate_coded (aggregate_code a).0 (aggregate_code a).1 ≡ a
coded_back Count = refl
coded_back (Sum c) = refl
coded_back (Least c) = refl
coded_back (Greatest c) = refl

aggregate_exact : IsExact aggregate_field
unfolding aggregate_field
aggregate_exact =
    let codes = before u8_field (λ _. u8_field) in
    record_exact _ aggregate_code (where_it (λ x. is_aggregate_code x.0 x.1) Range codes) (where_exact (λ x. is_aggregate_code x.0 x.1) Range codes (before_exact u8_field _ u8_exact (λ _. u8_exact)))
    (λ x h. coded_there x.0 x.1 (both (codes.fits x) (is_aggregate_code x.0 x.1) h).1) coded_back

pub plan_record_exact : IsExact record_field
unfolding record_field head_field span_field
plan_record_exact =
    before_exact _ _ (before_exact u8_field _ u8_exact (λ _. before_exact u16_field _ u16_exact (λ _. before_exact u8_field _ u8_exact (λ _. u8_exact))))
    (λ _. before_exact _ _ (before_exact i64_field _ i64_exact (λ _. before_exact i64_field _ i64_exact (λ _. i64_exact)))
    (λ _. before_exact _ _ (listed_exact u8_field uid_field u8_exact uid_exact)
    (λ _. before_exact _ _ (listed_exact u8_field condition_field u8_exact condition_exact)
    (λ _. before_exact _ _ (listed_exact u8_field aggregate_field u8_exact aggregate_exact)
    (λ _. listed_exact u8_field condition_field u8_exact condition_exact)))))

-- ---- each plan's parts have a spelling

pub byte : (n : ℕ) → n < 256 → u8_field.fits n ≡ true
unfolding u8_field
byte n h = lt-ltb n 256 h

short : (n : ℕ) → n < 65536 → u16_field.fits n ≡ true
unfolding u16_field
short n h = lt-ltb n 65536 h

number : (z : ℤ) → FitsSigned w64 z → i64_field.fits z ≡ true
unfolding i64_field
number (pos n) h = lt-ltb n (2 ^ 63) h.sfits
number (negsuc n) h = lt-ltb n (2 ^ 63) h.sfits

pub small : (z : ℤ) → pos 0 ≤ℤ z → z ≤ℤ pos (2 ^ 40) → i64_field.fits z ≡ true
unfolding i64_field
small (pos n) low high = lt-ltb n (2 ^ 63) (omega (arith, ints))
small (negsuc n) low high = absurd (omega (arith, ints))

code_byte : (cmp : Cmp) → u8_field.fits (cmp_code cmp) ≡ true
unfolding u8_field
code_byte Eq = refl
code_byte Ne = refl
code_byte Lt = refl
code_byte Le = refl
code_byte Gt = refl
code_byte Ge = refl

condition_fits : (c : Condition) (cmp : Cmp) → c.subject < 256 → c.op ≡ cmp_code cmp → FitsSigned w64 c.value → condition_field.fits c ≡ true
unfolding condition_field
condition_fits c cmp subject op value = and_true _ _ (byte c.subject subject) (and_true _ _ (rw op (code_byte cmp)) (number c.value value))

aggregate_fits : (columns : ℕ) (a : Aggregate) → columns ≤ 16 → has_column columns a → aggregate_field.fits a ≡ true
unfolding aggregate_field u8_field
aggregate_fits columns Count few h = refl
aggregate_fits columns (Sum c) few h = and_true _ _ (lt-ltb c 256 (omega arith)) refl
aggregate_fits columns (Least c) few h = and_true _ _ (lt-ltb c 256 (omega arith)) refl
aggregate_fits columns (Greatest c) few h = and_true _ _ (lt-ltb c 256 (omega arith)) refl

-- a list in order, made of few elements of which each fits
listed_fits : {A K : Type 0} (cmp : K → K → Ordering) (apart : IsAntisymmetric cmp) (item : Format K) (f : A → K) (xs : List A) → length xs ≤ 32 → list_all (λ x. item.fits (f x)) xs ≡ true → (listed u8_field item).fits (ascending cmp (map f xs)) ≡ true
listed_fits cmp apart item f xs few fit =
    let short = length-ascending cmp (map f xs) in
    and_true _ _ (byte _ (omega (arith, short, few, length-map xs f))) (all_ascending cmp apart item.fits (map f xs) ∙ list_all-map item.fits f xs ∙ fit)

head_fits : (p : PlanData) → IsPlan p → head_field.fits (head_of p) ≡ true
unfolding head_field
head_fits p sound =
    and_true _ _ (byte p.columns (omega (arith, sound.columns_few)))
    (and_true _ _ (short p.max (omega (arith, sound.max_small)))
    (and_true _ _ (byte p.window.time (omega (arith, sound.columns_few, sound.time))) (byte p.window.key (omega (arith, sound.columns_few, sound.key)))))

offset_fits : (w : WindowSpec) → IsWindow w → i64_field.fits (int_rem_euclid w.offset w.slide) ≡ true
unfolding i64_field
offset_fits w sound =
    let n : (n : ℕ) × (w.slide ≡ pos n) = natural w.slide (omega (arith, ints, sound.slides)) in
    let r : (r : ℕ) × (r < n.0) × (int_rem_euclid w.offset (pos n.0) ≡ pos r) = remainder w.offset n.0 (omega (arith, ints, sound.slides, n.1)) in
    rw (n.1, r.2) (lt-ltb r.0 (2 ^ 63) (omega (arith, ints, r.1, n.1, sound.slide_small)))

span_fits : (w : WindowSpec) → IsWindow w → span_field.fits (span_of w) ≡ true
unfolding span_field
span_fits w sound =
    and_true _ _ (small w.size (omega (arith, ints, sound.sized)) sound.size_small)
    (and_true _ _ (small w.slide (omega (arith, ints, sound.slides)) sound.slide_small) (offset_fits w sound))

pub parts_fit : (p : PlanData) → IsPlan p → record_field.fits (parts_of p) ≡ true
unfolding record_field
parts_fit p sound =
    let named = list_all-from_AllPass (λ s. uid_field.fits s.uid) p.sources (λ k d lt. uid_fits _ (sources_named p sound k d lt)) in
    let filters = list_all-from_AllPass (λ f. condition_field.fits (filter_condition f)) p.filters (λ k d lt.
    condition_fits _ _ (omega (arith, sound.columns_few, sound.filter_columns k d lt)) refl (sound.filter_values k d lt)) in
    let having = list_all-from_AllPass (λ h. condition_field.fits (having_condition h)) p.window.having (λ k d lt.
    condition_fits _ _ (omega (arith, sound.aggregates_few, sound.having_places k d lt)) refl (sound.having_values k d lt)) in
    let aggregates = list_all-from_AllPass aggregate_field.fits p.window.aggregates (λ k d lt. aggregate_fits p.columns _ sound.columns_few (sound.aggregate_columns k d lt)) in
    and_true _ _ (head_fits p sound)
    (and_true _ _ (span_fits p.window sound.window)
    (and_true _ _ (listed_fits (slice_cmp nat_cmp) uids_apart uid_field (λ s. s.uid) p.sources (omega (arith, sound.sources_few)) named)
    (and_true _ _ (listed_fits condition_cmp conditions_apart condition_field filter_condition p.filters sound.filters_few filters)
    (and_true _ _ (and_true _ _ (byte _ (omega (arith, sound.aggregates_few))) aggregates)
    (listed_fits condition_cmp conditions_apart condition_field having_condition p.window.having sound.having_few having)))))
