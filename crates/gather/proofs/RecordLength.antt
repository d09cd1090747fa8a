-- A plan's record is short.
use Rattle.std.proofs.Common.{◌≡◌, ℕ, suc, ℤ, ◌+◌, ◌*◌, ◌<◌, ◌≤◌, true, List, [], ◌∷◌, ◌++◌, length, map, Option, Some, None, arith}
use Rattle.std.specs.List.{AllByRecursion, flat_map}
use Rattle.std.specs.Ordering.{nat_cmp}
use Rattle.std.specs.Cmp.Lexicographic.{slice_cmp}
use Rattle.std.proofs.lemmas.Bool.{leb-true}
use Rattle.std.proofs.Math.Nat.{mul-le-mul_left}
use Rattle.std.proofs.lemmas.List.{length-append, length-map}
use Rattle.byte_fields.specs.Format.{Format}
use Rattle.byte_fields.specs.Lists.{listed, sized}
use Rattle.byte_fields.specs.Fields.{u8_field, few_field, u16_field, u64_field, i64_field}
use Rattle.byte_fields.proofs.Exact.{both, wide8, wide16, wide64}
use Rattle.std.specs.Int.{w64, cast_unsigned}
use Rattle.std.specs.List.{list_all}
use Rattle.plan_model.specs.declared.spec.Aggregate.{Aggregate}
use Rattle.plan_model.specs.PlanData.{PlanData, IsPlan}
use Rattle.plan_model.specs.Uids.{is_uid, is_uid_byte, is_nat_within, uid_field}
use Rattle.plan_model.specs.declared.limits.TheConstants.{LONGEST_UID}
use Rattle.plan_record.specs.declared.record.Condition.{Condition}
use Rattle.plan_record.specs.PlanRecord.{ascending, filter_condition, having_condition, condition_cmp, condition_field, aggregate_code, aggregate_field, head_of, head_field, span_of, span_field, bound_of, placed, bound_field, bounds_bytes, record_field, plan_record}
use Rattle.plan_record.proofs.Facts.{length-ascending}

byte_long : (n : ℕ) → length (u8_field.spell n) ≡ 1
unfolding u8_field
byte_long n = wide8.len n

two_long : (n : ℕ) → length (u16_field.spell n) ≡ 2
unfolding u16_field
two_long n = wide16.len n

eight_long : (n : ℕ) → length (u64_field.spell n) ≡ 8
unfolding u64_field
eight_long n = wide64.len n

signed_long : (z : ℤ) → length (i64_field.spell z) ≡ 8
unfolding i64_field
signed_long z = eight_long (cast_unsigned w64 z)

condition_long : (c : Condition) → length (condition_field.spell c) ≤ 10
unfolding condition_field
condition_long c =
    omega (arith, length-append (u8_field.spell c.subject) (u8_field.spell c.op ++ i64_field.spell c.value), length-append (u8_field.spell c.op) (i64_field.spell c.value), byte_long c.subject, byte_long c.op, signed_long c.value)

aggregate_long : (a : Aggregate) → length (aggregate_field.spell a) ≤ 2
unfolding aggregate_field
aggregate_long a = omega (arith, length-append (u8_field.spell (aggregate_code a).0) (u8_field.spell (aggregate_code a).1), byte_long (aggregate_code a).0, byte_long (aggregate_code a).1)

uid_long : (uid : List ℕ) → is_uid uid ≡ true → length (uid_field.spell uid) ≤ 65
unfolding uid_field sized few_field
uid_long uid h =
    let parts = both (is_nat_within 1 LONGEST_UID (length uid)) (list_all is_uid_byte uid) h in
    let most = leb-true (length uid) LONGEST_UID (both _ _ parts.0).1 in
    omega (arith, length-append (u8_field.spell (length uid)) uid, byte_long (length uid), most)

all_long : {X : Type 0} (f : X → List ℕ) (m : ℕ) (xs : List X) → AllByRecursion (λ x. length (f x) ≤ m) xs → length (flat_map f xs) ≤ m * length xs
all_long f m [] h = omega arith
all_long f m (x ∷ xs) h = omega (arith, length-append (f x) (flat_map f xs), h.0, all_long f m xs h.1)

each : {X : Type 0} (P : X → Type 0) (xs : List X) → ((x : X) → P x) → AllByRecursion P xs
each P [] f = tt
each P (x ∷ xs) f = (f x, each P xs f)

uids_long : (us : List (List ℕ)) → AllByRecursion (λ u. is_uid u ≡ true) us → AllByRecursion (λ u. length (uid_field.spell u) ≤ 65) us
uids_long [] h = tt
uids_long (u ∷ us) h = (uid_long u h.0, uids_long us h.1)

listed_long : {X : Type 0} (item : Format X) (m n : ℕ) (xs : List X) → length xs ≤ n → AllByRecursion (λ x. length (item.spell x) ≤ m) xs → length ((listed u8_field item).spell xs) ≤ 1 + m * n
listed_long item m n xs few h =
    let all = all_long item.spell m xs h in
    let more = mul-le-mul_left m few in
    omega (arith, length-append (u8_field.spell (length xs)) (flat_map item.spell xs), byte_long (length xs), all, more)

head_long : (p : PlanData) → length (head_field.spell (head_of p)) ≡ 5
unfolding head_field
head_long p =
    let t = u8_field.spell p.window.time in
    let k = u8_field.spell p.window.key in
    let m = u16_field.spell p.max in
    omega (arith, length-append (u8_field.spell p.columns) (m ++ (t ++ k)), length-append m (t ++ k), length-append t k, byte_long p.columns, two_long p.max, byte_long p.window.time, byte_long p.window.key)

span_long : (p : PlanData) → length (span_field.spell (span_of p.window)) ≡ 24
unfolding span_field
span_long p =
    let x = span_of p.window in
    let b = i64_field.spell x.1.0 in
    let d = i64_field.spell x.1.1 in
    omega (arith, length-append (i64_field.spell x.0) (b ++ d), length-append b d, signed_long x.0, signed_long x.1.0, signed_long x.1.1)

bound_long : (b : ℕ × ℤ) → length (bound_field.spell b) ≤ 9
unfolding bound_field
bound_long b = omega (arith, length-append (u8_field.spell b.0) (i64_field.spell b.1), byte_long b.0, signed_long b.1)

bounds_long : (bs : List (ℕ × ℤ)) → length bs ≤ 8 → length (bounds_bytes bs) ≤ 73
bounds_long [] few = omega arith
bounds_long (b ∷ bs) few = listed_long bound_field 9 8 (b ∷ bs) few (each (λ x. length (bound_field.spell x) ≤ 9) (b ∷ bs) bound_long)

placed_few : (i : ℕ) (bounds : List (Option ℤ)) → length (placed i bounds) ≤ length bounds
placed_few i [] = omega arith
placed_few i (None ∷ bounds) = omega (arith, placed_few (suc i) bounds)
placed_few i (Some b ∷ bounds) = omega (arith, placed_few (suc i) bounds)

pub record_short : (p : PlanData) → IsPlan p → AllByRecursion (λ u. is_uid u ≡ true) (ascending (slice_cmp nat_cmp) (map (λ s. s.uid) p.sources)) → length (plan_record p) < 65536
unfolding plan_record record_field
record_short p ip named =
    let us = ascending (slice_cmp nat_cmp) (map (λ s. s.uid) p.sources) in
    let fs = ascending condition_cmp (map filter_condition p.filters) in
    let hs = ascending condition_cmp (map having_condition p.window.having) in
    let gs = p.window.aggregates in
    let us_few : length us ≤ 8 = omega (arith, length-ascending (slice_cmp nat_cmp) (map (λ s. s.uid) p.sources), length-map p.sources (λ s. s.uid), ip.sources_few) in
    let fs_few : length fs ≤ 32 = omega (arith, length-ascending condition_cmp (map filter_condition p.filters), length-map p.filters filter_condition, ip.filters_few) in
    let hs_few : length hs ≤ 32 = omega (arith, length-ascending condition_cmp (map having_condition p.window.having), length-map p.window.having having_condition, ip.having_few) in
    let a = head_field.spell (head_of p) in
    let b = span_field.spell (span_of p.window) in
    let d = (listed u8_field uid_field).spell us in
    let e = (listed u8_field condition_field).spell fs in
    let f = (listed u8_field aggregate_field).spell gs in
    let g = (listed u8_field condition_field).spell hs in
    let d_long = listed_long uid_field 65 8 us us_few (uids_long us named) in
    let e_long = listed_long condition_field 10 32 fs fs_few (each (λ c. length (condition_field.spell c) ≤ 10) fs condition_long) in
    let f_long = listed_long aggregate_field 2 8 gs ip.aggregates_few (each (λ c. length (aggregate_field.spell c) ≤ 2) gs aggregate_long) in
    let g_long = listed_long condition_field 10 32 hs hs_few (each (λ c. length (condition_field.spell c) ≤ 10) hs condition_long) in
    let bounds = placed 0 (map (bound_of p.sources) us) in
    let bounds_few : length bounds ≤ 8 = omega (arith, placed_few 0 (map (bound_of p.sources) us), length-map us (bound_of p.sources), us_few) in
    omega (arith, length-append (a ++ (b ++ (d ++ (e ++ (f ++ g))))) (bounds_bytes bounds), bounds_long bounds bounds_few, length-append a (b ++ (d ++ (e ++ (f ++ g)))), length-append b (d ++ (e ++ (f ++ g))), length-append d (e ++ (f ++ g)), length-append e (f ++ g), length-append f g, head_long p, span_long p, d_long, e_long, f_long, g_long)
