-- Plans with equal records are alike.
use Rattle.std.proofs.Common.{◌≡◌, ℕ, zero, suc, ◌+◌, ◌*◌, ◌/◌, ◌%◌, ◌<◌, ℤ, pos, ◌+ℤ◌, ◌-ℤ◌, Bool, ◌&&◌, List, [], ◌∷◌, map, refl, sym, ap, ◌∙◌, arith}
use Rattle.std.specs.Prelude.{bytes_eq, slice_index_or}
use Rattle.std.specs.Int.{int_rem_euclid}
use Rattle.std.specs.Ordering.{int_eq, nat_cmp}
use Rattle.std.specs.List.{list_all, list_any}
use Rattle.std.specs.Cmp.Lexicographic.{slice_cmp}
use Rattle.std.proofs.lemmas.Int.{ints, int_rem_euclid_is}
use Rattle.std.proofs.Math.Nat.{div-add-mod}
use Rattle.plain_data.specs.Record.{Record, at}
use Rattle.lane_kernels.specs.declared.Cmp.{Cmp}
use Rattle.lane_kernels.specs.declared.Cmp.TheVariants.{Eq, Ne, Lt, Le, Gt, Ge}
use Rattle.lane_kernels.specs.Compare.{holds}
use Rattle.plan_model.specs.declared.spec.FilterSpec.{FilterSpec}
use Rattle.plan_model.specs.declared.spec.Having.{Having}
use Rattle.plan_model.specs.declared.spec.WindowSpec.{WindowSpec}
use Rattle.plan_record.specs.declared.record.Condition.{Condition}
use Rattle.plan_model.specs.PlanData.{IsWindow}
use Rattle.plan_model.specs.Windows.{passes, is_start, is_window_of}
use Rattle.plan_model.specs.Rows.{keeps}
use Rattle.plan_record.specs.PlanRecord.{ascending, cmp_code, filter_condition, having_condition, condition_cmp, RecordParts, bounds_bytes, bounds_of, parts_of, record_field, plan_record}
use Rattle.plan_record.specs.Alike.{EqualRecords}
use Rattle.byte_fields.proofs.Exact.{ok_is}
use Rattle.plan_model.proofs.Facts.{lifted, natural, pos_same}
use Rattle.plan_record.proofs.EqualBounds.{bounds_alike}
use Rattle.plan_record.proofs.RecordExact.{plan_record_exact, parts_fit}
use Rattle.plan_record.proofs.Members.{all_ascending, any_ascending, conditions_apart, uids_apart}

-- ---- windows

shifted : (z : ℤ) (k n : ℕ) → 0 < n → int_rem_euclid (z +ℤ pos (k * n)) (pos n) ≡ int_rem_euclid z (pos n)
shifted z k n h =
    let up : (j : ℕ) × (m : ℕ) × (z +ℤ pos (j * n) ≡ pos m) = lifted z n h in
    let j = up.0 in
    let m = up.1 in
    let e : z +ℤ pos (j * n) ≡ pos m = up.2 in
    let one : (z +ℤ pos (k * n)) +ℤ pos (j * n) ≡ pos (m + k * n) = omega (arith, ints, e) in
    let two : z +ℤ pos ((k + j) * n) ≡ pos (m + k * n) = omega (arith, ints, e) in
    int_rem_euclid_is (z +ℤ pos (k * n)) (pos n) n j (m + k * n) h refl one ∙ sym (int_rem_euclid_is z (pos n) n (k + j) (m + k * n) h refl two)

same_distance : (s o u : ℤ) (n : ℕ) → 0 < n → int_rem_euclid o (pos n) ≡ int_rem_euclid u (pos n) → int_rem_euclid (s -ℤ o) (pos n) ≡ int_rem_euclid (s -ℤ u) (pos n)
same_distance s o u n h same =
    let lo : (k : ℕ) × (m : ℕ) × (o +ℤ pos (k * n) ≡ pos m) = lifted o n h in
    let lu : (k : ℕ) × (m : ℕ) × (u +ℤ pos (k * n) ≡ pos m) = lifted u n h in
    let k = lo.0 in
    let m = lo.1 in
    let j = lu.0 in
    let l = lu.1 in
    let eo : o +ℤ pos (k * n) ≡ pos m = lo.2 in
    let eu : u +ℤ pos (j * n) ≡ pos l = lu.2 in
    let rest : m % n ≡ l % n = pos_same _ _ (sym (int_rem_euclid_is o (pos n) n k m h refl eo) ∙ same ∙ int_rem_euclid_is u (pos n) n j l h refl eu) in
    let pm : n * (m / n) + m % n ≡ m = div-add-mod m n in
    let pl : n * (l / n) + l % n ≡ l = div-add-mod l n in
    let met : (s -ℤ o) +ℤ pos ((j + m / n) * n) ≡ (s -ℤ u) +ℤ pos ((k + l / n) * n) = omega (arith, ints, eo, eu, rest, pm, pl) in
    sym (shifted (s -ℤ o) (j + m / n) n h) ∙ ap (λ z. int_rem_euclid z (pos n)) met ∙ shifted (s -ℤ u) (k + l / n) n h

same_starts : (w v : WindowSpec) (s : ℤ) (n : ℕ) → 0 < n → w.slide ≡ pos n → v.slide ≡ pos n → int_rem_euclid w.offset (pos n) ≡ int_rem_euclid v.offset (pos n) → is_start w s ≡ is_start v s
same_starts w v s n h ws vs same = rw (ws, vs) (ap (λ z. int_eq z (pos 0)) (same_distance s w.offset v.offset n h same))

-- ---- conditions

cmp_of : ℕ → Cmp
cmp_of zero = Eq
cmp_of (suc zero) = Ne
cmp_of (suc (suc zero)) = Lt
cmp_of (suc (suc (suc zero))) = Le
cmp_of (suc (suc (suc (suc zero)))) = Gt
cmp_of (suc (suc (suc (suc (suc n))))) = Ge

cmp_back : (cmp : Cmp) → cmp_of (cmp_code cmp) ≡ cmp
unfolding cmp_of
cmp_back Eq = refl
cmp_back Ne = refl
cmp_back Lt = refl
cmp_back Le = refl
cmp_back Gt = refl
cmp_back Ge = refl

-- whether a condition holds, where `number` gives what is compared
abbrev meets : (ℕ → ℤ) → Condition → Bool
meets number c = holds (cmp_of c.op) (number c.subject) c.value

passes_by : (filters : List FilterSpec) (r : Record) → passes filters r ≡ list_all (meets (λ c. at c r)) (map filter_condition filters)
passes_by [] r = refl
passes_by (f ∷ filters) r = rw (cmp_back f.cmp) (ap (λ b. holds f.cmp (at f.column r) f.value && b) (passes_by filters r))

keeps_by : (having : List Having) (numbers : List ℤ) → keeps having numbers ≡ list_all (meets (λ a. slice_index_or numbers a (pos 0))) (map having_condition having)
keeps_by [] numbers = refl
keeps_by (h ∷ having) numbers = rw (cmp_back h.cmp) (ap (λ b. holds h.cmp (slice_index_or numbers h.aggregate (pos 0)) h.value && b) (keeps_by having numbers))

same_conditions : (test : Condition → Bool) (xs ys : List Condition) → ascending condition_cmp xs ≡ ascending condition_cmp ys → list_all test xs ≡ list_all test ys
same_conditions test xs ys e = sym (all_ascending condition_cmp conditions_apart test xs) ∙ ap (list_all test) e ∙ all_ascending condition_cmp conditions_apart test ys

same_uids : (test : List ℕ → Bool) (xs ys : List (List ℕ)) → ascending (slice_cmp nat_cmp) xs ≡ ascending (slice_cmp nat_cmp) ys → list_any test xs ≡ list_any test ys
same_uids test xs ys e = sym (any_ascending (slice_cmp nat_cmp) uids_apart test xs) ∙ ap (list_any test) e ∙ any_ascending (slice_cmp nat_cmp) uids_apart test ys

-- ---- windows alike

same_windows : (w v : WindowSpec) → IsWindow w → w.size ≡ v.size → w.slide ≡ v.slide → int_rem_euclid w.offset w.slide ≡ int_rem_euclid v.offset v.slide → (t s : ℤ) → is_window_of w t s ≡ is_window_of v t s
same_windows w v sound size slide offset t s =
    let n : (n : ℕ) × (w.slide ≡ pos n) = natural w.slide (omega (arith, ints, sound.slides)) in
    let vn : v.slide ≡ pos n.0 = sym slide ∙ n.1 in
    let same : int_rem_euclid w.offset (pos n.0) ≡ int_rem_euclid v.offset (pos n.0) = sym (ap (λ d. int_rem_euclid w.offset d) n.1) ∙ offset ∙ ap (λ d. int_rem_euclid v.offset d) vn in
    let starts = same_starts w v s n.0 (omega (arith, ints, sound.slides, n.1)) n.1 vn same in
    rw (starts, size) refl

pub equal_records : EqualRecords
unfolding plan_record
equal_records p q sp sq e =
    let read_p = plan_record_exact.again (parts_of p) (bounds_bytes (bounds_of p)) (parts_fit p sp) in
    let read_q = plan_record_exact.again (parts_of q) (bounds_bytes (bounds_of q)) (parts_fit q sq) in
    let both = ok_is (parts_of p, bounds_bytes (bounds_of p)) (parts_of q, bounds_bytes (bounds_of q)) (sym read_p ∙ ap record_field.read e ∙ read_q) in
    let same = ap (λ (r : RecordParts × List ℕ). r.0) both in
    let bounds = ap (λ (r : RecordParts × List ℕ). r.1) both in
    let size = ap (λ (r : RecordParts). r.1.0.0) same in
    let filters = ap (λ (r : RecordParts). r.1.1.1.0) same in
    let having = ap (λ (r : RecordParts). r.1.1.1.1.1) same in
    record {
      columns = ap (λ (r : RecordParts). r.0.0) same;
      max = ap (λ (r : RecordParts). r.0.1.0) same;
      time = ap (λ (r : RecordParts). r.0.1.1.0) same;
      key = ap (λ (r : RecordParts). r.0.1.1.1) same;
      size = size;
      sources = λ uid. same_uids (bytes_eq uid) (map (λ s. s.uid) p.sources) (map (λ s. s.uid) q.sources) (ap (λ (r : RecordParts). r.1.1.0) same);
      bounds = bounds_alike p q sp sq (ap (λ (r : RecordParts). r.1.1.0) same) bounds;
      passing = λ r. passes_by p.filters r ∙ same_conditions (meets (λ c. at c r)) (map filter_condition p.filters) (map filter_condition q.filters) filters ∙ sym (passes_by q.filters r);
      windows = same_windows p.window q.window sp.window size (ap (λ (r : RecordParts). r.1.0.1.0) same) (ap (λ (r : RecordParts). r.1.0.1.1) same);
      aggregates = ap (λ (r : RecordParts). r.1.1.1.1.0) same;
      having = λ numbers. keeps_by p.window.having numbers ∙ same_conditions (meets (λ a. slice_index_or numbers a (pos 0))) (map having_condition p.window.having) (map having_condition q.window.having) having ∙ sym (keeps_by q.window.having numbers);
    }
