-- The canonical record of a plan: plans with equal records count, keep and group alike.
-- Partitions, the uids of filters and window, and the order of filters are not in it.
use Rattle.std.specs.Prelude.{ℕ, zero, suc, ℤ, Bool, true, false, bytes_eq, ◌==◌, List, [], ◌∷◌, ◌++◌, map, fold, Option, Some, None, option_and_then}
use Rattle.std.specs.Int.{int_rem_euclid}
use Rattle.std.specs.List.{find}
use Rattle.std.specs.Ordering.{nat_cmp, int_cmp, ordering_then}
use Rattle.std.specs.Cmp.Lexicographic.{slice_cmp}
use Rattle.std.specs.BTreeSet.{insert_key}
use Rattle.std.specs.declared.cmp.Ordering.{Ordering}
use Rattle.lane_kernels.specs.declared.Cmp.{Cmp}
use Rattle.lane_kernels.specs.declared.Cmp.TheVariants.{Eq, Ne, Lt, Le, Gt, Ge}
use Rattle.byte_fields.specs.declared.fault.FieldFault.TheVariants.{Range}
use Rattle.byte_fields.specs.Format.{Format, where_it, before, as_record}
use Rattle.byte_fields.specs.Lists.{listed}
use Rattle.byte_fields.specs.Fields.{u8_field, u16_field, i64_field}
use Rattle.plan_model.specs.declared.spec.SourceSpec.{SourceSpec}
use Rattle.plan_model.specs.declared.spec.FilterSpec.{FilterSpec}
use Rattle.plan_model.specs.declared.spec.Aggregate.{Aggregate}
use Rattle.plan_model.specs.declared.spec.Aggregate.TheVariants.{Count, Sum, Least, Greatest}
use Rattle.plan_model.specs.declared.spec.Having.{Having}
use Rattle.plan_model.specs.declared.spec.WindowSpec.{WindowSpec}
use Rattle.plan_model.specs.PlanData.{PlanData}
use Rattle.plan_model.specs.Uids.{uid_field}
use Rattle.plan_record.specs.declared.record.Condition.{Condition}

-- each of the keys once, in order
abbrev pub ascending : {K : Type 0} → (K → K → Ordering) → List K → List K
ascending cmp keys = fold (insert_key cmp) [] keys

abbrev pub cmp_code : Cmp → ℕ
cmp_code Eq = 0
cmp_code Ne = 1
cmp_code Lt = 2
cmp_code Le = 3
cmp_code Gt = 4
cmp_code Ge = 5

-- the conditions of filters and of having: what is compared, a column or an aggregate, how, and with which value
abbrev pub filter_condition : FilterSpec → Condition
filter_condition f = record { subject = f.column; op = cmp_code f.cmp; value = f.value }

abbrev pub having_condition : Having → Condition
having_condition h = record { subject = h.aggregate; op = cmp_code h.cmp; value = h.value }

abbrev pub condition_cmp : Condition → Condition → Ordering
condition_cmp a b = ordering_then (nat_cmp a.subject b.subject) (ordering_then (nat_cmp a.op b.op) (int_cmp a.value b.value))

unfoldable pub condition_field : Format Condition
condition_field =
    as_record (λ x. record { subject = x.0; op = x.1.0; value = x.1.1 }) (λ c. (c.subject, (c.op, c.value)))
    (before u8_field (λ _. before u8_field (λ _. i64_field)))

-- a kind and a column, which is 0 for a count
abbrev pub aggregate_code : Aggregate → ℕ × ℕ
aggregate_code Count = (0, 0)
aggregate_code (Sum column) = (1, column)
aggregate_code (Least column) = (2, column)
aggregate_code (Greatest column) = (3, column)

abbrev pub aggregate_coded : ℕ → ℕ → Aggregate
aggregate_coded zero column = Count
aggregate_coded (suc zero) column = Sum column
aggregate_coded (suc (suc zero)) column = Least column
aggregate_coded (suc (suc (suc n))) column = Greatest column

abbrev pub is_aggregate_code : ℕ → ℕ → Bool
is_aggregate_code zero column = column == 0
is_aggregate_code (suc zero) column = true
is_aggregate_code (suc (suc zero)) column = true
is_aggregate_code (suc (suc (suc zero))) column = true
is_aggregate_code (suc (suc (suc (suc n)))) column = false

unfoldable pub aggregate_field : Format Aggregate
aggregate_field = as_record (λ x. aggregate_coded x.0 x.1) aggregate_code (where_it (λ x. is_aggregate_code x.0 x.1) Range (before u8_field (λ _. u8_field)))

-- columns, key groups, and the columns of time and key
abbrev pub Head : Type 0
Head = ℕ × (ℕ × (ℕ × ℕ))

abbrev pub head_of : PlanData → Head
head_of p = (p.columns, (p.max, (p.window.time, p.window.key)))

unfoldable pub head_field : Format Head
head_field = before u8_field (λ _. before u16_field (λ _. before u8_field (λ _. u8_field)))

-- size, slide, and the offset modulo the slide
abbrev pub Span : Type 0
Span = ℤ × (ℤ × ℤ)

abbrev pub span_of : WindowSpec → Span
span_of w = (w.size, (w.slide, int_rem_euclid w.offset w.slide))

unfoldable pub span_field : Format Span
span_field = before i64_field (λ _. before i64_field (λ _. i64_field))

-- the uids of the sources, the conditions of the filters, the aggregates, and the conditions of having
abbrev pub RecordParts : Type 0
RecordParts = Head × (Span × (List (List ℕ) × (List Condition × (List Aggregate × List Condition))))

abbrev pub parts_of : PlanData → RecordParts
parts_of p = (head_of p, (span_of p.window, (ascending (slice_cmp nat_cmp) (map (λ s. s.uid) p.sources), (ascending condition_cmp (map filter_condition p.filters), (p.window.aggregates, ascending condition_cmp (map having_condition p.window.having))))))

unfoldable pub record_field : Format RecordParts
record_field =
    before head_field (λ _. before span_field (λ _. before (listed u8_field uid_field) (λ _. before (listed u8_field condition_field) (λ _. before (listed u8_field aggregate_field) (λ _. listed u8_field condition_field)))))

-- the bound of the source with a uid; a uid that no source has has none
abbrev pub bound_of : List SourceSpec → List ℕ → Option ℤ
bound_of sources uid = option_and_then (λ s. s.bound) (find (λ s. bytes_eq s.uid uid) sources)

-- those that are there, each with its place, where the first has the place i
abbrev pub placed : ℕ → List (Option ℤ) → List (ℕ × ℤ)
placed i [] = []
placed i (None ∷ bounds) = placed (suc i) bounds
placed i (Some b ∷ bounds) = (i, b) ∷ placed (suc i) bounds

-- the bounds of the sources, each with the place of its uid among those of the record
abbrev pub bounds_of : PlanData → List (ℕ × ℤ)
bounds_of p = placed 0 (map (bound_of p.sources) (ascending (slice_cmp nat_cmp) (map (λ s. s.uid) p.sources)))

unfoldable pub bound_field : Format (ℕ × ℤ)
bound_field = before u8_field (λ _. i64_field)

-- nothing where no source has a bound
abbrev pub bounds_bytes : List (ℕ × ℤ) → List ℕ
bounds_bytes [] = []
bounds_bytes (b ∷ bounds) = (listed u8_field bound_field).spell (b ∷ bounds)

unfoldable pub plan_record : PlanData → List ℕ
plan_record p = record_field.spell (parts_of p) ++ bounds_bytes (bounds_of p)
