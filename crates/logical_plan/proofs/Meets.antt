-- A text that meets every requirement is a plan's.
use Rattle.std.proofs.Common.{FitsSigned, ◌≡◌, ℕ, ◌<◌, ◌≤◌, ℤ, pos, negsuc, neg_ℤ, ◌*ℤ◌, ◌≤ℤ◌, ◌<ℤ◌, Bool, true, false, ◌&&◌, List, map, length, get_or, ◌++◌, [], ◌∷◌, Option, Some, None, refl, ap, sym, ◌∙◌, arith}
use Rattle.std.specs.Int.{w64}
use Rattle.std.specs.Prelude.{unsigned_abs, int_lt, int_le, nat_le}
use Rattle.std.specs.List.{All, list_all}
use Rattle.std.proofs.lemmas.Bool.{leb-true}
use Rattle.std.proofs.lemmas.Bool.Decides.{nat_tests}
use Rattle.std.proofs.lemmas.List.{length-map}
use Rattle.std.proofs.lemmas.List.Elements.{All-map}
use Rattle.std.proofs.lemmas.List.Folds.{list_all-append, list_all-map}
use Rattle.std.proofs.lemmas.List.Sums.{AllPass-from_list_all, list_all-from_AllPass}
use Rattle.answers.specs.Answer.{first_unmet}
use Rattle.answers.proofs.Facts.{met_first}
use Rattle.json_parts.specs.Tests.{is_within, is_place}
use Rattle.plan_model.specs.declared.limits.TheConstants.{MOST_PARTITIONS, GREATEST_BOUND, LONGEST_WINDOW}
use Rattle.plan_model.specs.Uids.{is_nat_within, is_uid, are_distinct}
use Rattle.logical_plan.specs.declared.text.SourceText.{SourceText}
use Rattle.logical_plan.specs.declared.text.FilterText.{FilterText}
use Rattle.logical_plan.specs.declared.text.AggregateText.{AggregateText}
use Rattle.logical_plan.specs.declared.text.AggregateText.TheVariants as text
use Rattle.logical_plan.specs.declared.text.PlanText.{PlanText}
use Rattle.plan_model.specs.PlanData.{IsBound, IsPlan, IsWindow, has_column, uids}
use Rattle.logical_plan.specs.Requirements.{is_aggregate_of, text_uids, requirements, has_columns, has_column_indices, has_max, has_sources, has_partitions, has_uids, has_distinct_uids, has_filters, has_size, has_slide, has_offset, has_panes, has_aggregates, is_bound, has_bounds}
use Rattle.logical_plan.specs.Answer.{source_data, filter_data, aggregate_data, having_data, plan_data}
use Rattle.plan_model.proofs.Facts.{le_from_test, lt_from_test}
use Rattle.byte_fields.proofs.Exact.{both}

-- what the requirements say, one by one
pub record Meets (t : PlanText) : Type 0 where
  pub columns : is_within (pos 1) (pos 16) t.columns ≡ true
  pub time : is_place t.columns t.time ≡ true
  pub key : is_place t.columns t.key ≡ true
  pub filter_columns : list_all (λ f. is_place t.columns f.column) t.filters ≡ true
  pub aggregate_columns : list_all (is_aggregate_of t.columns) t.window.aggregates ≡ true
  pub max : is_within (pos 1) (pos 32768) t.max ≡ true
  pub sources : is_nat_within 1 8 (length t.sources) ≡ true
  pub partitions : list_all (λ s. is_within (pos 1) (pos MOST_PARTITIONS) s.partitions) t.sources ≡ true
  pub uids : list_all is_uid (text_uids t) ≡ true
  pub distinct : are_distinct (text_uids t) ≡ true
  pub filters : nat_le (length t.filters) 32 ≡ true
  pub having : nat_le (length t.window.having) 32 ≡ true
  pub size : is_within (pos 1) LONGEST_WINDOW t.window.size ≡ true
  pub slide : is_within (pos 1) LONGEST_WINDOW t.window.slide ≡ true
  pub above : int_lt (neg_ℤ t.window.slide) t.window.offset ≡ true
  pub below : int_lt t.window.offset t.window.slide ≡ true
  pub panes : int_le t.window.size (pos 256 *ℤ t.window.slide) ≡ true
  pub aggregates : is_nat_within 1 8 (length t.window.aggregates) ≡ true
  pub places : list_all (λ h. is_place (pos (length t.window.aggregates)) h.aggregate) t.window.having ≡ true
  pub bounds : list_all (λ s. is_bound s.bound) t.sources ≡ true

pub meets : (t : PlanText) → first_unmet requirements t ≡ None → Meets t
unfolding requirements has_columns has_column_indices has_max has_sources has_partitions has_uids has_distinct_uids has_filters has_size has_slide has_offset has_panes has_aggregates has_bounds
meets t h =
    let columns = met_first _ (has_columns t) _ h in
    let indices = met_first _ (has_column_indices t) _ columns.1 in
    let max = met_first _ (has_max t) _ indices.1 in
    let sources = met_first _ (has_sources t) _ max.1 in
    let partitions = met_first _ (has_partitions t) _ sources.1 in
    let named = met_first _ (has_uids t) _ partitions.1 in
    let distinct = met_first _ (has_distinct_uids t) _ named.1 in
    let filters = met_first _ (has_filters t) _ distinct.1 in
    let size = met_first _ (has_size t) _ filters.1 in
    let slide = met_first _ (has_slide t) _ size.1 in
    let offset = met_first _ (has_offset t) _ slide.1 in
    let panes = met_first _ (has_panes t) _ offset.1 in
    let aggregates = met_first _ (has_aggregates t) _ panes.1 in
    let bounds = met_first _ (has_bounds t) _ aggregates.1 in
    let on_aggregates = both (is_place t.columns t.time && is_place t.columns t.key && list_all (λ (f : FilterText). is_place t.columns f.column) t.filters) _ indices.0 in
    let on_filters = both (is_place t.columns t.time && is_place t.columns t.key) _ on_aggregates.0 in
    let on_window = both (is_place t.columns t.time) (is_place t.columns t.key) on_filters.0 in
    let few = both (nat_le (length t.filters) 32) _ filters.0 in
    let around = both (int_lt (neg_ℤ t.window.slide) t.window.offset) _ offset.0 in
    let kinds = both (is_nat_within 1 8 (length t.window.aggregates)) _ aggregates.0 in
    record {
      columns = columns.0;
      time = on_window.0;
      key = on_window.1;
      filter_columns = on_filters.1;
      aggregate_columns = on_aggregates.1;
      max = max.0;
      sources = sources.0;
      partitions = partitions.0;
      uids = named.0;
      distinct = distinct.0;
      filters = few.0;
      having = few.1;
      size = size.0;
      slide = slide.0;
      above = around.0;
      below = around.1;
      panes = panes.0;
      aggregates = kinds.0;
      places = kinds.1;
      bounds = bounds.0;
    }

-- the uids of sources, filters and window, each a uid
pub record NamedParts (t : PlanText) : Type 0 where
  pub sources : list_all (λ s. is_uid s.uid) t.sources ≡ true
  pub filters : list_all (λ f. is_uid f.uid) t.filters ≡ true
  pub window : is_uid t.window.uid ≡ true

pub named_parts : (t : PlanText) → Meets t → NamedParts t
named_parts t m =
    let sources = map (λ (s : SourceText). s.uid) t.sources in
    let filters = map (λ (f : FilterText). f.uid) t.filters in
    let last = both (list_all is_uid (sources ++ filters)) (is_uid t.window.uid && true) (sym (list_all-append is_uid (sources ++ filters) (t.window.uid ∷ [])) ∙ m.uids) in
    let front = both (list_all is_uid sources) (list_all is_uid filters) (sym (list_all-append is_uid sources filters) ∙ last.0) in
    record {
      sources = sym (list_all-map is_uid (λ (s : SourceText). s.uid) t.sources) ∙ front.0;
      filters = sym (list_all-map is_uid (λ (f : FilterText). f.uid) t.filters) ∙ front.1;
      window = (both (is_uid t.window.uid) true last.1).0;
    }

nat_within : (low high n : ℕ) → is_nat_within low high n ≡ true → (low ≤ n) × (n ≤ high)
nat_within low high n h = let parts = both (nat_le low n) (nat_le n high) h in (leb-true low n parts.0, leb-true n high parts.1)

pub within : (low high : ℕ) (z : ℤ) → is_within (pos low) (pos high) z ≡ true → (low ≤ unsigned_abs z) × (unsigned_abs z ≤ high)
within low high (pos n) h = nat_within low high n h
within low high (negsuc n) h = absurd cc

pub place_within : (bound z : ℤ) → is_place bound z ≡ true → unsigned_abs z < unsigned_abs bound
place_within (pos m) (pos n) h = grind (arith, nat_tests)
place_within (negsuc m) (pos n) h = let e : false ≡ true = (both (int_le (pos 0) (pos n)) false h).1 in absurd cc
place_within bound (negsuc n) h = absurd cc

-- what holds of each element that passes a test holds of each element mapped
all_map : {A B : Type 0} (test : A → Bool) (f : A → B) (P : B → Type 0) (xs : List A) → ((x : A) → test x ≡ true → P (f x)) → list_all test xs ≡ true → All P (map f xs)
all_map test f P xs each h = All-map P f xs (λ k d lt. each _ (AllPass-from_list_all test xs h k d lt))

column_within : (columns : ℤ) (a : AggregateText) → is_aggregate_of columns a ≡ true → has_column (unsigned_abs columns) (aggregate_data a)
column_within columns text.Count h = tt
column_within columns (text.Sum c) h = place_within columns c h
column_within columns (text.Least c) h = place_within columns c h
column_within columns (text.Greatest c) h = place_within columns c h

bound_meets : (bound : Option ℤ) → is_bound bound ≡ true → IsBound bound
bound_meets None h = tt
bound_meets (Some b) h = let parts = both (int_le (pos 0) b) (int_le b GREATEST_BOUND) h in (le_from_test _ _ parts.0, le_from_test _ _ parts.1)

source_uids : (ss : List SourceText) → map (λ s. s.uid) (map source_data ss) ≡ map (λ (s : SourceText). s.uid) ss
source_uids [] = refl
source_uids (s ∷ ss) = ap (λ (xs : List (List ℕ)). s.uid ∷ xs) (source_uids ss)

filter_uids : (fs : List FilterText) → map (λ f. f.uid) (map filter_data fs) ≡ map (λ (f : FilterText). f.uid) fs
filter_uids [] = refl
filter_uids (f ∷ fs) = ap (λ (xs : List (List ℕ)). f.uid ∷ xs) (filter_uids fs)

pub same_uids : (t : PlanText) → uids (plan_data t) ≡ text_uids t
same_uids t = rw (source_uids t.sources, filter_uids t.filters) refl

window_meets : (t : PlanText) → Meets t → IsWindow (plan_data t).window
window_meets t m =
    let size = both (int_le (pos 1) t.window.size) _ m.size in
    let slide = both (int_le (pos 1) t.window.slide) _ m.slide in
    record {
      sized = le_from_test _ _ size.0;
      size_small = le_from_test _ _ size.1;
      slides = le_from_test _ _ slide.0;
      slide_small = le_from_test _ _ slide.1;
      offset_above = lt_from_test _ _ m.above;
      offset_below = lt_from_test _ _ m.below;
      panes = le_from_test _ _ m.panes;
    }

pub is_plan : (t : PlanText) → Meets t → All (λ f. FitsSigned w64 f.value) (map filter_data t.filters) → All (λ h. FitsSigned w64 h.value) (map having_data t.window.having) → IsPlan (plan_data t)
is_plan t m filter_values having_values =
    let columns = within 1 16 t.columns m.columns in
    let max = within 1 32768 t.max m.max in
    let sources = nat_within 1 8 (length t.sources) m.sources in
    let aggregates = nat_within 1 8 (length t.window.aggregates) m.aggregates in
    record {
      columned = columns.0;
      columns_few = columns.1;
      time = place_within t.columns t.time m.time;
      key = place_within t.columns t.key m.key;
      filter_columns = all_map (λ f. is_place t.columns f.column) filter_data (λ f. f.column < unsigned_abs t.columns) t.filters (λ f h. place_within t.columns f.column h) m.filter_columns;
      aggregate_columns = all_map (is_aggregate_of t.columns) aggregate_data (has_column (unsigned_abs t.columns)) t.window.aggregates (column_within t.columns) m.aggregate_columns;
      grouped = max.0;
      max_small = max.1;
      sourced = rw length-map sources.0;
      sources_few = rw length-map sources.1;
      partitioned = all_map (λ s. is_within (pos 1) (pos MOST_PARTITIONS) s.partitions) source_data (λ s. 1 ≤ s.partitions) t.sources (λ s h. (within 1 MOST_PARTITIONS s.partitions h).0) m.partitions;
      partitions_few = all_map (λ s. is_within (pos 1) (pos MOST_PARTITIONS) s.partitions) source_data (λ s. s.partitions ≤ MOST_PARTITIONS) t.sources (λ s h. (within 1 MOST_PARTITIONS s.partitions h).1) m.partitions;
      bounded = all_map (λ s. is_bound s.bound) source_data (λ s. IsBound s.bound) t.sources (λ s h. bound_meets s.bound h) m.bounds;
      named = rw (same_uids t) (AllPass-from_list_all is_uid (text_uids t) m.uids);
      distinct = rw (same_uids t) m.distinct;
      filters_few = rw length-map (leb-true _ _ m.filters);
      filter_values = filter_values;
      window = window_meets t m;
      aggregated = rw length-map aggregates.0;
      aggregates_few = rw length-map aggregates.1;
      having_few = rw length-map (leb-true _ _ m.having);
      having_values = having_values;
      having_places = rw (length-map t.window.aggregates aggregate_data) (all_map (λ h. is_place (pos (length t.window.aggregates)) h.aggregate) having_data (λ h. h.aggregate < length t.window.aggregates) t.window.having (λ h e. place_within (pos (length t.window.aggregates)) h.aggregate e) m.places);
    }

-- the numbers of a plan are small
pub is_small : (z : ℤ) (high : ℕ) → high ≤ 65535 → is_within (pos 1) (pos high) z ≡ true → is_within (pos 0) (pos 65535) z ≡ true
is_small (pos n) high le h = grind (arith, nat_tests)
is_small (negsuc n) high le h = absurd cc

pub is_small_place : (bound z : ℤ) → is_within (pos 1) (pos 16) bound ≡ true → is_place bound z ≡ true → is_within (pos 0) (pos 65535) z ≡ true
is_small_place (pos m) (pos n) hm h = grind (arith, nat_tests)
is_small_place (negsuc m) z hm h = absurd cc
is_small_place bound (negsuc n) hm h = absurd cc

place_below : (bound high : ℕ) (z : ℤ) → bound ≤ high → is_place (pos bound) z ≡ true → is_place (pos high) z ≡ true
place_below bound high (pos n) le h = grind (arith, nat_tests)
place_below bound high (negsuc n) le h = absurd cc

pub having_places : (t : PlanText) → Meets t → list_all (λ h. is_place (pos 8) h.aggregate) t.window.having ≡ true
having_places t m =
    let aggregates = nat_within 1 8 (length t.window.aggregates) m.aggregates in
    list_all-from_AllPass (λ h. is_place (pos 8) h.aggregate) t.window.having (λ k d lt. place_below (length t.window.aggregates) 8 (get_or t.window.having k d).aggregate aggregates.1 (AllPass-from_list_all (λ h. is_place (pos (length t.window.aggregates)) h.aggregate) t.window.having m.places k d lt))
