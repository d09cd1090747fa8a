-- The first fault of a text behind that of its names, by what is seen of its sources.
use Rattle.std.proofs.Common.{◌≡◌, ℕ, suc, ◌+◌, ◌^◌, ◌<◌, ◌≤◌, ◌==◌, ◌&&◌, ◌||◌, Bool, true, false, cond, List, [], ◌∷◌, map, length, Option, Some, None, option_map, bytes_eq, nat_cmp, nat_le, Ordering, Less, Equal, Greater, is_eq, is_lt, sum_by, Ok, Err, IfSome, refl, sym, ap, ◌∙◌, arith}
use Rattle.std.proofs.lemmas.Bool.{and_parts, eqb-true}
use Rattle.std.proofs.lemmas.List.{length-map}
use Rattle.std.proofs.lemmas.List.Concat.{length-flat_map}
use Rattle.std.proofs.lemmas.List.Elements.{All-cons}
use Rattle.std.proofs.lemmas.List.Folds.{fold-map}
use Rattle.std.proofs.lemmas.Map.Text.{is_eq-slice_cmp}
use Rattle.std.proofs.lemmas.Slice.Eq.{bytes_eq-Decides}
use Rattle.std.specs.Cmp.Lexicographic.{slice_cmp, nat_list_eq_equiv}
use Rattle.std.specs.FinMap.Entries as entries
use Rattle.std.specs.List.{All, list_all, list_any, find, zip}
use Rattle.std.specs.Option.{option_map_or, option_or}
use Rattle.plan_model.specs.declared.limits.TheConstants.{MOST_PARTITIONS, MOST_RECORDS}
use Rattle.plan_model.specs.declared.spec.SourceSpec.{SourceSpec}
use Rattle.plan_model.specs.PlanData.{PlanData, IsPlan}
use Rattle.stream_model.specs.InputData.{records_in_source}
use Rattle.stream_model.specs.Late.{first_at, first_late_entry}
use Rattle.input_texts.proofs.Rows.{list_all_map}
use Rattle.input_texts.specs.Answer.{input_or_fault}
use Rattle.input_texts.specs.declared.fault.InputFault.{InputFault}
use Rattle.input_texts.specs.declared.fault.InputFault.TheVariants.{Partitions, Width, Number, Rows, TimeRange, Kind, TooMany}
use Rattle.input_texts.specs.declared.text.EntryText.{EntryText}
use Rattle.input_texts.specs.Fault.{late_fault}
use Rattle.input_texts.specs.InputText.{InputText}
use Rattle.input_texts.specs.Requirements.{requirements, is_wide, is_whole, is_sized, is_timely, has_sources, has_partitions, has_width, has_numbers, has_rows, has_times, has_kinds, late_record, is_few}
use Rattle.input_texts.specs.Said.{marked_of, input_of, partitions_under}
use Rattle.input_texts.specs.Document.{is_source, AreSeen}
use Rattle.input_texts.specs.Seen.{SourceSeen, source_seen}
use Rattle.input_texts.proofs.Sources.{all_weaker, own_bounds}
use Rattle.std.specs.Cmp.{both_ways}

-- ---- tests of each member, and of what stands under each source's name

either : (a b : Bool) → b ≡ true → (a || b) ≡ true
either true b h = refl
either false b h = h

module _ (q : List (List EntryText) → Bool) where
  under_by : (b : Bool) (m : List ℕ × List (List EntryText)) (o : Option (List ℕ × List (List EntryText))) (any : Bool) → q m.1 ≡ true → (any ≡ true → q (option_map_or (λ n. n.1) o []) ≡ true) → (b || any) ≡ true
      → q (option_map_or (λ n. n.1) (cond b (Some m) o) []) ≡ true
  under_by true m o any here later h = here
  under_by false m o any here later h = later h

  one_under : (text : InputText) (uid : List ℕ) → list_all (λ m. q m.1) text ≡ true → list_any (λ m. bytes_eq m.0 uid) text ≡ true → q (partitions_under uid text) ≡ true
  one_under [] uid all any = absurd (cc)
  one_under (m ∷ ms) uid all any =
      let parts = and_parts (q m.1) (list_all (λ n. q n.1) ms) all in
      under_by (bytes_eq m.0 uid) m (find (λ n. bytes_eq n.0 uid) ms) (list_any (λ n. bytes_eq n.0 uid) ms) parts.0 (one_under ms uid parts.1) any

  source_by : (b : Bool) (text : InputText) (s : SourceSpec) (uid : List ℕ) (any : Bool) → bytes_eq s.uid uid ≡ b → q (partitions_under s.uid text) ≡ true → (any ≡ true → q (partitions_under uid text) ≡ true) → (b || any) ≡ true
      → q (partitions_under uid text) ≡ true
  source_by true text s uid any equal here later h =
      let same : s.uid ≡ uid = (bytes_eq-Decides s.uid uid).0 equal in
      ap (λ n. q (partitions_under n text)) (sym same) ∙ here
  source_by false text s uid any apart here later h = later h

  of_source : (text : InputText) (ss : List SourceSpec) (uid : List ℕ) → list_all (λ s. q (partitions_under s.uid text)) ss ≡ true → list_any (λ s. bytes_eq s.uid uid) ss ≡ true → q (partitions_under uid text) ≡ true
  of_source text [] uid all any = absurd (cc)
  of_source text (s ∷ ss) uid all any =
      let parts = and_parts (q (partitions_under s.uid text)) (list_all (λ o. q (partitions_under o.uid text)) ss) all in
      source_by (bytes_eq s.uid uid) text s uid (list_any (λ o. bytes_eq o.uid uid) ss) refl parts.0 (of_source text ss uid parts.1) any

  unequal : (o : Ordering) → is_lt o ≡ true → is_eq o ≡ false
  unequal Less h = refl
  unequal Equal h = absurd (cc)
  unequal Greater h = refl

  none_below : (l : List ℕ) (text : InputText) → entries.below_all (slice_cmp nat_cmp) l text ≡ true → list_any (λ n. bytes_eq n.0 l) text ≡ false
  none_below l [] h = refl
  none_below l (m ∷ ms) h =
      let parts = and_parts (is_lt (slice_cmp nat_cmp l m.0)) (entries.below_all (slice_cmp nat_cmp) l ms) h in
      let apart : bytes_eq m.0 l ≡ false = nat_list_eq_equiv.symm m.0 l ∙ sym (is_eq-slice_cmp l m.0) ∙ unequal (slice_cmp nat_cmp l m.0) parts.0 in
      rw (apart, none_below l ms parts.1) refl

  behind_by : (b : Bool) (m : List ℕ × List (List EntryText)) (ms : InputText) (uid : List ℕ) → bytes_eq m.0 uid ≡ b → entries.below_all (slice_cmp nat_cmp) m.0 ms ≡ true → list_any (λ n. bytes_eq n.0 uid) ms ≡ true
      → q (option_map_or (λ n. n.1) (cond b (Some m) (find (λ n. bytes_eq n.0 uid) ms)) []) ≡ true → q (partitions_under uid ms) ≡ true
  behind_by true m ms uid equal below any h =
      let same : m.0 ≡ uid = (bytes_eq-Decides m.0 uid).0 equal in
      absurd (let none : list_any (λ n. bytes_eq n.0 uid) ms ≡ false = ap (λ k. list_any (λ n. bytes_eq n.0 k) ms) (sym same) ∙ none_below m.0 ms below in cc)
  behind_by false m ms uid apart below any h = h

  each_own : (plan : PlanData) (text : InputText) → entries.is_sorted (slice_cmp nat_cmp) text ≡ true → list_all (λ m. is_source plan m.0) text ≡ true
      → ((uid : List ℕ) → is_source plan uid ≡ true → list_any (λ m. bytes_eq m.0 uid) text ≡ true → q (partitions_under uid text) ≡ true) → list_all (λ m. q m.1) text ≡ true
  each_own plan [] ordered planned each = refl
  each_own plan (m ∷ ms) ordered planned each =
      let order = and_parts (entries.below_all (slice_cmp nat_cmp) m.0 ms) (entries.is_sorted (slice_cmp nat_cmp) ms) ordered in
      let known = and_parts (is_source plan m.0) (list_all (λ n. is_source plan n.0) ms) planned in
      let own : bytes_eq m.0 m.0 ≡ true = (bytes_eq-Decides m.0 m.0).1 refl in
      let any : (bytes_eq m.0 m.0 || list_any (λ n. bytes_eq n.0 m.0) ms) ≡ true = ap (λ b. b || list_any (λ n. bytes_eq n.0 m.0) ms) own in
      let here : q m.1 ≡ true = sym (ap (λ b. q (option_map_or (λ n. n.1) (cond b (Some m) (find (λ n. bytes_eq n.0 m.0) ms)) [])) own) ∙ each m.0 known.0 any in
      let others = each_own plan ms order.1 known.1 (λ uid is there.
      behind_by (bytes_eq m.0 uid) m ms uid refl order.0 there (each uid is (either (bytes_eq m.0 uid) (list_any (λ n. bytes_eq n.0 uid) ms) there))) in
      rw (here, others) refl

  every_is : (plan : PlanData) (text : InputText) → entries.is_sorted (slice_cmp nat_cmp) text ≡ true → has_sources plan text ≡ true → list_all (λ m. q m.1) text ≡ list_all (λ s. q (partitions_under s.uid text)) plan.sources
  unfolding has_sources
  every_is plan text ordered named =
      let parts = and_parts (list_all (λ m. is_source plan m.0) text) (list_all (λ s. list_any (λ m. bytes_eq m.0 s.uid) text) plan.sources) named in
      both_ways (list_all (λ m. q m.1) text) (list_all (λ s. q (partitions_under s.uid text)) plan.sources)
      (λ all. all_weaker (λ (s : SourceSpec). list_any (λ m. bytes_eq m.0 s.uid) text) (λ (s : SourceSpec). q (partitions_under s.uid text)) (λ s any. one_under text s.uid all any) plan.sources parts.1)
      (λ all. each_own plan text ordered parts.0 (λ uid known any. of_source text plan.sources uid all known))

-- ---- the first late entry

first_at_map : {A B Y : Type 0} (f : B → Option Y) (g : A → B) (xs : List A) → first_at f (map g xs) ≡ first_at (λ x. f (g x)) xs
first_at_map f g [] = refl
first_at_map f g (x ∷ xs) = ap (λ o. option_or (option_map (λ y. (0, y)) (f (g x))) (option_map (λ p. (suc p.0, p.1)) o)) (first_at_map f g xs)

within_by : {Y : Type 0} (a : Option Y) (o : Option (ℕ × Y)) (n : ℕ) → IfSome {T = ℕ × Y} o (λ p. p.0 < n) → IfSome {T = ℕ × Y} (option_or (option_map (λ y. (0, y)) a) (option_map (λ p. (suc p.0, p.1)) o)) (λ p. p.0 < suc n)
within_by (Some y) o n later = omega arith
within_by None None n later = tt
within_by None (Some p) n later = omega arith

first_within : {X Y : Type 0} (f : X → Option Y) (xs : List X) → IfSome (first_at f xs) (λ p. p.0 < length xs)
first_within f [] = tt
first_within f (x ∷ xs) = within_by (f x) (first_at f xs) (length xs) (first_within f xs)

narrow_by : {Y : Type 0} (o : Option (ℕ × Y)) (n m : ℕ) → n ≤ m → IfSome o (λ p. p.0 < n) → IfSome o (λ p. p.0 < m)
narrow_by None n m le h = tt
narrow_by (Some p) n m le h = omega arith

-- ---- what is seen of the sources

module _ (plan : PlanData) (text : InputText) where
  abbrev found_of : SourceSpec → SourceSeen
  found_of s = source_seen s.bound plan.columns plan.window.time (partitions_under s.uid text)

  counts : (ss : List SourceSpec) → list_all (λ p. p.0.partitions == p.1.partitions) (zip (map found_of ss) ss) ≡ list_all (λ s. length (partitions_under s.uid text) == s.partitions) ss
  counts [] = refl
  counts (s ∷ ss) = ap (λ b. (length (partitions_under s.uid text) == s.partitions) && b) (counts ss)

  narrow : (ss : List SourceSpec) → All (λ s. s.partitions ≤ MOST_PARTITIONS) ss → list_all (λ s. length (partitions_under s.uid text) == s.partitions) ss ≡ true → All (λ x. IfSome x.late (λ p. p.0 < 2 ^ 32)) (map found_of ss)
  narrow [] few many = λ k d lt. absurd (omega arith)
  narrow (s ∷ ss) few many =
      let parts = and_parts (length (partitions_under s.uid text) == s.partitions) (list_all (λ o. length (partitions_under o.uid text) == o.partitions) ss) many in
      let small : s.partitions ≤ MOST_PARTITIONS = few 0 s (omega arith) in
      let same : length (partitions_under s.uid text) ≡ s.partitions = eqb-true (length (partitions_under s.uid text)) s.partitions parts.0 in
      let entries = map (map (marked_of s.bound plan.columns plan.window.time)) (partitions_under s.uid text) in
      let le : length entries ≤ 2 ^ 32 = omega (arith, length-map (partitions_under s.uid text) (map (marked_of s.bound plan.columns plan.window.time))) in
      let here = narrow_by (first_at (first_late_entry plan.window.time) entries) (length entries) (2 ^ 32) le (first_within (first_late_entry plan.window.time) entries) in
      All-cons (λ x. IfSome x.late (λ p. p.0 < 2 ^ 32)) (found_of s) (map found_of ss) here (narrow ss (λ k e h. few (suc k) e (omega arith)) parts.1)

  module _ (found : List SourceSeen) (i : AreSeen plan text found) (sound : IsPlan plan) where
    seen_is : found ≡ map found_of plan.sources
    seen_is = i.seen ∙ own_bounds plan (λ bound s. source_seen bound plan.columns plan.window.time (partitions_under s.uid text)) sound

    partitions_are : has_partitions plan text ≡ list_all (λ p. p.0.partitions == p.1.partitions) (zip found plan.sources)
    unfolding has_partitions
    partitions_are = sym (ap (λ xs. list_all (λ p. p.0.partitions == p.1.partitions) (zip xs plan.sources)) seen_is ∙ counts plan.sources)

    tests : (p : SourceSeen → Bool) → list_all p found ≡ list_all (λ s. p (found_of s)) plan.sources
    tests p = ap (list_all p) seen_is ∙ list_all_map p found_of plan.sources

    width_is : has_width plan text ≡ list_all (λ x. x.met.is_wide) found
    unfolding has_width
    width_is = every_is (list_all (list_all (is_wide plan.columns))) plan text i.ordered i.named ∙ sym (tests (λ x. x.met.is_wide))

    numbers_are : has_numbers plan text ≡ list_all (λ x. x.met.is_whole) found
    unfolding has_numbers
    numbers_are = every_is (list_all (list_all is_whole)) plan text i.ordered i.named ∙ sym (tests (λ x. x.met.is_whole))

    rows_are : has_rows plan text ≡ list_all (λ x. x.met.is_sized) found
    unfolding has_rows
    rows_are = every_is (list_all (list_all is_sized)) plan text i.ordered i.named ∙ sym (tests (λ x. x.met.is_sized))

    times_are : has_times plan text ≡ list_all (λ x. x.met.is_timely) found
    unfolding has_times
    times_are = every_is (list_all (list_all (is_timely plan.window.time))) plan text i.ordered i.named ∙ sym (tests (λ x. x.met.is_timely))

    kinds_are : has_kinds plan text ≡ list_all (λ x. x.met.is_kind) found
    unfolding has_kinds
    kinds_are = sym (tests (λ x. x.met.is_kind))

    late_is : late_record plan text ≡ option_map late_fault (first_at (λ x. x.late) found)
    unfolding late_record
    late_is = ap (option_map late_fault) (first_at_map (first_at (first_late_entry plan.window.time)) (λ s. map (map (marked_of s.bound plan.columns plan.window.time)) (partitions_under s.uid text)) plan.sources
        ∙ sym (ap (first_at (λ x. x.late)) seen_is ∙ first_at_map (λ x. x.late) found_of plan.sources))

    few_is : is_few plan text ≡ nat_le (sum_by (λ x. x.records) found) MOST_RECORDS
    unfolding is_few
    few_is = ap (λ n. nat_le n MOST_RECORDS) (length-flat_map records_in_source (map (λ s. map (map (marked_of s.bound plan.columns plan.window.time)) (partitions_under s.uid text)) plan.sources)
        ∙ fold-map (λ n ps. n + length (records_in_source ps)) (λ s. map (map (marked_of s.bound plan.columns plan.window.time)) (partitions_under s.uid text)) 0 plan.sources
        ∙ sym (ap (sum_by (λ x. x.records)) seen_is ∙ fold-map (λ n x. n + x.records) found_of 0 plan.sources))

    pub partitions_fault : list_all (λ p. p.0.partitions == p.1.partitions) (zip found plan.sources) ≡ false → input_or_fault plan text ≡ Err Partitions
    unfolding requirements
    partitions_fault h = rw (i.named, partitions_are, h) refl

    module _ (many : list_all (λ p. p.0.partitions == p.1.partitions) (zip found plan.sources) ≡ true) where
      pub narrow_late : All (λ x. IfSome x.late (λ p. p.0 < 2 ^ 32)) found
      narrow_late = rw seen_is (narrow plan.sources sound.partitions_few (sym (counts plan.sources) ∙ sym (ap (λ xs. list_all (λ p. p.0.partitions == p.1.partitions) (zip xs plan.sources)) seen_is) ∙ many))

      pub width_fault : list_all (λ x. x.met.is_wide) found ≡ false → input_or_fault plan text ≡ Err Width
      unfolding requirements
      width_fault h = rw (i.named, partitions_are, many, width_is, h) refl

      module _ (wide : list_all (λ x. x.met.is_wide) found ≡ true) where
        pub number_fault : list_all (λ x. x.met.is_whole) found ≡ false → input_or_fault plan text ≡ Err Number
        unfolding requirements
        number_fault h = rw (i.named, partitions_are, many, width_is, wide, numbers_are, h) refl

        module _ (whole : list_all (λ x. x.met.is_whole) found ≡ true) where
          pub rows_fault : list_all (λ x. x.met.is_sized) found ≡ false → input_or_fault plan text ≡ Err Rows
          unfolding requirements
          rows_fault h = rw (i.named, partitions_are, many, width_is, wide, numbers_are, whole, rows_are, h) refl

          module _ (sized : list_all (λ x. x.met.is_sized) found ≡ true) where
            pub time_fault : list_all (λ x. x.met.is_timely) found ≡ false → input_or_fault plan text ≡ Err TimeRange
            unfolding requirements
            time_fault h = rw (i.named, partitions_are, many, width_is, wide, numbers_are, whole, rows_are, sized, times_are, h) refl

            module _ (timely : list_all (λ x. x.met.is_timely) found ≡ true) where
              pub kind_fault : list_all (λ x. x.met.is_kind) found ≡ false → input_or_fault plan text ≡ Err Kind
              unfolding requirements
              kind_fault h = rw (i.named, partitions_are, many, width_is, wide, numbers_are, whole, rows_are, sized, times_are, timely, kinds_are, h) refl

              module _ (kind : list_all (λ x. x.met.is_kind) found ≡ true) where
                pub late_first : (fault : InputFault) → option_map late_fault (first_at (λ x. x.late) found) ≡ Some fault → input_or_fault plan text ≡ Err fault
                unfolding requirements
                late_first fault h = rw (i.named, partitions_are, many, width_is, wide, numbers_are, whole, rows_are, sized, times_are, timely, kinds_are, kind, late_is, h) refl

                pub many_fault : option_map late_fault (first_at (λ x. x.late) found) ≡ None → nat_le (sum_by (λ x. x.records) found) MOST_RECORDS ≡ false → input_or_fault plan text ≡ Err TooMany
                unfolding requirements
                many_fault none h = rw (i.named, partitions_are, many, width_is, wide, numbers_are, whole, rows_are, sized, times_are, timely, kinds_are, kind, late_is, none, few_is, h) refl

                pub all_met : option_map late_fault (first_at (λ x. x.late) found) ≡ None → nat_le (sum_by (λ x. x.records) found) MOST_RECORDS ≡ true → input_or_fault plan text ≡ Ok (input_of plan text)
                unfolding requirements
                all_met none h = rw (i.named, partitions_are, many, width_is, wide, numbers_are, whole, rows_are, sized, times_are, timely, kinds_are, kind, late_is, none, few_is, h) refl
