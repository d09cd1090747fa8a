-- The sources of a savepoint are the plan's, each under its uid.
use Rattle.std.proofs.Common.{ltb, ◌≡◌, ℕ, zero, suc, ◌<◌, Bool, true, false, cond, ◌||◌, List, [], ◌∷◌, ◌++◌, length, map, get_or, Some, None, refl, sym, ap, ◌∙◌, append_assoc, inl, inr, arith, length-append}
use Rattle.std.specs.Prelude.{bytes_eq, position, slice_index_or, ◌==◌}
use Rattle.std.specs.Option.{option_map_or}
use Rattle.std.specs.List.{find, list_all, list_any, position_or_len, zip}
use Rattle.std.specs.Cmp.Lexicographic.{nat_list_eq_equiv, bytes_decides}
use Rattle.std.proofs.lemmas.Bool.{and_from, and_parts, or_parts, cases_Bool, eq-eqb, lt-ltb, not-true}
use Rattle.std.proofs.lemmas.List.{get_or-map, get_or_append_left, length-map, same_lists}
use Rattle.std.proofs.lemmas.List.Elements.{All-map}
use Rattle.std.proofs.lemmas.List.Sums.{list_all-from_AllPass, position_or_len_is}
use Rattle.plan_model.specs.declared.spec.Aggregate.{Aggregate}
use Rattle.plan_model.specs.declared.spec.SourceSpec.{SourceSpec}
use Rattle.plan_model.specs.PlanData.{PlanData, IsPlan, uids}
use Rattle.plan_model.specs.Uids.{are_distinct}
use Rattle.plan_record.specs.Laws.{AscendingIsInOrder}
use Rattle.aggregates.specs.Kinds.{kind_of}
use Rattle.layout_rules.specs.Layouts.{partition_counts}
use Rattle.savepoint_codec.specs.Fields.{kind_code}
use Rattle.savepoint_codec.specs.declared.savepoint.SavedPartition.{SavedPartition}
use Rattle.savepoint_codec.specs.declared.savepoint.SavedSource.{SavedSource}
use Rattle.restore.specs.Requirements.{are_kinds}
use Rattle.restore.specs.Saved.{saved_under}
use Rattle.gather.specs.Saved.{partitions_under, saved_source, source_uids}
use Rattle.gather.proofs.Facts.{no_source}

-- ---- distinct uids

other : (u : List ℕ) (us : List (List ℕ)) → list_any (bytes_eq u) us ≡ false → (k : ℕ) → k < length us → bytes_eq u (get_or us k []) ≡ false
other u [] h k l = absurd (omega (arith, l))
other u (v ∷ us) h zero l = (or_parts (bytes_eq u v) (list_any (bytes_eq u) us) h).0
other u (v ∷ us) h (suc k) l = other u us (or_parts (bytes_eq u v) (list_any (bytes_eq u) us) h).1 k (omega (arith, l))

apart : (us : List (List ℕ)) → are_distinct us ≡ true → (j k : ℕ) → j < k → k < length us → bytes_eq (get_or us k []) (get_or us j []) ≡ false
apart [] h j k l m = absurd (omega (arith, m))
apart (u ∷ us) h j zero l m = absurd (omega (arith, l))
apart (u ∷ us) h zero (suc k) l m = nat_list_eq_equiv.symm (get_or us k []) u ∙ other u us (not-true _ (and_parts _ _ h).0) k (omega (arith, m))
apart (u ∷ us) h (suc j) (suc k) l m = apart us (and_parts _ _ h).1 j k (omega (arith, l)) (omega (arith, m))

-- the place of a uid among distinct ones
place : (us vs : List (List ℕ)) → are_distinct (us ++ vs) ≡ true → (k : ℕ) → k < length us → position (bytes_eq (get_or us k [])) (us ++ vs) ≡ Some k
place us vs h k l =
    let all = us ++ vs in
    let long : k < length all = omega (arith, l, length-append us vs) in
    let there : get_or all k [] ≡ get_or us k [] = get_or_append_left us vs [] k l in
    let is : position_or_len (bytes_eq (get_or us k [])) all ≡ k =
    position_or_len_is (bytes_eq (get_or us k [])) all k [] (omega (arith, long)) (λ j m. ap (λ u. bytes_eq u (get_or all j [])) (sym there) ∙ apart all h j k m long) (λ m. ap (bytes_eq (get_or us k [])) there ∙ nat_list_eq_equiv.refl (get_or us k [])) in
    (λ i. cond (ltb (is i) (length all)) (Some (is i)) None) ∙ ap (λ b. cond b (Some k) None) (lt-ltb k (length all) long)

abbrev pub keys : PlanData → List (List ℕ)
keys p = map (λ s. s.uid) p.sources

-- the partitions under the uid of a source are those of the source
partitions_at : (p : PlanData) (ss : List (List SavedPartition)) → are_distinct (uids p) ≡ true → (k : ℕ) → k < length p.sources → partitions_under p ss (get_or (keys p) k []) ≡ get_or ss k []
partitions_at p ss h k l =
    let rest = map (λ f. f.uid) p.filters ++ p.window.uid ∷ [] in
    let split : uids p ≡ keys p ++ rest = append_assoc (keys p) (map (λ f. f.uid) p.filters) (p.window.uid ∷ []) in
    ap (λ us. option_map_or (λ x. slice_index_or ss x []) (position (bytes_eq (get_or (keys p) k [])) us) []) split
    ∙ ap (λ o. option_map_or (λ x. slice_index_or ss x []) o []) (place (keys p) rest (ap are_distinct (sym split) ∙ h) k (omega (arith, l, length-map p.sources (λ s. s.uid))))

-- ---- uids in order

any_at : {X : Type 0} (t : X → Bool) (xs : List X) (k : ℕ) (d : X) → k < length xs → t (get_or xs k d) ≡ true → list_any t xs ≡ true
any_at t [] k d l h = absurd (omega (arith, l))
any_at t (x ∷ xs) zero d l h = ap (λ b. b || list_any t xs) h
any_at t (x ∷ xs) (suc k) d l h = or_second (t x) (any_at t xs k d (omega (arith, l)) h)
  where
    or_second : (a : Bool) {b : Bool} → b ≡ true → (a || b) ≡ true
    or_second true e = refl
    or_second false e = e

-- the same of what a function has of each, with the two texts turned
pub turned : {X : Type 0} (f : X → List ℕ) (u : List ℕ) (xs : List X) → list_any (λ x. bytes_eq (f x) u) xs ≡ list_any (bytes_eq u) (map f xs)
turned f u [] = refl
turned f u (x ∷ xs) = λ i. nat_list_eq_equiv.symm (f x) u i || turned f u xs i

mapped_uids : (p : PlanData) (ss : List (List SavedPartition)) (us : List (List ℕ)) → map (λ s. s.uid) (map (saved_source p ss) us) ≡ us
mapped_uids p ss [] = refl
mapped_uids p ss (u ∷ us) = ap (λ vs. u ∷ vs) (mapped_uids p ss us)

-- what stands under a uid
under : (p : PlanData) (ss : List (List SavedPartition)) (uid : List ℕ) (us : List (List ℕ)) → list_any (bytes_eq uid) us ≡ true → saved_under uid (map (saved_source p ss) us) ≡ partitions_under p ss uid
under p ss uid [] h = absurd cc
under p ss uid (u ∷ us) h =
    let rest = map (saved_source p ss) us in
    let choose : Bool → List SavedPartition = λ b. option_map_or (λ s. s.partitions) (cond b (Some (saved_source p ss u)) (find (λ s. bytes_eq s.uid uid) rest)) [] in
    elim (cases_Bool (bytes_eq u uid)) [
      | inl same ↦ ap choose same ∙ ap (partitions_under p ss) ((bytes_decides u uid).0 same)
      | inr differs ↦ ap choose differs ∙ under p ss uid us (ap (λ b. b || list_any (bytes_eq uid) us) (sym (nat_list_eq_equiv.symm uid u ∙ differs)) ∙ h)
    ]

module _ (rising : AscendingIsInOrder) (p : PlanData) (ip : IsPlan p) (ss : List (List SavedPartition)) where
  abbrev saved : List SavedSource
  saved = map (saved_source p ss) (source_uids p)

  -- a source's uid is among those in order
  there : (k : ℕ) → k < length p.sources → list_any (bytes_eq (get_or (keys p) k [])) (source_uids p) ≡ true
  there k l = (rising.0 (keys p)).members (bytes_eq (get_or (keys p) k [])) ∙ any_at (bytes_eq (get_or (keys p) k [])) (keys p) k [] (omega (arith, l, length-map p.sources (λ s. s.uid))) (nat_list_eq_equiv.refl (get_or (keys p) k []))

  each_under : (k : ℕ) (d : SourceSpec) → k < length p.sources → saved_under (get_or p.sources k d).uid saved ≡ get_or ss k []
  each_under k d l =
      let at : get_or (keys p) k [] ≡ (get_or p.sources k d).uid = get_or-map (λ s. s.uid) p.sources k d [] l in
      ap (λ u. saved_under u saved) (sym at) ∙ under p ss (get_or (keys p) k []) (source_uids p) (there k l) ∙ partitions_at p ss ip.distinct k l

  -- the partitions of all sources, in plan order
  pub all_under : length ss ≡ length p.sources → map (λ source. saved_under source.uid saved) p.sources ≡ ss
  all_under long =
      let size = length-map p.sources (λ source. saved_under source.uid saved) in
      same_lists (map (λ source. saved_under source.uid saved) p.sources) ss (size ∙ sym long) (λ k d l.
      let below : k < length p.sources = omega (arith, l, size) in
      get_or-map (λ source. saved_under source.uid saved) p.sources k no_source d below ∙ each_under k no_source below ∙ default_at ss k d (omega (arith, below, long)))
    where
      default_at : (xs : List (List SavedPartition)) (k : ℕ) (d : List SavedPartition) → k < length xs → get_or xs k [] ≡ get_or xs k d
      default_at [] k d l = absurd (omega (arith, l))
      default_at (x ∷ xs) zero d l = refl
      default_at (x ∷ xs) (suc k) d l = default_at xs k d (omega (arith, l))

  -- each source of the savepoint is one of the plan's
  pub all_known : list_all (λ x. list_any (λ source. bytes_eq source.uid x.uid) p.sources) saved ≡ true
  all_known =
      let known : SavedSource → Bool = λ x. list_any (λ source. bytes_eq source.uid x.uid) p.sources in
      list_all-from_AllPass known saved (All-map (λ x. known x ≡ true) (saved_source p ss) (source_uids p) (λ k d l.
      let u = get_or (source_uids p) k d in
      turned (λ s. s.uid) u p.sources ∙ sym ((rising.0 (keys p)).members (bytes_eq u)) ∙ any_at (bytes_eq u) (source_uids p) k d l (nat_list_eq_equiv.refl u)))

  -- and each source of the plan is in it
  pub all_there : list_all (λ source. list_any (λ x. bytes_eq x.uid source.uid) saved) p.sources ≡ true
  all_there =
      list_all-from_AllPass (λ source. list_any (λ x. bytes_eq x.uid source.uid) saved) p.sources (λ k d l.
      let at : get_or (keys p) k [] ≡ (get_or p.sources k d).uid = get_or-map (λ s. s.uid) p.sources k d [] l in
      turned (λ x. x.uid) (get_or p.sources k d).uid saved ∙ ap (list_any (bytes_eq (get_or p.sources k d).uid)) (mapped_uids p ss (source_uids p)) ∙ ap (λ u. list_any (bytes_eq u) (source_uids p)) (sym at) ∙ there k l)

  -- with as many partitions as the plan says
  pub all_partitioned : map (λ ps. length ps) ss ≡ partition_counts p → list_all (λ source. length (saved_under source.uid saved) == source.partitions) p.sources ≡ true
  all_partitioned shape =
      list_all-from_AllPass (λ source. length (saved_under source.uid saved) == source.partitions) p.sources (λ k d l.
      let long : length ss ≡ length p.sources = sym (length-map ss (λ ps. length ps)) ∙ ap length shape ∙ length-map p.sources (λ s. s.partitions) in
      let size : length (get_or ss k []) ≡ (get_or p.sources k d).partitions =
      sym (get_or-map (λ ps. length ps) ss k [] 0 (omega (arith, l, long))) ∙ ap (λ ns. get_or ns k 0) shape ∙ get_or-map (λ s. s.partitions) p.sources k d 0 l in
      eq-eqb _ _ (ap length (each_under k d l) ∙ size))

-- ---- the kinds are the plan's

alike : (xs : List Aggregate) → list_all (λ x. kind_code x.0 == kind_code (kind_of x.1)) (zip (map kind_of xs) xs) ≡ true
alike [] = refl
alike (x ∷ xs) = and_from _ _ (eq-eqb (kind_code (kind_of x)) (kind_code (kind_of x)) refl) (alike xs)

pub own_kinds : (xs : List Aggregate) → are_kinds (map kind_of xs) xs ≡ true
own_kinds xs = and_from _ _ (eq-eqb _ _ (length-map xs kind_of)) (alike xs)
