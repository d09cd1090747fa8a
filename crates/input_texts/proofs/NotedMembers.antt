-- What is noted of the members of a document, with one more.
use Rattle.std.proofs.Common.{◌≡◌, ℕ, suc, ◌+◌, ◌<◌, ◌≤◌, nat_lt, Bool, true, false, not, cond, ◌&&◌, ◌||◌, List, [], ◌∷◌, map, set, length, Option, Some, None, option_map, is_some, bytes_eq, nat_cmp, Ordering, Less, Equal, Greater, is_eq, refl, sym, ap, ◌∙◌, arith}
use Rattle.std.proofs.lemmas.Bool.{and_parts, or_parts, not-false}
use Rattle.std.proofs.lemmas.Bool.Decides.{nat_tests}
use Rattle.std.proofs.lemmas.List.Folds.{list_any_at}
use Rattle.std.proofs.lemmas.List.Quantifiers.{position-Some}
use Rattle.std.proofs.lemmas.Slice.Eq.{bytes_eq-Decides}
use Rattle.std.specs.Cmp.Lexicographic.{slice_cmp}
use Rattle.std.specs.Ordering.{match_ordering}
use Rattle.std.specs.Prelude.{String, string_bytes}
use Rattle.std.specs.String.{string_cmp}
use Rattle.std.proofs.lemmas.Map.Text.{is_eq-slice_cmp}
use Rattle.std.specs.BTreeSet.{insert_key}
use Rattle.std.specs.Set.{remove_key}
use Rattle.std.specs.List.{IsDistinct, list_all, list_any, position, position_or_len}
use Rattle.std.specs.Option.{option_map_or}
use Rattle.serde_json.specs.Data.{Data, Members, no_members, put}
use Rattle.serde_json.specs.Find.{get_member}
use Rattle.json_parts.specs.Parts.{names_of}
use Rattle.plan_model.specs.declared.spec.SourceSpec.{SourceSpec}
use Rattle.plan_model.specs.PlanData.{PlanData, IsPlan}
use Rattle.input_texts.specs.Document.{Document, is_source, is_other, names_in, unknown_names, IsNoted}
use Rattle.input_texts.specs.Seen.{SourceSeen, slot_of}
use Rattle.input_texts.proofs.Sources.{distinct_sources}
use Rattle.input_texts.proofs.OrderedMembers.{ordered_put, named_put, got_after}
use Rattle.input_texts.proofs.Replaced.{all_kept, one_replaced}
use Rattle.input_texts.proofs.UnknownNames.{unknown_kept, one_more_unknown}
use Rattle.plan_model.proofs.Facts.{and_false}

-- ---- names, of which one is taken out and put in again

module _ {A : Type 0} where
  abbrev b : String A → List ℕ
  b s = string_bytes s

  abbrev string_at : String A → String A → Bool
  string_at key s = is_eq (string_cmp key s)

  abbrev at : List ℕ → String A → Bool
  at name s = is_eq (slice_cmp nat_cmp name (b s))

  pub found_in : (name : List ℕ) (ks : List (String A)) → list_any (at name) ks ≡ list_any (bytes_eq name) (map b ks)
  found_in name [] = refl
  found_in name (x ∷ xs) = (λ o. is_eq-slice_cmp name (b x) o || found_in name xs o)

  module _ (name k : List ℕ) (apart : bytes_eq k name ≡ false) where
    taken_by : (t : Bool) (x : String A) (xs : List (String A)) → at name x ≡ t → list_any (bytes_eq k) (map b (remove_key (at name) xs)) ≡ list_any (bytes_eq k) (map b xs)
        → list_any (bytes_eq k) (map b (cond t xs (x ∷ remove_key (at name) xs))) ≡ (bytes_eq k (b x) || list_any (bytes_eq k) (map b xs))
    taken_by true x xs is later =
        let same : name ≡ b x = (bytes_eq-Decides name (b x)).0 (sym (is_eq-slice_cmp name (b x)) ∙ is) in
        let far : bytes_eq k (b x) ≡ false = ap (bytes_eq k) (sym same) ∙ apart in
        ap (λ c. c || list_any (bytes_eq k) (map b xs)) (sym far)
    taken_by false x xs is later = ap (λ c. bytes_eq k (b x) || c) later

    taken : (ks : List (String A)) → list_any (bytes_eq k) (map b (remove_key (at name) ks)) ≡ list_any (bytes_eq k) (map b ks)
    taken [] = refl
    taken (x ∷ xs) = taken_by (at name x) x xs refl (taken xs)

    added_by : (o : Ordering) (key x : String A) (xs more : List (String A)) → b key ≡ name → list_any (bytes_eq k) (map b more) ≡ list_any (bytes_eq k) (map b xs)
        → list_any (bytes_eq k) (map b (match_ordering o (key ∷ x ∷ xs) (x ∷ xs) (x ∷ more))) ≡ list_any (bytes_eq k) (map b (x ∷ xs))
    added_by Less key x xs more named later = ap (λ c. c || list_any (bytes_eq k) (map b (x ∷ xs))) (ap (bytes_eq k) named ∙ apart)
    added_by Equal key x xs more named later = refl
    added_by Greater key x xs more named later = ap (λ c. bytes_eq k (b x) || c) later

    added : (key : String A) → b key ≡ name → (ks : List (String A)) → list_any (bytes_eq k) (map b (insert_key string_cmp ks key)) ≡ list_any (bytes_eq k) (map b ks)
    added key named [] = ap (λ c. c || false) (ap (bytes_eq k) named ∙ apart)
    added key named (x ∷ xs) = added_by (string_cmp key x) key x xs (insert_key string_cmp xs key) named (added key named xs)

  module _ (name : List ℕ) (old new : List (String A)) where
    out_by : (c : Bool) (k : List ℕ) → bytes_eq k name ≡ c → new ≡ remove_key (at name) old → list_any (at name) new ≡ false → list_any (bytes_eq k) (map b new) ≡ cond c false (list_any (bytes_eq k) (map b old))
    out_by true k equal is gone =
        let same : k ≡ name = (bytes_eq-Decides k name).0 equal in
        ap (λ n. list_any (bytes_eq n) (map b new)) same ∙ sym (found_in name new) ∙ gone
    out_by false k apart is gone = ap (λ ks. list_any (bytes_eq k) (map b ks)) is ∙ taken name k apart old

    pub name_out : new ≡ remove_key (at name) old → list_any (at name) new ≡ false → (is_in : Bool) → is_in ≡ false → (k : List ℕ) → list_any (bytes_eq k) (map b new) ≡ cond (bytes_eq k name) is_in (list_any (bytes_eq k) (map b old))
    name_out is gone is_in out k = out_by (bytes_eq k name) k refl is gone ∙ ap (λ c. cond (bytes_eq k name) c (list_any (bytes_eq k) (map b old))) (sym out)

    in_by : (c : Bool) (k : List ℕ) (key : String A) (more : List (String A)) → bytes_eq k name ≡ c → b key ≡ name → more ≡ insert_key string_cmp new key → list_any (string_at key) more ≡ true
        → list_any (bytes_eq k) (map b more) ≡ cond c true (list_any (bytes_eq k) (map b new))
    in_by true k key more equal named is there =
        let same : k ≡ b key = (bytes_eq-Decides k name).0 equal ∙ sym named in
        ap (λ n. list_any (bytes_eq n) (map b more)) same ∙ sym (found_in (b key) more) ∙ there
    in_by false k key more apart named is there = ap (λ ks. list_any (bytes_eq k) (map b ks)) is ∙ added name k apart key named new

    twice : (c : Bool) (x : Bool) → cond c true (cond c false x) ≡ cond c true x
    twice true x = refl
    twice false x = refl

    pub name_in : new ≡ remove_key (at name) old → list_any (at name) new ≡ false → (key : String A) (more : List (String A)) → b key ≡ name → more ≡ insert_key string_cmp new key → list_any (string_at key) more ≡ true
        → (is_in : Bool) → is_in ≡ true → (k : List ℕ) → list_any (bytes_eq k) (map b more) ≡ cond (bytes_eq k name) is_in (list_any (bytes_eq k) (map b old))
    name_in is gone key more named put there is_in inside k =
        in_by (bytes_eq k name) k key more refl named put there ∙ ap (cond (bytes_eq k name) true) (out_by (bytes_eq k name) k refl is gone) ∙ twice (bytes_eq k name) (list_any (bytes_eq k) (map b old))
        ∙ ap (λ c. cond (bytes_eq k name) c (list_any (bytes_eq k) (map b old))) (sym inside)

-- ---- no member yet

pub none_noted : (plan : PlanData) (document : Document) → document.slots.items ≡ map (λ (s : SourceSpec). None) plan.sources → (names_in document.names) ≡ [] → document.is_planned ≡ true → document.are_more ≡ false → (most : ℕ) → IsNoted plan most no_members document
none_noted plan document slots names planned none_left most = record {
  ordered = refl;
  filled = slots;
  planned = planned;
  named = λ k h. absurd (let none : list_any (bytes_eq k) (names_in document.names) ≡ false = ap (list_any (bytes_eq k)) names in cc);
  told = λ all k h. absurd (let none = and_false (not (is_source plan k)) in cc);
  many = λ more. absurd (cc);
}

-- ---- one more member

other_by : (plan : PlanData) (k : List ℕ) (d : Data) (ms : Members) (j : List ℕ) (b : Bool)
    → (not (is_source plan j) && option_map_or (λ x. not (is_some (slot_of plan j x))) (cond b (Some d) (get_member j ms)) false)
    ≡ cond b (not (is_source plan j) && not (is_some (slot_of plan j d))) (is_other plan ms j)
other_by plan k d ms j true = refl
other_by plan k d ms j false = refl

other_after : (plan : PlanData) (k : List ℕ) (d : Data) (ms : Members) (j : List ℕ)
    → is_other plan (put k d ms) j ≡ cond (bytes_eq j k) (not (is_source plan j) && not (is_some (slot_of plan j d))) (is_other plan ms j)
other_after plan k d ms j =
    ap (λ o. not (is_source plan j) && option_map_or (λ x. not (is_some (slot_of plan j x))) o false) (got_after j k d ms) ∙ other_by plan k d ms j (bytes_eq j k)

same_by : (plan : PlanData) (k : List ℕ) (d : Data) (ms : Members) (j : List ℕ) (b : Bool) → is_source plan k ≡ true → bytes_eq j k ≡ b
    → cond b (not (is_source plan j) && not (is_some (slot_of plan j d))) (is_other plan ms j) ≡ is_other plan ms j
same_by plan k d ms j true known equal =
    let same : j ≡ k = (bytes_eq-Decides j k).0 equal in
    let here : is_source plan j ≡ true = ap (is_source plan) same ∙ known in
    rw here refl
same_by plan k d ms j false known apart = refl

slot_by : (plan : PlanData) (uid k : List ℕ) (b : Bool) (d : Data) (o : Option Data) → bytes_eq uid k ≡ b → option_map (slot_of plan uid) (cond b (Some d) o) ≡ cond b (Some (slot_of plan k d)) (option_map (slot_of plan uid) o)
slot_by plan uid k true d o equal = ap (λ n. Some (slot_of plan n d)) ((bytes_eq-Decides uid k).0 equal)
slot_by plan uid k false d o apart = refl

slot_after : (plan : PlanData) (k : List ℕ) (d : Data) (ms : Members) (s : SourceSpec)
    → option_map (slot_of plan s.uid) (get_member s.uid (put k d ms)) ≡ cond (bytes_eq s.uid k) (Some (slot_of plan k d)) (option_map (slot_of plan s.uid) (get_member s.uid ms))
slot_after plan k d ms s = ap (option_map (slot_of plan s.uid)) (got_after s.uid k d ms) ∙ slot_by plan s.uid k (bytes_eq s.uid k) d (get_member s.uid ms) refl

some_source : (test : SourceSpec → Bool) (xs : List SourceSpec) (place : ℕ) → position test xs ≡ Some place → SourceSpec
some_source test [] place found = absurd (cc)
some_source test (x ∷ xs) place found = x

-- ---- a name that the plan lacks

one_less : (m n : ℕ) → nat_lt (1 + m) (suc n) ≡ nat_lt m n
one_less m n = grind (arith, nat_tests)

first_less : (n : ℕ) → nat_lt 0 (suc n) ≡ true
first_less n = grind (arith, nat_tests)

place_by : (test : SourceSpec → Bool) (b : Bool) (s : SourceSpec) (ss : List SourceSpec) → nat_lt (position_or_len test ss) (length ss) ≡ list_any test ss
    → nat_lt (cond (not b) (1 + position_or_len test ss) 0) (suc (length ss)) ≡ (b || list_any test ss)
place_by test true s ss later = first_less (length ss)
place_by test false s ss later = one_less (position_or_len test ss) (length ss) ∙ later

has_place : (test : SourceSpec → Bool) (ss : List SourceSpec) → nat_lt (position_or_len test ss) (length ss) ≡ list_any test ss
has_place test [] = refl
has_place test (s ∷ ss) = place_by test (test s) s ss (has_place test ss)

no_choice : (b : Bool) (n : ℕ) → cond b (Some n) None ≡ None → b ≡ false
no_choice true n h = absurd (cc)
no_choice false n h = refl

pub unknown_name : (plan : PlanData) (k : List ℕ) → position (λ (s : SourceSpec). bytes_eq s.uid k) plan.sources ≡ None → is_source plan k ≡ false
unknown_name plan k none =
    let test : SourceSpec → Bool = λ s. bytes_eq s.uid k in
    sym (has_place test plan.sources) ∙ no_choice (nat_lt (position_or_len test plan.sources) (length plan.sources)) (position_or_len test plan.sources) none

pub turned : (a b : Bool) → a ≡ not b → b ≡ not a
turned true true h = absurd (cc)
turned true false h = refl
turned false true h = refl
turned false false h = absurd (cc)

own_out : (is_malformed : Bool) (k : List ℕ) (before : Bool) → cond (bytes_eq k k) (is_malformed && false) before ≡ false
own_out is_malformed k before = rw ((bytes_eq-Decides k k).1 refl) (and_false is_malformed)

other_in : (is_malformed b before : Bool) → cond b (is_malformed && false) before ≡ true → before ≡ true
other_in is_malformed true before h = absurd (let none = and_false is_malformed in cc)
other_in is_malformed false before h = h

module _ (plan : PlanData) (most : ℕ) (ms : Members) (old new : Document) (k : List ℕ) (d : Data) (source : Option SourceSeen) (i : IsNoted plan most ms old) (says : source ≡ slot_of plan k d) where
  abbrev v : SourceSpec → Option (Option SourceSeen)
  v s = option_map (slot_of plan s.uid) (get_member s.uid ms)

  abbrev w : SourceSpec → Option (Option SourceSeen)
  w s = option_map (slot_of plan s.uid) (get_member s.uid (put k d ms))

  kept_many : most < length (unknown_names plan ms) → most < length (unknown_names plan (put k d ms))
  kept_many h = let kept = unknown_kept plan k d ms in omega (arith, kept, h)

  pub source_put : (place : ℕ) → IsPlan plan → position (λ (s : SourceSpec). bytes_eq s.uid k) plan.sources ≡ Some place → new.slots.items ≡ set old.slots.items place (Some source) → (names_in new.names) ≡ (names_in old.names)
      → new.is_planned ≡ old.is_planned → new.are_more ≡ old.are_more → IsNoted plan most (put k d ms) new
  source_put place sound found slots names planned more =
      let any = some_source (λ (s : SourceSpec). bytes_eq s.uid k) plan.sources place found in
      let at_place = position-Some (λ (s : SourceSpec). bytes_eq s.uid k) plan.sources place any found in
      let known : is_source plan k ≡ true = list_any_at (λ (s : SourceSpec). bytes_eq s.uid k) plan.sources place any at_place.0 at_place.1 in
      let same = λ (j : List ℕ). other_after plan k d ms j ∙ same_by plan k d ms j (bytes_eq j k) known refl in
      record {
        ordered = ordered_put k d ms i.ordered;
        filled = slots ∙ (λ o. set (i.filled o) place (Some (says o)))
            ∙ sym (one_replaced (λ (s : SourceSpec). s.uid) v w k (Some (slot_of plan k d)) (slot_after plan k d ms) plan.sources place any at_place.0 at_place.1 (distinct_sources plan sound));
        planned = planned ∙ i.planned ∙ sym (named_put (is_source plan) k d ms ∙ ap (λ b. b && list_all (is_source plan) (names_of ms)) known);
        named = λ j h. same j ∙ i.named j (sym (ap (list_any (bytes_eq j)) names) ∙ h);
        told = λ all j h. ap (list_any (bytes_eq j)) names ∙ i.told (sym more ∙ all) j (sym (same j) ∙ h);
        many = λ more_left. kept_many (i.many (sym more ∙ more_left));
      }

  full_many : (is_malformed : Bool) → is_source plan k ≡ false
      → ((j : List ℕ) → list_any (bytes_eq j) (names_in new.names) ≡ cond (bytes_eq j k) (is_malformed && false) (list_any (bytes_eq j) (names_in old.names)))
      → (most ≤ length (names_in new.names)) × IsDistinct bytes_eq (names_in new.names) → most < length (unknown_names plan (put k d ms))
  full_many is_malformed unknown names full =
      let apart : list_any (bytes_eq k) (names_in new.names) ≡ false = names k ∙ own_out is_malformed k (list_any (bytes_eq k) (names_in old.names)) in
      let all = one_more_unknown plan k d ms (names_in new.names) unknown full.1 apart (λ j h. i.named j (other_in is_malformed (bytes_eq j k) (list_any (bytes_eq j) (names_in old.names)) (sym (names j) ∙ h))) in
      omega (arith, all, full.0)

  many_by : (is_malformed more has_room : Bool) → (more || not has_room) ≡ true → old.are_more ≡ more → is_source plan k ≡ false
      → ((j : List ℕ) → list_any (bytes_eq j) (names_in new.names) ≡ cond (bytes_eq j k) (is_malformed && has_room) (list_any (bytes_eq j) (names_in old.names)))
      → (has_room ≡ false → (most ≤ length (names_in new.names)) × IsDistinct bytes_eq (names_in new.names)) → most < length (unknown_names plan (put k d ms))
  many_by is_malformed true has_room either before unknown names full = kept_many (i.many before)
  many_by is_malformed false true either before unknown names full = absurd (cc)
  many_by is_malformed false false either before unknown names full = full_many is_malformed unknown names (full refl)

  named_by : (has_room is_malformed b : Bool) (j : List ℕ) → is_source plan k ≡ false → is_malformed ≡ not (is_some (slot_of plan k d)) → bytes_eq j k ≡ b → cond b (is_malformed && has_room) (list_any (bytes_eq j) (names_in old.names)) ≡ true
      → cond b (not (is_source plan j) && not (is_some (slot_of plan j d))) (is_other plan ms j) ≡ true
  named_by has_room is_malformed true j unknown form equal h =
      let same : j ≡ k = (bytes_eq-Decides j k).0 equal in
      let here : is_source plan k ≡ false = unknown in
      ap (λ n. not (is_source plan n) && not (is_some (slot_of plan n d))) same ∙ rw here (sym form ∙ (and_parts is_malformed has_room h).0)
  named_by has_room is_malformed false j unknown form apart h = i.named j h

  told_by : (is_malformed b : Bool) (j : List ℕ) → old.are_more ≡ false → is_malformed ≡ not (is_some (slot_of plan k d)) → bytes_eq j k ≡ b
      → cond b (not (is_source plan j) && not (is_some (slot_of plan j d))) (is_other plan ms j) ≡ true → cond b (is_malformed && true) (list_any (bytes_eq j) (names_in old.names)) ≡ true
  told_by is_malformed true j all form equal h =
      let same : j ≡ k = (bytes_eq-Decides j k).0 equal in
      let there : is_malformed ≡ true = form ∙ ap (λ n. not (is_some (slot_of plan n d))) (sym same) ∙ (and_parts (not (is_source plan j)) (not (is_some (slot_of plan j d))) h).1 in
      rw there refl
  told_by is_malformed false j all form apart h = i.told all j h

  pub other_put : (has_room is_malformed : Bool) → is_source plan k ≡ false → is_malformed ≡ not (is_some source) → new.slots.items ≡ old.slots.items
      → ((j : List ℕ) → list_any (bytes_eq j) (names_in new.names) ≡ cond (bytes_eq j k) (is_malformed && has_room) (list_any (bytes_eq j) (names_in old.names)))
      → new.is_planned ≡ false → new.are_more ≡ (old.are_more || not has_room)
      → (has_room ≡ false → (most ≤ length (names_in new.names)) × IsDistinct bytes_eq (names_in new.names)) → IsNoted plan most (put k d ms) new
  other_put has_room is_malformed unknown form slots names planned more full =
      let is : is_malformed ≡ not (is_some (slot_of plan k d)) = form ∙ ap (λ o. not (is_some o)) says in
      record {
        ordered = ordered_put k d ms i.ordered;
        filled = slots ∙ i.filled ∙ sym (all_kept (λ (s : SourceSpec). s.uid) v w k (Some (slot_of plan k d)) (slot_after plan k d ms) plan.sources unknown);
        planned = planned ∙ sym (named_put (is_source plan) k d ms ∙ ap (λ b. b && list_all (is_source plan) (names_of ms)) unknown);
        named = λ j h. other_after plan k d ms j ∙ named_by has_room is_malformed (bytes_eq j k) j unknown is refl (sym (names j) ∙ h);
        told = λ all j h.
            let both = or_parts old.are_more (not has_room) (sym more ∙ all) in
            let room : has_room ≡ true = not-false has_room both.1 in
            names j ∙ ap (λ r. cond (bytes_eq j k) (is_malformed && r) (list_any (bytes_eq j) (names_in old.names))) room ∙ told_by is_malformed (bytes_eq j k) j both.0 is refl (sym (other_after plan k d ms j) ∙ h);
        many = λ more_left. many_by is_malformed old.are_more has_room (sym more ∙ more_left) refl unknown names full;
      }
