-- The members of an object, and for each source of the plan the partitions under its uid.
use Rattle.std.proofs.Common.{◌≡◌, ℕ, Bool, true, false, not, List, [], ◌∷◌, ◌++◌, map, set, length, get_or, ◌<◌, Option, Some, None, option_map, option_and_then, cond, bytes_eq, nat_cmp, Ordering, Less, Equal, Greater, is_eq, refl, sym, ap, ◌∙◌}
use Rattle.std.proofs.lemmas.Bool.{and_parts, or_parts, not-true}
use Rattle.std.proofs.lemmas.Map.Text.{is_eq-slice_cmp}
use Rattle.std.proofs.lemmas.Slice.Eq.{bytes_eq-Decides}
use Rattle.std.proofs.lemmas.List.Folds.{list_any-append}
use Rattle.std.specs.Cmp.Lexicographic.{slice_cmp, nat_list_eq_equiv}
use Rattle.std.specs.List.{list_all, list_any, find}
use Rattle.std.specs.Ordering.{match_ordering}
use Rattle.serde_json.specs.Data.{Data, Members, no_members, member, put}
use Rattle.json_parts.specs.Members.{each_member}
use Rattle.plan_model.specs.Uids.{are_distinct}
use Rattle.input_texts.proofs.Replaced as replaced

-- ---- what the members say, with one more

-- the pairs, with x at k
unfoldable pub put_pair : {X : Type 0} → List ℕ → X → List (List ℕ × X) → List (List ℕ × X)
put_pair k x [] = (k, x) ∷ []
put_pair k x (p ∷ ps) = match_ordering (slice_cmp nat_cmp k p.0) ((k, x) ∷ p ∷ ps) ((p.0, x) ∷ ps) (p ∷ put_pair k x ps)

pub and_then_parts : {A B : Type 0} (g : A → Option B) (o : Option A) (b : B) → option_and_then g o ≡ Some b → (a : A) × (o ≡ Some a) × (g a ≡ Some b)
and_then_parts g None b e = absurd (cc)
and_then_parts g (Some a) b e = (a, refl, e)

pub same_some : {A : Type 0} (a b : A) → Some a ≡ Some b → a ≡ b
same_some a b e = cc

module _ {X : Type 0} (f : Data → Option X) where
  one_more : (l : List ℕ) (e : Data) (ms : Members) (y : X) (ps : List (List ℕ × X)) → f e ≡ Some y → each_member f ms ≡ Some ps → each_member f (member l e ms) ≡ Some ((l, y) ∷ ps)
  one_more l e ms y ps first others = rw (first, others) refl

  put_by : (o : Ordering) (k l : List ℕ) (d e : Data) (x y : X) (ms more : Members) (ps qs : List (List ℕ × X)) → f d ≡ Some x → f e ≡ Some y → each_member f ms ≡ Some ps → each_member f more ≡ Some qs
      → each_member f (match_ordering o (member k d (member l e ms)) (member l d ms) (member l e more)) ≡ Some (match_ordering o ((k, x) ∷ (l, y) ∷ ps) ((l, x) ∷ ps) ((l, y) ∷ qs))
  put_by Less k l d e x y ms more ps qs new first others after = one_more k d (member l e ms) x ((l, y) ∷ ps) new (one_more l e ms y ps first others)
  put_by Equal k l d e x y ms more ps qs new first others after = one_more l d ms x ps new others
  put_by Greater k l d e x y ms more ps qs new first others after = one_more l e more y qs first after

  pub each_member-put : (k : List ℕ) (d : Data) (x : X) (ms : Members) (ps : List (List ℕ × X)) → f d ≡ Some x → each_member f ms ≡ Some ps → each_member f (put k d ms) ≡ Some (put_pair k x ps)
  unfolding put_pair
  each_member-put k d x no_members ps new said = let none : ps ≡ [] = sym (same_some [] ps said) in rw (none, new) refl
  each_member-put k d x (member l e ms) ps new said =
      let first = and_then_parts (λ y. option_and_then (λ rest. Some ((l, y) ∷ rest)) (each_member f ms)) (f e) ps said in
      let others = and_then_parts (λ rest. Some ((l, first.0) ∷ rest)) (each_member f ms) ps first.2 in
      let all : ps ≡ (l, first.0) ∷ others.0 = sym (same_some ((l, first.0) ∷ others.0) ps others.2) in
      rw all (put_by (slice_cmp nat_cmp k l) k l d e x first.0 ms (put k d ms) others.0 (put_pair k x others.0) new first.1 others.1 (each_member-put k d x ms others.0 new others.1))

-- ---- tests of each pair, and the pair under a name

module _ {X : Type 0} (test : List ℕ × X → Bool) where
  all_by : (o : Ordering) (k : List ℕ) (x : X) (p : List ℕ × X) (ps qs : List (List ℕ × X)) → slice_cmp nat_cmp k p.0 ≡ o → test (k, x) ≡ true → test p ≡ true → list_all test ps ≡ true → list_all test qs ≡ true
      → list_all test (match_ordering o ((k, x) ∷ p ∷ ps) ((p.0, x) ∷ ps) (p ∷ qs)) ≡ true
  all_by Less k x p ps qs order new first others after = rw (new, first, others) refl
  all_by Equal k x p ps qs order new first others after =
      let same : k ≡ p.0 = (bytes_eq-Decides k p.0).0 (sym (is_eq-slice_cmp k p.0) ∙ ap is_eq order) in
      rw (← same, new, others) refl
  all_by Greater k x p ps qs order new first others after = rw (first, after) refl

  pub list_all-put_pair : (k : List ℕ) (x : X) (ps : List (List ℕ × X)) → test (k, x) ≡ true → list_all test ps ≡ true → list_all test (put_pair k x ps) ≡ true
  unfolding put_pair
  list_all-put_pair k x [] new others = rw new refl
  list_all-put_pair k x (p ∷ ps) new others =
      let parts = and_parts (test p) (list_all test ps) others in
      all_by (slice_cmp nat_cmp k p.0) k x p ps (put_pair k x ps) refl new parts.0 parts.1 (list_all-put_pair k x ps new parts.1)

-- what stands under a name
abbrev pub under : {X : Type 0} → List ℕ → List (List ℕ × X) → Option X
under uid ps = option_map (λ m. m.1) (find (λ m. bytes_eq m.0 uid) ps)

under_cons : {X : Type 0} (uid : List ℕ) (b : Bool) (p : List ℕ × X) (o : Option (List ℕ × X)) → option_map (λ m. m.1) (cond b (Some p) o) ≡ cond b (Some p.1) (option_map (λ m. m.1) o)
under_cons uid true p o = refl
under_cons uid false p o = refl

-- of two names of which the first is greater, no more than one is the uid
swap : {X : Type 0} (a b : Bool) (x y : X) (o : Option X) → (a ≡ true → b ≡ true → ⊥) → cond b (Some y) (cond a (Some x) o) ≡ cond a (Some x) (cond b (Some y) o)
swap true true x y o apart = absurd (apart refl refl)
swap true false x y o apart = refl
swap false b x y o apart = refl

overwrite : {X : Type 0} (a : Bool) (x y : X) (o : Option X) → cond a (Some x) o ≡ cond a (Some x) (cond a (Some y) o)
overwrite true x y o = refl
overwrite false x y o = refl

module _ {X : Type 0} (uid k : List ℕ) (x : X) where
  apart_from : (l : List ℕ) → slice_cmp nat_cmp k l ≡ Greater → bytes_eq k uid ≡ true → bytes_eq l uid ≡ true → ⊥
  apart_from l order a b =
      let same : k ≡ l = (bytes_eq-Decides k uid).0 a ∙ sym ((bytes_eq-Decides l uid).0 b) in
      let equal : is_eq (slice_cmp nat_cmp k l) ≡ true = is_eq-slice_cmp k l ∙ (bytes_eq-Decides k l).1 same in
      let greater : is_eq (slice_cmp nat_cmp k l) ≡ false = ap is_eq order in
      absurd (cc)

  under_by : (o : Ordering) (p : List ℕ × X) (ps qs : List (List ℕ × X)) → slice_cmp nat_cmp k p.0 ≡ o → under uid qs ≡ cond (bytes_eq k uid) (Some x) (under uid ps)
      → under uid (match_ordering o ((k, x) ∷ p ∷ ps) ((p.0, x) ∷ ps) (p ∷ qs)) ≡ cond (bytes_eq k uid) (Some x) (under uid (p ∷ ps))
  under_by Less p ps qs order after = under_cons uid (bytes_eq k uid) (k, x) (find (λ m. bytes_eq m.0 uid) (p ∷ ps))
  under_by Equal p ps qs order after =
      let same : k ≡ p.0 = (bytes_eq-Decides k p.0).0 (sym (is_eq-slice_cmp k p.0) ∙ ap is_eq order) in
      under_cons uid (bytes_eq p.0 uid) (p.0, x) (find (λ m. bytes_eq m.0 uid) ps) ∙ overwrite (bytes_eq p.0 uid) x p.1 (under uid ps)
      ∙ ap (cond (bytes_eq p.0 uid) (Some x)) (sym (under_cons uid (bytes_eq p.0 uid) p (find (λ m. bytes_eq m.0 uid) ps))) ∙ ap (λ n. cond (bytes_eq n uid) (Some x) (under uid (p ∷ ps))) (sym same)
  under_by Greater p ps qs order after =
      under_cons uid (bytes_eq p.0 uid) p (find (λ m. bytes_eq m.0 uid) qs) ∙ ap (cond (bytes_eq p.0 uid) (Some p.1)) after
      ∙ swap (bytes_eq k uid) (bytes_eq p.0 uid) x p.1 (under uid ps) (apart_from p.0 order)
      ∙ ap (cond (bytes_eq k uid) (Some x)) (sym (under_cons uid (bytes_eq p.0 uid) p (find (λ m. bytes_eq m.0 uid) ps)))

  pub under-put_pair : (ps : List (List ℕ × X)) → under uid (put_pair k x ps) ≡ cond (bytes_eq k uid) (Some x) (under uid ps)
  unfolding put_pair
  under-put_pair [] = under_cons uid (bytes_eq k uid) (k, x) None
  under-put_pair (p ∷ ps) = under_by (slice_cmp nat_cmp k p.0) p ps (put_pair k x ps) refl (under-put_pair ps)

-- ---- a value for each of some names, which its name may change

module _ {S X Y : Type 0} (name : S → List ℕ) (g : List ℕ → X → Y) (k : List ℕ) (x : X) (ps : List (List ℕ × X)) where
  abbrev value_at : List (List ℕ × X) → S → Option Y
  value_at qs s = option_map (g (name s)) (under (name s) qs)

  mapped : (b : Bool) (l : List ℕ) (o : Option X) → bytes_eq k l ≡ b → option_map (g l) (cond b (Some x) o) ≡ cond b (Some (g k x)) (option_map (g l) o)
  mapped true l o equal = ap (λ n. Some (g n x)) (sym ((bytes_eq-Decides k l).0 equal))
  mapped false l o apart = refl

  after : (s : S) → value_at (put_pair k x ps) s ≡ cond (bytes_eq (name s) k) (Some (g k x)) (value_at ps s)
  after s = ap (option_map (g (name s))) (under-put_pair (name s) k x ps) ∙ mapped (bytes_eq k (name s)) (name s) (under (name s) ps) refl ∙ ap (λ b. cond b (Some (g k x)) (value_at ps s)) (nat_list_eq_equiv.symm k (name s))

  pub one_replaced : (ss : List S) (place : ℕ) (d : S) → place < length ss → bytes_eq (name (get_or ss place d)) k ≡ true → are_distinct (map name ss) ≡ true
      → map (value_at (put_pair k x ps)) ss ≡ set (map (value_at ps) ss) place (Some (g k x))
  one_replaced ss place d within found distinct = replaced.one_replaced name (value_at ps) (value_at (put_pair k x ps)) k (Some (g k x)) after ss place d within found distinct

pub distinct_front : (xs ys : List (List ℕ)) → are_distinct (xs ++ ys) ≡ true → are_distinct xs ≡ true
distinct_front [] ys h = refl
distinct_front (x ∷ xs) ys h =
    let parts = and_parts (not (list_any (bytes_eq x) (xs ++ ys))) (are_distinct (xs ++ ys)) h in
    let none = or_parts (list_any (bytes_eq x) xs) (list_any (bytes_eq x) ys) (sym (list_any-append (bytes_eq x) xs ys) ∙ not-true _ parts.0) in
    rw (none.0, distinct_front xs ys parts.1) refl
