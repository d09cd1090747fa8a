-- The uids of a plan's sources: they are plain, and no two are the same.
use Rattle.std.proofs.Common.{◌≡◌, ◌++◌, ℕ, suc, true, List, [], ◌∷◌, map, refl, subst, append_assoc, arith}
use Rattle.std.proofs.lemmas.Bool.{and_parts}
use Rattle.std.specs.List.{All, list_all}
use Rattle.plan_model.specs.PlanData.{PlanData, IsPlan, uids}
use Rattle.plan_model.specs.Uids.{is_uid, is_uid_byte}
use Rattle.plan_model.specs.declared.spec.SourceSpec.{SourceSpec}
use Rattle.receipts.specs.ReadBack.{is_plain}
use Rattle.receipts.proofs.Plains.{IsPlainText}
use Rattle.receipts.proofs.Puts.{Apart, Distinct, distinct_by_test}

plain_byte : (b : ℕ) → is_uid_byte b ≡ true → is_plain b ≡ true
plain_byte b e = grind arith

plain_bytes : (s : List ℕ) → list_all is_uid_byte s ≡ true → list_all is_plain s ≡ true
plain_bytes [] e = refl
plain_bytes (b ∷ s) e = let parts = and_parts _ _ e in rw (plain_byte b parts.0) (plain_bytes s parts.1)

plain_uid : (s : List ℕ) → is_uid s ≡ true → IsPlainText s
plain_uid s e = plain_bytes s (and_parts _ _ e).1

-- each is plain
abbrev pub ArePlainUids : List SourceSpec → Type 0
ArePlainUids [] = Unit {0}
ArePlainUids (s ∷ ss) = IsPlainText s.uid × ArePlainUids ss

plain_uids : (ss : List SourceSpec) (others : List (List ℕ)) → All (λ uid. is_uid uid ≡ true) (map (λ s. s.uid) ss ++ others) → ArePlainUids ss
plain_uids [] others all = tt
plain_uids (s ∷ ss) others all = (plain_uid s.uid (all 0 s.uid (omega arith)), plain_uids ss others (λ k d within. all (suc k) d (omega (arith, within))))

apart_front : (q : List ℕ) (ks ls : List (List ℕ)) → Apart q (ks ++ ls) → Apart q ks
apart_front q [] ls apart = tt
apart_front q (k ∷ ks) ls apart = (apart.0, apart_front q ks ls apart.1)

distinct_front : (ks ls : List (List ℕ)) → Distinct (ks ++ ls) → Distinct ks
distinct_front [] ls distinct = tt
distinct_front (k ∷ ks) ls distinct = (apart_front k ks ls distinct.0, distinct_front ks ls distinct.1)

module _ (p : PlanData) (is : IsPlan p) where
  abbrev others : List (List ℕ)
  others = map (λ f. f.uid) p.filters ++ p.window.uid ∷ []

  pub uids_plain : ArePlainUids p.sources
  uids_plain = plain_uids p.sources others (subst (All (λ uid. is_uid uid ≡ true)) (append_assoc (map (λ s. s.uid) p.sources) (map (λ f. f.uid) p.filters) (p.window.uid ∷ [])) is.named)

  pub uids_distinct : Distinct (map (λ s. s.uid) p.sources)
  uids_distinct = distinct_front (map (λ s. s.uid) p.sources) others (subst Distinct (append_assoc (map (λ s. s.uid) p.sources) (map (λ f. f.uid) p.filters) (p.window.uid ∷ [])) (distinct_by_test (uids p) is.distinct))
