use Rattle.std.proofs.Common.{◌≡◌, ℤ, Bool, true, false, cond, ◌||◌, ◌+◌, ◌<◌, ◌++◌, ◌∷◌, [], List, take, length, get_or, pos, refl, sym, ap, subst, ◌∙◌, arith, rules, append_assoc, FitsSigned, to_z, of_z}
use Rattle.std.specs.Int.{w64}
use Rattle.std.specs.List.{dedup, dedup_from}
use Rattle.std.specs.List.Sorted.{IsStrictlySortedBy}
use Rattle.std.specs.Ordering.{int_cmp, int_eq}
use Rattle.std.specs.Cmp.{int_cmp_total}
use Rattle.std.proofs.lemmas.Int.{ints, to_z-of_z}
use Rattle.std.proofs.lemmas.List.{map_more, take_all}
use Rattle.std.proofs.lemmas.List.Filters.{dedup_is}
use Rattle.std.proofs.lemmas.List.Kept.{IsStrictlySortedBy-dedup}
use Rattle.std.proofs.lemmas.List.Sorted.{list_any-IsPermutation}
use Rattle.window_state.specs.Open.{has_key, panes_from}
use Rattle.window_state.proofs.opened.push_panes.Goals as goal

pub loop-key-preserved : goal.loop-key-preserved
loop-key-preserved c =
    let s : ℤ = to_z w64 (of_z w64 c.args.start) in
    let keys = c.as_slice-key-items.result.now in
    let i = c.loop-key.key-index in
    let k = get_or keys i (pos 0) in
    let low : i < length keys = omega (arith, c.loop-key-test.true, c.loop-key.auto.key-index-end) in
    let fits : FitsSigned w64 k = search rules in
    let old = c.args.panes.now.items in
    c.in_ok-push.ensures.items
    ∙ (λ t. c.loop-key.invariant t ++ record { start = s; key = to_z-of_z w64 k fits t } ∷ [])
    ∙ append_assoc old (panes_from s (take i keys)) (record { start = s; key = k } ∷ [])
    ∙ ap (λ l. old ++ l) (sym (map_more (λ (z : ℤ). record { start = s; key = z }) keys i (pos 0) low))

-- what is left of keys where each that is alike the one before it goes
kept_from : (k a : ℤ) (ks : List ℤ) → has_key k (dedup_from int_eq a ks) ≡ (int_eq k a || has_key k ks)
kept_from k a [] = refl
kept_from k a (x ∷ ks) = by_case (int_eq x a) refl (kept_from k a ks) (kept_from k x ks)
  where
    twice : (p q : Bool) → (p || q) ≡ (p || (p || q))
    twice true q = refl
    twice false q = refl

    alike : int_eq x a ≡ true → int_eq k x ≡ int_eq k a
    alike h = grind (arith, ints)

    by_case : (b : Bool) → int_eq x a ≡ b → has_key k (dedup_from int_eq a ks) ≡ (int_eq k a || has_key k ks) → has_key k (dedup_from int_eq x ks) ≡ (int_eq k x || has_key k ks)
        → has_key k (cond b (dedup_from int_eq a ks) (a ∷ dedup_from int_eq x ks)) ≡ (int_eq k a || (int_eq k x || has_key k ks))
    by_case true h here later = here ∙ twice (int_eq k a) (has_key k ks) ∙ ap (λ b. int_eq k a || (b || has_key k ks)) (sym (alike h))
    by_case false h here later = ap (λ b. int_eq k a || b) later

kept_all : (k : ℤ) (ks : List ℤ) → has_key k (dedup int_eq ks) ≡ has_key k ks
kept_all k [] = refl
kept_all k (x ∷ ks) = kept_from k x ks

pub returns : goal.returns
returns c =
    let sorted = c.as_slice-key-items.result.now in
    let value = c.as_slice-key-items.ensures.value in
    let is = dedup_is int_eq _ _ c.dedup.ensures.filtered in
    let strict = subst (IsStrictlySortedBy int_cmp) (sym (value ∙ is)) (IsStrictlySortedBy-dedup int_cmp_total (λ x y. refl) _ c.sort_unstable.ensures.sorted) in
    let same = λ (k : ℤ).
    ap (has_key k) (value ∙ is) ∙ kept_all k c.sort_unstable.new.self.items
    ∙ sym (list_any-IsPermutation (int_eq k) _ _ c.sort_unstable.ensures.permutation)
    ∙ ap (has_key k) (c.in_ok-extend_from_slice.ensures.items ∙ ap (λ l. l ++ c.args.keys.now) c.clear.ensures.items) in
    let all : c.loop-key.panes.items ≡ c.args.panes.now.items ++ panes_from c.args.start sorted =
    c.loop-key.invariant
    ∙ (λ t. c.args.panes.now.items ++ panes_from (to_z-of_z w64 c.args.start c.ranges.start t) (take_all c.loop-key.key-index sorted (omega (arith, c.loop-key-test.false, c.loop-key.auto.key-index-end)) t)) in
    (sorted, strict, same, all)
