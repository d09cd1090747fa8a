-- What stands in the windows of the key groups of a range.
use Rattle.std.proofs.Common.{◌≡◌, ℕ, zero, suc, Bool, true, false, List, [], ◌∷◌, ◌++◌, cond, map, refl, sym, ap, ◌∙◌, inl, inr, arith}
use Rattle.std.specs.Prelude.{Option, Some, None, if◌then◌else◌}
use Rattle.std.specs.List.{All, flat_map}
use Rattle.std.specs.FinMap.{find}
use Rattle.std.specs.Cmp.{Equal-is}
use Rattle.std.specs.Option.{option_or}
use Rattle.std.specs.Ordering.{eq_by_cmp}
use Rattle.std.proofs.lemmas.Bool.{cases_eq}
use Rattle.plain_data.specs.Times.{lowest}
use Rattle.key_groups.specs.Groups.{key_group}
use Rattle.key_groups.specs.declared.ranges.GroupRange.{GroupRange}
use Rattle.plan_model.specs.Aggregates.{Aggregated}
use Rattle.plan_model.specs.PlanData.{PlanData}
use Rattle.plan_model.specs.declared.spec.Pane.{Pane}
use Rattle.plan_model.specs.Rows.{pane_cmp, is_due}
use Rattle.plan_model.proofs.Facts.{pane_cmp-IsAntisymmetric}
use Rattle.aggregates.specs.declared.kind.Kind.{Kind}
use Rattle.savepoint_codec.specs.declared.savepoint.SavedGroup.{SavedGroup}
use Rattle.savepoint_codec.specs.EntriesData.{EntryData}
use Rattle.window_state.specs.declared.parts.Part.{Part}
use Rattle.window_state.specs.Parts.{entries_of}
use Rattle.packed_parts.specs.Packing.{part_of}
use Rattle.redistribute.specs.Begins.{IsOpenEntry, AreOpenGroups}
use Rattle.redistribute.specs.Parts.{is_group_of, parts_in_group, IsOpenPart}
use Rattle.redistribute.proofs.Found.{found_in, found_in_both}

no_test : {X : Type 0} (b : Bool) (x : X) (y : Option X) → (b ≡ true → ⊥) → y ≡ None → cond b (Some x) y ≡ None
no_test true x y h e = absurd (h refl)
no_test false x y h e = e

none_either : {X : Type 0} (b : Bool) → ◌≡◌ {A = Option X} None (if b then None else None)
none_either true = refl
none_either false = refl

module _ (p : PlanData) (kinds : List Kind) (q : Pane) where
  abbrev G : ℕ
  G = key_group p.max q.key

  -- in another key group than the pane's nothing stands there
  other_group : (n : ℕ) (es : List EntryData) → All (IsOpenEntry p kinds n) es → (G ≡ n → ⊥) → found_in q (map (part_of kinds) es) ≡ None
  other_group n [] h other = refl
  other_group n (e ∷ es) h other =
      no_test (eq_by_cmp pane_cmp q e.pane) e.total (found_in q (map (part_of kinds) es))
      (λ t. other (ap (λ z. key_group p.max z.key) (pane_cmp-IsAntisymmetric q e.pane ((Equal-is (pane_cmp q e.pane)).0 t)) ∙ (h 0 e (omega arith)).group))
      (other_group n es (λ k d l. h (suc k) d (omega (arith, l))) other)

  abbrev within_range : GroupRange → List SavedGroup → List Part
  within_range range gs = flat_map (parts_in_group kinds range) gs

  abbrev all_in : List SavedGroup → List Part
  all_in gs = flat_map (λ g. map (part_of kinds) g.entries.entries) gs

  -- of the pane's own key group
  own : (b : Bool) (parts : List Part) (x y : Option Aggregated) → x ≡ (if b then y else None) → option_or (found_in q (if b then parts else [])) x ≡ (if b then option_or (found_in q parts) y else None)
  own true parts x y h = ap (option_or (found_in q parts)) h
  own false parts x y h = h

  -- of another
  passed : (b c : Bool) (parts : List Part) (x y : Option Aggregated) → found_in q parts ≡ None → x ≡ (if b then y else None) → option_or (found_in q (if c then parts else [])) x ≡ (if b then option_or (found_in q parts) y else None)
  passed b true parts x y none h = ap (λ z. option_or z x) none ∙ h ∙ (λ j. if b then option_or (sym none j) y else None)
  passed b false parts x y none h = h ∙ (λ j. if b then option_or (sym none j) y else None)

  -- the range has what stands in the pane just where it has the pane's key group
  pub total_within : (range : GroupRange) (gs : List SavedGroup) → AreOpenGroups p kinds gs → found_in q (within_range range gs) ≡ (if is_group_of range G then found_in q (all_in gs) else None)
  total_within range [] h = none_either (is_group_of range G)
  total_within range (g ∷ gs) h =
      let parts = map (part_of kinds) g.entries.entries in
      let rest = total_within range gs (λ k d l. h (suc k) d (omega (arith, l))) in
      let here : All (IsOpenEntry p kinds g.group) g.entries.entries = h 0 g (omega arith) in
      found_in_both q (parts_in_group kinds range g) (within_range range gs)
      ∙ elim (cases_eq G g.group) [
        | inl same ↦ (λ j. option_or (found_in q (if is_group_of range (sym same j) then parts else [])) (found_in q (within_range range gs))) ∙ own (is_group_of range G) parts (found_in q (within_range range gs)) (found_in q (all_in gs)) rest
        | inr other ↦ passed (is_group_of range G) (is_group_of range g.group) parts (found_in q (within_range range gs)) (found_in q (all_in gs)) (other_group g.group g.entries.entries here other) rest
      ]
      ∙ ap (λ z. if is_group_of range G then z else None) (sym (found_in_both q parts (all_in gs)))

-- ---- what may stand where a leg begins

open_of_both : (p : PlanData) (xs ys : List Part) → All (IsOpenPart p) xs → All (IsOpenPart p) ys → All (IsOpenPart p) (xs ++ ys)
open_of_both p [] ys h k n d l = k n d l
open_of_both p (x ∷ xs) ys h k zero d l = h 0 d (omega arith)
open_of_both p (x ∷ xs) ys h k (suc n) d l = open_of_both p xs ys (λ m e o. h (suc m) e (omega (arith, o))) k n d (omega (arith, l))

open_entries : (p : PlanData) (kinds : List Kind) (n : ℕ) (es : List EntryData) → All (IsOpenEntry p kinds n) es → All (IsOpenPart p) (map (part_of kinds) es)
open_entries p kinds n [] h k d l = absurd (omega (arith, l))
open_entries p kinds n (e ∷ es) h zero d l = (h 0 e (omega arith)).part
open_entries p kinds n (e ∷ es) h (suc k) d l = open_entries p kinds n es (λ m b o. h (suc m) b (omega (arith, o))) k d (omega (arith, l))

open_if : (p : PlanData) (b : Bool) (parts : List Part) → All (IsOpenPart p) parts → All (IsOpenPart p) (if b then parts else [])
open_if p true parts h k d l = h k d l
open_if p false parts h k d l = absurd (omega (arith, l))

pub open_within : (p : PlanData) (kinds : List Kind) (range : GroupRange) (gs : List SavedGroup) → AreOpenGroups p kinds gs → All (IsOpenPart p) (flat_map (parts_in_group kinds range) gs)
open_within p kinds range [] h k d l = absurd (omega (arith, l))
open_within p kinds range (g ∷ gs) h k d l =
    open_of_both p (parts_in_group kinds range g) (flat_map (parts_in_group kinds range) gs)
    (open_if p (is_group_of range g.group) (map (part_of kinds) g.entries.entries) (open_entries p kinds g.group g.entries.entries (h 0 g (omega arith))))
    (open_within p kinds range gs (λ m e o. h (suc m) e (omega (arith, o))))
    k d l

-- in a window that is due nothing stands there
pub none_due : (p : PlanData) (q : Pane) → is_due p.window lowest q.start ≡ true → (parts : List Part) → All (IsOpenPart p) parts → find pane_cmp q (entries_of parts) ≡ None
none_due p q d [] h = refl
none_due p q d (x ∷ xs) h =
    no_test (eq_by_cmp pane_cmp q x.pane) x.acc.total (find pane_cmp q (entries_of xs))
    (λ t. let e : q ≡ x.pane = pane_cmp-IsAntisymmetric q x.pane ((Equal-is (pane_cmp q x.pane)).0 t) in
    let z : true ≡ false = sym d ∙ ap (λ (y : Pane). is_due p.window lowest y.start) e ∙ (h 0 x (omega arith)).early in absurd cc)
    (none_due p q d xs (λ m e o. h (suc m) e (omega (arith, o))))
