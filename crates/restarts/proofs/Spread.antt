-- The key groups that are saved hold what the windows held.
use Rattle.std.proofs.Common.{◌≡◌, ℕ, zero, suc, ◌+◌, ◌<◌, ◌≤◌, cond, List, [], ◌∷◌, ◌++◌, map, Option, None, refl, sym, ap, ◌∙◌, inl, inr, arith}
use Rattle.std.specs.List.{flat_map, range_with_len}
use Rattle.std.specs.Option.{option_or}
use Rattle.std.specs.FinMap.{FinMap, entries, find}
use Rattle.std.specs.FinMap.Entries.{where_key, find-where_key}
use Rattle.std.proofs.lemmas.Bool.{cases_eq, eq-eqb, ne_eqb}
use Rattle.std.proofs.lemmas.List.{append-nil, map-append}
use Rattle.std.proofs.lemmas.List.Concat.{flat_map-append}
use Rattle.key_groups.specs.Groups.{key_group}
use Rattle.plan_model.specs.declared.spec.Pane.{Pane}
use Rattle.plan_model.specs.Aggregates.{Aggregated}
use Rattle.plan_model.specs.Rows.{pane_cmp}
use Rattle.plan_model.proofs.Facts.{pane_cmp-IsAntisymmetric}
use Rattle.aggregates.specs.declared.kind.Kind.{Kind}
use Rattle.savepoint_codec.specs.declared.savepoint.SavedGroup.{SavedGroup}
use Rattle.window_state.specs.declared.parts.Part.{Part}
use Rattle.window_state.specs.Parts.{entries_of}
use Rattle.packed_parts.specs.Packing.{part_of}
use Rattle.redistribute.proofs.Facts.{find_in_both, or_none}
use Rattle.gather.specs.Saved.{entries_in_group, is_in_group, saved_entry, saved_group, saved_groups}

module _ (kinds : List Kind) (max width : ℕ) (m : FinMap pane_cmp Aggregated) where
  abbrev parts_in : List SavedGroup → List Part
  parts_in gs = flat_map (λ g. map (part_of kinds) g.entries.entries) gs

  abbrev group_of : ℕ → List SavedGroup
  group_of g = saved_group width g (entries_in_group max m g)

  -- the entries of one key group, as parts
  back : (es : List (Pane × Aggregated)) → entries_of (map (part_of kinds) (map saved_entry es)) ≡ es
  back [] = refl
  back (e ∷ es) = ap (λ rest. e ∷ rest) (back es)

  group_back : (g : ℕ) (es : List (Pane × Aggregated)) → entries_of (parts_in (saved_group width g (map saved_entry es))) ≡ es
  group_back g [] = refl
  group_back g (e ∷ es) = ap entries_of (append-nil (map (part_of kinds) (map saved_entry (e ∷ es)))) ∙ back (e ∷ es)

  module _ (q : Pane) where
    abbrev G : ℕ
    G = key_group max q.key

    at_pane : List SavedGroup → Option Aggregated
    at_pane gs = find pane_cmp q (entries_of (parts_in gs))

    of_both : (xs ys : List SavedGroup) → at_pane (xs ++ ys) ≡ option_or (at_pane xs) (at_pane ys)
    unfolding at_pane
    of_both xs ys =
        ap (λ ps. find pane_cmp q (entries_of ps)) (flat_map-append (λ (g : SavedGroup). map (part_of kinds) g.entries.entries) xs ys)
        ∙ ap (find pane_cmp q) (map-append (λ (p : Part). (p.pane, p.acc.total)) (parts_in xs) (parts_in ys))
        ∙ find_in_both q (entries_of (parts_in xs)) (entries_of (parts_in ys))

    -- in one key group stands what the windows have, if it is the pane's
    of_group : (g : ℕ) → at_pane (group_of g) ≡ cond (is_in_group max g q) (find pane_cmp q (entries m)) None
    unfolding at_pane
    of_group g =
        ap (find pane_cmp q) (group_back g (where_key pane_cmp (is_in_group max g) (entries m)))
        ∙ find-where_key pane_cmp (is_in_group max g) q (λ x e. ap (is_in_group max g) (sym (pane_cmp-IsAntisymmetric q x e))) (entries m)

    -- past the pane's key group nothing
    past : (n k : ℕ) → G < n → at_pane (flat_map group_of (range_with_len n k)) ≡ None
    unfolding at_pane
    past n zero l = refl
    past n (suc k) l =
        of_both (group_of n) (flat_map group_of (range_with_len (n + 1) k))
        ∙ ap (λ o. option_or o (at_pane (flat_map group_of (range_with_len (n + 1) k)))) (of_group n ∙ ap (λ b. cond b (find pane_cmp q (entries m)) None) (ne_eqb G n (λ e. omega (arith, l, e))))
        ∙ past (n + 1) k (omega (arith, l))

    -- up to it what the windows have
    upto : (n k : ℕ) → n ≤ G → G < n + k → at_pane (flat_map group_of (range_with_len n k)) ≡ find pane_cmp q (entries m)
    upto n zero l u = absurd (omega (arith, l, u))
    upto n (suc k) l u =
        let rest = flat_map group_of (range_with_len (n + 1) k) in
        of_both (group_of n) rest
        ∙ elim (cases_eq G n) [
          | inl same ↦
              ap (λ o. option_or o (at_pane rest)) (of_group n ∙ ap (λ b. cond b (find pane_cmp q (entries m)) None) (eq-eqb G n same))
              ∙ ap (option_or (find pane_cmp q (entries m))) (past (n + 1) k (omega (arith, same)))
              ∙ or_none (find pane_cmp q (entries m))
          | inr other ↦
              ap (λ o. option_or o (at_pane rest)) (of_group n ∙ ap (λ b. cond b (find pane_cmp q (entries m)) None) (ne_eqb G n other))
              ∙ upto (n + 1) k (omega (arith, l, other)) (omega (arith, u))
        ]

    pub same_pane : G < max → find pane_cmp q (entries_of (parts_in (saved_groups max width m))) ≡ find pane_cmp q (entries m)
    unfolding at_pane
    same_pane l = upto 0 max (omega arith) (omega (arith, l))
