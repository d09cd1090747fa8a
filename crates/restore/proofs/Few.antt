-- In no pane of a start that is accepted stand more records than before its cut.
use Rattle.std.proofs.Common.{◌≡◌, ℕ, ◌≤◌, true, cond, List, [], ◌∷◌, ◌++◌, map, Some, sym, ap, ◌∙◌, inl, inr, arith}
use Rattle.std.specs.FinMap.{find, get, get-from_entries}
use Rattle.std.specs.Ordering.{eq_by_cmp}
use Rattle.std.specs.List.{flat_map, list_all}
use Rattle.std.proofs.lemmas.Bool.{cases_Bool, leb-true, and_parts}
use Rattle.plan_model.specs.declared.spec.Pane.{Pane}
use Rattle.plan_model.specs.Aggregates.{Aggregated}
use Rattle.plan_model.specs.Rows.{pane_cmp}
use Rattle.plan_model.proofs.Facts.{pane_cmp_total}
use Rattle.aggregates.specs.declared.kind.Kind.{Kind}
use Rattle.window_state.specs.declared.parts.Part.{Part}
use Rattle.window_state.specs.Parts.{entries_of}
use Rattle.savepoint_codec.specs.EntriesData.{EntryData}
use Rattle.savepoint_codec.specs.declared.savepoint.SavedGroup.{SavedGroup}
use Rattle.redistribute.specs.StartData.{StartData}
use Rattle.packed_parts.specs.Packing.{part_of}
use Rattle.redistribute.specs.Parts.{parts_of, windows_of}
use Rattle.restore.specs.Requirements.{every_entry, is_counted}

module _ (n : ℕ) (kinds : List Kind) (q : Pane) where
  -- what stands in the pane, of some parts
  abbrev Few : List Part → Type 0
  Few parts = (a : Aggregated) → find pane_cmp q (entries_of parts) ≡ Some a → a.count ≤ n

  few_more : (e : EntryData) (parts : List Part) → e.total.count ≤ n → Few parts → Few (part_of kinds e ∷ parts)
  few_more e parts first rest a found =
      let test = eq_by_cmp pane_cmp q e.pane in
      let same : cond test (Some e.total) (find pane_cmp q (entries_of parts)) ≡ Some a = found in
      elim (cases_Bool test) [
        | inl y ↦ (
            let z : Some e.total ≡ Some a = sym (ap (λ t. cond t (Some e.total) (find pane_cmp q (entries_of parts))) y) ∙ same in
            let t : e.total ≡ a = cc in
            let c : e.total.count ≡ a.count = ap (λ (x : Aggregated). x.count) t in
            omega (arith, first, c))
        | inr y ↦ rest a (sym (ap (λ t. cond t (Some e.total) (find pane_cmp q (entries_of parts))) y) ∙ same)
      ]

  few_entries : (es : List EntryData) (parts : List Part) → list_all (is_counted n) es ≡ true → Few parts → Few (map (part_of kinds) es ++ parts)
  few_entries [] parts h rest = rest
  few_entries (e ∷ es) parts h rest =
      let both = and_parts (is_counted n e) (list_all (is_counted n) es) h in
      few_more e (map (part_of kinds) es ++ parts) (leb-true e.total.count n both.0) (few_entries es parts both.1 rest)

  few_groups : (gs : List SavedGroup) → every_entry (λ g. is_counted n) gs ≡ true → Few (flat_map (λ g. map (part_of kinds) g.entries.entries) gs)
  few_groups [] h = λ a found. absurd cc
  few_groups (g ∷ gs) h =
      let both = and_parts (list_all (is_counted n) g.entries.entries) (every_entry (λ g. is_counted n) gs) h in
      few_entries g.entries.entries (flat_map (λ g. map (part_of kinds) g.entries.entries) gs) both.0 (few_groups gs both.1)

pub few_in_panes : (n : ℕ) (s : StartData) (q : Pane) (a : Aggregated) → every_entry (λ g. is_counted n) s.groups ≡ true → get (windows_of s) q ≡ Some a → a.count ≤ n
few_in_panes n s q a h e = few_groups n s.kinds q s.groups h a (sym (get-from_entries pane_cmp_total (entries_of (parts_of s)) q) ∙ e)
