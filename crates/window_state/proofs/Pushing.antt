-- Parts put behind others, one pane after the other.
use Rattle.std.proofs.Common.{◌≡◌, ℕ, ◌+◌, ◌<◌, ◌≤◌, true, List, [], ◌∷◌, ◌++◌, map, length, get_or, drop, sym, ap, subst, ◌∙◌, Option, Some, None, append_assoc, append-nil}
use Rattle.std.specs.List.{All}
use Rattle.std.specs.List.Sorted.{IsStrictlySortedBy}
use Rattle.std.specs.Option.{is_some}
use Rattle.std.proofs.lemmas.List.{drop_all, drop_more}
use Rattle.std.proofs.lemmas.List.Elements.{All-push}
use Rattle.plan_model.specs.declared.spec.Pane.{Pane}
use Rattle.plan_model.specs.declared.spec.WindowSpec.{WindowSpec}
use Rattle.plan_model.specs.Aggregates.{Aggregated}
use Rattle.plan_model.specs.Rows.{pane_cmp}
use Rattle.aggregates.specs.declared.kind.Kind.{Kind}
use Rattle.aggregates.specs.Kinds.{AccData, kind_of}
use Rattle.packed_parts.specs.declared.part.Part.{Part}
use Rattle.packed_parts.specs.Packing.{PackingData}
use Rattle.window_state.specs.Parts.{entries_at, parts_in, IsPartOf, PutsParts}
use Rattle.window_state.specs.Windows.{has_pane}
use Rattle.window_state.proofs.Entries.{some_next, none_next}
use Rattle.window_state.proofs.Sorted.{entries_strict, found_at}

module _ (w : WindowSpec) (own : List Kind) (f : Pane → Option Aggregated) (panes : List Pane) (old : PackingData) where
  -- what stands in the first i panes is behind the old parts
  pub record Pushed (i : ℕ) (now : PackingData) : Type 0 where
    pub kinds : now.kinds ≡ own
    pub same : now.parts ++ parts_in own (entries_at f (drop i panes)) ≡ old.parts ++ parts_in own (entries_at f panes)
    pub sound : All (IsPartOf w) now.parts

  pub pushed_some : (i : ℕ) (p : Pane) (a : AccData) (now new : PackingData) → i < length panes → p ≡ get_or panes i p → f p ≡ Some a.total → own ≡ map kind_of w.aggregates
      → IsPartOf w (record { pane = p; acc = a }) → new ≡ record now { parts = now.parts ++ record { pane = p; acc = a } ∷ [] } → Pushed i now → Pushed (i + 1) new
  pushed_some i p a now new low is there own_kinds part new_is so_far =
      let rest = drop (i + 1) panes in
      let next : drop i panes ≡ p ∷ rest = drop_more panes i p low ∙ ap (λ q. q ∷ rest) (sym is) in
      let it : Part = record { pane = p; acc = a } in
      record {
        kinds = ap (λ (x : PackingData). x.kinds) new_is ∙ so_far.kinds;
        same =
            ap (λ (x : PackingData). x.parts ++ parts_in own (entries_at f rest)) new_is ∙ append_assoc now.parts (it ∷ []) (parts_in own (entries_at f rest))
            ∙ (λ t. now.parts ++ record { pane = p; acc = record { kinds = (part.kinds ∙ sym own_kinds) t; total = a.total } } ∷ parts_in own (entries_at f rest))
            ∙ ap (λ l. now.parts ++ parts_in own l) (sym (some_next f p a.total (drop i panes) rest next there)) ∙ so_far.same;
        sound = subst (λ (x : PackingData). All (IsPartOf w) x.parts) (sym new_is) (All-push (IsPartOf w) now.parts it so_far.sound part);
      }

  -- a pane where nothing stands
  pub pushed_none : (i : ℕ) (p : Pane) (now new : PackingData) → i < length panes → p ≡ get_or panes i p → f p ≡ None → new ≡ now → Pushed i now → Pushed (i + 1) new
  pushed_none i p now new low is none new_is so_far =
      let rest = drop (i + 1) panes in
      let next : drop i panes ≡ p ∷ rest = drop_more panes i p low ∙ ap (λ q. q ∷ rest) (sym is) in record {
        kinds = ap (λ (x : PackingData). x.kinds) new_is ∙ so_far.kinds;
        same =
            ap (λ (x : PackingData). x.parts ++ parts_in own (entries_at f rest)) new_is
            ∙ ap (λ l. now.parts ++ parts_in own l) (sym (none_next f p (drop i panes) rest next none)) ∙ so_far.same;
        sound = subst (λ (x : PackingData). All (IsPartOf w) x.parts) (sym new_is) so_far.sound;
      }

  pub pushed_all : (i : ℕ) (now : PackingData) → length panes ≤ i → own ≡ old.kinds → IsStrictlySortedBy pane_cmp panes → ((q : Pane) → is_some (f q) ≡ true → has_pane panes q ≡ true) → Pushed i now
      → PutsParts own f old now
  pushed_all i now end same ordered those all = record {
    entries = entries_at f panes;
    ordered = entries_strict f panes ordered;
    those = λ q. found_at f panes q (those q);
    is = λ t. record {
      kinds = (all.kinds ∙ same) t;
      parts = (sym (append-nil now.parts) ∙ ap (λ l. now.parts ++ parts_in own (entries_at f l)) (sym (drop_all i panes end)) ∙ all.same) t;
    };
  }
