-- The parts of a map, and the map of parts.
use Rattle.std.proofs.Common.{◌≡◌, ℕ, ℤ, ◌+◌, ◌<◌, Bool, true, false, cond, ◌||◌, List, [], ◌∷◌, map, length, take, get_or, None, ◌++◌, refl, sym, ap, subst, ◌∙◌, Option, Some}
use Rattle.std.specs.Prelude.{int_lt, slice_get, ◌<ℤ◌}
use Rattle.std.specs.List.{All}
use Rattle.std.specs.Map.{lookup}
use Rattle.std.proofs.lemmas.List.Elements.{All-head, All-tail}
use Rattle.window_state.proofs.Updates.{pane_from_test}
use Rattle.window_state.proofs.Standing.{lt_true}
use Rattle.std.specs.Global.{Vec}
use Rattle.std.specs.Ordering.{is_eq}
use Rattle.std.specs.Option.{is_some, option_map, option_or}
use Rattle.std.proofs.lemmas.List.{take_more, map-append}
use Rattle.std.proofs.lemmas.Option.{slice_get-map, slice_get-get_or}
use Rattle.plan_model.specs.declared.spec.Pane.{Pane}
use Rattle.plan_model.specs.declared.spec.WindowSpec.{WindowSpec}
use Rattle.plan_model.specs.Aggregates.{Aggregated}
use Rattle.plan_model.specs.Rows.{pane_cmp}
use Rattle.aggregates.specs.declared.kind.Kind.{Kind}
use Rattle.aggregates.specs.Kinds.{AccData, kind_of}
use Rattle.savepoint_codec.specs.EntriesData.{EntryData}
use Rattle.packed_parts.specs.declared.part.Part.{Part}
use Rattle.packed_parts.specs.Packing.{entry_of, part_of}
use Rattle.window_state.specs.Windows.{acc_at, has_pane, is_pane}
use Rattle.window_state.specs.Open.{has_open}
use Rattle.window_state.specs.Parts.{parts_in, panes_in, accs_in, entries_of, IsPartOf}
use Rattle.window_state.proofs.Entries.{tied}
use Rattle.window_state.proofs.Sorted.{flips}

pub totals-parts : (kinds : List Kind) (es : List (Pane × Aggregated)) → entries_of (parts_in kinds es) ≡ es
totals-parts kinds [] = refl
totals-parts kinds (e ∷ es) = ap (λ l. e ∷ l) (totals-parts kinds es)

-- what the first part of a pane has
pub first_total : (parts : List Part) (q : Pane) → lookup (is_pane q) (entries_of parts) ≡ option_map (λ (a : AccData). a.total) (acc_at (accs_in parts) q)
first_total [] q = refl
first_total (p ∷ parts) q = ap (cond (is_pane q p.pane) (Some p.acc.total)) (first_total parts q) ∙ through (is_pane q p.pane)
  where
    through : (b : Bool) → cond b (Some p.acc.total) (option_map (λ (a : AccData). a.total) (acc_at (accs_in parts) q)) ≡ option_map (λ (a : AccData). a.total) (cond b (Some p.acc) (acc_at (accs_in parts) q))
    through true = refl
    through false = refl

-- what is found where an entry more stands behind others
found_behind : (es : List (Pane × AccData)) (p q : Pane) (a : AccData) → acc_at (es ++ (p, a) ∷ []) q ≡ option_or (acc_at es q) (cond (is_pane p q) (Some a) None)
found_behind [] p q a = ap (λ b. cond b (Some a) None) (flips q p)
found_behind (e ∷ es) p q a = ap (cond (is_pane q e.0) (Some e.1)) (found_behind es p q a) ∙ through (is_pane q e.0)
  where
    through : (b : Bool) → cond b (Some e.1) (option_or (acc_at es q) (cond (is_pane p q) (Some a) None)) ≡ option_or (cond b (Some e.1) (acc_at es q)) (cond (is_pane p q) (Some a) None)
    through true = refl
    through false = refl

-- entries that have in each pane what the first part there has
abbrev pub HasFirst : List Part → List (Pane × AccData) → Type 0
HasFirst parts es = (q : Pane) → acc_at es q ≡ acc_at (accs_in parts) q

accs_more : (parts : List Part) (i : ℕ) (p : Part) → i < length parts → p ≡ get_or parts i p → accs_in (take (i + 1) parts) ≡ accs_in (take i parts) ++ (p.pane, p.acc) ∷ []
accs_more parts i p low is =
    ap accs_in (take_more parts i p low ∙ (λ t. take i parts ++ sym is t ∷ []))
    ∙ map-append (λ (x : Part). (x.pane, x.acc)) (take i parts) (p ∷ [])

-- one part more, which counts where its pane has none
pub part_put : (parts : List Part) (i : ℕ) (p : Part) (m n : List (Pane × AccData)) → i < length parts → p ≡ get_or parts i p → HasFirst (take i parts) m
    → ((q : Pane) → acc_at n q ≡ option_or (acc_at m q) (cond (is_pane p.pane q) (Some p.acc) None)) → HasFirst (take (i + 1) parts) n
part_put parts i p m n low is before put q =
    put q ∙ ap (λ o. option_or o (cond (is_pane p.pane q) (Some p.acc) None)) (before q)
    ∙ sym (found_behind (accs_in (take i parts)) p.pane q p.acc)
    ∙ ap (λ l. acc_at l q) (sym (accs_more parts i p low is))

panes_found : (parts : List Part) (q : Pane) → has_pane (panes_in parts) q ≡ is_some (acc_at (accs_in parts) q)
panes_found [] q = refl
panes_found (p ∷ parts) q = (λ i. tied q p.pane i || panes_found parts q i) ∙ by_case (is_pane q p.pane) (acc_at (accs_in parts) q)
  where
    by_case : (b : Bool) (o : Option AccData) → (b || is_some o) ≡ is_some (cond b (Some p.acc) o)
    by_case true o = refl
    by_case false o = refl

-- and the panes of parts are open where something stands
pub opened_of_parts : (opened : List (ℤ × Vec ℤ)) (parts : List Part) (q : Pane) → has_open opened q ≡ has_pane (panes_in parts) q → is_some (acc_at (accs_in parts) q) ≡ true → has_open opened q ≡ true
opened_of_parts opened parts q those there = those ∙ panes_found parts q ∙ there

-- the pane of one part more
pub pane_more : (parts : List Part) (i : ℕ) (p : Part) (q : Pane) → i < length parts → p ≡ get_or parts i p
    → cond (is_pane p.pane q) true (has_pane (panes_in (take i parts)) q) ≡ has_pane (panes_in (take (i + 1) parts)) q
pane_more parts i p q low is =
    behind (panes_in (take i parts))
    ∙ ap (λ l. has_pane l q) (sym (ap panes_in (take_more parts i p low ∙ (λ t. take i parts ++ sym is t ∷ [])) ∙ map-append (λ (x : Part). x.pane) (take i parts) (p ∷ [])))
  where
    one : (b c : Bool) → b ≡ c → cond b true false ≡ (c || false)
    one true c e = ap (λ x. x || false) e
    one false c e = ap (λ x. x || false) e

    later : (a b c : Bool) → cond b true c ≡ cond b true c → cond b true (a || c) ≡ (a || cond b true c)
    later true true c e = refl
    later true false c e = refl
    later false b c e = refl

    behind : (ps : List Pane) → cond (is_pane p.pane q) true (has_pane ps q) ≡ has_pane (ps ++ p.pane ∷ []) q
    behind [] = one (is_pane p.pane q) (is_eq (pane_cmp q p.pane)) (flips p.pane q ∙ sym (tied q p.pane))
    behind (x ∷ ps) = later (is_eq (pane_cmp q x)) (is_pane p.pane q) (has_pane ps q) refl ∙ ap (λ b. is_eq (pane_cmp q x) || b) (behind ps)

-- the parts' windows begin before a number
pub parts_before : (from : ℤ) (parts : List Part) → All (λ p. p.pane.start <ℤ from) parts → (q : Pane) → is_some (acc_at (accs_in parts) q) ≡ true → int_lt q.start from ≡ true
parts_before from [] h q some = absurd cc
parts_before from (p ∷ parts) h q some = by_case (is_pane q p.pane) refl (parts_before from parts (All-tail (λ (x : Part). x.pane.start <ℤ from) p parts h) q)
  where
    by_case : (b : Bool) → is_pane q p.pane ≡ b → (is_some (acc_at (accs_in parts) q) ≡ true → int_lt q.start from ≡ true) → int_lt q.start from ≡ true
    by_case true here rest =
        subst (λ (x : Pane). int_lt x.start from ≡ true) (sym (pane_from_test q p.pane here)) (lt_true p.pane.start from (All-head (λ (x : Part). x.pane.start <ℤ from) p parts h))
    by_case false other rest = rest (ap is_some (sym (ap (λ b. cond b (Some p.acc) (acc_at (accs_in parts) q)) other)) ∙ some)

-- an entry of parts, by the operator's kinds, is the part
pub part_here : (w : WindowSpec) (parts : List Part) (i : ℕ) (e : EntryData) → i < length parts → All (IsPartOf w) parts → slice_get (map entry_of parts) i ≡ Some e
    → part_of (map kind_of w.aggregates) e ≡ get_or parts i (part_of (map kind_of w.aggregates) e)
part_here w parts i e low are is =
    let kinds = map kind_of w.aggregates in
    let d = part_of kinds e in
    let p = get_or parts i d in
    let same : entry_of p ≡ e = one (ap (option_map entry_of) (sym (slice_get-get_or parts i d low)) ∙ sym (slice_get-map entry_of parts i) ∙ is) in
    sym ((λ t. record { pane = p.pane; acc = record { kinds = (are i d low).kinds t; total = p.acc.total } }) ∙ ap (part_of kinds) same)
  where
    one : {x y : EntryData} → Some x ≡ Some y → x ≡ y
    one h = cc
