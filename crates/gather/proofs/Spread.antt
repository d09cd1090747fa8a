-- What spread gives of a start are parts.
use Rattle.std.proofs.Common.{◌≡◌, ℕ, suc, ◌<◌, ◌≤◌, Bool, true, false, cond, ◌&&◌, List, [], ◌∷◌, ◌++◌, length, map, get_or, refl, sym, ap, subst, ◌∙◌, inl, inr, arith}
use Rattle.std.specs.Prelude.{nat_le}
use Rattle.std.specs.List.{All, filter, flat_map}
use Rattle.std.specs.List.Sorted.{IsStrictlySortedBy}
use Rattle.std.proofs.lemmas.Bool.{cases_eq, leb-true, eqb-true, cases_Bool}
use Rattle.std.proofs.lemmas.List.{append-nil}
use Rattle.std.proofs.lemmas.List.Elements.{All-append, All-map, All-nil}
use Rattle.std.proofs.lemmas.List.Kept.{IsStrictlySortedBy-filter}
use Rattle.std.proofs.lemmas.List.FromFn.{get_or-map-range_with_len, length-map-range_with_len}
use Rattle.byte_fields.proofs.Exact.{both}
use Rattle.key_groups.specs.Groups.{key_group}
use Rattle.key_groups.specs.Laws.{Has}
use Rattle.key_groups.specs.declared.ranges.GroupRange.{GroupRange}
use Rattle.plan_model.specs.declared.spec.Pane.{Pane}
use Rattle.plan_model.specs.declared.limits.TheConstants.{MOST_RECORDS}
use Rattle.plan_model.specs.PlanData.{PlanData}
use Rattle.plan_model.specs.Rows.{pane_cmp}
use Rattle.dataflow_model.specs.declared.role.Role.{Role}
use Rattle.dataflow_model.specs.declared.role.Role.TheVariants as role
use Rattle.layout_rules.specs.Layouts.{partition_counts}
use Rattle.layout_rules.specs.Stages.{source_of, task_stage, task_role, task_count, partitions_of, groups_of}
use Rattle.aggregates.specs.declared.kind.Kind.{Kind}
use Rattle.aggregates.specs.Kinds.{kind_of, is_entry, are_numbers}
use Rattle.window_state.specs.declared.parts.Part.{Part}
use Rattle.savepoint_codec.specs.EntriesData.{EntryData}
use Rattle.savepoint_codec.specs.declared.savepoint.SavedGroup.{SavedGroup}
use Rattle.redistribute.specs.StartData.{StartData}
use Rattle.packed_parts.specs.Packing.{part_of}
use Rattle.redistribute.specs.Parts.{partition_start, start_of_role, is_group_of, parts_in_group, parts_within, with_windows, whole_task_start}
use Rattle.redistribute.specs.declared.task_start.TaskStart.TheVariants.{Chain}
use Rattle.gather.specs.Saved.{is_in_group}
use Rattle.gather.specs.Parts.{panes_in_group, ArePanes, IsPartOf}
use Rattle.gather.specs.Laws.{IsGroupFor, HasGroups, SpreadAreParts}
use Rattle.gather.proofs.Owned.{each_in, none_there, empty, sorted_nil}

part_numbers : (s : StartData) (x : ℕ) (qs : List ℕ) → map (λ b. b.partition) (map (partition_start s x) qs) ≡ qs
part_numbers s x [] = refl
part_numbers s x (q ∷ qs) = ap (λ (ns : List ℕ). q ∷ ns) (part_numbers s x qs)

panes_of_parts : (kinds : List Kind) (es : List EntryData) → map (λ part. part.pane) (map (part_of kinds) es) ≡ map (λ e. e.pane) es
panes_of_parts kinds [] = refl
panes_of_parts kinds (e ∷ es) = ap (λ (qs : List Pane). e.pane ∷ qs) (panes_of_parts kinds es)

-- what holds of each entry of a range holds of its parts
all_parts : (P : Part → Type 0) (p : PlanData) (kinds : List Kind) (range : GroupRange) (gs : List SavedGroup) → All (IsGroupFor p kinds) gs
    → ((g : SavedGroup) (e : EntryData) → is_group_of range g.group ≡ true → kinds ≡ map kind_of p.window.aggregates → is_entry kinds e.total.count e.total.numbers ≡ true → key_group p.max e.pane.key ≡ g.group → P (part_of kinds e))
    → All P (flat_map (parts_in_group kinds range) gs)
all_parts P p kinds range [] h f = All-nil P
all_parts P p kinds range (g ∷ gs) h f =
    All-append P (parts_in_group kinds range g) (flat_map (parts_in_group kinds range) gs) (here (is_group_of range g.group) refl) (all_parts P p kinds range gs (λ k d l. h (suc k) d (omega (arith, l))) f)
  where
    here : (b : Bool) → is_group_of range g.group ≡ b → All P (cond b (map (part_of kinds) g.entries.entries) [])
    here true e = let one = h 0 g (omega arith) in All-map P (part_of kinds) g.entries.entries (λ k d l. f g (get_or g.entries.entries k d) e one.kinds_of (one.entries k d l) (one.keys k d l))
    here false e = All-nil P

-- the panes of a key group in a range
abbrev panes_at : PlanData → List Kind → GroupRange → ℕ → SavedGroup → List Pane
panes_at p kinds range k g = panes_in_group p.max k (parts_in_group kinds range g)

rises : (p : PlanData) (kinds : List Kind) (range : GroupRange) (k : ℕ) (g : SavedGroup) → IsGroupFor p kinds g → IsStrictlySortedBy pane_cmp (panes_at p kinds range k g)
rises p kinds range k g h = here (is_group_of range g.group)
  where
    here : (b : Bool) → IsStrictlySortedBy pane_cmp (panes_in_group p.max k (cond b (map (part_of kinds) g.entries.entries) []))
    here true = subst (λ qs. IsStrictlySortedBy pane_cmp (filter (is_in_group p.max k) qs)) (sym (panes_of_parts kinds g.entries.entries)) (IsStrictlySortedBy-filter pane_cmp (is_in_group p.max k) (map (λ e. e.pane) g.entries.entries) h.ordered)
    here false = sorted_nil

other_group : (p : PlanData) (kinds : List Kind) (range : GroupRange) (k : ℕ) (g : SavedGroup) → IsGroupFor p kinds g → (g.group ≡ k → ⊥) → panes_at p kinds range k g ≡ []
other_group p kinds range k g h ne = here (is_group_of range g.group)
  where
    not_in : (e : EntryData) → key_group p.max e.pane.key ≡ g.group → is_in_group p.max k e.pane ≡ false
    not_in e is = elim (cases_Bool (is_in_group p.max k e.pane)) [ inl same ↦ absurd (ne (sym is ∙ eqb-true (key_group p.max e.pane.key) k same)) | inr other ↦ other ]

    here : (b : Bool) → panes_in_group p.max k (cond b (map (part_of kinds) g.entries.entries) []) ≡ []
    here true = none_there (is_in_group p.max k) (map (part_of kinds) g.entries.entries) (All-map (λ part. is_in_group p.max k part.pane ≡ false) (part_of kinds) g.entries.entries (λ i d l. not_in (get_or g.entries.entries i d) (h.keys i d l)))
    here false = refl

all_rise : (p : PlanData) (kinds : List Kind) (range : GroupRange) (k : ℕ) (gs : List SavedGroup) → All (IsGroupFor p kinds) gs
    → ((i j : ℕ) (d : SavedGroup) → i < length gs → j < length gs → (get_or gs i d).group ≡ (get_or gs j d).group → i ≡ j)
    → IsStrictlySortedBy pane_cmp (flat_map (panes_at p kinds range k) gs)
all_rise p kinds range k [] h once = sorted_nil
all_rise p kinds range k (g ∷ gs) h once =
    let one = h 0 g (omega arith) in
    let more : All (IsGroupFor p kinds) gs = λ i d l. h (suc i) d (omega (arith, l)) in
    elim (cases_eq g.group k) [
      | inl same ↦
          let none = empty (panes_at p kinds range k) gs g (λ i l. other_group p kinds range k (get_or gs i g) (more i g l) (λ e. let z = once 0 (suc i) g (omega arith) (omega (arith, l)) (same ∙ sym e) in omega (arith, z))) in
          subst (IsStrictlySortedBy pane_cmp) (sym (ap (λ qs. panes_at p kinds range k g ++ qs) none ∙ append-nil (panes_at p kinds range k g))) (rises p kinds range k g one)
      | inr other ↦
          subst (IsStrictlySortedBy pane_cmp) (sym (ap (λ qs. qs ++ flat_map (panes_at p kinds range k) gs) (other_group p kinds range k g one other)))
          (all_rise p kinds range k gs more (λ i j d l m e. let z = once (suc i) (suc j) d (omega (arith, l)) (omega (arith, m)) e in omega (arith, z)))
    ]

are_panes : (p : PlanData) (range : GroupRange) (s : StartData) → HasGroups p s → ArePanes p range (parts_within range s)
are_panes p range s h = record {
  ordered = λ k. subst (IsStrictlySortedBy pane_cmp) (sym (each_in p.max k (parts_in_group s.kinds range) s.groups)) (all_rise p s.kinds range k s.groups h.each h.once);
  kinds = all_parts (λ part. part.acc.kinds ≡ map kind_of p.window.aggregates) p s.kinds range s.groups h.each (λ g e b is entry key. is);
  counted = all_parts (λ part. part.acc.total.count ≤ MOST_RECORDS) p s.kinds range s.groups h.each (λ g e b is entry key.
      let counts = both (nat_le 1 e.total.count && nat_le e.total.count MOST_RECORDS) (are_numbers e.total.count s.kinds e.total.numbers) (both _ _ entry).1 in
      leb-true e.total.count MOST_RECORDS (both (nat_le 1 e.total.count) (nat_le e.total.count MOST_RECORDS) counts.0).1);
  owned = all_parts (λ part. Has range (key_group p.max part.pane.key)) p s.kinds range s.groups h.each (λ g e b is entry key.
      let ends = both (nat_le range.first g.group) (nat_le g.group range.last) b in
      subst (Has range) (sym key) (leb-true range.first g.group ends.0, leb-true g.group range.last ends.1));
}

pub spread_are_parts : SpreadAreParts
spread_are_parts p stages s h =
    let f = whole_task_start p.max (partition_counts p) s stages in
    let n = task_count stages in
    record {
      counted = length-map-range_with_len f 0 n;
      each = λ t l. subst (IsPartOf p stages t) (sym (get_or-map-range_with_len f 0 n t t Chain l (omega arith))) (of_role t (task_role stages t) refl);
    }
  where
    of_role : (t : ℕ) (r : Role) → task_role stages t ≡ r → IsPartOf p stages t (with_windows (parts_within (groups_of p.max stages t) s) (start_of_role r (map (partition_start s (source_of (task_stage stages t).operators)) (partitions_of (partition_counts p) stages t))))
    of_role t role.Source e = (e, part_numbers s (source_of (task_stage stages t).operators) (partitions_of (partition_counts p) stages t))
    of_role t role.Chain e = e
    of_role t role.Window e = (e, are_panes p (groups_of p.max stages t) s h)
    of_role t role.Sink e = e
