use Rattle.std.proofs.Common.{ℤ, rules, sym, ap, subst, ◌∙◌, FitsSigned, to_z, of_z}
use Rattle.std.specs.Prelude.{◌<ℤ◌}
use Rattle.std.specs.FinMap.{from_entries}
use Rattle.std.specs.Int.{w128}
use Rattle.std.specs.List.{All}
use Rattle.std.specs.Option.{is_some, option_map}
use Rattle.std.proofs.lemmas.Int.{to_z-of_z}
use Rattle.aggregates.specs.Kinds.{AccData}
use Rattle.plan_model.specs.declared.spec.WindowSpec.{WindowSpec}
use Rattle.packed_parts.specs.declared.part.Part.{Part}
use Rattle.window_state.specs.Windows.{AreWhole, IsOperator, acc_at}
use Rattle.window_state.specs.Parts.{accs_in, entries_of}
use Rattle.window_state.specs.StateView.{IsWindowsInside, windows_view}
use Rattle.window_state.specs.declared.windows.Windows.TheInside.{Inside}
use Rattle.window_state.proofs.Entries.{same_map_of, get-entries}
use Rattle.window_state.proofs.PartMaps.{opened_of_parts, parts_before, first_total}
use Rattle.window_state.proofs.Standing.{inside_first, view_first}
use Rattle.window_state.proofs.windows.Windows.from_parts.Goals as goal

abbrev inside : (c : goal.After-new) → (s : Inside) × (IsWindowsInside s)
inside c =
    let from : ℤ = to_z w128 (of_z w128 c.first_from-from.result) in
    let s : Inside = record { alloc = c.args.alloc; keys = c.args.keys; from = from; places = c.in_ok-places.places; spans = c.new.result; opened = c.in_ok-opened.opened } in
    let fits : FitsSigned w128 c.first_from-from.result = search rules in
    let parts = c.args.parts.now in
    let before : All (λ (p : Part). p.pane.start <ℤ from) parts = subst (λ (f : ℤ). All (λ (p : Part). p.pane.start <ℤ f) parts) (sym (to_z-of_z w128 c.first_from-from.result fits)) c.first_from-from.ensures.parts in
    let whole : AreWhole s.places.window from = subst (λ (w : WindowSpec). AreWhole w from) (sym c.in_ok-places.ensures.window) (subst (AreWhole c.args.window) (sym (to_z-of_z w128 c.first_from-from.result fits)) c.first_from-from.ensures.whole) in (
      s,
      inside_first s (subst IsOperator (sym c.in_ok-places.ensures.window) c.requires.operator) whole c.new.ensures.empty
          (λ q some. parts_before from parts before q (ap is_some (sym (c.in_ok-places.ensures.first q)) ∙ some))
          (λ q some. opened_of_parts c.in_ok-opened.opened.entries parts q (c.in_ok-opened.ensures q) (ap is_some (sym (c.in_ok-places.ensures.first q)) ∙ some)),
    )

pub invariant_of-result : goal.invariant_of-result
invariant_of-result c = (inside c).1

pub returns-clause-parts : goal.returns-clause-parts
returns-clause-parts c =
    let parts = c.args.parts.now in
    let i = inside c in
    same_map_of (windows_view i.0).totals (from_entries (entries_of parts)) (λ q.
    view_first i.0 (λ x. option_map (λ (a : AccData). a.total) (acc_at (accs_in parts) x)) i.1 c.new.ensures.empty (λ x. ap (option_map (λ (a : AccData). a.total)) (c.in_ok-places.ensures.first x)) q
    ∙ sym (first_total parts q) ∙ sym (get-entries (entries_of parts) q))
