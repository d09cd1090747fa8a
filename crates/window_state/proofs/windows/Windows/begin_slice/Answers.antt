use Rattle.std.proofs.Common.{◌≡◌, ◌∙◌, ◌-ℤ◌, pos, [], get_or, refl, sym, ap, subst, rules, FitsSigned}
use Rattle.std.specs.Int.{w64, w128, int_rem_euclid}
use Rattle.std.specs.Int.RustNames.{int_lt, int_le}
use Rattle.std.proofs.lemmas.Int.{to_z-of_z}
use Rattle.plain_data.specs.Record.{Record, at}
use Rattle.plan_model.specs.declared.spec.WindowSpec.{WindowSpec}
use Rattle.plan_model.specs.Windows.{IsTime}
use Rattle.window_state.specs.declared.windows.Windows.TheInside.{Inside}
use Rattle.window_state.specs.Open.{has_open}
use Rattle.window_slices.specs.Spans.{AreInSpans}
use Rattle.window_state.specs.State.{OpenWindows, TakesInLater}
use Rattle.window_state.specs.StateView.{windows_view}
use Rattle.window_state.proofs.Openings.{back_fits}
use Rattle.window_state.proofs.Standing.{opened_more}
use Rattle.window_state.proofs.SliceFits.{Brings, AddsOne, brings, slice_found, small_first, whole_late, inside_same, inside_more, added_view, slices_beside, beside, opens_new, adds_one}
use Rattle.window_state.proofs.windows.Windows.begin_slice.Goals as goal

pub invariant_of-self : goal.invariant_of-self
invariant_of-self c = opened_more c.self.inside _ c.self.invariant (record { window = refl; from = refl; slices = refl }) refl c.in_err-open_new.ensures.still

pub overflow_sub-start : goal.overflow_sub-start
overflow_sub-start c =
    let s = c.self.inside in
    let r : Record = get_or c.args.batch.now.rows c.args.row [] in
    let fits : FitsSigned w64 c.value-time.result = search rules in
    let time = c.value-time.ensures ∙ ap (λ (x : WindowSpec). at x.time r) c.window-w.ensures in
    let b = brings s c.args.self.now r c.args.first c.self.invariant c.self.view_is c.requires.window.operator.range c.requires.time c.requires.rest c.requires.room in
    back_fits c.value-time.result c.args.first fits (subst IsTime (sym time) b.time) (small_first s.places.window r c.args.first b.range b.rest)

pub open_new-requires-clause-whole : goal.open_new-requires-clause-whole
open_new-requires-clause-whole c =
    let s = c.self.inside in
    let r : Record = get_or c.args.batch.now.rows c.args.row [] in
    let b = brings s c.args.self.now r c.args.first c.self.invariant c.self.view_is c.requires.window.operator.range c.requires.time c.requires.rest c.requires.room in
    let late = ap (λ (x : OpenWindows). int_lt (at x.window.time r -ℤ pos c.args.first) x.from) c.self.view_is ∙ c.requires.late in
    subst (λ (x : WindowSpec). int_rem_euclid x.size x.slide ≡ pos 0) (sym c.window-w.ensures) (whole_late s r c.args.first b late)

pub add_in_span-requires-clause-kinds : goal.add_in_span-requires-clause-kinds
add_in_span-requires-clause-kinds c = subst (λ (x : WindowSpec). AreInSpans x c.self.inside.spans.entries) (sym c.window-w.ensures) c.self.invariant.kinds

pub add_in_span-requires-clause-room : goal.add_in_span-requires-clause-room
add_in_span-requires-clause-room c =
    let s = c.self.inside in
    let r : Record = get_or c.args.batch.now.rows c.args.row [] in
    let fits : FitsSigned w64 c.value-time.result = search rules in
    let key_fits : FitsSigned w64 c.value-key.result = search rules in
    let b = brings s c.args.self.now r c.args.first c.self.invariant c.self.view_is c.requires.window.operator.range c.requires.time c.requires.rest c.requires.room in
    let late = ap (λ (x : OpenWindows). int_lt (at x.window.time r -ℤ pos c.args.first) x.from) c.self.view_is ∙ c.requires.late in
    (slice_found s r c.args.first b c.window-w.result.now c.value-time.result c.window-w.ensures fits c.value-time.ensures c.value-key.result key_fits c.value-key.ensures late).room
    (ap (λ (x : OpenWindows). int_le x.window.size (pos c.args.first)) c.self.view_is ∙ c.requires.long)

pub invariant_of-self-in_err-add_in_span : goal.invariant_of-self-in_err-add_in_span
invariant_of-self-in_err-add_in_span c =
    inside_same c.self.inside _ c.self.invariant refl refl (subst (λ (x : WindowSpec). AreInSpans x c.add_in_span.new.spans.entries) c.window-w.ensures c.in_err-add_in_span.ensures.kinds) c.in_err-add_in_span.ensures.err
    c.in_ok-open_new.ensures.still

-- what is before the last step and after it
abbrev after : (c : goal.In_ok-add_in_span) → Inside
after c = record c.self.inside { spans = c.add_in_span.new.spans; opened = c.open_new.new.opened }

bring : (c : goal.In_ok-add_in_span) → Brings c.self.inside (get_or c.args.batch.now.rows c.args.row []) c.args.first
bring c = brings c.self.inside c.args.self.now _ c.args.first c.self.invariant c.self.view_is c.requires.window.operator.range c.requires.time c.requires.rest c.requires.room

adds : (c : goal.In_ok-add_in_span) → AddsOne c.self.inside (after c) (get_or c.args.batch.now.rows c.args.row [])
adds c =
    let s = c.self.inside in
    let r : Record = get_or c.args.batch.now.rows c.args.row [] in
    let w = s.places.window in
    let v = c.window-w.result.now in
    let fits : FitsSigned w64 c.value-time.result = search rules in
    let key_fits : FitsSigned w64 c.value-key.result = search rules in
    let from : FitsSigned w128 s.from = search rules in
    let span_fits : FitsSigned w128 c.span_of.result = search rules in
    let same = c.window-w.ensures in
    let time = c.value-time.ensures ∙ ap (λ (x : WindowSpec). at x.time r) same in
    let late = ap (λ (x : OpenWindows). int_lt (at x.window.time r -ℤ pos c.args.first) x.from) c.self.view_is ∙ c.requires.late in
    let found = slice_found s r c.args.first (bring c) v c.value-time.result same fits c.value-time.ensures c.value-key.result key_fits c.value-key.ensures late in
    record {
      places = refl;
      from = refl;
      kinds = subst (λ (x : WindowSpec). AreInSpans x c.add_in_span.new.spans.entries) same c.in_ok-add_in_span.ensures.kinds;
      added = adds_one w v r _ _ s.spans.entries c.add_in_span.new.spans.entries (bring c).range.slides same found.start found.key c.in_ok-add_in_span.ensures.added;
      still = c.in_ok-open_new.ensures.still;
      opened = opens_new w v (at w.time r) _ (at w.key r) _ s.from _ (has_open c.open_new.new.opened.entries) (slices_beside w s.spans.entries (at w.time r)) c.slices_in-slices.result.now same
          (to_z-of_z w64 c.value-time.result fits ∙ time) found.key (to_z-of_z w128 s.from from)
          (beside w v (at w.time r) _ _ _ _ s.spans.entries same found.start (to_z-of_z w128 c.span_of.result span_fits ∙ c.span_of.ensures) c.slices_in-slices.ensures) c.in_ok-open_new.ensures.opened;
    }

pub invariant_of-self-2 : goal.invariant_of-self-2
invariant_of-self-2 c = inside_more c.self.inside (after c) _ c.args.first (bring c) (adds c)

pub returns-clause-added : goal.returns-clause-added
returns-clause-added c =
    let r : Record = get_or c.args.batch.now.rows c.args.row [] in
    subst (λ (v : OpenWindows). TakesInLater r v (windows_view (after c))) c.self.view_is (added_view c.self.inside (after c) r c.args.first (bring c) (adds c))
