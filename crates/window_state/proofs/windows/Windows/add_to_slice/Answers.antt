use Rattle.std.proofs.Common.{◌∙◌, ◌-ℤ◌, pos, true, false, [], ◌∷◌, get_or, refl, sym, ap, subst, rules, FitsSigned}
use Rattle.std.specs.Int.{w64, w128}
use Rattle.std.specs.Prelude.{OnOk}
use Rattle.std.specs.List.{All}
use Rattle.plan_model.specs.PlanData.{has_column}
use Rattle.std.specs.Int.RustNames.{int_lt}
use Rattle.plain_data.specs.Record.{Record, at}
use Rattle.plan_model.specs.declared.spec.WindowSpec.{WindowSpec}
use Rattle.window_state.specs.declared.windows.Windows.TheInside.{Inside}
use Rattle.window_state.specs.Open.{has_open}
use Rattle.window_slices.specs.Spans.{AreInSpans}
use Rattle.window_state.specs.State.{OpenWindows, HasRoomFor, TakesInLater}
use Rattle.window_state.specs.StateView.{windows_view}
use Rattle.window_state.proofs.SliceFits.{view_same, slice_there, Brings, AddsOne, brings, stays, small_first, back_fits, size_test, from_test, none_later, none_long, late_found, long_found, slice_found, inside_same, inside_more, added_view, adds_one}
use Rattle.window_state.proofs.windows.Windows.add_to_slice.Goals as goal
use Rattle.window_state.proofs.windows.Windows.add_to_slice.Goals.{then-last-self-via-then-last-self, then-last-self-via-else-last-self+then-w-time}

pub overflow_sub-time : goal.overflow_sub-time
overflow_sub-time c =
    let v = c.args.self.now in
    let r : Record = get_or c.args.batch.now.rows c.args.row [] in
    let fits : FitsSigned w64 c.value-time.result = search rules in
    let window = c.window-w.ensures ∙ ap (λ (x : OpenWindows). x.window) c.self.view_is in
    back_fits (at v.window.time r) c.value-time.result c.args.first fits (c.value-time.ensures ∙ ap (λ (x : WindowSpec). at x.time r) window) c.requires.time
    (small_first v.window r c.args.first c.requires.window.operator.range c.requires.rest)

pub returns-then-last-self-clause-added : goal.returns-then-last-self-clause-added
returns-then-last-self-clause-added c =
    let v = c.args.self.now in
    let r : Record = get_or c.args.batch.now.rows c.args.row [] in
    let range = c.requires.window.operator.range in
    let fits : FitsSigned w64 c.value-time.result = search rules in
    let from : FitsSigned w128 c.self.inside.from = search rules in
    let window = c.window-w.ensures ∙ ap (λ (x : OpenWindows). x.window) c.self.view_is in
    let time = c.value-time.ensures ∙ ap (λ (x : WindowSpec). at x.time r) window in
    let small = small_first v.window r c.args.first range c.requires.rest in
    elim c.then-last-self.branch [
      | then-last-self-via-then-last-self w ↦
          let before = from_test (at v.window.time r) c.value-time.result c.self.inside.from c.args.first true fits time c.requires.time small from w.if-last-self.true in
          stays v r (λ q late. none_later v.window r c.args.first range c.requires.rest v.from q.start (ap (λ (x : OpenWindows). int_lt (at v.window.time r -ℤ pos c.args.first) x.from) (sym c.self.view_is) ∙ before) late)
      | then-last-self-via-else-last-self+then-w-time w ↦
          let long = size_test v.window c.window-w.result.now (at v.window.time r) c.value-time.result c.args.first true window range fits time c.requires.time small w.if-w-time.true in
          stays v r (λ q late. none_long v.window r c.args.first range c.requires.rest q.start long)
    ]

pub add_to_slice-requires-clause-columns_in : goal.add_to_slice-requires-clause-columns_in
add_to_slice-requires-clause-columns_in c =
    subst (λ (x : WindowSpec). All (has_column c.args.batch.now.width) x.aggregates) (sym (c.window-w.ensures ∙ ap (λ (x : OpenWindows). x.window) c.self.view_is)) c.requires.window.columns

pub add_to_slice-requires-clause-kinds : goal.add_to_slice-requires-clause-kinds
add_to_slice-requires-clause-kinds c = subst (λ (x : WindowSpec). AreInSpans x c.self.inside.spans.entries) (sym c.window-w.ensures) c.self.invariant.kinds

pub add_to_slice-requires-clause-room : goal.add_to_slice-requires-clause-room
add_to_slice-requires-clause-room c =
    let s = c.self.inside in
    let r : Record = get_or c.args.batch.now.rows c.args.row [] in
    let v = c.window-w.result.now in
    let fits : FitsSigned w64 c.value-time.result = search rules in
    let key_fits : FitsSigned w64 c.value-key.result = search rules in
    let b = brings s c.args.self.now r c.args.first c.self.invariant c.self.view_is c.requires.window.operator.range c.requires.time c.requires.rest c.requires.room in
    let late = late_found s r c.args.first b v c.value-time.result c.window-w.ensures fits c.value-time.ensures false (search rules) c.if-last-self.false in
    (slice_found s r c.args.first b v c.value-time.result c.window-w.ensures fits c.value-time.ensures c.value-key.result key_fits c.value-key.ensures late).room
    (long_found s r c.args.first b v c.value-time.result c.window-w.ensures fits c.value-time.ensures false c.if-w-time.false)

-- what is before the last step and after it
abbrev after : (c : goal.Then-add_to_slice) → Inside
after c = record c.self.inside { spans = c.add_to_slice.new.spans }

bring : (c : goal.Then-add_to_slice) → Brings c.self.inside (get_or c.args.batch.now.rows c.args.row []) c.args.first
bring c = brings c.self.inside c.args.self.now _ c.args.first c.self.invariant c.self.view_is c.requires.window.operator.range c.requires.time c.requires.rest c.requires.room

adds : (c : goal.Then-add_to_slice) → AddsOne c.self.inside (after c) (get_or c.args.batch.now.rows c.args.row [])
adds c =
    let yes = c.if-add_to_slice.true in
    let s = c.self.inside in
    let r : Record = get_or c.args.batch.now.rows c.args.row [] in
    let w = s.places.window in
    let v = c.window-w.result.now in
    let fits : FitsSigned w64 c.value-time.result = search rules in
    let key_fits : FitsSigned w64 c.value-key.result = search rules in
    let same = c.window-w.ensures in
    let late = late_found s r c.args.first (bring c) v c.value-time.result same fits c.value-time.ensures false (search rules) c.if-last-self.false in
    let found = slice_found s r c.args.first (bring c) v c.value-time.result same fits c.value-time.ensures c.value-key.result key_fits c.value-key.ensures late in
    record {
      places = refl;
      from = refl;
      kinds = subst (λ (x : WindowSpec). AreInSpans x c.add_to_slice.new.spans.entries) same c.add_to_slice.ensures.kinds;
      added = adds_one w v r _ _ s.spans.entries c.add_to_slice.new.spans.entries (bring c).range.slides same found.start found.key (c.add_to_slice.ensures.added yes);
      still = λ q h. h;
      opened = λ q keyed window late.
          slice_there w v (at w.time r) _ _ (at w.key r) (has_open s.opened.entries) s.spans.entries (bring c).range.slides same found.start found.key (sym c.add_to_slice.ensures.there ∙ yes) q keyed window;
    }

pub invariant_of-self : goal.invariant_of-self
invariant_of-self c = inside_more c.self.inside (after c) _ c.args.first (bring c) (adds c)

pub returns-then-add_to_slice-clause-added : goal.returns-then-add_to_slice-clause-added
returns-then-add_to_slice-clause-added c =
    let r : Record = get_or c.args.batch.now.rows c.args.row [] in
    subst (λ (v : OpenWindows). TakesInLater r v (windows_view (after c))) c.self.view_is (added_view c.self.inside (after c) r c.args.first (bring c) (adds c))

pub invariant_of-self-2 : goal.invariant_of-self-2
invariant_of-self-2 c =
    inside_same c.self.inside _ c.self.invariant refl refl (subst (λ (x : WindowSpec). AreInSpans x c.add_to_slice.new.spans.entries) c.window-w.ensures c.add_to_slice.ensures.kinds)
    (c.add_to_slice.ensures.same c.if-add_to_slice.false) (λ q h. h)

pub begin_slice-requires-clause-late : goal.begin_slice-requires-clause-late
begin_slice-requires-clause-late c =
    let s = c.self.inside in
    let r : Record = get_or c.args.batch.now.rows c.args.row [] in
    let fits : FitsSigned w64 c.value-time.result = search rules in
    let b = brings s c.args.self.now r c.args.first c.self.invariant c.self.view_is c.requires.window.operator.range c.requires.time c.requires.rest c.requires.room in
    late_found s r c.args.first b c.window-w.result.now c.value-time.result c.window-w.ensures fits c.value-time.ensures false (search rules) c.if-last-self.false

pub begin_slice-requires-clause-long : goal.begin_slice-requires-clause-long
begin_slice-requires-clause-long c =
    let s = c.self.inside in
    let r : Record = get_or c.args.batch.now.rows c.args.row [] in
    let fits : FitsSigned w64 c.value-time.result = search rules in
    let b = brings s c.args.self.now r c.args.first c.self.invariant c.self.view_is c.requires.window.operator.range c.requires.time c.requires.rest c.requires.room in
    long_found s r c.args.first b c.window-w.result.now c.value-time.result c.window-w.ensures fits c.value-time.ensures false c.if-w-time.false

pub begin_slice-requires-clause-room : goal.begin_slice-requires-clause-room
begin_slice-requires-clause-room c =
    let s = c.self.inside in
    let r : Record = get_or c.args.batch.now.rows c.args.row [] in
    let after : Inside = record s { spans = c.add_to_slice.new.spans } in
    let view = view_same s after refl refl refl (c.add_to_slice.ensures.same c.if-add_to_slice.false) ∙ c.self.view_is in
    subst (λ (v : OpenWindows). HasRoomFor v.window (r ∷ []) v.totals) (sym view) c.requires.room

pub returns-clause-added : goal.returns-clause-added
returns-clause-added c =
    let s = c.self.inside in
    let r : Record = get_or c.args.batch.now.rows c.args.row [] in
    let after : Inside = record s { spans = c.add_to_slice.new.spans } in
    let view = view_same s after refl refl refl (c.add_to_slice.ensures.same c.if-add_to_slice.false) ∙ c.self.view_is in
    subst (λ (v : OpenWindows). OnOk c.begin_slice.result (TakesInLater r v c.begin_slice.new.self)) view c.begin_slice.ensures.added
