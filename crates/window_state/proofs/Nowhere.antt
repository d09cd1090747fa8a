-- Where no window is made of slices: nothing begins behind `from`, and no record comes there.
use Rattle.std.proofs.Common.{◌≡◌, ℤ, pos, ◌+ℤ◌, ◌^◌, Bool, true, false, cond, ◌&&◌, List, [], ◌∷◌, refl, sym, ap, ◌∙◌, arith, Option, None, FitsSigned, to_z, of_z}
use Rattle.std.specs.Prelude.{int_le, int_lt}
use Rattle.std.specs.Int.{w128}
use Rattle.std.specs.List.{All}
use Rattle.std.specs.Option.{is_some}
use Rattle.std.specs.Ordering.{int_eq}
use Rattle.std.proofs.lemmas.Int.{ints, to_z-of_z, to_z_pos}
use Rattle.std.proofs.lemmas.List.Elements.{All-head, All-tail}
use Rattle.plain_data.specs.Record.{Record, at}
use Rattle.plan_model.specs.declared.spec.Pane.{Pane}
use Rattle.plan_model.specs.declared.spec.WindowSpec.{WindowSpec}
use Rattle.plan_model.specs.Windows.{IsTime, is_start, is_at}
use Rattle.plan_model.specs.Aggregates.{Aggregated, aggregate_of, merge}
use Rattle.plan_model.specs.Rows.{aggregate_at, records_of}
use Rattle.plan_model.proofs.Facts.{and_false, merge_None}
use Rattle.window_state.specs.declared.windows.Windows.TheInside.{Inside}
use Rattle.window_state.specs.Open.{has_open, AreOpen}
use Rattle.window_state.specs.State.{HasRoom, HasRoomFor, OpenWindows, TakesIn}
use Rattle.window_state.specs.StateView.{standing, windows_view, IsWindowsInside}
use Rattle.window_state.specs.Windows.{acc_at, total_at, IsStart}
use Rattle.window_state.proofs.RecordsPlaced.{none_either}
use Rattle.window_state.proofs.Standing.{get-view, inside_grown, same_sliced, seen_before, some_total, standing_before, standing_later, KeepsSlices}

begins_before : (s : ℤ) → IsStart s → int_lt s (pos (2 ^ 64)) ≡ true
begins_before s is = grind (arith, ints, is.below)

begins_after : (s t : ℤ) → IsTime t → int_lt s (pos (2 ^ 64)) ≡ false → int_le s t ≡ false
begins_after s t time late = grind (arith, ints, time, late)

no_record : (w : WindowSpec) (q : Pane) (r : Record) → IsTime (at w.time r) → int_lt q.start (pos (2 ^ 64)) ≡ false → is_at w q r ≡ false
no_record w q r time late =
    ap (λ b. int_eq (at w.key r) q.key && (b && int_lt (at w.time r) (q.start +ℤ w.size))) (begins_after q.start (at w.time r) time late)
    ∙ and_false (int_eq (at w.key r) q.key)

no_records : (w : WindowSpec) (q : Pane) (rs : List Record) → All (λ r. IsTime (at w.time r)) rs → int_lt q.start (pos (2 ^ 64)) ≡ false → records_of w q rs ≡ []
no_records w q [] times late = refl
no_records w q (r ∷ rs) times late =
    ap (λ b. cond b (r ∷ records_of w q rs) (records_of w q rs)) (no_record w q r (All-head (λ (x : Record). IsTime (at w.time x)) r rs times) late)
    ∙ no_records w q rs (All-tail (λ (x : Record). IsTime (at w.time x)) r rs times) late

nothing_behind : (w : WindowSpec) (q : Pane) (rs : List Record) → All (λ r. IsTime (at w.time r)) rs → int_lt q.start (pos (2 ^ 64)) ≡ false → aggregate_at w rs q ≡ None
nothing_behind w q rs times late = ap (λ l. cond (is_start w q.start) (aggregate_of w.aggregates l) None) (no_records w q rs times late) ∙ none_either (is_start w q.start)

-- `from` as the code holds it
pub from_is : (f : ℤ) → FitsSigned w128 f → of_z w128 f ≡ 2 ^ 64 → f ≡ pos (2 ^ 64)
from_is f fits is = sym (to_z-of_z w128 f fits) ∙ ap (to_z w128) is ∙ to_z_pos w128 (2 ^ 64) (omega arith)

-- before any record
pub none_yet : (w : WindowSpec) (q : Pane) (x : Option Aggregated) → x ≡ merge w.aggregates x (aggregate_at w [] q)
none_yet w q x = sym (merge_None w.aggregates x) ∙ ap (merge w.aggregates x) (sym (none_either (is_start w q.start)))

-- what has a place can take the records where what is seen can
pub room_in_places : (s : Inside) (v : OpenWindows) (rs : List Record) → IsWindowsInside s → windows_view s ≡ v → HasRoomFor v.window rs v.totals
    → HasRoom s.places.window rs (total_at s.places.entries)
room_in_places s v rs is view room q a b has reached =
    let before = is.below q (sym (some_total (acc_at s.places.entries q)) ∙ ap is_some has) in
    room q a b (sym (seen_before s v q is view before) ∙ has) (ap (λ (x : OpenWindows). aggregate_at x.window rs q) (sym view) ∙ reached)

-- more in the places, of windows of times in range
pub inside_placed : (s t : Inside) → IsWindowsInside s → KeepsSlices s t → s.from ≡ pos (2 ^ 64) → AreOpen t.opened.entries (total_at t.places.entries)
    → ((q : Pane) → has_open s.opened.entries q ≡ true → has_open t.opened.entries q ≡ true)
    → ((q : Pane) → is_some (acc_at t.places.entries q) ≡ true → is_some (acc_at s.places.entries q) ≡ false → IsStart q.start) → IsWindowsInside t
inside_placed s t is k from opened still starts = inside_grown s t is k opened still (λ q some. side q (is_some (acc_at s.places.entries q)) refl some)
  where
    side : (q : Pane) (b : Bool) → is_some (acc_at s.places.entries q) ≡ b → is_some (acc_at t.places.entries q) ≡ true → int_lt q.start t.from ≡ true
    side q true was some = ap (int_lt q.start) k.from ∙ is.below q was
    side q false new some = ap (int_lt q.start) (k.from ∙ from) ∙ begins_before q.start (starts q some new)

-- each of the records has come into its windows
pub takes_in : (s t : Inside) (rs : List Record) → IsWindowsInside s → IsWindowsInside t → KeepsSlices s t → s.from ≡ pos (2 ^ 64) → All (λ r. IsTime (at s.places.window.time r)) rs
    → ((q : Pane) → total_at t.places.entries q ≡ merge s.places.window.aggregates (total_at s.places.entries q) (aggregate_at s.places.window rs q))
    → TakesIn rs (windows_view s) (windows_view t)
takes_in s t rs is now k from times added q =
    get-view t now q ∙ side (int_lt q.start s.from) refl ∙ ap (λ o. merge s.places.window.aggregates o (aggregate_at s.places.window rs q)) (sym (get-view s is q))
  where
    side : (b : Bool) → int_lt q.start s.from ≡ b → standing t q ≡ merge s.places.window.aggregates (standing s q) (aggregate_at s.places.window rs q)
    side true before =
        standing_before t q (ap (int_lt q.start) k.from ∙ before) ∙ added q
        ∙ ap (λ o. merge s.places.window.aggregates o (aggregate_at s.places.window rs q)) (sym (standing_before s q before))
    side false later =
        standing_later t q (ap (int_lt q.start) k.from ∙ later) ∙ same_sliced s t k q ∙ sym (standing_later s q later)
        ∙ sym (merge_None s.places.window.aggregates (standing s q))
        ∙ ap (merge s.places.window.aggregates (standing s q)) (sym (nothing_behind s.places.window q rs times (ap (int_lt q.start) (sym from) ∙ later)))
