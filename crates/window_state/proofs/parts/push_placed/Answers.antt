use Rattle.std.proofs.Common.{◌≡◌, ◌+◌, ◌<◌, ◌++◌, ◌∙◌, true, false, refl, sym, ap, subst, arith, length, get_or, pos, Option, Some, None}
use Rattle.std.specs.List.{All}
use Rattle.std.specs.List.Sorted.{IsStrictlySortedBy}
use Rattle.std.specs.Option.{is_some, option_map}
use Rattle.std.proofs.lemmas.List.{get_or-map, length-map}
use Rattle.plan_model.specs.Rows.{pane_cmp}
use Rattle.aggregates.specs.Kinds.{AccData}
use Rattle.packed_parts.specs.Packing.{PackingData}
use Rattle.window_state.specs.declared.places.Placed.{Placed}
use Rattle.window_state.specs.Parts.{entries_at, parts_in, IsPartOf}
use Rattle.window_state.specs.Placing.{panes_placed, IsPlaceIn}
use Rattle.window_state.specs.Windows.{acc_at, has_pane, total_at}
use Rattle.window_state.proofs.Pushing.{pushed_some, pushed_all}
use Rattle.window_state.proofs.Standing.{some_total}
use Rattle.window_state.proofs.parts.push_placed.Goals as goal

pub loop-it-init : goal.loop-it-init
loop-it-init c =
    let entries = c.args.places.now.entries in
    let panes = panes_placed c.deref-it-items.result.now in
    let same = c.reserve.ensures in record {
      kinds = ap (λ (x : PackingData). x.kinds) same;
      same = ap (λ (x : PackingData). x.parts ++ parts_in c.args.parts.now.kinds (entries_at (total_at entries) panes)) same;
      sound = subst (λ (x : PackingData). All (IsPartOf c.args.places.now.window) x.parts) (sym same) c.requires.sound;
    }

pub push_part-requires-clause-kinds : goal.push_part-requires-clause-kinds
push_part-requires-clause-kinds c = c.loop-it.invariant.kinds ∙ c.requires.kinds

pub push_part-requires-clause-place : goal.push_part-requires-clause-place
push_part-requires-clause-place c =
    subst (All (IsPlaceIn c.args.places.now.entries)) (sym c.deref-it-items.ensures.value) c.in_ok-placed.ensures.places c.loop-it.it-index _ (omega (arith, c.loop-it-test.true, c.loop-it.auto.it-index-end))

-- an accumulator that is there
some_acc : (o : Option AccData) → is_some o ≡ true → (a : AccData) × (o ≡ Some a)
some_acc None h = absurd (let no : false ≡ true = h in cc)
some_acc (Some a) h = (a, refl)

pub loop-it-preserved : goal.loop-it-preserved
loop-it-preserved c =
    let entries = c.args.places.now.entries in
    let w = c.args.places.now.window in
    let items = c.deref-it-items.result.now in
    let i = c.loop-it.it-index in
    let it : Placed = get_or items i (record { pane = record { start = pos 0; key = pos 0 }; place = 0 }) in
    let low : i < length items = omega (arith, c.loop-it-test.true, c.loop-it.auto.it-index-end) in
    let panes = panes_placed items in
    let inside : i < length panes = omega (arith, low, length-map items (λ (x : Placed). x.pane)) in
    let found = some_acc (acc_at entries it.pane) c.push_part.ensures.there in
    pushed_some w c.args.parts.now.kinds (total_at entries) panes c.args.parts.now i it.pane found.0 c.loop-it.parts c.push_part.new.parts inside
    (sym (get_or-map (λ (x : Placed). x.pane) items i _ it.pane low)) (ap (option_map (λ (a : AccData). a.total)) found.1) c.requires.kinds (c.push_part.ensures.sound found.0 found.1)
    (c.in_ok-push_part.ensures.pushed found.0 found.1) c.loop-it.invariant

pub returns-clause-pushed : goal.returns-clause-pushed
returns-clause-pushed c =
    let entries = c.args.places.now.entries in
    let items = c.deref-it-items.result.now in
    let panes = panes_placed items in
    let gives = c.deref-it-items.ensures.value in
    let ordered : IsStrictlySortedBy pane_cmp panes = subst (λ l. IsStrictlySortedBy pane_cmp (panes_placed l)) (sym gives) c.in_ok-placed.ensures.ordered in
    pushed_all c.args.places.now.window c.args.parts.now.kinds (total_at entries) panes c.args.parts.now c.loop-it.it-index c.loop-it.parts
    (omega (arith, c.loop-it-test.false, c.loop-it.auto.it-index-end, length-map items (λ (x : Placed). x.pane))) refl ordered
    (λ q some. ap (λ l. has_pane (panes_placed l) q) gives ∙ c.in_ok-placed.ensures.those q ∙ sym (some_total (acc_at entries q)) ∙ some) c.loop-it.invariant

pub returns-clause-sound : goal.returns-clause-sound
returns-clause-sound c = c.loop-it.invariant.sound
