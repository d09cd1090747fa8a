use Rattle.std.proofs.Common.{◌∙◌, ℤ, List, [], map, refl, sym, subst, slice_index_or}
use Rattle.std.specs.Vec.{with_items}
use Rattle.plan_model.specs.declared.spec.Aggregate.{Aggregate}
use Rattle.plan_model.specs.declared.spec.Pane.{Pane}
use Rattle.aggregates.specs.Kinds.{kind_of}
use Rattle.place_words.specs.PlacedRows.{AreFew, IsPlaceOf}
use Rattle.window_state.specs.declared.places.Places.TheInside.{Inside}
use Rattle.window_state.specs.Placing.{last_pane}
use Rattle.window_state.proofs.RecordsMore.{is_place}
use Rattle.window_state.proofs.RecordsPlaced.{added_together, adds_of, its_room, kept, panes_stay}
use Rattle.window_state.proofs.places.Places.add_rows.Goals as goal

pub add_rows-requires-clause-places : goal.add_rows-requires-clause-places
add_rows-requires-clause-places c = λ k d low.
    let s = c.self.inside in
    let r = slice_index_or c.args.rows.now k d in
    let q : Pane = last_pane c.args.self.now.window (slice_index_or c.args.batch.now.rows r.row []) in
    subst (λ (l : List ℤ). IsPlaceOf (map kind_of c.as_slice-aggregates.result.now) l r.at) (sym c.as_mut_slice.ensures.value)
    (subst (λ (l : List Aggregate). IsPlaceOf (map kind_of l) s.words.items r.at) (sym c.as_slice-aggregates.ensures)
    (is_place s c.args.self.now c.self.invariant c.self.view_is q r.at (c.requires.places k d low)))

pub add_rows-requires-clause-few : goal.add_rows-requires-clause-few
add_rows-requires-clause-few c = λ k d low.
    let r = slice_index_or c.args.rows.now k d in
    let q : Pane = last_pane c.args.self.now.window (slice_index_or c.args.batch.now.rows r.row []) in
    subst (λ (l : List ℤ). AreFew l c.args.rows.now r.at) (sym c.as_mut_slice.ensures.value)
    (its_room c.self.inside c.args.self.now c.self.invariant c.self.view_is c.args.batch.now.rows c.args.rows.now
    c.requires.one c.requires.places c.requires.room q r.at (c.requires.places k d low))

pub invariant_of-self : goal.invariant_of-self
invariant_of-self c =
    let s = c.self.inside in
    let rs = c.args.batch.now.rows in
    let rows = c.args.rows.now in
    let new = c.add_rows.new.words in
    let adds = adds_of s rs rows c.as_slice-aggregates.result.now c.as_mut_slice.result.now new c.as_slice-aggregates.ensures c.as_mut_slice.ensures.value
    (record { len = c.add_rows.ensures.len; sound = c.add_rows.ensures.sound; added = c.add_rows.ensures.added }) in
    kept s c.args.self.now c.self.invariant c.self.view_is rs rows c.requires.one c.requires.places c.requires.room new adds (c.add_rows.ensures.len ∙ c.as_mut_slice.ensures.len)

pub returns-clause-panes : goal.returns-clause-panes
returns-clause-panes c = λ q.
    let s = c.self.inside in
    let after : Inside = record { window = s.window; stride = s.stride; panes = s.panes; words = with_items s.words c.add_rows.new.words } in
    panes_stay s after c.args.self.now q c.self.view_is refl

pub returns-clause-added : goal.returns-clause-added
returns-clause-added c =
    let s = c.self.inside in
    let rs = c.args.batch.now.rows in
    let rows = c.args.rows.now in
    let new = c.add_rows.new.words in
    let adds = adds_of s rs rows c.as_slice-aggregates.result.now c.as_mut_slice.result.now new c.as_slice-aggregates.ensures c.as_mut_slice.ensures.value
    (record { len = c.add_rows.ensures.len; sound = c.add_rows.ensures.sound; added = c.add_rows.ensures.added }) in
    added_together s c.args.self.now c.self.invariant c.self.view_is rs rows c.requires.one c.requires.places c.requires.room new adds (c.add_rows.ensures.len ∙ c.as_mut_slice.ensures.len)
